use Rattle.std.proofs.Common.{rules, ◌≡◌, ◌∙◌}
use Rattle.cm_abi_programs.proofs.SlotMakingLemmas.{case_end, case_next}
use Rattle.cm_abi_programs.proofs.listed_slots.case_slots.Goals as goal

pub loop-case-preserved : goal.loop-case-preserved
loop-case-preserved c =
    let copy : c.in_ok-puts.puts.value ≡ c.case-item.result.value = search rules in
    case_next c.args.cases.now c.loop-case.case-index c.case-item.result c.in_ok-puts.puts c.loop-case.all.items c.push.new.self.items c.loop-case-test.true c.case-item.is copy c.in_ok-push.ensures.items
    ∙ c.loop-case.invariant

pub returns : goal.returns
returns c = case_end c.args.cases.now c.loop-case.case-index c.loop-case.all.items c.loop-case-test.false ∙ c.loop-case.invariant
