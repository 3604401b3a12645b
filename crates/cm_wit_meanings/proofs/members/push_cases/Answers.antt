use Rattle.std.proofs.Common.{arith, refl, rules}
use Rattle.cm_wit_meanings.proofs.PartsAddedLaws.{answers_so}
use Rattle.cm_wit_meanings.proofs.MemberLaws.{case_lost, case_next, case_stops, cases_added, cases_none, cases_placed}
use Rattle.cm_wit_meanings.proofs.members.push_cases.Goals as goal

pub loop-text-init : goal.loop-text-init
loop-text-init c = cases_none c.args.scope.now c.args.texts.now c.args.types.now c.in_ok-cases.cases.items (search rules)

pub push_case-requires : goal.push_case-requires
push_case-requires c = record { placed = cases_placed c.args.scope.now c.args.texts.now c.args.types.now c.loop-text.types c.requires.placed c.loop-text.text-index c.loop-text.cases.items c.loop-text.invariant }

pub returns-in_err-case : goal.returns-in_err-case
returns-in_err-case c =
    answers_so (search rules) (case_stops c.args.scope.now c.args.texts.now c.args.types.now c.loop-text.types c.requires.placed c.loop-text.text-index c.loop-text.cases.items c.loop-text.invariant c.push_case.new.types c.text-item.result (omega arith) c.text-item.is _ c.in_err-case.ensures)

pub returns-then-is_err : goal.returns-then-is_err
returns-then-is_err c = case_lost c.args.scope.now c.args.texts.now c.args.types.now c.loop-text.types c.requires.placed c.loop-text.text-index c.loop-text.cases.items c.loop-text.invariant c.push_case.new.types c.text-item.result (omega arith) c.text-item.is _ c.in_ok-case.ensures

pub loop-text-preserved : goal.loop-text-preserved
loop-text-preserved c =
    case_next c.args.scope.now c.args.texts.now c.args.types.now c.loop-text.types c.requires.placed c.loop-text.text-index c.loop-text.cases.items c.loop-text.invariant c.push_case.new.types c.text-item.result (omega arith) c.text-item.is _ c.push.new.self.items c.in_ok-case.ensures (search rules)

pub returns : goal.returns
returns c = cases_added c.args.scope.now c.args.texts.now c.args.types.now c.loop-text.types c.requires.placed c.loop-text.text-index c.loop-text.cases.items c.loop-text.invariant c.loop-text.cases refl (omega arith)
