use Rattle.std.proofs.Common.{◌≡◌, length, refl, subst}
use Rattle.cm_host_values.specs.Standing.{BeginsWith}
use Rattle.cm_host_values.proofs.LoweringLaws.{denoted_there, written_back}
use Rattle.cm_host_values.proofs.lowering.lower_at.Goals as goal

pub returns-in-Ok-clause-denoted : goal.returns-in-Ok-clause-denoted
returns-in-Ok-clause-denoted c = λ types can target none w begins.
    let kept = c.lower.auto.memory in
    let long = c.deref_mut.ensures.len in
    let as_long : length c.lower.new.memory ≡ c.in_ok-memory.memory.len = cc in
    let back = written_back c.lower.new.memory c.in_ok-memory.memory.items c.in_ok-memory.memory.len as_long in
    denoted_there c.args.passing.now types _ c.args.answers.now _ c.lower.new.memory _ _ c.in-Ok.slots.items w
    c.what_is_received_stays.ensures c.what_is_received_is_denoted.ensures c.what_is_stored_lies_in_regions.ensures c.cases_fit.ensures refl refl c.new-table.ensures.empty can target none
    (c.in-Ok.ensures.lowered types can) (subst (BeginsWith w) back begins)
