use Rattle.std.proofs.Common.{◌≡◌, ◌+◌, ◌*◌, ◌-◌}
use Rattle.cm_abi_load.specs.Outcomes.{state_of}
use Rattle.cm_abi_load.specs.Reading.{source_of}
use Rattle.cm_abi_programs.specs.Checks.{one_check, text_check}
use Rattle.cm_abi_running.specs.Checking.{all_checked, checked_each, in_memory}
use Rattle.cm_abi_running.proofs.LookingLemmas.{SoFar}
use Rattle.cm_abi_running.proofs.looking.look_at_texts.Given as goal

abbrev pub invariant-loop : goal.invariant-loop
invariant-loop l =
    (l.next ≡ l.at + l.counter * l.distance)
    × SoFar (checked_each (all_checked (source_of l.reader.giver) l.reader.maker.target (in_memory l.reader.giver.memory.now) (one_check (text_check l.behind))) l.distance l.count l.at (state_of l.initial.progress))
    (checked_each (all_checked (source_of l.reader.giver) l.reader.maker.target (in_memory l.reader.giver.memory.now) (one_check (text_check l.behind))) l.distance (l.count - l.counter) l.next (state_of l.progress))
    l.initial.records.items l.records.items (state_of l.initial.progress) (state_of l.progress)
