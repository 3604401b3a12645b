use Rattle.std.proofs.Common.{◌≡◌, ◌+◌, ◌*◌, ◌-◌, drop}
use Rattle.cm_abi_load.specs.Outcomes.{state_of}
use Rattle.cm_abi_load.specs.Reading.{source_of}
use Rattle.cm_abi_programs.specs.Coded.{checks_in}
use Rattle.cm_abi_running.specs.Checking.{all_checked, checked_each, in_memory}
use Rattle.cm_abi_running.proofs.LookingLemmas.{SoFar}
use Rattle.cm_abi_running.proofs.looking.+looking.Given as goal

-- what was looked at so far, and what is still to be, are all of it
abbrev pub invariant-look_at-loop-check : goal.invariant-look_at-loop-check
invariant-look_at-loop-check l =
    SoFar (all_checked (source_of l.reader.giver) l.reader.maker.target (in_memory l.reader.giver.memory.now) (checks_in l.checks) l.at (state_of l.initial.progress))
    (all_checked (source_of l.reader.giver) l.reader.maker.target (in_memory l.reader.giver.memory.now) (checks_in (drop l.check-index l.checks)) l.at (state_of l.progress))
    l.initial.records.items l.records.items (state_of l.initial.progress) (state_of l.progress)

abbrev pub invariant-look_at_each-loop : goal.invariant-look_at_each-loop
invariant-look_at_each-loop l =
    (l.next ≡ l.at + l.counter * l.distance)
    × SoFar (checked_each (all_checked (source_of l.reader.giver) l.reader.maker.target (in_memory l.reader.giver.memory.now) (checks_in l.checks)) l.distance l.count l.at (state_of l.initial.progress))
    (checked_each (all_checked (source_of l.reader.giver) l.reader.maker.target (in_memory l.reader.giver.memory.now) (checks_in l.checks)) l.distance (l.count - l.counter) l.next (state_of l.progress))
    l.initial.records.items l.records.items (state_of l.initial.progress) (state_of l.progress)
