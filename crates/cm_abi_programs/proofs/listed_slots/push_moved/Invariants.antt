use Rattle.std.proofs.Common.{◌≡◌, drop}
use Rattle.cm_abi_programs.specs.SlotPuts.{both_slots, moved_slots}
use Rattle.cm_abi_programs.specs.CodedSlots.{slots_in}
use Rattle.cm_abi_programs.proofs.listed_slots.push_moved.Given as goal

-- with the puts to come, these are all
abbrev pub invariant-loop-put : goal.invariant-loop-put
invariant-loop-put l =
    both_slots (slots_in l.all.items) (moved_slots l.by (slots_in (drop l.put-index l.puts)))
    ≡ both_slots (slots_in l.initial.all.items) (moved_slots l.by (slots_in l.puts))
