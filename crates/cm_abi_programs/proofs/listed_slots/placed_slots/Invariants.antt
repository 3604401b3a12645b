use Rattle.std.proofs.Common.{◌≡◌, drop}
use Rattle.cm_abi_programs.specs.SlotPuts.{both_slots}
use Rattle.cm_abi_programs.specs.CodedSlots.{slot_lists, slots_in}
use Rattle.cm_abi_programs.specs.PlacedFields.{slots_placed}
use Rattle.cm_abi_programs.proofs.listed_slots.placed_slots.Given as goal

-- with those of the fields to come, these are all
abbrev pub invariant-loop-index : goal.invariant-loop-index
invariant-loop-index l =
    both_slots (slots_in l.all.items) (slots_placed (drop l.index l.offsets) (slot_lists (drop l.index l.lists))) ≡ slots_placed l.offsets (slot_lists l.lists)
