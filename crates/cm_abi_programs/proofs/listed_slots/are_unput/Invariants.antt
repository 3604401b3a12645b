use Rattle.std.proofs.Common.{◌≡◌, drop}
use Rattle.cm_abi_programs.specs.SlotPuts.{are_unput}
use Rattle.cm_abi_programs.specs.CodedSlots.{case_slots_from, slot_lists}
use Rattle.cm_abi_programs.proofs.listed_slots.are_unput.Given as goal

-- whether there is nothing in any case is whether there is nothing in those to come
abbrev pub invariant-loop-puts : goal.invariant-loop-puts
invariant-loop-puts l = are_unput (case_slots_from (slot_lists l.cases)) ≡ are_unput (case_slots_from (slot_lists (drop l.puts-index l.cases)))
