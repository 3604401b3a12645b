use Rattle.std.proofs.Common.{◌≡◌, ◌++◌, drop, map}
use Rattle.cm_abi_programs.specs.CodedSlots.{case_of, slot_lists}
use Rattle.cm_abi_programs.proofs.listed_slots.case_slots.Given as goal

-- with those of the cases to come, these are all
abbrev pub invariant-loop-case : goal.invariant-loop-case
invariant-loop-case l = map case_of l.all.items ++ slot_lists (drop l.case-index l.cases) ≡ slot_lists l.cases
