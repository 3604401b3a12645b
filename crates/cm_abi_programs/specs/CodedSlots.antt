-- The puts of core values that the code's are.
use Rattle.std.specs.Prelude.{List, [], ◌∷◌, map}
use Rattle.std.specs.declared.alloc.Global.{Global}
use Rattle.std.specs.declared.sync.Arc.{Arc}
use Rattle.std.specs.declared.vec.Vec.{Vec}
use Rattle.cm_abi_programs.specs.CodedPuts.{puts_in}
use Rattle.cm_abi_programs.specs.SlotPuts.{SlotPut, SlotPuts, CaseSlotPuts, no_slots, slot}
use Rattle.cm_abi_programs.specs.SlotPuts.{no_cases, case, leaf_slot, text_slot, list_slot}
use Rattle.cm_abi_programs.specs.SlotPuts.{each_slot, cases_slot, handle_slot, part_slot}
use Rattle.cm_abi_programs.specs.declared.slots.SlotPut.{SlotPut as CodedSlot}
use Rattle.cm_abi_programs.specs.declared.slots.SlotPut.TheOpen as coded
use Rattle.cm_abi_programs.specs.declared.slots.SlotPut.TheFolds.{fold-SlotPut, fold-CaseSlotPuts}
use Rattle.cm_abi_programs.specs.declared.slots.CaseSlotPuts.{CaseSlotPuts as CodedCase}

-- puts from a list
abbrev pub slots_from : List SlotPut → SlotPuts
slots_from [] = no_slots
slots_from (c ∷ cs) = slot c (slots_from cs)

-- the puts of what each case carries, from a list
abbrev pub case_slots_from : List SlotPuts → CaseSlotPuts
case_slots_from [] = no_cases
case_slots_from (cs ∷ rest) = case cs (case_slots_from rest)

-- a put, and what a case has, given the puts in it
abbrev pub slot_step : coded.SlotPut-F SlotPut SlotPuts → SlotPut
slot_step (coded.Leaf at l) = leaf_slot at l
slot_step (coded.Text at) = text_slot at
slot_step (coded.List at d cs) = list_slot at d (puts_in cs.value.items)
slot_step (coded.Each at d n cs) = each_slot at d n (slots_from cs.value.items)
slot_step (coded.Cases at cs) = cases_slot at (case_slots_from cs.value.items)
slot_step (coded.Handle at) = handle_slot at
slot_step (coded.Part at cs) = part_slot at (slots_from cs.value.items)

abbrev pub case_step : coded.CaseSlotPuts-F SlotPut SlotPuts → SlotPuts
case_step c = slots_from c.puts.value.items

-- the put that a put of the code is, and the puts of a case
abbrev pub slot_of : CodedSlot → SlotPut
slot_of = fold-SlotPut SlotPut SlotPuts slot_step case_step

abbrev pub case_of : CodedCase → SlotPuts
case_of = fold-CaseSlotPuts SlotPut SlotPuts slot_step case_step

-- and the puts that those of a list are
abbrev pub slots_in : List CodedSlot → SlotPuts
slots_in cs = slots_from (map slot_of cs)

-- those of each list
abbrev pub slot_lists : List (Arc (Vec CodedSlot Global) Global) → List SlotPuts
slot_lists cs = map (λ c. slots_in c.value.items) cs
