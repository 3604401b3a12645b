-- What put of core values each form of the code's is.
use Rattle.std.proofs.Common.{◌≡◌, ℕ, map, Vec, Global, rules}
use Rattle.std.specs.declared.sync.Arc.{Arc}
use Rattle.cm_layout.specs.declared.layouts.Leaf.{Leaf}
use Rattle.cm_abi_programs.specs.CodedPuts.{puts_in}
use Rattle.cm_abi_programs.specs.SlotPuts.{leaf_slot, text_slot, list_slot, each_slot, cases_slot, handle_slot, part_slot}
use Rattle.cm_abi_programs.specs.CodedSlots.{case_of, case_slots_from, slot_of, slots_in}
use Rattle.cm_abi_programs.specs.declared.puts.Put.{Put as CodedPut}
use Rattle.cm_abi_programs.specs.declared.slots.CaseSlotPuts.{CaseSlotPuts as CodedCase, out-CaseSlotPuts}
use Rattle.cm_abi_programs.specs.declared.slots.SlotPut.{SlotPut as CodedSlot, the_lemmas}
use Rattle.cm_abi_programs.specs.declared.slots.SlotPut.TheViews as view
use Rattle.cm_abi_programs.specs.declared.slots.SlotPut.TheVariants as variant

pub seen_Leaf : (at : ℕ) (k : Leaf) → slot_of (variant.Leaf at k) ≡ leaf_slot at k
seen_Leaf at k = search (rules, the_lemmas)

pub seen_Text : (at : ℕ) → slot_of (variant.Text at) ≡ text_slot at
seen_Text at = search (rules, the_lemmas)

pub seen_List : (at d : ℕ) (cs : Arc (Vec CodedPut Global) Global) → slot_of (variant.List at d cs) ≡ list_slot at d (puts_in cs.value.items)
seen_List at d cs = search (rules, the_lemmas)

pub seen_Each : (at d n : ℕ) (cs : Arc (Vec CodedSlot Global) Global) → slot_of (view.Each at d n cs) ≡ each_slot at d n (slots_in cs.value.items)
seen_Each at d n cs = search (rules, the_lemmas)

pub seen_Cases : (at : ℕ) (cs : Arc (Vec CodedCase Global) Global) → slot_of (view.Cases at cs) ≡ cases_slot at (case_slots_from (map case_of cs.value.items))
seen_Cases at cs = search (rules, the_lemmas)

-- what a case has, made and taken apart
pub seen_case : (cs : Arc (Vec CodedSlot Global) Global) → case_of (view.roll-CaseSlotPuts (record { puts = cs })) ≡ slots_in cs.value.items
seen_case cs = search (rules, the_lemmas)

pub case_is : (c : CodedCase) → case_of c ≡ slots_in (out-CaseSlotPuts c).puts.value.items
case_is c = search (rules, the_lemmas)

pub seen_Handle : (at : ℕ) → slot_of (variant.Handle at) ≡ handle_slot at
seen_Handle at = search (rules, the_lemmas)

pub seen_Part : (at : ℕ) (cs : Arc (Vec CodedSlot Global) Global) → slot_of (view.Part at cs) ≡ part_slot at (slots_in cs.value.items)
seen_Part at cs = search (rules, the_lemmas)
