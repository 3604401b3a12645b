use Rattle.std.proofs.Common.{◌≡◌, ◌∙◌, ap, sym, map, true, false}
use Rattle.cm_abi_programs.specs.SlotPuts.{are_unput, cases_slot, one_slot}
use Rattle.cm_abi_programs.specs.CodedSlots.{case_of, case_slots_from, slot_lists, slots_in}
use Rattle.cm_abi_programs.proofs.SlotForms.{seen_Cases}
use Rattle.cm_abi_programs.proofs.SlotMakingLemmas.{cases_none, cases_some}
use Rattle.cm_abi_programs.proofs.ShapeLemmas.{becomes}
use Rattle.cm_abi_programs.proofs.listed_slots.cases_slots.Goals as goal

pub returns-then-are_unput : goal.returns-then-are_unput
returns-then-are_unput c =
    let none : are_unput (case_slots_from (slot_lists c.args.cases.items)) ≡ true =
    sym (c.are_unput.ensures ∙ ap (λ xs. are_unput (case_slots_from (slot_lists xs))) c.deref.ensures.value) ∙ c.if-are_unput.true in
    becomes slots_in c.leaf_slots.result _ _ (sym (cases_none (case_slots_from (slot_lists c.args.cases.items)) none)) c.leaf_slots.ensures

pub returns : goal.returns
returns c =
    let some : are_unput (case_slots_from (slot_lists c.args.cases.items)) ≡ false =
    sym (c.are_unput.ensures ∙ ap (λ xs. are_unput (case_slots_from (slot_lists xs))) c.deref.ensures.value) ∙ c.if-are_unput.false in
    let same : map case_of c.in_ok-cases.cases.value.items ≡ slot_lists c.args.cases.items =
    ap (λ v. map case_of v.items) c.in_ok-cases.ensures.ok ∙ (c.in_ok-case_slots.ensures ∙ ap slot_lists c.deref-2.ensures.value) in
    becomes slots_in c.one_slot.result _ _
    (ap one_slot (seen_Cases 0 c.in_ok-cases.cases)
    ∙ (ap (λ cs. one_slot (cases_slot 0 (case_slots_from cs))) same ∙ sym (cases_some (case_slots_from (slot_lists c.args.cases.items)) some))) c.one_slot.ensures
