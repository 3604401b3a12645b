use Rattle.std.proofs.Common.{◌≡◌, ◌∙◌, ap, sym, refl}
use Rattle.cm_abi_programs.specs.Puts.{puts_of}
use Rattle.cm_abi_programs.specs.CodedPuts.{puts_in}
use Rattle.cm_abi_programs.specs.SlotPuts.{cases_slots, each_slot, flat_puts_of, list_slot, one_slot}
use Rattle.cm_abi_programs.specs.CodedSlots.{case_slots_from, slots_in}
use Rattle.cm_abi_programs.proofs.SlotForms.{seen_Handle, seen_Text}
use Rattle.cm_abi_programs.specs.Held.{is_list, slot_offsets}
use Rattle.cm_abi_programs.specs.PlacedFields.{slots_placed}
use Rattle.cm_abi_programs.proofs.FormLemmas.{cases_is, enum_is, fields_is, fixed_list_is, handle_is, leaf_is, string_is}
use Rattle.cm_abi_programs.proofs.SlotMakingLemmas.{cases_carried, enum_slots, fields_placed}
use Rattle.cm_abi_programs.proofs.ShapeLemmas.{as_many_slots, cases_made, fields_many, fields_made, fixed_one, list_made, list_one, row_made, becomes}
use Rattle.cm_abi_programs.proofs.listed_slots.flat_puts.Goals as goal

pub only_list-requires : goal.only_list-requires
only_list-requires c = list_one puts_in puts_of c.args.layout.now c.args.stored.now c.requires.stored c.in-List.element c.in-List.is

pub only_list-requires-in-FixedList : goal.only_list-requires-in-FixedList
only_list-requires-in-FixedList c = fixed_one slots_in flat_puts_of c.args.layout.now c.args.held.now (c.requires.held (ap is_list (fixed_list_is c.args.layout.now c.in-FixedList.element c.in-FixedList.length c.in-FixedList.is))) c.in-FixedList.element c.in-FixedList.length c.in-FixedList.is

pub placed_slots-requires : goal.placed_slots-requires
placed_slots-requires c =
    let parts_are : c.deref-in-Fields-2.result.now ≡ c.in-Fields.parts.value.items = c.deref-in-Fields-2.ensures.value ∙ ap (λ v. v.items) c.deref-in-Fields.ensures in
    fields_many slots_in flat_puts_of c.args.layout.now c.args.held.now (c.requires.held (ap is_list (fields_is c.args.layout.now c.in-Fields.parts c.in-Fields.is))) (λ qs. slot_offsets qs 0) (as_many_slots 0) c.in-Fields.parts c.deref-in-Fields-2.result.now c.deref-in-Fields-3.result.now c.in-Fields.is parts_are (c.deref-in-Fields-3.ensures.value ∙ c.in_ok-slot_offsets-in-Fields.ensures)

pub returns-in-Leaf : goal.returns-in-Leaf
returns-in-Leaf c = becomes slots_in c.leaf_slots.result _ _ (ap flat_puts_of (sym (leaf_is c.args.layout.now c.in-Leaf.leaf c.in-Leaf.is))) c.leaf_slots.ensures

pub returns-in-String : goal.returns-in-String
returns-in-String c = becomes slots_in c.one_slot.result _ _ (ap one_slot (seen_Text 0) ∙ ap flat_puts_of (sym (string_is c.args.layout.now c.in-String.is))) c.one_slot.ensures

pub returns-in_ok-only_list-in-List : goal.returns-in_ok-only_list-in-List
returns-in_ok-only_list-in-List c =
    becomes slots_in c.list_slots.result _ _
    (list_made puts_in puts_of c.args.layout.now c.args.stored.now c.requires.stored flat_puts_of (λ h x. one_slot (list_slot 0 h.size x)) (λ h x. refl) c.in-List.element c.deref.result.now c.in_ok-only_list-in-List.field-0 c.in-List.is c.deref.ensures c.in_ok-only_list-in-List.ensures) c.list_slots.ensures

pub returns-in_ok-only_list-in-FixedList : goal.returns-in_ok-only_list-in-FixedList
returns-in_ok-only_list-in-FixedList c =
    becomes slots_in c.row_slots.result _ _
    (row_made slots_in flat_puts_of c.args.layout.now c.args.held.now (c.requires.held (ap is_list (fixed_list_is c.args.layout.now c.in-FixedList.element c.in-FixedList.length c.in-FixedList.is))) flat_puts_of (λ h n x. one_slot (each_slot 0 h.width n x)) (λ h n x. refl) c.in-FixedList.element c.in-FixedList.length c.deref-in-FixedList.result.now c.in_ok-only_list-in-FixedList.field-0 c.in-FixedList.is c.deref-in-FixedList.ensures c.in_ok-only_list-in-FixedList.ensures) c.row_slots.ensures

pub returns-in_ok-slot_offsets-in-Fields : goal.returns-in_ok-slot_offsets-in-Fields
returns-in_ok-slot_offsets-in-Fields c =
    let parts_are : c.deref-in-Fields-2.result.now ≡ c.in-Fields.parts.value.items = c.deref-in-Fields-2.ensures.value ∙ ap (λ v. v.items) c.deref-in-Fields.ensures in
    becomes slots_in c.placed_slots.result _ _
    (fields_made slots_in flat_puts_of c.args.layout.now c.args.held.now (c.requires.held (ap is_list (fields_is c.args.layout.now c.in-Fields.parts c.in-Fields.is))) flat_puts_of slots_placed (λ qs. slot_offsets qs 0) (λ qs. fields_placed qs 0) c.in-Fields.parts c.deref-in-Fields-2.result.now c.deref-in-Fields-3.result.now c.in-Fields.is parts_are (c.deref-in-Fields-3.ensures.value ∙ c.in_ok-slot_offsets-in-Fields.ensures)) c.placed_slots.ensures

pub returns-in_ok-case_lists-in-Cases : goal.returns-in_ok-case_lists-in-Cases
returns-in_ok-case_lists-in-Cases c =
    let payloads_are : c.deref-in-Cases-2.result.now ≡ c.in-Cases.payloads.value.items = c.deref-in-Cases-2.ensures.value ∙ ap (λ v. v.items) c.deref-in-Cases.ensures in
    becomes slots_in c.cases_slots.result _ _
    (cases_made slots_in flat_puts_of c.args.layout.now c.args.held.now (c.requires.held (ap is_list (cases_is c.args.layout.now _ _ c.in-Cases.payloads c.in-Cases.is))) flat_puts_of (λ b d xs. cases_slots (case_slots_from xs)) (λ b d qs. ap cases_slots (cases_carried qs)) _ _ c.in-Cases.payloads c.deref-in-Cases-2.result.now c.in_ok-case_lists-in-Cases.field-0.items c.in-Cases.is payloads_are c.in_ok-case_lists-in-Cases.ensures) c.cases_slots.ensures

pub returns-in-Enum : goal.returns-in-Enum
returns-in-Enum c =
    becomes slots_in c.leaf_slots-in-Enum.result _ _ (enum_slots c.in-Enum.count ∙ ap flat_puts_of (sym (enum_is c.args.layout.now c.in-Enum.discriminant c.in-Enum.count c.in-Enum.is))) c.leaf_slots-in-Enum.ensures

pub returns-in-Handle : goal.returns-in-Handle
returns-in-Handle c = becomes slots_in c.one_slot-in-Handle.result _ _ (ap one_slot (seen_Handle 0) ∙ ap flat_puts_of (sym (handle_is c.args.layout.now _ c.in-Handle.is))) c.one_slot-in-Handle.ensures
