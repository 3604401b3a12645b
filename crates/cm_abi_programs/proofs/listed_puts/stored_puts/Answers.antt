use Rattle.std.proofs.Common.{◌≡◌, ◌∙◌, ap, sym, refl}
use Rattle.cm_abi_programs.specs.Puts.{cases_puts, list_put, no_puts, one_put, puts_of, row_puts}
use Rattle.cm_abi_programs.specs.CodedPuts.{case_puts_from, puts_in}
use Rattle.cm_abi_programs.proofs.PutForms.{seen_Handle, seen_Run, seen_Text}
use Rattle.cm_abi_programs.specs.Held.{part_offsets}
use Rattle.cm_abi_programs.specs.PlacedFields.{puts_placed}
use Rattle.cm_abi_programs.proofs.FormLemmas.{enum_is, handle_is, leaf_is, string_is}
use Rattle.cm_abi_programs.proofs.PutMakingLemmas.{cases_carried, enum_puts, fields_placed}
use Rattle.cm_abi_programs.proofs.ShapeLemmas.{as_many_offsets, cases_made, fields_many, fields_made, fixed_one, list_made, list_one, row_made, becomes}
use Rattle.cm_abi_programs.proofs.listed_puts.stored_puts.Goals as goal

pub only_list-requires : goal.only_list-requires
only_list-requires c = list_one puts_in puts_of c.args.layout.now c.args.held.now c.requires c.in-List.element c.in-List.is

pub only_list-requires-in-FixedList : goal.only_list-requires-in-FixedList
only_list-requires-in-FixedList c = fixed_one puts_in puts_of c.args.layout.now c.args.held.now c.requires c.in-FixedList.element c.in-FixedList.length c.in-FixedList.is

pub placed_puts-requires : goal.placed_puts-requires
placed_puts-requires c =
    let parts_are : c.deref-in-Fields-2.result.now ≡ c.in-Fields.parts.value.items = c.deref-in-Fields-2.ensures.value ∙ ap (λ v. v.items) c.deref-in-Fields.ensures in
    fields_many puts_in puts_of c.args.layout.now c.args.held.now c.requires part_offsets as_many_offsets c.in-Fields.parts c.deref-in-Fields-2.result.now c.deref-in-Fields-3.result.now c.in-Fields.is parts_are (c.deref-in-Fields-3.ensures.value ∙ c.in_ok-byte_offsets-in-Fields.ensures)

pub returns-in-Leaf : goal.returns-in-Leaf
returns-in-Leaf c = becomes puts_in c.one_put.result _ _ (c.leaf_put.ensures ∙ ap puts_of (sym (leaf_is c.args.layout.now c.in-Leaf.leaf c.in-Leaf.is))) c.one_put.ensures

pub returns-in-String : goal.returns-in-String
returns-in-String c = becomes puts_in c.one_put-in-String.result _ _ (ap one_put (seen_Text 0) ∙ ap puts_of (sym (string_is c.args.layout.now c.in-String.is))) c.one_put-in-String.ensures

pub returns-in_ok-only_list-in-List : goal.returns-in_ok-only_list-in-List
returns-in_ok-only_list-in-List c =
    becomes puts_in c.list_puts.result _ _
    (list_made puts_in puts_of c.args.layout.now c.args.held.now c.requires puts_of (λ h x. one_put (list_put 0 h.size x)) (λ h x. refl) c.in-List.element c.deref.result.now c.in_ok-only_list-in-List.field-0 c.in-List.is c.deref.ensures c.in_ok-only_list-in-List.ensures) c.list_puts.ensures

pub returns-in_ok-only_list-in-FixedList : goal.returns-in_ok-only_list-in-FixedList
returns-in_ok-only_list-in-FixedList c =
    becomes puts_in c.row_puts.result _ _
    (row_made puts_in puts_of c.args.layout.now c.args.held.now c.requires puts_of (λ h n x. row_puts h.size n x) (λ h n x. refl) c.in-FixedList.element c.in-FixedList.length c.deref-in-FixedList.result.now c.in_ok-only_list-in-FixedList.field-0 c.in-FixedList.is c.deref-in-FixedList.ensures c.in_ok-only_list-in-FixedList.ensures) c.row_puts.ensures

pub returns-in_ok-byte_offsets-in-Fields : goal.returns-in_ok-byte_offsets-in-Fields
returns-in_ok-byte_offsets-in-Fields c =
    let parts_are : c.deref-in-Fields-2.result.now ≡ c.in-Fields.parts.value.items = c.deref-in-Fields-2.ensures.value ∙ ap (λ v. v.items) c.deref-in-Fields.ensures in
    becomes puts_in c.placed_puts.result _ _
    (fields_made puts_in puts_of c.args.layout.now c.args.held.now c.requires puts_of (λ os xs. puts_placed os xs no_puts) part_offsets (λ qs. fields_placed qs no_puts) c.in-Fields.parts c.deref-in-Fields-2.result.now c.deref-in-Fields-3.result.now c.in-Fields.is parts_are (c.deref-in-Fields-3.ensures.value ∙ c.in_ok-byte_offsets-in-Fields.ensures)) c.placed_puts.ensures

pub returns-in_ok-cases-in-Cases : goal.returns-in_ok-cases-in-Cases
returns-in_ok-cases-in-Cases c =
    let payloads_are : c.deref-in-Cases-2.result.now ≡ c.in-Cases.payloads.value.items = c.deref-in-Cases-2.ensures.value ∙ ap (λ v. v.items) c.deref-in-Cases.ensures in
    becomes puts_in c.cases_puts.result _ _
    (cases_made puts_in puts_of c.args.layout.now c.args.held.now c.requires puts_of (λ b d xs. cases_puts b d (case_puts_from xs)) (λ b d qs. ap (λ cs. cases_puts b d cs) (cases_carried qs)) c.in-Cases.discriminant c.in-Cases.offset c.in-Cases.payloads c.deref-in-Cases-2.result.now c.in_ok-cases-in-Cases.cases.items c.in-Cases.is payloads_are c.in_ok-cases-in-Cases.ensures) c.cases_puts.ensures

pub returns-in-Enum : goal.returns-in-Enum
returns-in-Enum c =
    becomes puts_in c.one_put-in-Enum.result _ _
    (ap one_put (seen_Run 0 c.in-Enum.discriminant) ∙ (enum_puts c.in-Enum.discriminant c.in-Enum.count ∙ ap puts_of (sym (enum_is c.args.layout.now c.in-Enum.discriminant c.in-Enum.count c.in-Enum.is)))) c.one_put-in-Enum.ensures

pub returns-in-Handle : goal.returns-in-Handle
returns-in-Handle c = becomes puts_in c.one_put-in-Handle.result _ _ (ap one_put (seen_Handle 0) ∙ ap puts_of (sym (handle_is c.args.layout.now _ c.in-Handle.is))) c.one_put-in-Handle.ensures
