use Rattle.std.proofs.Common.{◌≡◌, ◌∙◌, ap, sym, refl}
use Rattle.cm_abi_programs.specs.Checks.{cases_checks, checks_of, list_check, one_check, row_checks}
use Rattle.cm_abi_programs.specs.Coded.{cases_from, checks_in}
use Rattle.cm_abi_programs.proofs.CheckForms.{seen_Below, seen_Handle, seen_Text}
use Rattle.cm_abi_programs.specs.Held.{part_offsets}
use Rattle.cm_abi_programs.specs.PlacedFields.{checks_placed}
use Rattle.cm_abi_programs.proofs.FormLemmas.{enum_is, handle_is, leaf_is, string_is}
use Rattle.cm_abi_programs.proofs.MakingLemmas.{cases_carried, enum_checks, fields_placed}
use Rattle.cm_abi_programs.proofs.ShapeLemmas.{as_many_offsets, cases_made, fields_many, fields_made, fixed_one, list_made, list_one, row_made, becomes}
use Rattle.cm_abi_programs.proofs.listed_checks.stored_checks.Goals as goal

pub only_list-requires : goal.only_list-requires
only_list-requires c = list_one checks_in checks_of c.args.layout.now c.args.held.now c.requires c.in-List.element c.in-List.is

pub only_list-requires-in-FixedList : goal.only_list-requires-in-FixedList
only_list-requires-in-FixedList c = fixed_one checks_in checks_of c.args.layout.now c.args.held.now c.requires c.in-FixedList.element c.in-FixedList.length c.in-FixedList.is

pub placed_checks-requires : goal.placed_checks-requires
placed_checks-requires c =
    let parts_are : c.deref-in-Fields-2.result.now ≡ c.in-Fields.parts.value.items = c.deref-in-Fields-2.ensures.value ∙ ap (λ v. v.items) c.deref-in-Fields.ensures in
    fields_many checks_in checks_of c.args.layout.now c.args.held.now c.requires part_offsets as_many_offsets c.in-Fields.parts c.deref-in-Fields-2.result.now c.deref-in-Fields-3.result.now c.in-Fields.is parts_are (c.deref-in-Fields-3.ensures.value ∙ c.in_ok-byte_offsets-in-Fields.ensures)

pub returns-in-Leaf : goal.returns-in-Leaf
returns-in-Leaf c = becomes checks_in c.leaf_checks.result _ _ (ap checks_of (sym (leaf_is c.args.layout.now c.in-Leaf.leaf c.in-Leaf.is))) c.leaf_checks.ensures

pub returns-in-String : goal.returns-in-String
returns-in-String c = becomes checks_in c.one_check.result _ _ (ap one_check (seen_Text 0) ∙ ap checks_of (sym (string_is c.args.layout.now c.in-String.is))) c.one_check.ensures

pub returns-in_ok-only_list-in-List : goal.returns-in_ok-only_list-in-List
returns-in_ok-only_list-in-List c =
    becomes checks_in c.list_checks.result _ _
    (list_made checks_in checks_of c.args.layout.now c.args.held.now c.requires checks_of (λ h x. one_check (list_check 0 h x)) (λ h x. refl) c.in-List.element c.deref.result.now c.in_ok-only_list-in-List.field-0 c.in-List.is c.deref.ensures c.in_ok-only_list-in-List.ensures) c.list_checks.ensures

pub returns-in_ok-only_list-in-FixedList : goal.returns-in_ok-only_list-in-FixedList
returns-in_ok-only_list-in-FixedList c =
    becomes checks_in c.row_checks.result _ _
    (row_made checks_in checks_of c.args.layout.now c.args.held.now c.requires checks_of (λ h n x. row_checks h.size n x) (λ h n x. refl) c.in-FixedList.element c.in-FixedList.length c.deref-in-FixedList.result.now c.in_ok-only_list-in-FixedList.field-0 c.in-FixedList.is c.deref-in-FixedList.ensures c.in_ok-only_list-in-FixedList.ensures) c.row_checks.ensures

pub returns-in_ok-byte_offsets-in-Fields : goal.returns-in_ok-byte_offsets-in-Fields
returns-in_ok-byte_offsets-in-Fields c =
    let parts_are : c.deref-in-Fields-2.result.now ≡ c.in-Fields.parts.value.items = c.deref-in-Fields-2.ensures.value ∙ ap (λ v. v.items) c.deref-in-Fields.ensures in
    becomes checks_in c.placed_checks.result _ _
    (fields_made checks_in checks_of c.args.layout.now c.args.held.now c.requires checks_of checks_placed part_offsets fields_placed c.in-Fields.parts c.deref-in-Fields-2.result.now c.deref-in-Fields-3.result.now c.in-Fields.is parts_are (c.deref-in-Fields-3.ensures.value ∙ c.in_ok-byte_offsets-in-Fields.ensures)) c.placed_checks.ensures

pub returns-in_ok-cases-in-Cases : goal.returns-in_ok-cases-in-Cases
returns-in_ok-cases-in-Cases c =
    let payloads_are : c.deref-in-Cases-2.result.now ≡ c.in-Cases.payloads.value.items = c.deref-in-Cases-2.ensures.value ∙ ap (λ v. v.items) c.deref-in-Cases.ensures in
    becomes checks_in c.cases_checks.result _ _
    (cases_made checks_in checks_of c.args.layout.now c.args.held.now c.requires checks_of (λ b d xs. cases_checks b d (cases_from xs)) (λ b d qs. ap (λ cs. cases_checks b d cs) (cases_carried qs)) c.in-Cases.discriminant c.in-Cases.offset c.in-Cases.payloads c.deref-in-Cases-2.result.now c.in_ok-cases-in-Cases.cases.items c.in-Cases.is payloads_are c.in_ok-cases-in-Cases.ensures) c.cases_checks.ensures

pub returns-in-Enum : goal.returns-in-Enum
returns-in-Enum c =
    becomes checks_in c.one_check-in-Enum.result _ _
    (ap one_check (seen_Below 0 c.in-Enum.discriminant c.in-Enum.count) ∙ (enum_checks c.in-Enum.discriminant c.in-Enum.count ∙ ap checks_of (sym (enum_is c.args.layout.now c.in-Enum.discriminant c.in-Enum.count c.in-Enum.is)))) c.one_check-in-Enum.ensures

pub returns-in-Handle : goal.returns-in-Handle
returns-in-Handle c = becomes checks_in c.one_check-in-Handle.result _ _ (ap one_check (seen_Handle 0 c.in-Handle.wanted) ∙ ap checks_of (sym (handle_is c.args.layout.now c.in-Handle.wanted c.in-Handle.is))) c.one_check-in-Handle.ensures
