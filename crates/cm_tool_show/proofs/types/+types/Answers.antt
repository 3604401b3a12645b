use Rattle.std.proofs.Common.{◌≡◌, ◌∙◌, ◌∷◌, [], Some, None, refl, rules, sym, ap}
use Rattle.std.specs.Prelude.{codes}
use Rattle.cm_tool_show.specs.Pieces.{chars, number_of}
use Rattle.cm_types.specs.Types.{bits_16, bits_32, bits_64, bits_8, bool, carrying, cases, char, fields, fixed_list, flags, list, no_cases, option_type, plain, record_type, result_type, signed, string, tuple_type, unsigned, variant_type}
use Rattle.cm_types.specs.TypeTrees.{cases_of, fields_of, parts_of, type_of}
use Rattle.cm_types.specs.declared.type_trees.TypeNode.TheVariants as leaf
use Rattle.cm_tool_show.specs.Counted.{case_piece, counted}
use Rattle.cm_types_arena.specs.Replaced.{replaced}
use Rattle.cm_tool_show.specs.Lists.{comma_before}
use Rattle.cm_tool_show.specs.ShownTypes.{between, type_pieces}
use Rattle.cm_tool_show.proofs.ShownLaws.{answers, named, stops, then, told}
use Rattle.cm_tool_show.proofs.Seen.{seen_FixedList, seen_List, seen_Option, seen_Record, seen_Tuple, seen_Variant, seen_both, seen_error, seen_ok, seen_plain}
use Rattle.cm_tool_show.proofs.ListLaws.{case_shown, cases_shown, cases_stop, enum_is, field_piece, fields_shown, fields_stop, fixed_pieces, kind_is, member_shown, option_is, part_piece, parts_shown, parts_stop, result_parts, two_is}
use Rattle.cm_tool_show.proofs.types.+types.Goals as goal
use Rattle.cm_types.proofs.TypesLaws.{seen_Bool, seen_Borrow, seen_Char, seen_Own, seen_S16, seen_S32, seen_S64, seen_S8, seen_U16, seen_U32, seen_U64, seen_U8}
use Rattle.cm_types.proofs.Seen.{seen_Flags, seen_StringType}

pub show_one-returns-in_err-put : goal.show_one-returns-in_err-put
show_one-returns-in_err-put t c =
    answers (search rules) (stops _ c.in_err-put.ensures)

pub show_one-returns-in_err-add_type : goal.show_one-returns-in_err-add_type
show_one-returns-in_err-add_type t c =
    answers (search rules) (then c.in_ok-put.ensures (stops _ c.in_err-add_type.ensures))

pub show_one-returns : goal.show_one-returns
show_one-returns t c =
    (then c.in_ok-put.ensures (then c.in_ok-add_type.ensures c.put-2.ensures))

pub show_fixed_list-returns-in_err-put : goal.show_fixed_list-returns-in_err-put
show_fixed_list-returns-in_err-put t c =
    answers (search rules) (stops _ c.in_err-put.ensures)

pub show_fixed_list-returns-in_err-add_type : goal.show_fixed_list-returns-in_err-add_type
show_fixed_list-returns-in_err-add_type t c =
    answers (search rules) (told (fixed_pieces (type_pieces (replaced (counted c.args.by) (type_of c.args.node.now))) c.args.length) (then c.in_ok-put.ensures (stops _ c.in_err-add_type.ensures)))

pub show_fixed_list-returns-in_err-put-2 : goal.show_fixed_list-returns-in_err-put-2
show_fixed_list-returns-in_err-put-2 t c =
    answers (search rules) (told (fixed_pieces (type_pieces (replaced (counted c.args.by) (type_of c.args.node.now))) c.args.length) (then c.in_ok-put.ensures (then c.in_ok-add_type.ensures (stops _ c.in_err-put-2.ensures))))

pub show_fixed_list-returns-in_err-put_number : goal.show_fixed_list-returns-in_err-put_number
show_fixed_list-returns-in_err-put_number t c =
    answers (search rules) (told (fixed_pieces (type_pieces (replaced (counted c.args.by) (type_of c.args.node.now))) c.args.length) (then c.in_ok-put.ensures (then c.in_ok-add_type.ensures (then c.in_ok-put-2.ensures (stops _ c.in_err-put_number.ensures)))))

pub show_fixed_list-returns : goal.show_fixed_list-returns
show_fixed_list-returns t c =
    told (fixed_pieces (type_pieces (replaced (counted c.args.by) (type_of c.args.node.now))) c.args.length) (then c.in_ok-put.ensures (then c.in_ok-add_type.ensures (then c.in_ok-put-2.ensures (then c.in_ok-put_number.ensures c.put-3.ensures))))

pub show_record-returns-in_err-put : goal.show_record-returns-in_err-put
show_record-returns-in_err-put t c =
    answers (search rules) (stops _ c.in_err-put.ensures)

pub show_record-returns-in_err-add_fields : goal.show_record-returns-in_err-add_fields
show_record-returns-in_err-add_fields t c =
    answers (search rules) (then c.in_ok-put.ensures (stops _ c.in_err-add_fields.ensures))

pub show_record-returns : goal.show_record-returns
show_record-returns t c =
    (then c.in_ok-put.ensures (then c.in_ok-add_fields.ensures c.put-2.ensures))

pub show_tuple-returns-in_err-put : goal.show_tuple-returns-in_err-put
show_tuple-returns-in_err-put t c =
    answers (search rules) (stops _ c.in_err-put.ensures)

pub show_tuple-returns-in_err-show_parts : goal.show_tuple-returns-in_err-show_parts
show_tuple-returns-in_err-show_parts t c =
    answers (search rules) (then c.in_ok-put.ensures (stops _ c.in_err-show_parts.ensures))

pub show_tuple-returns : goal.show_tuple-returns
show_tuple-returns t c =
    (then c.in_ok-put.ensures (then c.in_ok-show_parts.ensures c.put-2.ensures))

pub show_variant-returns-in_err-put : goal.show_variant-returns-in_err-put
show_variant-returns-in_err-put t c =
    answers (search rules) (stops _ c.in_err-put.ensures)

pub show_variant-returns-in_err-show_cases : goal.show_variant-returns-in_err-show_cases
show_variant-returns-in_err-show_cases t c =
    answers (search rules) (then c.in_ok-put.ensures (stops _ c.in_err-show_cases.ensures))

pub show_variant-returns : goal.show_variant-returns
show_variant-returns t c =
    (then c.in_ok-put.ensures (then c.in_ok-show_cases.ensures c.put-2.ensures))

pub show_first-returns-in_err-put : goal.show_first-returns-in_err-put
show_first-returns-in_err-put t c =
    answers (search rules) (stops _ c.in_err-put.ensures)

pub show_first-returns : goal.show_first-returns
show_first-returns t c =
    (then c.in_ok-put.ensures c.add_type.ensures)

pub show_field-returns-in_err-separate : goal.show_field-returns-in_err-separate
show_field-returns-in_err-separate t c =
    answers (search rules) (stops _ c.in_err-separate.ensures)

pub show_field-returns-in_err-put : goal.show_field-returns-in_err-put
show_field-returns-in_err-put t c =
    let label : c.as_str.result.now ≡ c.args.field.now.label = search rules in
    answers (search rules) (then c.in_ok-separate.ensures (stops _ (named label c.in_err-put.ensures)))

pub show_field-returns-in_err-put-2 : goal.show_field-returns-in_err-put-2
show_field-returns-in_err-put-2 t c =
    let label : c.as_str.result.now ≡ c.args.field.now.label = search rules in
    answers (search rules) (then c.in_ok-separate.ensures (then (named label c.in_ok-put.ensures) (stops _ c.in_err-put-2.ensures)))

pub show_field-returns : goal.show_field-returns
show_field-returns t c =
    let label : c.as_str.result.now ≡ c.args.field.now.label = search rules in
    (then c.in_ok-separate.ensures (then (named label c.in_ok-put.ensures) (then c.in_ok-put-2.ensures c.add_type.ensures)))

pub show_part-returns-in_err-separate : goal.show_part-returns-in_err-separate
show_part-returns-in_err-separate t c =
    answers (search rules) (stops _ c.in_err-separate.ensures)

pub show_part-returns : goal.show_part-returns
show_part-returns t c =
    (then c.in_ok-separate.ensures c.add_type.ensures)

pub add_fields-loop-index-preserved : goal.add_fields-loop-index-preserved
add_fields-loop-index-preserved t c =
    member_shown (field_piece (counted c.args.by)) c.args.fields.now c.loop-index.index c.index-fields-index.result c.args.page.now c.loop-index.page c.show_field.new.page tt (search rules) (search rules) c.in_ok-show_field.ensures c.loop-index.invariant

pub add_fields-returns-in_err-show_field : goal.add_fields-returns-in_err-show_field
add_fields-returns-in_err-show_field t c =
    answers (search rules) (fields_stop (counted c.args.by) c.args.fields.now c.loop-index.index c.index-fields-index.result c.args.page.now c.loop-index.page c.show_field.new.page _ (search rules) (search rules) c.in_err-show_field.ensures c.loop-index.invariant)

pub add_fields-returns : goal.add_fields-returns
add_fields-returns t c =
    fields_shown (counted c.args.by) c.args.fields.now c.loop-index.index c.args.page.now c.loop-index.page tt (search rules) c.loop-index.invariant

pub show_parts-loop-index-preserved : goal.show_parts-loop-index-preserved
show_parts-loop-index-preserved t c =
    member_shown (part_piece (counted c.args.by)) c.args.parts.now c.loop-index.index c.index-parts-index.result c.args.page.now c.loop-index.page c.show_part.new.page tt (search rules) (search rules) c.in_ok-show_part.ensures c.loop-index.invariant

pub show_parts-returns-in_err-show_part : goal.show_parts-returns-in_err-show_part
show_parts-returns-in_err-show_part t c =
    answers (search rules) (parts_stop (counted c.args.by) c.args.parts.now c.loop-index.index c.index-parts-index.result c.args.page.now c.loop-index.page c.show_part.new.page _ (search rules) (search rules) c.in_err-show_part.ensures c.loop-index.invariant)

pub show_parts-returns : goal.show_parts-returns
show_parts-returns t c =
    parts_shown (counted c.args.by) c.args.parts.now c.loop-index.index c.args.page.now c.loop-index.page tt (search rules) c.loop-index.invariant

pub show_cases-loop-index-preserved : goal.show_cases-loop-index-preserved
show_cases-loop-index-preserved t c =
    member_shown (case_piece (counted c.args.by)) c.args.cases.now c.loop-index.index c.index-cases-index.result c.args.page.now c.loop-index.page c.show_case.new.page tt (search rules) (search rules) c.in_ok-show_case.ensures c.loop-index.invariant

pub show_cases-returns-in_err-show_case : goal.show_cases-returns-in_err-show_case
show_cases-returns-in_err-show_case t c =
    answers (search rules) (cases_stop (counted c.args.by) c.args.cases.now c.loop-index.index c.index-cases-index.result c.args.page.now c.loop-index.page c.show_case.new.page _ (search rules) (search rules) c.in_err-show_case.ensures c.loop-index.invariant)

pub show_cases-returns : goal.show_cases-returns
show_cases-returns t c =
    cases_shown (counted c.args.by) c.args.cases.now c.loop-index.index c.args.page.now c.loop-index.page tt (search rules) c.loop-index.invariant

pub add_type-returns-in-Bool : goal.add_type-returns-in-Bool
add_type-returns-in-Bool t c =
    told (kind_is (counted c.args.by) c.args.node.now leaf.Bool bool c.in-Bool.is seen_Bool) c.put.ensures

pub add_type-returns-in-S8 : goal.add_type-returns-in-S8
add_type-returns-in-S8 t c =
    told (kind_is (counted c.args.by) c.args.node.now leaf.S8 (signed bits_8) c.in-S8.is seen_S8) c.put-in-S8.ensures

pub add_type-returns-in-U8 : goal.add_type-returns-in-U8
add_type-returns-in-U8 t c =
    told (kind_is (counted c.args.by) c.args.node.now leaf.U8 (unsigned bits_8) c.in-U8.is seen_U8) c.put-in-U8.ensures

pub add_type-returns-in-S16 : goal.add_type-returns-in-S16
add_type-returns-in-S16 t c =
    told (kind_is (counted c.args.by) c.args.node.now leaf.S16 (signed bits_16) c.in-S16.is seen_S16) c.put-in-S16.ensures

pub add_type-returns-in-U16 : goal.add_type-returns-in-U16
add_type-returns-in-U16 t c =
    told (kind_is (counted c.args.by) c.args.node.now leaf.U16 (unsigned bits_16) c.in-U16.is seen_U16) c.put-in-U16.ensures

pub add_type-returns-in-S32 : goal.add_type-returns-in-S32
add_type-returns-in-S32 t c =
    told (kind_is (counted c.args.by) c.args.node.now leaf.S32 (signed bits_32) c.in-S32.is seen_S32) c.put-in-S32.ensures

pub add_type-returns-in-U32 : goal.add_type-returns-in-U32
add_type-returns-in-U32 t c =
    told (kind_is (counted c.args.by) c.args.node.now leaf.U32 (unsigned bits_32) c.in-U32.is seen_U32) c.put-in-U32.ensures

pub add_type-returns-in-S64 : goal.add_type-returns-in-S64
add_type-returns-in-S64 t c =
    told (kind_is (counted c.args.by) c.args.node.now leaf.S64 (signed bits_64) c.in-S64.is seen_S64) c.put-in-S64.ensures

pub add_type-returns-in-U64 : goal.add_type-returns-in-U64
add_type-returns-in-U64 t c =
    told (kind_is (counted c.args.by) c.args.node.now leaf.U64 (unsigned bits_64) c.in-U64.is seen_U64) c.put-in-U64.ensures

pub add_type-returns-in-Char : goal.add_type-returns-in-Char
add_type-returns-in-Char t c =
    told (kind_is (counted c.args.by) c.args.node.now leaf.Char char c.in-Char.is seen_Char) c.put-in-Char.ensures

pub add_type-returns-in-String : goal.add_type-returns-in-String
add_type-returns-in-String t c =
    told (kind_is (counted c.args.by) c.args.node.now leaf.String string c.in-String.is seen_StringType) c.put-in-String.ensures

pub add_type-returns-in-List : goal.add_type-returns-in-List
add_type-returns-in-List t c =
    told (kind_is (counted c.args.by) c.args.node.now _ _ c.in-List.is (seen_List c.in-List.element ∙ ap (λ n. list (type_of n)) (sym c.deref.ensures))) c.show_one.ensures

pub add_type-returns-in-FixedList : goal.add_type-returns-in-FixedList
add_type-returns-in-FixedList t c =
    told (kind_is (counted c.args.by) c.args.node.now _ _ c.in-FixedList.is (seen_FixedList c.in-FixedList.element c.in-FixedList.length ∙ ap (λ n. fixed_list (type_of n) c.in-FixedList.length) (sym c.deref-in-FixedList.ensures))) c.show_fixed_list.ensures

pub add_type-returns-in-Record : goal.add_type-returns-in-Record
add_type-returns-in-Record t c =
    told (kind_is (counted c.args.by) c.args.node.now _ _ c.in-Record.is (seen_Record c.in-Record.fields ∙ ap (λ xs. fields record_type (fields_of xs)) (sym (c.deref-in-Record-2.ensures.value ∙ ap (λ v. v.items) c.deref-in-Record.ensures)))) c.show_record.ensures

pub add_type-returns-in-Tuple : goal.add_type-returns-in-Tuple
add_type-returns-in-Tuple t c =
    told (kind_is (counted c.args.by) c.args.node.now _ _ c.in-Tuple.is (seen_Tuple c.in-Tuple.parts ∙ ap (λ xs. fields tuple_type (parts_of xs)) (sym (c.deref-in-Tuple-2.ensures.value ∙ ap (λ v. v.items) c.deref-in-Tuple.ensures)))) c.show_tuple.ensures

pub add_type-returns-in-Variant : goal.add_type-returns-in-Variant
add_type-returns-in-Variant t c =
    told (kind_is (counted c.args.by) c.args.node.now _ _ c.in-Variant.is (seen_Variant c.in-Variant.cases ∙ ap (λ xs. cases variant_type (cases_of xs)) (sym (c.deref-in-Variant-2.ensures.value ∙ ap (λ v. v.items) c.deref-in-Variant.ensures)))) c.show_variant.ensures

pub add_type-returns-in-Enum : goal.add_type-returns-in-Enum
add_type-returns-in-Enum t c =
    told (enum_is (counted c.args.by) c.args.node.now c.in-Enum.labels _ c.in-Enum.is (c.deref-in-Enum-2.ensures.value ∙ ap (λ v. v.items) c.deref-in-Enum.ensures)) c.show_labels.ensures

pub add_type-returns-in-Flags : goal.add_type-returns-in-Flags
add_type-returns-in-Flags t c =
    told (kind_is (counted c.args.by) c.args.node.now _ _ c.in-Flags.is (seen_Flags c.in-Flags.labels ∙ ap (λ xs. flags xs) (sym (c.deref-in-Flags-2.ensures.value ∙ ap (λ v. v.items) c.deref-in-Flags.ensures)))) c.show_labels-in-Flags.ensures

pub add_type-returns-in-Option : goal.add_type-returns-in-Option
add_type-returns-in-Option t c =
    told (kind_is (counted c.args.by) c.args.node.now _ _ c.in-Option.is (seen_Option c.in-Option.payload ∙ ap (λ n. cases option_type (plain (codes "none") (carrying (codes "some") (type_of n) no_cases))) (sym c.deref-in-Option.ensures)) ∙ option_is (counted c.args.by) (type_of c.deref-in-Option.result.now)) c.show_one-in-Option.ensures

pub add_type-returns-in-Own : goal.add_type-returns-in-Own
add_type-returns-in-Own t c =
    told (kind_is (counted c.args.by) c.args.node.now _ _ c.in-Own.is (seen_Own c.in-Own.id) ∙ ap (λ r. between (codes "own<#") (codes ">") (number_of r ∷ [])) (sym c.resource.ensures)) c.show_handle.ensures

pub add_type-returns-in-Borrow : goal.add_type-returns-in-Borrow
add_type-returns-in-Borrow t c =
    told (kind_is (counted c.args.by) c.args.node.now _ _ c.in-Borrow.is (seen_Borrow c.in-Borrow.id) ∙ ap (λ r. between (codes "borrow<#") (codes ">") (number_of r ∷ [])) (sym c.resource-in-Borrow.ensures)) c.show_handle-in-Borrow.ensures

pub add_type-returns-in-None-None : goal.add_type-returns-in-None-None
add_type-returns-in-None-None t c =
    told (kind_is (counted c.args.by) c.args.node.now _ _ (c.in-Result.is ∙ result_parts c.in-Result.ok c.in-Result.error None None c.in-None-None.is-0 c.in-None-None.is-1) seen_plain) c.put-in-None-None.ensures

pub add_type-returns-in-Some-None : goal.add_type-returns-in-Some-None
add_type-returns-in-Some-None t c =
    told (kind_is (counted c.args.by) c.args.node.now _ _ (c.in-Result.is ∙ result_parts c.in-Result.ok c.in-Result.error (Some c.in-Some-None.ok) None c.in-Some-None.is-0 c.in-Some-None.is-1) (seen_ok c.in-Some-None.ok ∙ ap (λ n. cases result_type (carrying (codes "ok") (type_of n) (plain (codes "error") no_cases))) (sym c.deref-in-Some-None.ensures))) c.show_one-in-Some-None.ensures

pub add_type-returns-in-None-Some : goal.add_type-returns-in-None-Some
add_type-returns-in-None-Some t c =
    told (kind_is (counted c.args.by) c.args.node.now _ _ (c.in-Result.is ∙ result_parts c.in-Result.ok c.in-Result.error None (Some c.in-None-Some.error) c.in-None-Some.is-0 c.in-None-Some.is-1) (seen_error c.in-None-Some.error ∙ ap (λ n. cases result_type (plain (codes "ok") (carrying (codes "error") (type_of n) no_cases))) (sym c.deref-in-None-Some.ensures))) c.show_one-in-None-Some.ensures

pub add_type-returns-in_err-show_first-in-Some-Some : goal.add_type-returns-in_err-show_first-in-Some-Some
add_type-returns-in_err-show_first-in-Some-Some t c =
    answers (search rules) (told (kind_is (counted c.args.by) c.args.node.now _ _ (c.in-Result.is ∙ result_parts c.in-Result.ok c.in-Result.error (Some c.in-Some-Some.ok) (Some c.in-Some-Some.error) c.in-Some-Some.is-0 c.in-Some-Some.is-1) (seen_both c.in-Some-Some.ok c.in-Some-Some.error) ∙ two_is (counted c.args.by) (type_of c.in-Some-Some.ok.value) (type_of c.in-Some-Some.error.value)) (stops _ (told (ap (λ n. chars (codes "result<") ∷ type_pieces (replaced (counted c.args.by) (type_of n))) (sym c.deref-in-Some-Some.ensures)) c.in_err-show_first-in-Some-Some.ensures)))

pub add_type-returns-in_ok-show_first-in-Some-Some : goal.add_type-returns-in_ok-show_first-in-Some-Some
add_type-returns-in_ok-show_first-in-Some-Some t c =
    told (kind_is (counted c.args.by) c.args.node.now _ _ (c.in-Result.is ∙ result_parts c.in-Result.ok c.in-Result.error (Some c.in-Some-Some.ok) (Some c.in-Some-Some.error) c.in-Some-Some.is-0 c.in-Some-Some.is-1) (seen_both c.in-Some-Some.ok c.in-Some-Some.error) ∙ two_is (counted c.args.by) (type_of c.in-Some-Some.ok.value) (type_of c.in-Some-Some.error.value)) (then (told (ap (λ n. chars (codes "result<") ∷ type_pieces (replaced (counted c.args.by) (type_of n))) (sym c.deref-in-Some-Some.ensures)) c.in_ok-show_first-in-Some-Some.ensures) (told (ap (λ n. between (codes ", ") (codes ">") (type_pieces (replaced (counted c.args.by) (type_of n)))) (sym c.deref-in-Some-Some-2.ensures)) c.show_one-in-Some-Some.ensures))

pub show_case-returns-in_err-separate : goal.show_case-returns-in_err-separate
show_case-returns-in_err-separate t c =
    answers (search rules) (stops _ c.in_err-separate.ensures)

pub show_case-returns-in_err-put : goal.show_case-returns-in_err-put
show_case-returns-in_err-put t c =
    let label : c.as_str.result.now ≡ c.args.case.now.label = search rules in
    answers (search rules) (told (case_shown (counted c.args.by) c.args.case.now.label c.args.case.now.payload c.args.case.now.payload (comma_before c.args.index) refl) (then c.in_ok-separate.ensures (stops _ (named label c.in_err-put.ensures))))

pub show_case-returns-in-None : goal.show_case-returns-in-None
show_case-returns-in-None t c =
    let label : c.as_str.result.now ≡ c.args.case.now.label = search rules in
    told (case_shown (counted c.args.by) c.args.case.now.label c.args.case.now.payload None (comma_before c.args.index) c.in-None.is) (then c.in_ok-separate.ensures (named label c.in_ok-put.ensures))

pub show_case-returns-in_err-put-in-Some : goal.show_case-returns-in_err-put-in-Some
show_case-returns-in_err-put-in-Some t c =
    let label : c.as_str.result.now ≡ c.args.case.now.label = search rules in
    answers (search rules) (told (case_shown (counted c.args.by) c.args.case.now.label c.args.case.now.payload (Some c.in-Some.payload) (comma_before c.args.index) c.in-Some.is) (then c.in_ok-separate.ensures (then (named label c.in_ok-put.ensures) (stops _ c.in_err-put-in-Some.ensures))))

pub show_case-returns-in_err-add_type-in-Some : goal.show_case-returns-in_err-add_type-in-Some
show_case-returns-in_err-add_type-in-Some t c =
    let label : c.as_str.result.now ≡ c.args.case.now.label = search rules in
    answers (search rules) (told (case_shown (counted c.args.by) c.args.case.now.label c.args.case.now.payload (Some c.in-Some.payload) (comma_before c.args.index) c.in-Some.is) (then c.in_ok-separate.ensures (then (named label c.in_ok-put.ensures) (then c.in_ok-put-in-Some.ensures (stops _ c.in_err-add_type-in-Some.ensures)))))

pub show_case-returns-in_ok-add_type-in-Some : goal.show_case-returns-in_ok-add_type-in-Some
show_case-returns-in_ok-add_type-in-Some t c =
    let label : c.as_str.result.now ≡ c.args.case.now.label = search rules in
    told (case_shown (counted c.args.by) c.args.case.now.label c.args.case.now.payload (Some c.in-Some.payload) (comma_before c.args.index) c.in-Some.is) (then c.in_ok-separate.ensures (then (named label c.in_ok-put.ensures) (then c.in_ok-put-in-Some.ensures (then c.in_ok-add_type-in-Some.ensures c.put-in-Some-2.ensures))))
