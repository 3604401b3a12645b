use Rattle.std.proofs.Common.{◌≡◌, ◌++◌, OnOk, drop, refl, rules}
use Rattle.std.specs.Prelude.{codes}
use Rattle.std.specs.String.{string_bytes}
use Rattle.cm_types.specs.Types.{cases, enum_type, fixed_list, list, record_type, tuple_type}
use Rattle.cm_types.specs.TypeTrees.{field_of, fields_of, parts_of, plain_from, type_of}
use Rattle.cm_types.specs.declared.type_trees.TypeNode.{the_lemmas as type_lemmas}
use Rattle.cm_types.specs.declared.values.Value.{the_lemmas as value_lemmas}
use Rattle.cm_types.specs.ValueTrees.{boxed_value, payload_value, value_of, values_of}
use Rattle.cm_values.specs.Spelling.{each, label_spelling, list_spelling, spelling, spelling_by, usual_by}
use Rattle.cm_values.specs.Written.{front}
use Rattle.cm_types.specs.Values.{elements, parts}
use Rattle.cm_values.proofs.CaseLaws.{enum_alike, label_in, variant_past, variant_there}
use Rattle.cm_values.proofs.FrontLaws.{shown_nothing, shows_all, shows_in_marks, shows_same}
use Rattle.cm_values.proofs.ListLaws.{each_end, each_next, fields_end, fields_next, parts_end, parts_next, shown_end, shown_next, values_end}
use Rattle.cm_values.proofs.values.+printing.Goals as goal

pub put_items-loop-index-preserved : goal.put_items-loop-index-preserved
put_items-loop-index-preserved g t c =
    let w = g.W.Worded.words c.args.style.now.worded in
    let v = c.index-values-index.result in
    shown_next c.args.style.now.room c.loop-index.index (spelling_by w (type_of c.args.element.now) (value_of v)) _ _ (string_bytes c.loop-index.out) (string_bytes c.put_comma.new.out) (string_bytes c.put_value.new.out) _
    (each_next (spelling_by w (type_of c.args.element.now)) c.args.values.now c.loop-index.index v (search rules) (search rules)) c.in_ok-put_comma.ensures c.in_ok-put_value.ensures c.loop-index.invariant

pub put_items-returns : goal.put_items-returns
put_items-returns g t c =
    shown_end c.args.style.now.room c.loop-index.index _ (string_bytes c.loop-index.out) _ (each_end (spelling_by (g.W.Worded.words c.args.style.now.worded) (type_of c.args.element.now)) c.args.values.now c.loop-index.index (search rules)) c.loop-index.invariant

pub put_variant-returns-in-None : goal.put_variant-returns-in-None
put_variant-returns-in-None g t c = shown_nothing c.args.style.now.room (string_bytes c.args.out.now) _ (variant_past (g.W.Worded.words c.args.style.now.worded) c.args.variants.now c.args.index (boxed_value c.args.payload.now) c.in-None.ensures.lookup.3)

pub put_variant-returns-in-Some : goal.put_variant-returns-in-Some
put_variant-returns-in-Some g t c =
    let case = c.in-Some.case.now in
    let label : c.as_str.result.now ≡ label_in case = search rules in
    rw (variant_there (g.W.Worded.words c.args.style.now.worded) c.args.variants.now c.args.index case (boxed_value c.args.payload.now) c.in-Some.ensures.lookup.3.0 c.in-Some.ensures.lookup.1) (rw label at c.put_case.ensures)

pub put_fields-loop-index-preserved : goal.put_fields-loop-index-preserved
put_fields-loop-index-preserved g t c =
    let w = g.W.Worded.words c.args.style.now.worded in
    let f = c.index-fields-index.result in
    let v = c.in-Some.value.now in
    shown_next c.args.style.now.room c.loop-index.index (label_spelling record_type (field_of f).0 ++ spelling_by w (field_of f).1 (value_of v)) _ _ (string_bytes c.loop-index.out) (string_bytes c.put_comma.new.out) (string_bytes c.put_field.new.out) _
    (fields_next w c.args.fields.now c.args.values.now c.loop-index.index f v record_type (search rules) (search rules) c.in-Some.ensures.lookup.3.0 c.in-Some.ensures.lookup.1) c.in_ok-put_comma.ensures c.in_ok-put_field.ensures c.loop-index.invariant

pub put_fields-returns-in_default : goal.put_fields-returns-in_default
put_fields-returns-in_default g t c =
    shown_end c.args.style.now.room c.loop-index.index _ (string_bytes c.loop-index.out) _ (values_end (g.W.Worded.words c.args.style.now.worded) record_type (fields_of (drop c.loop-index.index c.args.fields.now)) c.args.values.now c.loop-index.index c.in_default.ensures.lookup.3) c.loop-index.invariant

pub put_fields-returns : goal.put_fields-returns
put_fields-returns g t c =
    shown_end c.args.style.now.room c.loop-index.index _ (string_bytes c.loop-index.out) _ (fields_end (g.W.Worded.words c.args.style.now.worded) record_type c.args.fields.now (values_of (drop c.loop-index.index c.args.values.now)) c.loop-index.index (search rules)) c.loop-index.invariant

pub put_parts-loop-index-preserved : goal.put_parts-loop-index-preserved
put_parts-loop-index-preserved g t c =
    let w = g.W.Worded.words c.args.style.now.worded in
    let p = c.index-parts-index.result in
    let v = c.in-Some.value.now in
    shown_next c.args.style.now.room c.loop-index.index (spelling_by w (type_of p) (value_of v)) _ _ (string_bytes c.loop-index.out) (string_bytes c.put_comma.new.out) (string_bytes c.put_value.new.out) _
    (parts_next w c.args.parts.now c.args.values.now c.loop-index.index p v (search rules) (search rules) c.in-Some.ensures.lookup.3.0 c.in-Some.ensures.lookup.1) c.in_ok-put_comma.ensures c.in_ok-put_value.ensures c.loop-index.invariant

pub put_parts-returns-in_default : goal.put_parts-returns-in_default
put_parts-returns-in_default g t c =
    shown_end c.args.style.now.room c.loop-index.index _ (string_bytes c.loop-index.out) _ (values_end (g.W.Worded.words c.args.style.now.worded) tuple_type (parts_of (drop c.loop-index.index c.args.parts.now)) c.args.values.now c.loop-index.index c.in_default.ensures.lookup.3) c.loop-index.invariant

pub put_parts-returns : goal.put_parts-returns
put_parts-returns g t c =
    shown_end c.args.style.now.room c.loop-index.index _ (string_bytes c.loop-index.out) _ (parts_end (g.W.Worded.words c.args.style.now.worded) c.args.parts.now (values_of (drop c.loop-index.index c.args.values.now)) c.loop-index.index (search rules)) c.loop-index.invariant

pub put_list-returns : goal.put_list-returns
put_list-returns g t c = shows_in_marks c.args.style.now.room (codes "[") _ (codes "]") (string_bytes c.args.out.now) (string_bytes c.put.new.out) (string_bytes c.put_items.new.out) (string_bytes c.put-2.new.out) c.put-2.result c.in_ok-put.ensures c.in_ok-put_items.ensures c.put-2.ensures

pub put_payload-returns : goal.put_payload-returns
put_payload-returns g t c = shows_in_marks c.args.style.now.room (codes "(") _ (codes ")") (string_bytes c.args.out.now) (string_bytes c.put.new.out) (string_bytes c.put_value.new.out) (string_bytes c.put-2.new.out) c.put-2.result c.in_ok-put.ensures c.in_ok-put_value.ensures c.put-2.ensures

pub put_record-returns : goal.put_record-returns
put_record-returns g t c = shows_in_marks c.args.style.now.room (codes "{") _ (codes "}") (string_bytes c.args.out.now) (string_bytes c.put.new.out) (string_bytes c.put_fields.new.out) (string_bytes c.put-2.new.out) c.put-2.result c.in_ok-put.ensures c.in_ok-put_fields.ensures c.put-2.ensures

pub put_tuple-returns : goal.put_tuple-returns
put_tuple-returns g t c = shows_in_marks c.args.style.now.room (codes "(") _ (codes ")") (string_bytes c.args.out.now) (string_bytes c.put.new.out) (string_bytes c.put_parts.new.out) (string_bytes c.put-2.new.out) c.put-2.result c.in_ok-put.ensures c.in_ok-put_parts.ensures c.put-2.ensures

pub put_usual-returns-in-Enum-Case : goal.put_usual-returns-in-Enum-Case
put_usual-returns-in-Enum-Case g t c =
    let labels = c.in-Enum-Case.labels.value.items in
    let payload = boxed_value c.in-Enum-Case.payload in
    let put : OnOk c.put_enum.result (string_bytes c.put_enum.new.out ≡ string_bytes c.args.out.now ++ spelling (cases enum_type (plain_from labels)) (payload_value c.in-Enum-Case.index payload)) = search rules in
    let alike = enum_alike (g.W.Worded.words c.args.style.now.worded) labels c.in-Enum-Case.index payload in
    let same : spelling (cases enum_type (plain_from labels)) (payload_value c.in-Enum-Case.index payload) ≡ usual_by (g.W.Worded.words c.args.style.now.worded) (type_of c.args.ty.now) (value_of c.args.value.now) = search (rules, type_lemmas, value_lemmas, alike) in
    shows_all c.args.style.now.room (string_bytes c.args.out.now) (string_bytes c.put_enum.new.out) _ _ c.put_enum.result put same

pub put_usual-returns-in-List-List : goal.put_usual-returns-in-List-List
put_usual-returns-in-List-List g t c =
    let w = g.W.Worded.words c.args.style.now.worded in
    let element = c.in-List-List.element.value in
    let values = c.in-List-List.values.items in
    let texts = list_spelling (each (spelling_by w (type_of element)) (values_of values)) in
    let put : OnOk c.put_list.result (front c.args.style.now.room (string_bytes c.put_list.new.out) ≡ front c.args.style.now.room (string_bytes c.args.out.now ++ texts)) = search rules in
    let type_is : type_of c.args.ty.now ≡ list (type_of element) = search (rules, type_lemmas) in
    let value_is : value_of c.args.value.now ≡ elements (values_of values) = search (rules, value_lemmas) in
    let same : texts ≡ usual_by w (type_of c.args.ty.now) (value_of c.args.value.now) = rw (type_is, value_is) refl in
    shows_same c.args.style.now.room (string_bytes c.args.out.now) (string_bytes c.put_list.new.out) _ _ c.put_list.result put same

pub put_usual-returns-in-FixedList-Fields : goal.put_usual-returns-in-FixedList-Fields
put_usual-returns-in-FixedList-Fields g t c =
    let w = g.W.Worded.words c.args.style.now.worded in
    let element = c.in-FixedList-Fields.element.value in
    let values = c.in-FixedList-Fields.values.items in
    let texts = list_spelling (each (spelling_by w (type_of element)) (values_of values)) in
    let put : OnOk c.put_list-in-FixedList-Fields.result (front c.args.style.now.room (string_bytes c.put_list-in-FixedList-Fields.new.out) ≡ front c.args.style.now.room (string_bytes c.args.out.now ++ texts)) = search rules in
    let type_is : type_of c.args.ty.now ≡ fixed_list (type_of element) c.in-FixedList-Fields.length-0 = search (rules, type_lemmas) in
    let value_is : value_of c.args.value.now ≡ parts (values_of values) = search (rules, value_lemmas) in
    let same : texts ≡ usual_by w (type_of c.args.ty.now) (value_of c.args.value.now) = rw (type_is, value_is) refl in
    shows_same c.args.style.now.room (string_bytes c.args.out.now) (string_bytes c.put_list-in-FixedList-Fields.new.out) _ _ c.put_list-in-FixedList-Fields.result put same
