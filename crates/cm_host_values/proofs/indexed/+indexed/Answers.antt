use Rattle.std.proofs.Common.{◌≡◌, ◌∙◌, map, refl, sym, ap}
use Rattle.std.proofs.lemmas.Result.{IfOk-weaker}
use Rattle.cm_types.specs.Types.{fields, cases, record_type, tuple_type, variant_type, enum_type}
use Rattle.cm_types.specs.TypeTrees.{case_of, field_of, type_of, fields_from, parts_from, cases_from}
use Rattle.cm_types.proofs.Seen.{seen_Enum, seen_Record, seen_Tuple, seen_Variant}
use Rattle.cm_host_values.specs.Indexed.{indexed, indexed_case, indexed_field}
use Rattle.cm_host_values.proofs.IndexedLemmas.{fields_by, parts_by, cases_by, plain_by}
use Rattle.cm_host_values.proofs.indexed.+indexed.Goals as goal

pub indexed_node-returns-in_ok-new-in-Record : goal.indexed_node-returns-in_ok-new-in-Record
indexed_node-returns-in_ok-new-in-Record t c =
    let old = c.in-Record.fields.value.items in
    let new = c.in_ok-new-in-Record.field-0 in
    let each = rw (c.deref-in-Record-2.ensures.value, c.deref-in-Record.ensures) at c.in_ok-indexed_fields-in-Record.ensures in
    let made : map field_of new.value.items ≡ map indexed_field (map field_of old) = cc (each, c.in_ok-new-in-Record.ensures.ok) in
    seen_Record new ∙ ap (fields record_type) (ap fields_from made ∙ fields_by (map field_of old)) ∙ sym (ap indexed (ap type_of c.in-Record.is ∙ seen_Record c.in-Record.fields))

pub indexed_node-returns-in_ok-new-in-Tuple : goal.indexed_node-returns-in_ok-new-in-Tuple
indexed_node-returns-in_ok-new-in-Tuple t c =
    let old = c.in-Tuple.parts.value.items in
    let new = c.in_ok-new-in-Tuple.field-0 in
    let each = rw (c.deref-in-Tuple-2.ensures.value, c.deref-in-Tuple.ensures) at c.in_ok-indexed_parts-in-Tuple.ensures in
    let made : map type_of new.value.items ≡ map indexed (map type_of old) = cc (each, c.in_ok-new-in-Tuple.ensures.ok) in
    seen_Tuple new ∙ ap (fields tuple_type) (ap parts_from made ∙ parts_by (map type_of old)) ∙ sym (ap indexed (ap type_of c.in-Tuple.is ∙ seen_Tuple c.in-Tuple.parts))

pub indexed_node-returns-in_ok-new-in-Variant : goal.indexed_node-returns-in_ok-new-in-Variant
indexed_node-returns-in_ok-new-in-Variant t c =
    let old = c.in-Variant.cases.value.items in
    let new = c.in_ok-new-in-Variant.field-0 in
    let each = rw (c.deref-in-Variant-2.ensures.value, c.deref-in-Variant.ensures) at c.in_ok-indexed_cases-in-Variant.ensures in
    let made : map case_of new.value.items ≡ map indexed_case (map case_of old) = cc (each, c.in_ok-new-in-Variant.ensures.ok) in
    seen_Variant new ∙ ap (cases variant_type) (ap cases_from made ∙ cases_by (map case_of old)) ∙ sym (ap indexed (ap type_of c.in-Variant.is ∙ seen_Variant c.in-Variant.cases))

pub indexed_node-returns-in-Enum : goal.indexed_node-returns-in-Enum
indexed_node-returns-in-Enum t c =
    let e = ap type_of c.in-Enum.is ∙ seen_Enum c.in-Enum.field-0 in
    IfOk-weaker c.share.result (λ node. type_of node ≡ type_of c.args.ty.now) (λ node. type_of node ≡ indexed (type_of c.args.ty.now))
    (λ node h. h ∙ e ∙ ap (cases enum_type) (sym (plain_by c.in-Enum.field-0.value.items)) ∙ sym (ap indexed e)) c.share.ensures
