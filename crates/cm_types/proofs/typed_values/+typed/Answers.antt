use Rattle.std.proofs.Common.{◌∙◌, ap, sym}
use Rattle.std.proofs.lemmas.Str.{IsUtf8-had}
use Rattle.std.proofs.lemmas.Str.{scalars-chars}
use Rattle.std.specs.Str.{chars}
use Rattle.std.specs.String.{string_bytes}
use Rattle.cm_types.specs.TypeTrees.{type_of, field_of, case_of}
use Rattle.cm_types.specs.ValueTrees.{value_of, boxed_value}
use Rattle.cm_types.specs.Types.{variant_type}
use Rattle.cm_types.specs.TypedValues.{payload_has_type}
use Rattle.cm_types.proofs.TypedValueLemmas.{case_there, case_past, fields_unequal, parts_unequal, scalars_of_text, seen_String}
use Rattle.cm_types.proofs.typed_values.+typed.Goals as goal
use Rattle.cm_types.proofs.Seen.{seen_StringType, seen_case}

pub case_has_type-returns-in-None : goal.case_has_type-returns-in-None
case_has_type-returns-in-None t c = sym (case_past case_of variant_type c.args.variants.now c.args.index (boxed_value c.args.payload.now) c.in-None.ensures.lookup.3)

pub case_has_type-returns-in-Some : goal.case_has_type-returns-in-Some
case_has_type-returns-in-Some t c =
    let case = c.in-Some.case.now in
    c.payload_has_type.ensures ∙ (ap (λ o. payload_has_type o (boxed_value c.args.payload.now)) (sym (seen_case case))
    ∙ sym (case_there case_of variant_type c.args.variants.now c.args.index case (boxed_value c.args.payload.now) c.in-Some.ensures.lookup.3.0 c.in-Some.ensures.lookup.1))

pub fields_have_types-returns-then-fields-values : goal.fields_have_types-returns-then-fields-values
fields_have_types-returns-then-fields-values t c = fields_unequal field_of value_of c.args.fields.now c.args.values.now c.if-fields-values.true

pub parts_have_types-returns-then-parts-values : goal.parts_have_types-returns-then-parts-values
parts_have_types-returns-then-parts-values t c = parts_unequal type_of value_of c.args.parts.now c.args.values.now c.if-parts-values.true

pub node_has_type-returns-in-String-String : goal.node_has_type-returns-in-String-String
node_has_type-returns-in-String-String t c =
    let s = c.in-String-String.field-0-1 in
    rw (ap type_of c.in-String-String.is-0 ∙ seen_StringType, ap value_of c.in-String-String.is-1 ∙ seen_String s) (scalars_of_text (chars (string_bytes s)) (scalars-chars (string_bytes s) (IsUtf8-had (string_bytes s) s.ok)))
