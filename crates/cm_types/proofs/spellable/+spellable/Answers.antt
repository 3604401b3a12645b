use Rattle.std.proofs.Common.{◌≡◌, ◌+◌, ◌<◌, ◌∙◌, ◌&&◌, Bool, [], ◌∷◌, List, length, drop, refl, sym, ap, add-one, drop-cons, codes}
use Rattle.std.specs.Option.{option_map}
use Rattle.std.proofs.lemmas.List.{drop_all}
use Rattle.cm_types.specs.TypeTrees.{type_of, case_of, shared_payload, fields_of, parts_of, cases_of}
use Rattle.cm_types.specs.Spellable.{has_no_fields, has_no_cases, is_spellable, is_spellable_payload, are_spellable, are_spellable_payloads}
use Rattle.cm_types.specs.declared.type_trees.TypeNode.{TypeNode}
use Rattle.cm_types.specs.declared.type_trees.Field.{Field}
use Rattle.cm_types.specs.declared.type_trees.Case.{Case}
use Rattle.cm_types.proofs.Seen.{seen_field, seen_case, seen_Record, seen_Tuple, seen_Variant, seen_Enum, seen_Result}
use Rattle.cm_types.proofs.SpellableLemmas.{before_spellable, then_not, else_not, then_and, else_and, result_spelled, enum_spellable}
use Rattle.cm_types.proofs.spellable.+spellable.Goals as goal

pub is_spellable-returns-in-Enum : goal.is_spellable-returns-in-Enum
is_spellable-returns-in-Enum t c =
    rw (ap type_of c.in-Enum.is ∙ seen_Enum c.in-Enum.labels)
    (enum_spellable c.has_no_labels.result c.deref-in-Enum-2.result.now c.in-Enum.labels.value.items c.has_no_labels.ensures
    (c.deref-in-Enum-2.ensures.value ∙ ap (λ v. v.items) c.deref-in-Enum.ensures))

pub are_spellable-returns-then-not-is_spellable : goal.are_spellable-returns-then-not-is_spellable
are_spellable-returns-then-not-is_spellable t c =
    let i = c.loop-field.field-index in
    let row = c.args.fields.now in
    let x = c.field-item.result in
    let lt : i < length row = c.loop-field-test.true in
    let next : drop i row ≡ x ∷ drop (i + 1) row = rw (add-one, drop-cons row i x lt, ← c.field-item.is) refl in
    let no = ap is_spellable (seen_field x) ∙ sym c.is_spellable.ensures ∙ c.if-not-is_spellable.true in
    sym (sym c.loop-field.invariant ∙ ap (λ (xs : List Field). are_spellable (fields_of xs)) next ∙ ap (λ (b : Bool). b && are_spellable (fields_of (drop (i + 1) row))) no)

pub are_spellable-loop-field-preserved : goal.are_spellable-loop-field-preserved
are_spellable-loop-field-preserved t c =
    let i = c.loop-field.field-index in
    let row = c.args.fields.now in
    let x = c.field-item.result in
    let lt : i < length row = c.loop-field-test.true in
    let next : drop i row ≡ x ∷ drop (i + 1) row = rw (add-one, drop-cons row i x lt, ← c.field-item.is) refl in
    let yes = ap is_spellable (seen_field x) ∙ sym c.is_spellable.ensures ∙ c.if-not-is_spellable.false in
    sym (ap (λ (xs : List Field). are_spellable (fields_of xs)) next ∙ ap (λ (b : Bool). b && are_spellable (fields_of (drop (i + 1) row))) yes) ∙ c.loop-field.invariant

pub are_spellable-returns : goal.are_spellable-returns
are_spellable-returns t c =
    let row = c.args.fields.now in
    let none : drop c.loop-field.field-index row ≡ [] = drop_all c.loop-field.field-index row c.loop-field-test.false in
    sym (ap (λ (xs : List Field). are_spellable (fields_of xs)) none) ∙ c.loop-field.invariant

pub are_spellable_parts-returns-then-not-is_spellable : goal.are_spellable_parts-returns-then-not-is_spellable
are_spellable_parts-returns-then-not-is_spellable t c =
    let i = c.loop-part.part-index in
    let row = c.args.parts.now in
    let x = c.part-item.result in
    let lt : i < length row = c.loop-part-test.true in
    let next : drop i row ≡ x ∷ drop (i + 1) row = rw (add-one, drop-cons row i x lt, ← c.part-item.is) refl in
    let no = sym c.is_spellable.ensures ∙ c.if-not-is_spellable.true in
    sym (sym c.loop-part.invariant ∙ ap (λ (xs : List TypeNode). are_spellable (parts_of xs)) next ∙ ap (λ (b : Bool). b && are_spellable (parts_of (drop (i + 1) row))) no)

pub are_spellable_parts-loop-part-preserved : goal.are_spellable_parts-loop-part-preserved
are_spellable_parts-loop-part-preserved t c =
    let i = c.loop-part.part-index in
    let row = c.args.parts.now in
    let x = c.part-item.result in
    let lt : i < length row = c.loop-part-test.true in
    let next : drop i row ≡ x ∷ drop (i + 1) row = rw (add-one, drop-cons row i x lt, ← c.part-item.is) refl in
    let yes = sym c.is_spellable.ensures ∙ c.if-not-is_spellable.false in
    sym (ap (λ (xs : List TypeNode). are_spellable (parts_of xs)) next ∙ ap (λ (b : Bool). b && are_spellable (parts_of (drop (i + 1) row))) yes) ∙ c.loop-part.invariant

pub are_spellable_parts-returns : goal.are_spellable_parts-returns
are_spellable_parts-returns t c =
    let row = c.args.parts.now in
    let none : drop c.loop-part.part-index row ≡ [] = drop_all c.loop-part.part-index row c.loop-part-test.false in
    sym (ap (λ (xs : List TypeNode). are_spellable (parts_of xs)) none) ∙ c.loop-part.invariant

pub are_spellable_payloads-returns : goal.are_spellable_payloads-returns
are_spellable_payloads-returns t c =
    let row = c.args.cases.now in
    let none : drop c.loop-case.case-index row ≡ [] = drop_all c.loop-case.case-index row c.loop-case-test.false in
    sym (ap (λ (xs : List Case). are_spellable_payloads (cases_of xs)) none) ∙ c.loop-case.invariant

pub is_spellable-returns-then-not-has_no_fields : goal.is_spellable-returns-then-not-has_no_fields
is_spellable-returns-then-not-has_no_fields t c =
    let row = fields_of c.in-Record.fields.value.items in
    let is = ap type_of c.in-Record.is ∙ seen_Record c.in-Record.fields in
    let none = rw (c.deref-in-Record-2.ensures.value, c.deref-in-Record.ensures) at c.has_no_fields.ensures in
    let all = rw (c.deref-then-not-has_no_fields-2.ensures.value, c.deref-then-not-has_no_fields.ensures) at c.are_spellable.ensures in
    then_not c.are_spellable.result c.has_no_fields.result (has_no_fields row) (are_spellable row) none c.if-not-has_no_fields.true all ∙ sym (ap is_spellable is)

pub is_spellable-returns-else-not-has_no_fields : goal.is_spellable-returns-else-not-has_no_fields
is_spellable-returns-else-not-has_no_fields t c =
    let row = fields_of c.in-Record.fields.value.items in
    let is = ap type_of c.in-Record.is ∙ seen_Record c.in-Record.fields in
    let none = rw (c.deref-in-Record-2.ensures.value, c.deref-in-Record.ensures) at c.has_no_fields.ensures in
    else_not c.has_no_fields.result (has_no_fields row) (are_spellable row) none c.if-not-has_no_fields.false ∙ sym (ap is_spellable is)

pub is_spellable-returns-then-not-has_no_parts : goal.is_spellable-returns-then-not-has_no_parts
is_spellable-returns-then-not-has_no_parts t c =
    let row = parts_of c.in-Tuple.parts.value.items in
    let is = ap type_of c.in-Tuple.is ∙ seen_Tuple c.in-Tuple.parts in
    let none = rw (c.deref-in-Tuple-2.ensures.value, c.deref-in-Tuple.ensures) at c.has_no_parts.ensures in
    let all = rw (c.deref-then-not-has_no_parts-2.ensures.value, c.deref-then-not-has_no_parts.ensures) at c.are_spellable_parts.ensures in
    then_not c.are_spellable_parts.result c.has_no_parts.result (has_no_fields row) (are_spellable row) none c.if-not-has_no_parts.true all ∙ sym (ap is_spellable is)

pub is_spellable-returns-else-not-has_no_parts : goal.is_spellable-returns-else-not-has_no_parts
is_spellable-returns-else-not-has_no_parts t c =
    let row = parts_of c.in-Tuple.parts.value.items in
    let is = ap type_of c.in-Tuple.is ∙ seen_Tuple c.in-Tuple.parts in
    let none = rw (c.deref-in-Tuple-2.ensures.value, c.deref-in-Tuple.ensures) at c.has_no_parts.ensures in
    else_not c.has_no_parts.result (has_no_fields row) (are_spellable row) none c.if-not-has_no_parts.false ∙ sym (ap is_spellable is)

pub is_spellable-returns-then-not-has_no_cases : goal.is_spellable-returns-then-not-has_no_cases
is_spellable-returns-then-not-has_no_cases t c =
    let row = cases_of c.in-Variant.cases.value.items in
    let is = ap type_of c.in-Variant.is ∙ seen_Variant c.in-Variant.cases in
    let none = rw (c.deref-in-Variant-2.ensures.value, c.deref-in-Variant.ensures) at c.has_no_cases.ensures in
    let all = rw (c.deref-then-not-has_no_cases-2.ensures.value, c.deref-then-not-has_no_cases.ensures) at c.are_spellable_payloads.ensures in
    then_not c.are_spellable_payloads.result c.has_no_cases.result (has_no_cases row) (are_spellable_payloads row) none c.if-not-has_no_cases.true all ∙ sym (ap is_spellable is)

pub is_spellable-returns-else-not-has_no_cases : goal.is_spellable-returns-else-not-has_no_cases
is_spellable-returns-else-not-has_no_cases t c =
    let row = cases_of c.in-Variant.cases.value.items in
    let is = ap type_of c.in-Variant.is ∙ seen_Variant c.in-Variant.cases in
    let none = rw (c.deref-in-Variant-2.ensures.value, c.deref-in-Variant.ensures) at c.has_no_cases.ensures in
    else_not c.has_no_cases.result (has_no_cases row) (are_spellable_payloads row) none c.if-not-has_no_cases.false ∙ sym (ap is_spellable is)

pub is_spellable-returns-then-is_spellable_payload : goal.is_spellable-returns-then-is_spellable_payload
is_spellable-returns-then-is_spellable_payload t c =
    let p = shared_payload c.in-Result.ok in
    let q = shared_payload c.in-Result.error in
    let is = ap is_spellable (ap type_of c.in-Result.is ∙ seen_Result c.in-Result.ok c.in-Result.error) ∙ result_spelled (codes "ok") (codes "error") p q in
    then_and c.is_spellable_payload-then-is_spellable_payload.result c.is_spellable_payload.result (is_spellable_payload p) (is_spellable_payload q) c.is_spellable_payload.ensures c.if-is_spellable_payload.true c.is_spellable_payload-then-is_spellable_payload.ensures ∙ sym is

pub is_spellable-returns-else-is_spellable_payload : goal.is_spellable-returns-else-is_spellable_payload
is_spellable-returns-else-is_spellable_payload t c =
    let p = shared_payload c.in-Result.ok in
    let q = shared_payload c.in-Result.error in
    let is = ap is_spellable (ap type_of c.in-Result.is ∙ seen_Result c.in-Result.ok c.in-Result.error) ∙ result_spelled (codes "ok") (codes "error") p q in
    else_and c.is_spellable_payload.result (is_spellable_payload p) (is_spellable_payload q) c.is_spellable_payload.ensures c.if-is_spellable_payload.false ∙ sym is

pub are_spellable_payloads-returns-then-not-is_spellable : goal.are_spellable_payloads-returns-then-not-is_spellable
are_spellable_payloads-returns-then-not-is_spellable t c =
    let i = c.loop-case.case-index in
    let row = c.args.cases.now in
    let x = c.case-item.result in
    let lt : i < length row = c.loop-case-test.true in
    let next : drop i row ≡ x ∷ drop (i + 1) row = rw (add-one, drop-cons row i x lt, ← c.case-item.is) refl in
    let rest = cases_of (drop (i + 1) row) in
    let no = ap is_spellable_payload (seen_case x ∙ ap (option_map type_of) c.in-Some.is) ∙ sym c.is_spellable.ensures ∙ c.if-not-is_spellable.true in
    sym (sym c.loop-case.invariant ∙ ap (λ (xs : List Case). are_spellable_payloads (cases_of xs)) next ∙ before_spellable (case_of x).0 (case_of x).1 rest ∙ ap (λ (b : Bool). b && are_spellable_payloads rest) no)
