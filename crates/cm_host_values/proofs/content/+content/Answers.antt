use Rattle.std.proofs.Common.{◌≡◌, ◌∷◌, ◌+◌, ◌<◌, [], length, drop, refl, sym, ap, rules, arith, ◌∙◌, add-one, drop-cons}
use Rattle.std.proofs.lemmas.List.{drop_all}
use Rattle.cm_types.specs.ValueTrees.{value_of, values_of}
use Rattle.cm_layout.specs.Layouts.{layout_of, payload_of}
use Rattle.cm_abi_model.specs.Parts.{parts_each}
use Rattle.cm_abi_requests.specs.Asking.{parts_by}
use Rattle.cm_abi_requests.proofs.AskingLemmas.{case_past, case_there}
use Rattle.cm_abi_requests.proofs.SeenLayouts.{enum_has_none}
use Rattle.cm_layout.specs.declared.layouts.Layout.{Layout}
use Rattle.cm_layout.specs.Layouts.{shape_of}
use Rattle.cm_layout.specs.Shapes.{list_shape}
use Rattle.cm_layout.proofs.LayoutLemmas.{seen_form_List, seen_head}
use Rattle.cm_layout.proofs.LayoutsLaws.{seen_shape}
use Rattle.cm_types.specs.Values.{elements}
use Rattle.cm_host_values.specs.Content.{content_in}
use Rattle.cm_host_values.proofs.ContentLaws.{each_content, fields_content, list_left, list_too_large, seen_List}
use Rattle.cm_host_values.proofs.content.+content.Goals as goal

pub left_after_each-loop-value-preserved : goal.left_after_each-loop-value-preserved
left_after_each-loop-value-preserved t c =
    let P = parts_by (layout_of c.args.element.now).shape in
    let i = c.loop-value.value-index in
    let vs = c.args.values.now in
    let x = c.value-item.result in
    let lt : i < length vs = c.loop-value-test.true in
    let next : drop i vs ≡ x ∷ drop (i + 1) vs = rw (add-one, drop-cons vs i x lt, ← c.value-item.is) refl in
    let sum = each_content P vs i x next in
    let so_far = c.loop-value.invariant in
    let one = c.in_ok-rest.ensures in
    omega (arith, sum, so_far, one)

pub left_after_each-returns-in_err-rest : goal.left_after_each-returns-in_err-rest
left_after_each-returns-in_err-rest t c =
    let P = parts_by (layout_of c.args.element.now).shape in
    let i = c.loop-value.value-index in
    let vs = c.args.values.now in
    let x = c.value-item.result in
    let lt : i < length vs = c.loop-value-test.true in
    let next : drop i vs ≡ x ∷ drop (i + 1) vs = rw (add-one, drop-cons vs i x lt, ← c.value-item.is) refl in
    let sum = each_content P vs i x next in
    let so_far = c.loop-value.invariant in
    let one = c.in_err-rest.ensures in
    rw c.from_residual.ensures (omega (arith, sum, so_far, one))

pub left_after_each-returns : goal.left_after_each-returns
left_after_each-returns t c =
    let P = parts_by (layout_of c.args.element.now).shape in
    let vs = c.args.values.now in
    let none : drop c.loop-value.value-index vs ≡ [] = drop_all c.loop-value.value-index vs c.loop-value-test.false in
    let zero : content_in (parts_each P (values_of (drop c.loop-value.value-index vs))) ≡ 0 = rw none refl in
    let so_far = c.loop-value.invariant in
    omega (arith, zero, so_far)

pub left_after_fields-loop-i-preserved : goal.left_after_fields-loop-i-preserved
left_after_fields-loop-i-preserved t c =
    let i = c.loop-i.i in
    let ls = c.args.row.now in
    let vs = c.args.values.now in
    let l = c.index-row-i.result in
    let x = c.index-values-i.result in
    let lt : i < length vs = search rules in
    let next : drop i ls ≡ l ∷ drop (i + 1) ls = rw (add-one, drop-cons ls i l c.loop-i-test.true, ← c.index-row-i.is) refl in
    let after : drop i vs ≡ x ∷ drop (i + 1) vs = rw (add-one, drop-cons vs i x lt, ← c.index-values-i.is) refl in
    let sum = fields_content ls vs i l x next after in
    let so_far = c.loop-i.invariant in
    let one = c.in_ok-rest.ensures in
    omega (arith, sum, so_far, one)

pub left_after_fields-returns-in_err-rest : goal.left_after_fields-returns-in_err-rest
left_after_fields-returns-in_err-rest t c =
    let i = c.loop-i.i in
    let ls = c.args.row.now in
    let vs = c.args.values.now in
    let l = c.index-row-i.result in
    let x = c.index-values-i.result in
    let lt : i < length vs = search rules in
    let next : drop i ls ≡ l ∷ drop (i + 1) ls = rw (add-one, drop-cons ls i l c.loop-i-test.true, ← c.index-row-i.is) refl in
    let after : drop i vs ≡ x ∷ drop (i + 1) vs = rw (add-one, drop-cons vs i x lt, ← c.index-values-i.is) refl in
    let sum = fields_content ls vs i l x next after in
    let so_far = c.loop-i.invariant in
    let one = c.in_err-rest.ensures in
    rw c.from_residual.ensures (omega (arith, sum, so_far, one))

pub left_after_case-returns-in-Some : goal.left_after_case-returns-in-Some
left_after_case-returns-in-Some t c =
    rw (case_there payload_of c.args.payloads.now c.args.index (value_of c.args.value.now) c.in-Some.payload.now c.in-Some.ensures.lookup.3.0 c.in-Some.ensures.lookup.1) c.left_after_payload.ensures

pub left_after_case-returns-in-None : goal.left_after_case-returns-in-None
left_after_case-returns-in-None t c = rw (case_past payload_of c.args.payloads.now c.args.index (value_of c.args.value.now) c.in-None.ensures.lookup.3) (omega arith)

pub left_after-returns-in-List-List : goal.left_after-returns-in-List-List
left_after-returns-in-List-List t c =
    let shape_is : (layout_of c.args.layout.now).shape ≡ list_shape (layout_of c.deref.result.now).head (layout_of c.deref.result.now).shape =
    seen_shape c.args.layout.now ∙ (ap shape_of c.in-List-List.is-0 ∙ (seen_form_List c.in-List-List.element ∙ ap (λ (l : Layout). list_shape (layout_of l).head (layout_of l).shape) (sym c.deref.ensures))) in
    let value_is : value_of c.args.value.now ≡ elements (values_of c.deref-in-List-List.result.now) =
    ap value_of c.in-List-List.is-1 ∙ (seen_List c.in-List-List.values ∙ ap (λ vs. elements (values_of vs)) (sym c.deref-in-List-List.ensures.value)) in
    rw (shape_is, value_is) c.left_after_list.ensures

pub left_after-returns-in-Enum-default : goal.left_after-returns-in-Enum-default
left_after-returns-in-Enum-default t c = rw (enum_has_none c.args.layout.now _ _ (value_of c.args.value.now) c.in-Enum-default.is-0) (omega arith)

pub left_after_list-returns-then-bytes-from : goal.left_after_list-returns-then-bytes-from
left_after_list-returns-then-bytes-from t c =
    let size = ap (λ h. h.size) (seen_head c.args.element.now) ∙ sym c.from.ensures in
    list_too_large (layout_of c.args.element.now) c.args.values.now c.from.result c.args.left c.from-2.result size c.from-2.ensures c.if-bytes-from.true

pub left_after_list-returns : goal.left_after_list-returns
left_after_list-returns t c =
    let size = ap (λ h. h.size) (seen_head c.args.element.now) ∙ sym c.from.ensures in
    list_left (layout_of c.args.element.now) c.args.values.now c.from.result c.args.left c.from-2.result c.left_after_each.result size c.from-2.ensures c.if-bytes-from.false c.left_after_each.ensures
