use Rattle.std.proofs.Common.{rules, refl, ap, sym, ◌∙◌, ◌+◌, ◌<◌, drop, length, map}
use Rattle.std.proofs.lemmas.Result.{on_ok_weaker}
use Rattle.cm_layout.specs.Layouts.{layout_of, part_of, payload_of}
use Rattle.cm_layout.specs.Shapes.{parts_from}
use Rattle.cm_layout.specs.declared.heads.Head.{Head}
use Rattle.cm_layout.specs.declared.layouts.Form.{the_lemmas}
use Rattle.cm_types.specs.ValueTrees.{value_of, values_of}
use Rattle.cm_abi_model.specs.Parts.{parts_each}
use Rattle.cm_abi_requests.specs.Asking.{AreSmall, Asking, ask_by, ask_part, asking_of, parts_by, parts_by_fields, parts_by_payload}
use Rattle.cm_abi_requests.proofs.AskingLemmas.{case_past, case_there, count_values, each_next, fields_next, list_part, small_parts, turn}
use Rattle.cm_abi_requests.proofs.SeenLayouts.{enum_has_none}
use Rattle.cm_abi_requests.proofs.asking.+asking.Goals as goal
use Rattle.cm_layout.proofs.LayoutLemmas.{seen_head}

pub ask-returns-in-Enum-default : goal.ask-returns-in-Enum-default
ask-returns-in-Enum-default t c = rw (enum_has_none c.args.layout.now _ _ (value_of c.args.value.now) c.in-Enum-default.is-0) refl

pub ask_case-ask_payload-requires : goal.ask_case-ask_payload-requires
ask_case-ask_payload-requires t c =
    let lt : c.args.index < length c.args.payloads.now = c.in-Some.ensures.lookup.3.0 in
    let small : AreSmall c.args.to.now.source (asking_of c.args.to.now c.args.asked.now).tags (parts_by_payload (payload_of c.in-Some.payload.now) (value_of c.args.value.now)) =
    rw (case_there payload_of c.args.payloads.now c.args.index (value_of c.args.value.now) c.in-Some.payload.now lt c.in-Some.ensures.lookup.1) at c.requires.small in
    (search (rules, the_lemmas, lt), search (rules, the_lemmas, small))

pub ask_case-returns-in-Some : goal.ask_case-returns-in-Some
ask_case-returns-in-Some t c =
    rw (case_there payload_of c.args.payloads.now c.args.index (value_of c.args.value.now) c.in-Some.payload.now c.in-Some.ensures.lookup.3.0 c.in-Some.ensures.lookup.1) c.ask_payload.ensures

pub ask_case-returns-in-None : goal.ask_case-returns-in-None
ask_case-returns-in-None t c = rw (case_past payload_of c.args.payloads.now c.args.index (value_of c.args.value.now) c.in-None.ensures.lookup.3) refl

pub ask_each-ask-requires : goal.ask_each-ask-requires
ask_each-ask-requires t c =
    let now = asking_of c.args.to.now c.loop-value.asked in
    let next = each_next c.args.to.now.source c.args.to.now.target (parts_by (layout_of c.args.element.now).shape) c.args.values.now c.loop-value.value-index c.value-item.result now _ c.loop-value-test.true c.value-item.is c.loop-value.invariant in
    let small : AreSmall c.args.to.now.source (asking_of c.args.to.now c.loop-value.asked).tags (parts_by (layout_of c.args.element.now).shape (value_of c.value-item.result)) =
    (small_parts c.args.to.now.source c.args.to.now.target (parts_by (layout_of c.args.element.now).shape (value_of c.value-item.result)) (parts_each (parts_by (layout_of c.args.element.now).shape) (values_of (drop (c.loop-value.value-index + 1) c.args.values.now))) now next.0).0 in
    (search (rules, the_lemmas), search (rules, the_lemmas, small))

pub ask_each-loop-value-preserved : goal.ask_each-loop-value-preserved
ask_each-loop-value-preserved t c =
    let now = asking_of c.args.to.now c.loop-value.asked in
    let next = each_next c.args.to.now.source c.args.to.now.target (parts_by (layout_of c.args.element.now).shape) c.args.values.now c.loop-value.value-index c.value-item.result now _ c.loop-value-test.true c.value-item.is c.loop-value.invariant in
    turn c.args.to.now.source c.args.to.now.target (parts_by (layout_of c.args.element.now).shape (value_of c.value-item.result)) (parts_each (parts_by (layout_of c.args.element.now).shape) (values_of (drop (c.loop-value.value-index + 1) c.args.values.now)))
    now (asking_of c.args.to.now c.ask.new.asked) _ c.in_ok-ask.ensures next

pub ask_fields-ask_field-requires : goal.ask_fields-ask_field-requires
ask_fields-ask_field-requires t c =
    let now = asking_of c.args.to.now c.loop-i.asked in
    let lt : c.loop-i.i < length c.args.values.now = search rules in
    let next = fields_next c.args.to.now.source c.args.to.now.target c.args.parts.now c.args.values.now c.loop-i.i c.index-parts-i.result c.index-values-i.result now _ c.loop-i-test.true c.index-parts-i.is lt c.index-values-i.is c.loop-i.invariant in
    let small : AreSmall c.args.to.now.source (asking_of c.args.to.now c.loop-i.asked).tags (parts_by (part_of c.index-parts-i.result).1.shape (value_of c.index-values-i.result)) =
    (small_parts c.args.to.now.source c.args.to.now.target (parts_by (part_of c.index-parts-i.result).1.shape (value_of c.index-values-i.result)) (parts_by_fields (parts_from (map part_of (drop (c.loop-i.i + 1) c.args.parts.now))) (values_of (drop (c.loop-i.i + 1) c.args.values.now))) now next.0).0 in
    (search (rules, the_lemmas), search (rules, the_lemmas, small))

pub ask_fields-loop-i-preserved : goal.ask_fields-loop-i-preserved
ask_fields-loop-i-preserved t c =
    let now = asking_of c.args.to.now c.loop-i.asked in
    let lt : c.loop-i.i < length c.args.values.now = search rules in
    let next = fields_next c.args.to.now.source c.args.to.now.target c.args.parts.now c.args.values.now c.loop-i.i c.index-parts-i.result c.index-values-i.result now _ c.loop-i-test.true c.index-parts-i.is lt c.index-values-i.is c.loop-i.invariant in
    turn c.args.to.now.source c.args.to.now.target (parts_by (part_of c.index-parts-i.result).1.shape (value_of c.index-values-i.result)) (parts_by_fields (parts_from (map part_of (drop (c.loop-i.i + 1) c.args.parts.now))) (values_of (drop (c.loop-i.i + 1) c.args.values.now)))
    now (asking_of c.args.to.now c.ask_field.new.asked) _ c.in_ok-ask_field.ensures next

pub ask_list-ask_elements-requires : goal.ask_list-ask_elements-requires
ask_list-ask_elements-requires t c =
    let size_is = ap (λ (h : Head). h.size) (sym (seen_head c.args.element.now)) in
    record { small = rw (sym (count_values c.args.values.now), size_is) c.requires.small.0 }

pub ask_list-returns : goal.ask_list-returns
ask_list-returns t c =
    on_ok_weaker c.ask_each.result (λ done. done ∙ ap (λ (s : Asking). ask_by c.args.to.now (parts_each (parts_by (layout_of c.args.element.now).shape) (values_of c.args.values.now)) s)
    (c.in_ok-ask_elements.ensures ∙ ap (λ p. ask_part c.args.to.now.source c.args.to.now.target p (asking_of c.args.to.now c.args.asked.now)) (list_part c.args.values.now _ (layout_of c.args.element.now) (seen_head c.args.element.now)))) c.ask_each.ensures
