use Rattle.std.proofs.Common.{rules, refl, ap, sym, ◌∙◌, ◌≡◌, ◌+◌, ◌-◌, ◌<◌, ◌≤◌, suc, arith, length, map, drop, List}
use Rattle.cm_types.specs.Values.{val}
use Rattle.cm_layout.specs.Layouts.{layout_of, part_of, payload_of, shape_of}
use Rattle.cm_layout.specs.Shapes.{cases_shape, fields_shape, parts_from, payloads_from}
use Rattle.cm_layout.specs.declared.heads.Head.{Head}
use Rattle.cm_layout.specs.declared.layouts.Form.{the_lemmas}
use Rattle.cm_layout.specs.declared.layouts.Part.{Part}
use Rattle.cm_layout.specs.declared.layouts.Payload.{Payload}
use Rattle.cm_abi_model.specs.Parts.{handle_count_each, part_count_each}
use Rattle.cm_abi_model.specs.Stores.{poke}
use Rattle.cm_abi_store.specs.FlatLowering.{IsPassedIn, PayloadIsPassed, behind_by, slots_by}
use Rattle.cm_abi_store.specs.Storing.{given_of}
use Rattle.cm_abi_store.specs.Sources.{IsCarriedReady, field_before}
use Rattle.cm_abi_store.specs.WalkLaws.{case_handles, case_parts, next_handles, next_parts, next_stored, parts_next, payload_is, payload_past, row_inside, step_on}
use Rattle.cm_abi_lower.proofs.WalkLemmas.{PartsPass, behind_passed, case_passed, field_behind, field_passed, next_behind, parts_pass, payload_passes}
use Rattle.cm_abi_lower.proofs.passing.+passing.Goals as goal
use Rattle.cm_layout.proofs.LayoutLemmas.{seen_form_Cases, seen_form_Fields, seen_head}
use Rattle.cm_layout.proofs.LayoutsLaws.{seen_shape}

pub pass_value-pass_record-requires : goal.pass_value-pass_record-requires
pass_value-pass_record-requires g t c κs within =
    let parts = c.deref-in-Fields-2.result.now in
    let shape_is : (layout_of c.args.layout.now).shape ≡ fields_shape (parts_from (map part_of parts)) =
    seen_shape c.args.layout.now ∙ (ap shape_of c.in-Fields.is ∙ (seen_form_Fields c.in-Fields.parts ∙ ap (λ (ps : List Part). fields_shape (parts_from (map part_of ps))) (search (rules, the_lemmas)))) in
    let ready : g.S.ValueSource.ready c.args.source (length c.args.memory.now) (given_of c.args.to.now) (layout_of c.args.layout.now).head (fields_shape (parts_from (map part_of parts))) c.args.next.now.part c.args.next.now.handle = rw shape_is at c.requires.ready in
    (search (rules, the_lemmas), search (rules, the_lemmas, ready))

pub pass_value-pass_case-requires : goal.pass_value-pass_case-requires
pass_value-pass_case-requires g t c κs within =
    let payloads = c.deref-in-Cases-2.result.now in
    let d = c.in-Cases.discriminant in
    let o = c.in-Cases.offset in
    let shape_is : (layout_of c.args.layout.now).shape ≡ cases_shape d o (payloads_from (map payload_of payloads)) =
    seen_shape c.args.layout.now ∙ (ap shape_of c.in-Cases.is ∙ (seen_form_Cases d o c.in-Cases.payloads ∙ ap (λ (ps : List Payload). cases_shape d o (payloads_from (map payload_of ps))) (search (rules, the_lemmas)))) in
    let ready : g.S.ValueSource.ready c.args.source (length c.args.memory.now) (given_of c.args.to.now) (layout_of c.args.layout.now).head (cases_shape d o (payloads_from (map payload_of payloads))) c.args.next.now.part c.args.next.now.handle = rw shape_is at c.requires.ready in
    (search (rules, the_lemmas), search (rules, the_lemmas, ready))

pub pass_row-next_element-source-requires : goal.pass_row-next_element-source-requires
pass_row-next_element-source-requires g t c =
    let lt = c.loop-test.true in
    let more : c.args.count - c.loop.counter ≡ suc (c.args.count - (c.loop.counter + 1)) = omega (arith, lt) in
    let ready : g.S.ValueSource.values_ready c.loop.rest (length c.args.memory.now) (given_of c.args.to.now) (layout_of c.args.element.now).head (layout_of c.args.element.now).shape (suc (c.args.count - (c.loop.counter + 1))) c.loop.next.part c.loop.next.handle = rw more at c.loop.invariant.3 in
    (length c.args.memory.now, given_of c.args.to.now, c.args.count - (c.loop.counter + 1), c.loop.next.part, c.loop.next.handle, ready)

pub pass_row-pass_value-requires : goal.pass_row-pass_value-requires
pass_row-pass_value-requires g t c κs within =
    let lt = c.loop-test.true in
    let more : c.args.count - c.loop.counter ≡ suc (c.args.count - (c.loop.counter + 1)) = omega (arith, lt) in
    let ready : g.S.ValueSource.values_ready c.loop.rest (length c.args.memory.now) (given_of c.args.to.now) (layout_of c.args.element.now).head (layout_of c.args.element.now).shape (suc (c.args.count - (c.loop.counter + 1))) c.loop.next.part c.loop.next.handle = rw more at c.loop.invariant.3 in
    let told = c.next_element-source.ensures (length c.args.memory.now) (given_of c.args.to.now) (c.args.count - (c.loop.counter + 1)) c.loop.next.part c.loop.next.handle ready in
    let one : g.S.ValueSource.ready c.next_element-source.result (length c.loop.memory) (given_of c.args.to.now) (layout_of c.args.element.now).head (layout_of c.args.element.now).shape c.loop.next.part c.loop.next.handle =
    rw c.loop.invariant.0 told.1 in
    let inside : c.loop.slot + (layout_of c.args.element.now).head.width ≤ length c.loop.slots =
    rw c.loop.invariant.1 (row_inside (length c.args.slots.now) c.args.at c.args.count c.loop.counter (layout_of c.args.element.now).head.width c.loop.slot lt c.loop.invariant.2 c.requires.inside) in
    (search (rules, the_lemmas), search (rules, the_lemmas, inside, one))

pub pass_row-loop-preserved : goal.pass_row-loop-preserved
pass_row-loop-preserved g t c =
    let e = layout_of c.args.element.now in
    let lt = c.loop-test.true in
    let step = ap (λ (h : Head). h.width) (sym (seen_head c.args.element.now)) in
    let more : c.args.count - c.loop.counter ≡ suc (c.args.count - (c.loop.counter + 1)) = omega (arith, lt) in
    let ready : g.S.ValueSource.values_ready c.loop.rest (length c.args.memory.now) (given_of c.args.to.now) (layout_of c.args.element.now).head (layout_of c.args.element.now).shape (suc (c.args.count - (c.loop.counter + 1))) c.loop.next.part c.loop.next.handle = rw more at c.loop.invariant.3 in
    let told = c.next_element-source.ensures (length c.args.memory.now) (given_of c.args.to.now) (c.args.count - (c.loop.counter + 1)) c.loop.next.part c.loop.next.handle ready in
    let v = g.S.ValueSource.value c.next_element-source.result e.shape in
    let all = g.S.ValueSource.values_left c.loop.rest e.head e.shape (c.args.count - c.loop.counter) in
    let others = g.S.ValueSource.values_left c.next_element-source.new.rest e.head e.shape (c.args.count - (c.loop.counter + 1)) in
    let is : all ≡ val v others = rw more told.0 in (
      c.pass_value.ensures.stays ∙ c.loop.invariant.0,
      c.pass_value.ensures.slots_stay ∙ c.loop.invariant.1,
      step_on c.loop.slot c.args.at c.loop.counter e.head.width c.args.element.now.head.width step c.loop.invariant.2,
      rw (c.pass_value.ensures.part, c.pass_value.ensures.handle) told.2,
      next_stored (slots_by (given_of c.args.to.now) e.shape) e.head.width v all others c.loop.slot _ c.loop.next.part c.loop.next.handle c.pass_value.new.next.part c.pass_value.new.next.handle c.loop.slots c.pass_value.new.slots _ is (ap (λ z. c.loop.slot + z) step) c.pass_value.ensures.part c.pass_value.ensures.handle c.pass_value.ensures.slots c.loop.invariant.4,
      next_behind (behind_by (given_of c.args.to.now) e.shape) v all others c.loop.next.part c.loop.next.handle c.pass_value.new.next.part c.pass_value.new.next.handle c.loop.memory c.pass_value.new.memory _ is c.pass_value.ensures.part c.pass_value.ensures.handle c.pass_value.ensures.stored c.loop.invariant.5,
      next_parts v all others c.loop.next.part c.pass_value.new.next.part _ is c.pass_value.ensures.part c.loop.invariant.6,
      next_handles v all others c.loop.next.handle c.pass_value.new.next.handle _ is c.pass_value.ensures.handle c.loop.invariant.7,
    )

pub pass_row-returns : goal.pass_row-returns
pass_row-returns g t c =
    let done : c.args.count - c.loop.counter ≡ 0 = omega (arith, c.loop-test.false) in
    let ready : g.S.ValueSource.values_ready c.loop.rest (length c.args.memory.now) (given_of c.args.to.now) (layout_of c.args.element.now).head (layout_of c.args.element.now).shape 0 c.loop.next.part c.loop.next.handle = rw done at c.loop.invariant.3 in
    let none = g.met.S.ValueSource.no_elements c.loop.rest _ _ _ _ _ _ ready in
    let left = g.S.ValueSource.values_left c.args.items (layout_of c.args.element.now).head (layout_of c.args.element.now).shape c.args.count in
    let parts : c.loop.next.part + 0 ≡ c.args.next.now.part + part_count_each left = rw (done, none) at c.loop.invariant.6 in
    let handles : c.loop.next.handle + 0 ≡ c.args.next.now.handle + handle_count_each left = rw (done, none) at c.loop.invariant.7 in
    record {
      slots = rw (done, none) at c.loop.invariant.4;
      stored = rw (done, none) at c.loop.invariant.5;
      stays = c.loop.invariant.0;
      slots_stay = c.loop.invariant.1;
      part = omega (arith, parts);
      handle = omega (arith, handles);
    }

pub pass_fields-loop-part-init : goal.pass_fields-loop-part-init
pass_fields-loop-part-init g t c = (
  refl,
  refl,
  parts_pass (length c.args.slots.now) c.args.at c.args.width 0 c.args.at (parts_from (map part_of c.args.parts.now)) c.requires.inside (omega arith) c.requires.passed,
  c.requires.ready,
  refl,
  refl,
  refl,
  refl,
)

pub pass_fields-next_field-source-requires : goal.pass_fields-next_field-source-requires
pass_fields-next_field-source-requires g t c =
    let next = parts_next c.args.parts.now c.loop-part.part-index c.part-item.result c.loop-part-test.true c.part-item.is in
    let others = parts_from (map part_of (drop (c.loop-part.part-index + 1) c.args.parts.now)) in
    let ready : g.S.ValueSource.fields_ready c.loop-part.rest (length c.args.memory.now) (given_of c.args.to.now) (field_before (part_of c.part-item.result) others) c.loop-part.next.part c.loop-part.next.handle = rw next at c.loop-part.invariant.3 in
    (length c.args.memory.now, given_of c.args.to.now, others, c.loop-part.next.part, c.loop-part.next.handle, ready)

pub pass_fields-pass_field-requires : goal.pass_fields-pass_field-requires
pass_fields-pass_field-requires g t c κs within =
    let next = parts_next c.args.parts.now c.loop-part.part-index c.part-item.result c.loop-part-test.true c.part-item.is in
    let others = parts_from (map part_of (drop (c.loop-part.part-index + 1) c.args.parts.now)) in
    let p = part_of c.part-item.result in
    let ready : g.S.ValueSource.fields_ready c.loop-part.rest (length c.args.memory.now) (given_of c.args.to.now) (field_before (part_of c.part-item.result) others) c.loop-part.next.part c.loop-part.next.handle = rw next at c.loop-part.invariant.3 in
    let told = c.next_field-source.ensures (length c.args.memory.now) (given_of c.args.to.now) others c.loop-part.next.part c.loop-part.next.handle ready in
    let pass : PartsPass (length c.args.slots.now) c.loop-part.slot (field_before (part_of c.part-item.result) others) = rw next at c.loop-part.invariant.2 in
    let inside : c.loop-part.slot + (part_of c.part-item.result).1.head.width ≤ length c.loop-part.slots = rw c.loop-part.invariant.1 pass.0 in
    let passed : IsPassedIn (part_of c.part-item.result).1.head.width (part_of c.part-item.result).1.shape = pass.1 in
    let one : g.S.ValueSource.ready c.next_field-source.result (length c.loop-part.memory) (given_of c.args.to.now) (part_of c.part-item.result).1.head (part_of c.part-item.result).1.shape c.loop-part.next.part c.loop-part.next.handle = rw c.loop-part.invariant.0 told.1 in
    (search (rules, the_lemmas), search (rules, the_lemmas, inside, passed, one))

pub pass_fields-loop-part-preserved : goal.pass_fields-loop-part-preserved
pass_fields-loop-part-preserved g t c =
    let next = parts_next c.args.parts.now c.loop-part.part-index c.part-item.result c.loop-part-test.true c.part-item.is in
    let others = parts_from (map part_of (drop (c.loop-part.part-index + 1) c.args.parts.now)) in
    let p = part_of c.part-item.result in
    let ready : g.S.ValueSource.fields_ready c.loop-part.rest (length c.args.memory.now) (given_of c.args.to.now) (field_before (part_of c.part-item.result) others) c.loop-part.next.part c.loop-part.next.handle = rw next at c.loop-part.invariant.3 in
    let told = c.next_field-source.ensures (length c.args.memory.now) (given_of c.args.to.now) others c.loop-part.next.part c.loop-part.next.handle ready in
    let pass : PartsPass (length c.args.slots.now) c.loop-part.slot (field_before (part_of c.part-item.result) others) = rw next at c.loop-part.invariant.2 in
    let step = ap (λ z. c.loop-part.slot + z) c.field_width-slot.ensures in
    let v = g.S.ValueSource.value c.next_field-source.result p.1.shape in
    let all = g.S.ValueSource.fields_left c.loop-part.rest (field_before p others) in
    let left = g.S.ValueSource.fields_left c.next_field-source.new.rest others in (
      c.pass_field.ensures.stays ∙ c.loop-part.invariant.0,
      c.pass_field.ensures.slots_stay ∙ c.loop-part.invariant.1,
      rw c.field_width-slot.ensures pass.2,
      rw (c.pass_field.ensures.part, c.pass_field.ensures.handle) told.2,
      field_passed (given_of c.args.to.now) p others v all left c.loop-part.slot _ c.loop-part.next.part c.loop-part.next.handle c.pass_field.new.next.part c.pass_field.new.next.handle c.loop-part.slots c.pass_field.new.slots _ told.0 step c.pass_field.ensures.part c.pass_field.ensures.handle c.pass_field.ensures.slots (rw next at c.loop-part.invariant.4),
      field_behind (given_of c.args.to.now) p others v all left c.loop-part.next.part c.loop-part.next.handle c.pass_field.new.next.part c.pass_field.new.next.handle c.loop-part.memory c.pass_field.new.memory _ told.0 c.pass_field.ensures.part c.pass_field.ensures.handle c.pass_field.ensures.stored (rw next at c.loop-part.invariant.5),
      next_parts v all left c.loop-part.next.part c.pass_field.new.next.part _ told.0 c.pass_field.ensures.part (rw next at c.loop-part.invariant.6),
      next_handles v all left c.loop-part.next.handle c.pass_field.new.next.handle _ told.0 c.pass_field.ensures.handle (rw next at c.loop-part.invariant.7),
    )

pub pass_case-returns-in-Some : goal.pass_case-returns-in-Some
pass_case-returns-in-Some g t c =
    let V = g.S.ValueSource.value in
    let ps = payloads_from (map payload_of c.args.payloads.now) in
    let i = c.case-case.result.0 in
    let is = payload_is payload_of c.args.payloads.now i c.in-Some.payload.now c.in-Some.ensures.lookup.3.0 c.in-Some.ensures.lookup.1 in
    let told = c.case-case.ensures _ _ _ ps _ _ c.requires.ready.1 in
    record {
      slots =
          rw (told.0, c.pass_payload.ensures.slots, ← is, c.from.ensures)
          (case_passed V (given_of c.args.to.now) c.args.discriminant c.args.offset ps i c.case-case.result.1 c.args.at c.args.next.now.part c.args.next.now.handle c.args.slots.now);
      stored =
          rw (told.0, c.pass_payload.ensures.stored, ← is)
          (ap (λ bs. poke bs c.args.memory.now) (behind_passed V (given_of c.args.to.now) c.args.discriminant c.args.offset ps i c.case-case.result.1 c.args.next.now.part c.args.next.now.handle));
      stays = c.pass_payload.ensures.stays;
      slots_stay = search (rules, the_lemmas);
      part = rw (told.0, is, case_parts V i (payload_of c.in-Some.payload.now) c.case-case.result.1) c.pass_payload.ensures.part;
      handle = rw (told.0, is, case_handles V i (payload_of c.in-Some.payload.now) c.case-case.result.1) c.pass_payload.ensures.handle;
    }

pub pass_case-returns-in-None : goal.pass_case-returns-in-None
pass_case-returns-in-None g t c =
    let ps = payloads_from (map payload_of c.args.payloads.now) in
    let is = payload_past payload_of c.args.payloads.now c.case-case.result.0 c.in-None.ensures.lookup.3 in
    let told = c.case-case.ensures _ _ _ ps _ _ c.requires.ready.1 in
    record {
      slots = rw (told.0, is, c.from.ensures) refl;
      stored = rw (told.0, is) refl;
      stays = refl;
      slots_stay = search rules;
      part = rw (told.0, is) (omega arith);
      handle = rw (told.0, is) (omega arith);
    }

pub pass_case-pass_payload-requires : goal.pass_case-pass_payload-requires
pass_case-pass_payload-requires g t c κs within =
    let ps = payloads_from (map payload_of c.args.payloads.now) in
    let i = c.case-case.result.0 in
    let lt : c.case-case.result.0 < length c.args.payloads.now = c.in-Some.ensures.lookup.3.0 in
    let is = payload_is payload_of c.args.payloads.now i c.in-Some.payload.now lt c.in-Some.ensures.lookup.1 in
    let told = c.case-case.ensures _ _ _ ps _ _ c.requires.ready.1 in
    let pass : PayloadIsPassed (length c.args.slots.now) (c.args.at + 1) (payload_of c.in-Some.payload.now) =
    rw (← is) (payload_passes (length c.args.slots.now) c.args.at c.args.width ps i c.requires.inside c.requires.passed.1) in
    let ready : IsCarriedReady (λ s e sh. g.S.ValueSource.ready s (length c.args.memory.now) (given_of c.args.to.now) e sh c.args.next.now.part c.args.next.now.handle) (payload_of c.in-Some.payload.now) c.case-case.result.1 =
    rw (← is) told.1 in
    (search (rules, the_lemmas, lt), search (rules, the_lemmas, pass, ready))

pub pass_value-returns-in-Leaf : goal.pass_value-returns-in-Leaf
pass_value-returns-in-Leaf g t c =
    let passed = c.pass_leaf.ensures.slots (given_of c.args.to.now) c.args.next.now.part c.args.next.now.handle in
    search (rules, the_lemmas, passed)
