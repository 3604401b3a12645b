use Rattle.std.proofs.Common.{rules, refl, ap, sym, ◌∙◌, ◌≡◌, ◌+◌, ◌-◌, ◌<◌, ◌≤◌, suc, arith, length, map, drop, List}
use Rattle.cm_types.specs.Values.{val}
use Rattle.cm_layout.specs.Layouts.{layout_of, part_of, payload_of, shape_of}
use Rattle.cm_layout.specs.Laid.{Laid}
use Rattle.cm_layout.specs.Shapes.{cases_shape, fields_shape, parts_from, payloads_from}
use Rattle.cm_layout.specs.declared.heads.Head.{Head}
use Rattle.cm_layout.specs.declared.layouts.Form.{the_lemmas}
use Rattle.cm_layout.specs.declared.layouts.Part.{Part}
use Rattle.cm_layout.specs.declared.layouts.Payload.{Payload}
use Rattle.cm_abi_model.specs.Parts.{handle_count_each, part_count_each}
use Rattle.cm_abi_model.specs.Stores.{place_of, pointer_bytes, poke, store_each}
use Rattle.cm_abi_store.specs.Fitting.{PayloadLies}
use Rattle.cm_abi_store.specs.Storing.{given_of, stored_by}
use Rattle.cm_abi_store.specs.Sources.{IsCarriedReady, field_before}
use Rattle.cm_abi_store.specs.WalkLaws.{case_handles, case_parts, next_handles, next_parts, next_stored, parts_next, payload_is, payload_past, poke_both, row_inside, step_on}
use Rattle.cm_abi_store.proofs.WalkLemmas.{PartsLie, case_both, field_stored, parts_lie, payload_lies}
use Rattle.cm_abi_store.proofs.storing.+storing.Goals as goal
use Rattle.cm_layout.proofs.LayoutLemmas.{seen_form_Cases, seen_form_Fields, seen_head}
use Rattle.cm_layout.proofs.LayoutsLaws.{seen_shape}

pub store_value-store_record-requires : goal.store_value-store_record-requires
store_value-store_record-requires g t c κs within =
    let parts = c.deref-in-Fields-2.result.now in
    let shape_is : (layout_of c.args.layout.now).shape ≡ fields_shape (parts_from (map part_of parts)) =
    seen_shape c.args.layout.now ∙ (ap shape_of c.in-Fields.is ∙ (seen_form_Fields c.in-Fields.parts ∙ ap (λ (ps : List Part). fields_shape (parts_from (map part_of ps))) (search (rules, the_lemmas)))) in
    let ready : g.S.ValueSource.ready c.args.source (length c.args.memory.now) (given_of c.args.to.now) (layout_of c.args.layout.now).head (fields_shape (parts_from (map part_of parts))) c.args.next.now.part c.args.next.now.handle = rw shape_is at c.requires.ready in
    (search (rules, the_lemmas), search (rules, the_lemmas, ready))

pub store_value-store_case-requires : goal.store_value-store_case-requires
store_value-store_case-requires g t c κs within =
    let payloads = c.deref-in-Cases-2.result.now in
    let d = c.in-Cases.discriminant in
    let o = c.in-Cases.offset in
    let shape_is : (layout_of c.args.layout.now).shape ≡ cases_shape d o (payloads_from (map payload_of payloads)) =
    seen_shape c.args.layout.now ∙ (ap shape_of c.in-Cases.is ∙ (seen_form_Cases d o c.in-Cases.payloads ∙ ap (λ (ps : List Payload). cases_shape d o (payloads_from (map payload_of ps))) (search (rules, the_lemmas)))) in
    let ready : g.S.ValueSource.ready c.args.source (length c.args.memory.now) (given_of c.args.to.now) (layout_of c.args.layout.now).head (cases_shape d o (payloads_from (map payload_of payloads))) c.args.next.now.part c.args.next.now.handle = rw shape_is at c.requires.ready in
    (search (rules, the_lemmas), search (rules, the_lemmas, ready))

pub store_value-returns-in-Leaf : goal.store_value-returns-in-Leaf
store_value-returns-in-Leaf g t c =
    let stored = c.store_leaf.ensures.stored (given_of c.args.to.now) c.args.next.now.part c.args.next.now.handle in
    search (rules, the_lemmas, stored)

pub store_list-returns : goal.store_list-returns
store_list-returns g t c =
    let e = layout_of c.args.element.now in
    let place = place_of (given_of c.args.to.now) c.args.next.now.part in
    let told = c.elements-elements.ensures _ (given_of c.args.to.now) _ _ _ _ _ c.requires.ready.1 in
    let vs = g.S.ValueSource.values_left c.elements-elements.result.1 e.head e.shape c.elements-elements.result.0 in
    record {
      stored =
          rw (told.0, c.store_row.ensures.stored, c.store_pointer-place.ensures.place, c.store_pointer-place.ensures.stored, c.store_pointer-place.ensures.part, c.store_pointer-place.ensures.handle, told.1)
          (sym (poke_both (pointer_bytes c.args.at place c.elements-elements.result.0) (store_each (stored_by (given_of c.args.to.now) e.shape) e.head.size vs place (c.args.next.now.part + 1) c.args.next.now.handle) c.args.memory.now));
      stays = search (rules, the_lemmas);
      part = search (rules, the_lemmas);
      handle = search (rules, the_lemmas);
    }

pub store_row-next_element-source-requires : goal.store_row-next_element-source-requires
store_row-next_element-source-requires g t c =
    let lt = c.loop-test.true in
    let more : c.args.count - c.loop.counter ≡ suc (c.args.count - (c.loop.counter + 1)) = omega (arith, lt) in
    let ready : g.S.ValueSource.values_ready c.loop.rest (length c.args.memory.now) (given_of c.args.to.now) (layout_of c.args.element.now).head (layout_of c.args.element.now).shape (suc (c.args.count - (c.loop.counter + 1))) c.loop.next.part c.loop.next.handle = rw more at c.loop.invariant.2 in
    (length c.args.memory.now, given_of c.args.to.now, c.args.count - (c.loop.counter + 1), c.loop.next.part, c.loop.next.handle, ready)

pub store_row-store_value-requires : goal.store_row-store_value-requires
store_row-store_value-requires g t c κs within =
    let lt = c.loop-test.true in
    let more : c.args.count - c.loop.counter ≡ suc (c.args.count - (c.loop.counter + 1)) = omega (arith, lt) in
    let ready : g.S.ValueSource.values_ready c.loop.rest (length c.args.memory.now) (given_of c.args.to.now) (layout_of c.args.element.now).head (layout_of c.args.element.now).shape (suc (c.args.count - (c.loop.counter + 1))) c.loop.next.part c.loop.next.handle = rw more at c.loop.invariant.2 in
    let told = c.next_element-source.ensures (length c.args.memory.now) (given_of c.args.to.now) (c.args.count - (c.loop.counter + 1)) c.loop.next.part c.loop.next.handle ready in
    let one : g.S.ValueSource.ready c.next_element-source.result (length c.loop.memory) (given_of c.args.to.now) (layout_of c.args.element.now).head (layout_of c.args.element.now).shape c.loop.next.part c.loop.next.handle =
    rw c.loop.invariant.0 told.1 in
    let inside : c.loop.place + (layout_of c.args.element.now).head.size ≤ length c.loop.memory =
    rw c.loop.invariant.0 (row_inside (length c.args.memory.now) c.args.at c.args.count c.loop.counter (layout_of c.args.element.now).head.size c.loop.place lt c.loop.invariant.1 c.requires.inside) in
    (search (rules, the_lemmas), search (rules, the_lemmas, inside, one))

pub store_row-loop-preserved : goal.store_row-loop-preserved
store_row-loop-preserved g t c =
    let e = layout_of c.args.element.now in
    let lt = c.loop-test.true in
    let step = ap (λ (h : Head). h.size) (sym (seen_head c.args.element.now)) in
    let more : c.args.count - c.loop.counter ≡ suc (c.args.count - (c.loop.counter + 1)) = omega (arith, lt) in
    let ready : g.S.ValueSource.values_ready c.loop.rest (length c.args.memory.now) (given_of c.args.to.now) (layout_of c.args.element.now).head (layout_of c.args.element.now).shape (suc (c.args.count - (c.loop.counter + 1))) c.loop.next.part c.loop.next.handle = rw more at c.loop.invariant.2 in
    let told = c.next_element-source.ensures (length c.args.memory.now) (given_of c.args.to.now) (c.args.count - (c.loop.counter + 1)) c.loop.next.part c.loop.next.handle ready in
    let v = g.S.ValueSource.value c.next_element-source.result e.shape in
    let all = g.S.ValueSource.values_left c.loop.rest e.head e.shape (c.args.count - c.loop.counter) in
    let others = g.S.ValueSource.values_left c.next_element-source.new.rest e.head e.shape (c.args.count - (c.loop.counter + 1)) in
    let is : all ≡ val v others = rw more told.0 in (
      c.store_value.ensures.stays ∙ c.loop.invariant.0,
      step_on c.loop.place c.args.at c.loop.counter e.head.size c.args.element.now.head.size step c.loop.invariant.1,
      rw (c.store_value.ensures.part, c.store_value.ensures.handle) told.2,
      next_stored (stored_by (given_of c.args.to.now) e.shape) e.head.size v all others c.loop.place _ c.loop.next.part c.loop.next.handle c.store_value.new.next.part c.store_value.new.next.handle c.loop.memory c.store_value.new.memory _ is (ap (λ z. c.loop.place + z) step) c.store_value.ensures.part c.store_value.ensures.handle c.store_value.ensures.stored c.loop.invariant.3,
      next_parts v all others c.loop.next.part c.store_value.new.next.part _ is c.store_value.ensures.part c.loop.invariant.4,
      next_handles v all others c.loop.next.handle c.store_value.new.next.handle _ is c.store_value.ensures.handle c.loop.invariant.5,
    )

pub store_row-returns : goal.store_row-returns
store_row-returns g t c =
    let done : c.args.count - c.loop.counter ≡ 0 = omega (arith, c.loop-test.false) in
    let ready : g.S.ValueSource.values_ready c.loop.rest (length c.args.memory.now) (given_of c.args.to.now) (layout_of c.args.element.now).head (layout_of c.args.element.now).shape 0 c.loop.next.part c.loop.next.handle = rw done at c.loop.invariant.2 in
    let none = g.met.S.ValueSource.no_elements c.loop.rest _ _ _ _ _ _ ready in
    let left = g.S.ValueSource.values_left c.args.items (layout_of c.args.element.now).head (layout_of c.args.element.now).shape c.args.count in
    let parts : c.loop.next.part + 0 ≡ c.args.next.now.part + part_count_each left = rw (done, none) at c.loop.invariant.4 in
    let handles : c.loop.next.handle + 0 ≡ c.args.next.now.handle + handle_count_each left = rw (done, none) at c.loop.invariant.5 in
    record {
      stored = rw (done, none) at c.loop.invariant.3;
      stays = c.loop.invariant.0;
      part = omega (arith, parts);
      handle = omega (arith, handles);
    }

pub store_fields-next_field-source-requires : goal.store_fields-next_field-source-requires
store_fields-next_field-source-requires g t c =
    let next = parts_next c.args.parts.now c.loop-part.part-index c.part-item.result c.loop-part-test.true c.part-item.is in
    let others = parts_from (map part_of (drop (c.loop-part.part-index + 1) c.args.parts.now)) in
    let ready : g.S.ValueSource.fields_ready c.loop-part.rest (length c.args.memory.now) (given_of c.args.to.now) (field_before (part_of c.part-item.result) others) c.loop-part.next.part c.loop-part.next.handle = rw next at c.loop-part.invariant.2 in
    (length c.args.memory.now, given_of c.args.to.now, others, c.loop-part.next.part, c.loop-part.next.handle, ready)

pub store_fields-store_field-requires : goal.store_fields-store_field-requires
store_fields-store_field-requires g t c κs within =
    let next = parts_next c.args.parts.now c.loop-part.part-index c.part-item.result c.loop-part-test.true c.part-item.is in
    let others = parts_from (map part_of (drop (c.loop-part.part-index + 1) c.args.parts.now)) in
    let p = part_of c.part-item.result in
    let ready : g.S.ValueSource.fields_ready c.loop-part.rest (length c.args.memory.now) (given_of c.args.to.now) (field_before (part_of c.part-item.result) others) c.loop-part.next.part c.loop-part.next.handle = rw next at c.loop-part.invariant.2 in
    let told = c.next_field-source.ensures (length c.args.memory.now) (given_of c.args.to.now) others c.loop-part.next.part c.loop-part.next.handle ready in
    let lie : PartsLie (length c.args.memory.now) c.args.at (field_before (part_of c.part-item.result) others) = rw next at c.loop-part.invariant.1 in
    let inside : c.args.at + (part_of c.part-item.result).0 + (part_of c.part-item.result).1.head.size ≤ length c.loop-part.memory = rw c.loop-part.invariant.0 lie.0 in
    let laid : Laid (part_of c.part-item.result).1.head.size (part_of c.part-item.result).1.shape = lie.1 in
    let one : g.S.ValueSource.ready c.next_field-source.result (length c.loop-part.memory) (given_of c.args.to.now) (part_of c.part-item.result).1.head (part_of c.part-item.result).1.shape c.loop-part.next.part c.loop-part.next.handle = rw c.loop-part.invariant.0 told.1 in
    (search (rules, the_lemmas), search (rules, the_lemmas, inside, laid, one))

pub store_fields-loop-part-preserved : goal.store_fields-loop-part-preserved
store_fields-loop-part-preserved g t c =
    let next = parts_next c.args.parts.now c.loop-part.part-index c.part-item.result c.loop-part-test.true c.part-item.is in
    let others = parts_from (map part_of (drop (c.loop-part.part-index + 1) c.args.parts.now)) in
    let p = part_of c.part-item.result in
    let ready : g.S.ValueSource.fields_ready c.loop-part.rest (length c.args.memory.now) (given_of c.args.to.now) (field_before (part_of c.part-item.result) others) c.loop-part.next.part c.loop-part.next.handle = rw next at c.loop-part.invariant.2 in
    let told = c.next_field-source.ensures (length c.args.memory.now) (given_of c.args.to.now) others c.loop-part.next.part c.loop-part.next.handle ready in
    let lie : PartsLie (length c.args.memory.now) c.args.at (field_before (part_of c.part-item.result) others) = rw next at c.loop-part.invariant.1 in
    let v = g.S.ValueSource.value c.next_field-source.result p.1.shape in
    let all = g.S.ValueSource.fields_left c.loop-part.rest (field_before p others) in
    let left = g.S.ValueSource.fields_left c.next_field-source.new.rest others in (
      c.store_field.ensures.stays ∙ c.loop-part.invariant.0,
      lie.2,
      rw (c.store_field.ensures.part, c.store_field.ensures.handle) told.2,
      field_stored (given_of c.args.to.now) p others v all left c.args.at c.loop-part.next.part c.loop-part.next.handle c.store_field.new.next.part c.store_field.new.next.handle c.loop-part.memory c.store_field.new.memory _ told.0 c.store_field.ensures.part c.store_field.ensures.handle c.store_field.ensures.stored (rw next at c.loop-part.invariant.3),
      next_parts v all left c.loop-part.next.part c.store_field.new.next.part _ told.0 c.store_field.ensures.part (rw next at c.loop-part.invariant.4),
      next_handles v all left c.loop-part.next.handle c.store_field.new.next.handle _ told.0 c.store_field.ensures.handle (rw next at c.loop-part.invariant.5),
    )

pub store_fields-loop-part-init : goal.store_fields-loop-part-init
store_fields-loop-part-init g t c = (
  refl,
  parts_lie (length c.args.memory.now) c.args.at c.args.size 0 (parts_from (map part_of c.args.parts.now)) c.requires.inside c.requires.laid,
  c.requires.ready,
  refl,
  refl,
  refl,
)

pub store_case-returns-in-Some : goal.store_case-returns-in-Some
store_case-returns-in-Some g t c =
    let V = g.S.ValueSource.value in
    let ps = payloads_from (map payload_of c.args.payloads.now) in
    let i = c.case-case.result.0 in
    let is = payload_is payload_of c.args.payloads.now i c.in-Some.payload.now c.in-Some.ensures.lookup.3.0 c.in-Some.ensures.lookup.1 in
    let told = c.case-case.ensures _ _ _ ps _ _ c.requires.ready.1 in
    record {
      stored =
          rw (told.0, c.store_payload.ensures.stored, ← is, c.write_number.ensures.stored, c.from.ensures)
          (case_both V (given_of c.args.to.now) c.args.discriminant c.args.offset ps i c.case-case.result.1 c.args.at c.args.next.now.part c.args.next.now.handle c.args.memory.now);
      stays = c.store_payload.ensures.stays ∙ c.write_number.ensures.stays;
      part = rw (told.0, is, case_parts V i (payload_of c.in-Some.payload.now) c.case-case.result.1) c.store_payload.ensures.part;
      handle = rw (told.0, is, case_handles V i (payload_of c.in-Some.payload.now) c.case-case.result.1) c.store_payload.ensures.handle;
    }

pub store_case-returns-in-None : goal.store_case-returns-in-None
store_case-returns-in-None g t c =
    let ps = payloads_from (map payload_of c.args.payloads.now) in
    let is = payload_past payload_of c.args.payloads.now c.case-case.result.0 c.in-None.ensures.lookup.3 in
    let told = c.case-case.ensures _ _ _ ps _ _ c.requires.ready.1 in
    record {
      stored = rw (told.0, is, c.write_number.ensures.stored, c.from.ensures) refl;
      stays = c.write_number.ensures.stays;
      part = rw (told.0, is) (omega arith);
      handle = rw (told.0, is) (omega arith);
    }

pub store_case-store_payload-requires : goal.store_case-store_payload-requires
store_case-store_payload-requires g t c κs within =
    let ps = payloads_from (map payload_of c.args.payloads.now) in
    let i = c.case-case.result.0 in
    let lt : c.case-case.result.0 < length c.args.payloads.now = c.in-Some.ensures.lookup.3.0 in
    let is = payload_is payload_of c.args.payloads.now i c.in-Some.payload.now lt c.in-Some.ensures.lookup.1 in
    let told = c.case-case.ensures _ _ _ ps _ _ c.requires.ready.1 in
    let lies : PayloadLies (length c.write_number.new.memory) (c.args.at + c.args.offset) (payload_of c.in-Some.payload.now) =
    rw (c.write_number.ensures.stays, ← is) (payload_lies (length c.args.memory.now) c.args.at c.args.size c.args.offset ps i c.requires.inside c.requires.laid.2) in
    let ready : IsCarriedReady (λ s e sh. g.S.ValueSource.ready s (length c.write_number.new.memory) (given_of c.args.to.now) e sh c.args.next.now.part c.args.next.now.handle) (payload_of c.in-Some.payload.now) c.case-case.result.1 =
    rw (c.write_number.ensures.stays, ← is) told.1 in
    (search (rules, the_lemmas, lt), search (rules, the_lemmas, lies, ready))

pub store_row-write_bytes-requires : goal.store_row-write_bytes-requires
store_row-write_bytes-requires g t c =
    let plain = c.in-Some.ensures (length c.args.memory.now) (given_of c.args.to.now) c.args.next.now.part c.args.next.now.handle c.args.at c.requires.ready in
    record { inside = rw plain.size c.requires.inside }

pub store_row-returns-in-Some : goal.store_row-returns-in-Some
store_row-returns-in-Some g t c =
    let plain = c.in-Some.ensures (length c.args.memory.now) (given_of c.args.to.now) c.args.next.now.part c.args.next.now.handle c.args.at c.requires.ready in
    let parts = plain.parts in
    let handles = plain.handles in
    record {
      stored = c.write_bytes.ensures.stored ∙ ap (λ bs. poke bs c.args.memory.now) (sym plain.stored);
      stays = c.write_bytes.ensures.stays;
      part = omega (arith, parts);
      handle = omega (arith, handles);
    }
