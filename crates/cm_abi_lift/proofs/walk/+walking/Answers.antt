use Rattle.std.proofs.Common.{rules, ap, drop, sym, ◌∙◌, ◌≡◌, ◌<◌, IfSome, length, map}
use Rattle.std.proofs.lemmas.Result.{err_from_is_err_and}
use Rattle.cm_types.specs.Values.{parts}
use Rattle.cm_layout.specs.Layouts.{layout_of, nothings, part_of, payload_of, shape_of}
use Rattle.cm_layout.specs.Shapes.{cases_shape, fixed_list_shape, handle_shape, leaf_shape, list_shape, parts_from}
use Rattle.cm_layout.specs.declared.layouts.Layout.{Layout}
use Rattle.cm_layout.specs.declared.layouts.Form.{the_lemmas}
use Rattle.cm_abi_load.specs.Outcomes.{state_of}
use Rattle.cm_abi_load.specs.Reading.{source_of}
use Rattle.cm_abi_load.specs.Records.{held}
use Rattle.cm_abi_lift.specs.FlatReading.{IsFlatReadableLayout, read_flat}
use Rattle.cm_abi_lift.specs.FlatRecords.{flat_records, flat_records_of_fields}
use Rattle.cm_abi_load.specs.MakingLaws.{begins, stops_of}
use Rattle.cm_abi_lift.proofs.WalkLemmas.{KeepLaws, case_made, case_past, case_ready, each_begins, each_ends, each_stops, each_turns, enum_placed, fields_end, fields_stop, fields_turn, keeps_flat, list_placed, ready_next}
use Rattle.cm_abi_lift.proofs.Seen.{seen_part_width, seen_width}
use Rattle.cm_abi_lift.proofs.walk.+walking.Goals as goal
use Rattle.cm_abi_load.proofs.CaseLemmas.{fields_made}
use Rattle.cm_layout.proofs.LayoutLemmas.{seen_form_Enum, seen_form_FixedList, seen_form_List}
use Rattle.cm_layout.proofs.ShapesLaws.{seen_Handle, seen_Leaf}
use Rattle.cm_layout.proofs.LayoutsLaws.{seen_shape}

pub make_case-make_payload-requires : goal.make_case-make_payload-requires
make_case-make_payload-requires g t c κs within =
    let lt : c.args.index < length c.args.payloads.now = c.in-Some.ensures.lookup.3.0 in
    let can : IfSome (payload_of c.in-Some.payload.now) IsFlatReadableLayout = case_ready payload_of c.args.payloads.now c.args.index c.in-Some.payload.now lt c.in-Some.ensures.lookup.1 c.requires.ready in
    (search (rules, the_lemmas, lt), search (rules, the_lemmas, can))

pub make_case-returns-in-Some : goal.make_case-returns-in-Some
make_case-returns-in-Some g t c =
    case_made g.M.Maker.stands g.M.Maker.keeps g.M.Maker.allocates payload_of (source_of c.args.reader.now.giver) (g.M.Maker.target c.args.reader.now.maker) c.args.payloads.now c.args.index c.args.slots.now c.in-Some.payload.now c.args.kept.now c.make_payload.new.kept (state_of c.args.progress.now) (state_of c.make_payload.new.progress) c.make_payload.result
    c.in-Some.ensures.lookup.3.0 c.in-Some.ensures.lookup.1 c.make_payload.ensures

pub make_case-returns-in-None : goal.make_case-returns-in-None
make_case-returns-in-None g t c = case_past payload_of (source_of c.args.reader.now.giver) c.args.payloads.now c.args.index c.args.index c.args.slots.now (state_of c.args.progress.now) c.in-None.ensures.lookup.3

pub make_each-loop-init : goal.make_each-loop-init
make_each-loop-init g t c =
    each_begins g.M.Maker.stand g.M.Maker.keeps (read_flat (source_of c.args.reader.now.giver) (layout_of c.args.element.now).shape) (flat_records (source_of c.args.reader.now.giver) (g.M.Maker.target c.args.reader.now.maker) (layout_of c.args.element.now).shape)
    (layout_of c.args.element.now).head.width c.args.count c.args.slots.now c.row-row.result c.args.kept.now (state_of c.args.progress.now) c.row-row.ensures (g.met.M.Maker.keeps_nothing c.args.kept.now)

pub make_each-returns-in_err-made : goal.make_each-returns-in_err-made
make_each-returns-in_err-made g t c =
    let p = err_from_is_err_and c.from_residual.result c.from_residual.ensures.1 in
    let laws : KeepLaws = record { leaf = c.handles_stay_met.ensures.leaf; text = c.handles_stay_met.ensures.text; elements = c.handles_stay_met.ensures.elements; handle = c.handles_stay_met.ensures.handle } in
    rw (p.1, p.2) (each_stops g.M.Maker.stand g.M.Maker.keeps g.M.Maker.allocates (read_flat (source_of c.args.reader.now.giver) (layout_of c.args.element.now).shape) (flat_records (source_of c.args.reader.now.giver) (g.M.Maker.target c.args.reader.now.maker) (layout_of c.args.element.now).shape)
    (layout_of c.args.element.now).head.width c.args.count c.loop.counter c.loop.rest.now _ _ c.loop.row c.args.kept.now c.loop.kept (state_of c.args.progress.now) (state_of c.loop.progress) (state_of c.make_flat.new.progress) c.in_err-made.field-0.0
    c.loop-test.true c.loop.invariant (λ xs z. keeps_flat laws (source_of c.args.reader.now.giver) (layout_of c.args.element.now).shape xs z) c.in_err-made.ensures)

pub make_each-loop-preserved : goal.make_each-loop-preserved
make_each-loop-preserved g t c =
    let laws : KeepLaws = record { leaf = c.handles_stay_met.ensures.leaf; text = c.handles_stay_met.ensures.text; elements = c.handles_stay_met.ensures.elements; handle = c.handles_stay_met.ensures.handle } in
    each_turns g.M.Maker.stands g.M.Maker.stand g.M.Maker.keeps g.met.M.Maker.keeps_both (read_flat (source_of c.args.reader.now.giver) (layout_of c.args.element.now).shape) (flat_records (source_of c.args.reader.now.giver) (g.M.Maker.target c.args.reader.now.maker) (layout_of c.args.element.now).shape)
    (layout_of c.args.element.now).head.width c.args.count c.loop.counter c.loop.rest.now _ _ _ c.loop.row c.push.new.row c.in_ok-made.made c.args.kept.now c.loop.kept c.make_flat.new.kept (state_of c.args.progress.now) (state_of c.loop.progress) (state_of c.make_flat.new.progress)
    c.loop-test.true (c.behind-rest.ensures ∙ ap (λ n. drop n c.loop.rest.now) (sym (seen_width c.args.element.now))) c.loop.invariant c.in_ok-made.ensures (keeps_flat laws (source_of c.args.reader.now.giver) (layout_of c.args.element.now).shape c.loop.rest.now (state_of c.loop.progress)) c.in_ok-push.ensures.ok

pub make_each-returns : goal.make_each-returns
make_each-returns g t c =
    each_ends g.M.Maker.stand g.M.Maker.keeps (read_flat (source_of c.args.reader.now.giver) (layout_of c.args.element.now).shape) (flat_records (source_of c.args.reader.now.giver) (g.M.Maker.target c.args.reader.now.maker) (layout_of c.args.element.now).shape)
    (layout_of c.args.element.now).head.width c.args.count c.loop.counter c.loop.rest.now _ _ c.loop.row c.args.kept.now c.loop.kept (state_of c.args.progress.now) (state_of c.loop.progress) c.loop-test.false c.loop.invariant

pub make_fields-loop-part-init : goal.make_fields-loop-part-init
make_fields-loop-part-init g t c = (
  c.requires.ready,
  begins g.M.Maker.stand g.M.Maker.keeps c.row-row.result c.args.kept.now (state_of c.args.progress.now) _ _ c.row-row.ensures (g.met.M.Maker.keeps_nothing c.args.kept.now),
)

pub make_fields-returns-in_err-made : goal.make_fields-returns-in_err-made
make_fields-returns-in_err-made g t c =
    let p = err_from_is_err_and c.from_residual.result c.from_residual.ensures.1 in
    let laws : KeepLaws = record { leaf = c.handles_stay_met.ensures.leaf; text = c.handles_stay_met.ensures.text; elements = c.handles_stay_met.ensures.elements; handle = c.handles_stay_met.ensures.handle } in
    rw (p.1, p.2) (stops_of g.M.Maker.allocates (λ vs. parts vs) (λ v. flat_records_of_fields (source_of c.args.reader.now.giver) (g.M.Maker.target c.args.reader.now.maker) (parts_from (map part_of c.args.parts.now)) c.args.slots.now (held v)) _ (state_of c.args.progress.now) (state_of c.make_field.new.progress) c.in_err-made.field-0.0
    (fields_stop g.M.Maker.stand g.M.Maker.keeps g.M.Maker.allocates laws (source_of c.args.reader.now.giver) (g.M.Maker.target c.args.reader.now.maker) c.args.parts.now c.loop-part.part-index c.loop-part.rest.now c.part-item.result _ _ c.loop-part.row c.args.kept.now c.loop-part.kept (state_of c.args.progress.now) (state_of c.loop-part.progress) (state_of c.make_field.new.progress) c.in_err-made.field-0.0
    c.loop-part-test.true c.part-item.is c.loop-part.invariant.1 c.in_err-made.ensures))

pub make_fields-loop-part-preserved : goal.make_fields-loop-part-preserved
make_fields-loop-part-preserved g t c =
    let laws : KeepLaws = record { leaf = c.handles_stay_met.ensures.leaf; text = c.handles_stay_met.ensures.text; elements = c.handles_stay_met.ensures.elements; handle = c.handles_stay_met.ensures.handle } in (
      (ready_next c.args.parts.now c.loop-part.part-index c.part-item.result c.loop-part-test.true c.part-item.is c.loop-part.invariant.0).1,
      fields_turn g.M.Maker.stands g.M.Maker.stand g.M.Maker.keeps g.met.M.Maker.keeps_both laws (source_of c.args.reader.now.giver) (g.M.Maker.target c.args.reader.now.maker) c.args.parts.now c.loop-part.part-index c.loop-part.rest.now _ c.part-item.result _ _ c.loop-part.row c.push.new.row c.in_ok-made.made c.args.kept.now c.loop-part.kept c.make_field.new.kept (state_of c.args.progress.now) (state_of c.loop-part.progress) (state_of c.make_field.new.progress)
          c.loop-part-test.true c.part-item.is (c.behind-rest.ensures ∙ ap (λ n. drop n c.loop-part.rest.now) (sym (seen_part_width c.part-item.result))) c.loop-part.invariant.1 c.in_ok-made.ensures c.in_ok-push.ensures.ok,
    )

pub make_fields-returns : goal.make_fields-returns
make_fields-returns g t c =
    fields_made g.M.Maker.stands g.M.Maker.stand g.M.Maker.keeps (flat_records_of_fields (source_of c.args.reader.now.giver) (g.M.Maker.target c.args.reader.now.maker) (parts_from (map part_of c.args.parts.now)) c.args.slots.now) _ (state_of c.loop-part.progress) c.loop-part.row c.fields.result c.args.kept.now c.loop-part.kept
    (fields_end g.M.Maker.stand g.M.Maker.keeps (source_of c.args.reader.now.giver) (g.M.Maker.target c.args.reader.now.maker) c.args.parts.now c.loop-part.part-index c.loop-part.rest.now _ _ c.loop-part.row c.args.kept.now c.loop-part.kept (state_of c.args.progress.now) (state_of c.loop-part.progress) c.loop-part-test.false c.loop-part.invariant.1)
    c.fields.ensures

pub make_flat-returns-in-Leaf : goal.make_flat-returns-in-Leaf
make_flat-returns-in-Leaf g t c =
    let shape_is : (layout_of c.args.layout.now).shape ≡ leaf_shape c.in-Leaf.leaf = seen_shape c.args.layout.now ∙ (ap shape_of c.in-Leaf.is ∙ seen_Leaf c.in-Leaf.leaf) in
    rw shape_is (c.make_leaf.ensures (state_of c.args.progress.now) c.args.kept.now)

pub make_flat-returns-in-List : goal.make_flat-returns-in-List
make_flat-returns-in-List g t c =
    let shape_is : (layout_of c.args.layout.now).shape ≡ list_shape (layout_of c.deref.result.now).head (layout_of c.deref.result.now).shape =
    seen_shape c.args.layout.now ∙ (ap shape_of c.in-List.is ∙ (seen_form_List c.in-List.element ∙ ap (λ (l : Layout). list_shape (layout_of l).head (layout_of l).shape) (sym c.deref.ensures))) in
    rw shape_is (list_placed g.M.Maker.stands g.M.Maker.keeps g.M.Maker.allocates (source_of c.args.reader.now.giver) (g.M.Maker.target c.args.reader.now.maker) (layout_of c.deref.result.now).head (layout_of c.deref.result.now).shape c.number_32-pointer-in-List.result c.number_32-count.result c.args.slots.now
    c.args.kept.now c.make_list.new.kept (state_of c.args.progress.now) (state_of c.make_list.new.progress) c.make_list.result c.number_32-pointer-in-List.ensures c.number_32-count.ensures c.make_list.ensures)

pub make_flat-returns-in-FixedList : goal.make_flat-returns-in-FixedList
make_flat-returns-in-FixedList g t c =
    let shape_is : (layout_of c.args.layout.now).shape ≡ fixed_list_shape (layout_of c.deref-in-FixedList.result.now).head (layout_of c.deref-in-FixedList.result.now).shape c.in-FixedList.length =
    seen_shape c.args.layout.now ∙ (ap shape_of c.in-FixedList.is ∙ (seen_form_FixedList c.in-FixedList.element c.in-FixedList.length ∙ ap (λ (l : Layout). fixed_list_shape (layout_of l).head (layout_of l).shape c.in-FixedList.length) (sym c.deref-in-FixedList.ensures))) in
    rw shape_is c.make_fixed_list.ensures

pub make_flat-returns-in-Enum : goal.make_flat-returns-in-Enum
make_flat-returns-in-Enum g t c =
    let shape_is : (layout_of c.args.layout.now).shape ≡ cases_shape c.in-Enum.discriminant c.in-Enum.discriminant (nothings c.in-Enum.count) =
    seen_shape c.args.layout.now ∙ (ap shape_of c.in-Enum.is ∙ seen_form_Enum c.in-Enum.discriminant c.in-Enum.count) in
    rw shape_is (enum_placed g.M.Maker.stands g.M.Maker.keeps g.M.Maker.allocates (source_of c.args.reader.now.giver) (g.M.Maker.target c.args.reader.now.maker) c.in-Enum.discriminant c.in-Enum.count c.number_32.result c.args.slots.now
    c.args.kept.now c.args.kept.now (state_of c.args.progress.now) (state_of c.args.progress.now) c.make_enum.result c.number_32.ensures
    (c.make_enum.ensures (source_of c.args.reader.now.giver) (g.M.Maker.target c.args.reader.now.maker) (drop 1 c.args.slots.now) (state_of c.args.progress.now) c.args.kept.now))

pub make_flat-returns-in-Handle : goal.make_flat-returns-in-Handle
make_flat-returns-in-Handle g t c =
    let shape_is : (layout_of c.args.layout.now).shape ≡ handle_shape c.in-Handle.wanted = seen_shape c.args.layout.now ∙ (ap shape_of c.in-Handle.is ∙ seen_Handle c.in-Handle.wanted) in
    rw (shape_is, sym c.number_32-in-Handle.ensures) (c.make_handle.ensures c.args.kept.now)
