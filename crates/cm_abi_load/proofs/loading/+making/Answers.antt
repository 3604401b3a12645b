use Rattle.std.proofs.Common.{rules, Ok, ap, sym, refl, ◌∙◌, ◌≡◌, ◌+◌, ◌*◌, ◌<◌, IfSome, length, map}
use Rattle.std.proofs.lemmas.Result.{err_from_is_err_and}
use Rattle.cm_layout.specs.Layouts.{layout_of, nothings, part_of, payload_of, shape_of}
use Rattle.cm_layout.specs.Shapes.{cases_shape, fixed_list_shape, handle_shape, leaf_shape, list_shape, parts_from, payloads_from}
use Rattle.cm_layout.specs.declared.layouts.Layout.{Layout}
use Rattle.cm_layout.specs.declared.layouts.Form.{the_lemmas}
use Rattle.cm_types.specs.Values.{parts}
use Rattle.cm_abi_load.specs.Outcomes.{Stops, state_of}
use Rattle.cm_abi_load.specs.Reading.{read_at, region, source_of}
use Rattle.cm_abi_load.specs.Records.{held, records_at, records_of_fields, records_of_list}
use Rattle.cm_abi_load.specs.Sized.{ArePayloadsReadable, IsReadable}
use Rattle.cm_abi_load.proofs.CaseLemmas.{case_made, elements_stop, enum_placed, fields_made, list_made, list_more, list_placed, list_stops, plain_row}
use Rattle.cm_abi_load.proofs.HandleLemmas.{keeps_at}
use Rattle.cm_abi_load.proofs.LoadLemmas.{case_past, case_readable, cases_readable, parts_readable, readable_next, step_on}
use Rattle.cm_abi_load.specs.MakingLaws.{begins, stops_of}
use Rattle.cm_abi_load.proofs.MakingLemmas.{each_begins, each_ends, each_stops, each_turns, fields_end, fields_stop, fields_turn, memory_wanted, stops_wanted}
use Rattle.cm_abi_load.proofs.loading.+making.Goals as goal
use Rattle.cm_layout.proofs.LayoutLemmas.{seen_form_Cases, seen_form_Enum, seen_form_FixedList, seen_form_List, seen_head}
use Rattle.cm_layout.proofs.ShapesLaws.{seen_Handle, seen_Leaf}
use Rattle.cm_layout.proofs.LayoutsLaws.{seen_shape}

pub make_case-make_payload-requires : goal.make_case-make_payload-requires
make_case-make_payload-requires g t c κs within =
    let lt : c.args.index < length c.args.payloads.now = c.in-Some.ensures.lookup.3.0 in
    let can : IfSome (payload_of c.in-Some.payload.now) (IsReadable (length c.args.reader.now.giver.memory.now) c.args.at) =
    case_readable payload_of (length c.args.reader.now.giver.memory.now) c.args.at c.args.payloads.now c.args.index c.in-Some.payload.now lt c.in-Some.ensures.lookup.1 c.requires.readable in
    (search (rules, the_lemmas, lt), search (rules, the_lemmas, can))

pub make_case-returns-in-Some : goal.make_case-returns-in-Some
make_case-returns-in-Some g t c =
    case_made g.M.Maker.stands g.M.Maker.keeps g.M.Maker.allocates payload_of (source_of c.args.reader.now.giver) (g.M.Maker.target c.args.reader.now.maker) c.args.payloads.now c.args.index c.args.at c.in-Some.payload.now c.args.kept.now c.make_payload.new.kept (state_of c.args.progress.now) (state_of c.make_payload.new.progress) c.make_payload.result
    c.in-Some.ensures.lookup.3.0 c.in-Some.ensures.lookup.1 c.make_payload.ensures

pub make_case-returns-in-None : goal.make_case-returns-in-None
make_case-returns-in-None g t c = case_past payload_of (source_of c.args.reader.now.giver) c.args.payloads.now c.args.index c.args.index c.args.at (state_of c.args.progress.now) c.in-None.ensures.lookup.3

pub make_each-returns-in-Some : goal.make_each-returns-in-Some
make_each-returns-in-Some g t c =
    plain_row g.M.Maker.stand g.M.Maker.keeps (source_of c.args.reader.now.giver) (g.M.Maker.target c.args.reader.now.maker) (layout_of c.args.element.now).shape c.in-Some.row c.args.kept.now
    (c.is_plain.ensures c.if-is_plain.true) c.in-Some.ensures (g.met.M.Maker.keeps_nothing c.args.kept.now) (layout_of c.args.element.now).head.size c.args.count c.args.at (state_of c.args.progress.now)

pub make_each-loop-init : goal.make_each-loop-init
make_each-loop-init g t c =
    each_begins g.M.Maker.stand g.M.Maker.keeps (read_at (source_of c.args.reader.now.giver) (layout_of c.args.element.now).shape) (records_at (source_of c.args.reader.now.giver) (g.M.Maker.target c.args.reader.now.maker) (layout_of c.args.element.now).shape)
    (layout_of c.args.element.now).head.size c.args.count c.args.at c.row-row.result c.args.kept.now (state_of c.args.progress.now) c.row-row.ensures (g.met.M.Maker.keeps_nothing c.args.kept.now)

pub make_each-returns-in_err-made : goal.make_each-returns-in_err-made
make_each-returns-in_err-made g t c =
    let p = err_from_is_err_and c.from_residual.result c.from_residual.ensures.1 in
    rw (p.1, p.2) (each_stops g.M.Maker.stand g.M.Maker.keeps g.M.Maker.allocates (read_at (source_of c.args.reader.now.giver) (layout_of c.args.element.now).shape) (records_at (source_of c.args.reader.now.giver) (g.M.Maker.target c.args.reader.now.maker) (layout_of c.args.element.now).shape)
    (layout_of c.args.element.now).head.size c.args.count c.loop.counter c.loop.next _ _ c.loop.row c.args.kept.now c.loop.kept (state_of c.args.progress.now) (state_of c.loop.progress) (state_of c.make_value.new.progress) c.in_err-made.field-0.0
    c.loop-test.true c.loop.invariant.1 (λ q z. keeps_at (source_of c.args.reader.now.giver) (layout_of c.args.element.now).shape q z) c.in_err-made.ensures)

pub make_each-loop-preserved : goal.make_each-loop-preserved
make_each-loop-preserved g t c =
    let step = ap (λ h. h.size) (sym (seen_head c.args.element.now)) in (
      step_on c.loop.next c.args.at c.loop.counter (layout_of c.args.element.now).head.size _ step c.loop.invariant.0,
      each_turns g.M.Maker.stands g.M.Maker.stand g.M.Maker.keeps g.met.M.Maker.keeps_both (read_at (source_of c.args.reader.now.giver) (layout_of c.args.element.now).shape) (records_at (source_of c.args.reader.now.giver) (g.M.Maker.target c.args.reader.now.maker) (layout_of c.args.element.now).shape)
          (layout_of c.args.element.now).head.size c.args.count c.loop.counter c.loop.next _ _ _ c.loop.row c.push.new.row c.in_ok-made.made c.args.kept.now c.loop.kept c.make_value.new.kept (state_of c.args.progress.now) (state_of c.loop.progress) (state_of c.make_value.new.progress)
          c.loop-test.true (ap (λ z. c.loop.next + z) step) c.loop.invariant.1 c.in_ok-made.ensures (keeps_at (source_of c.args.reader.now.giver) (layout_of c.args.element.now).shape c.loop.next (state_of c.loop.progress)) c.in_ok-push.ensures.ok,
    )

pub make_each-returns : goal.make_each-returns
make_each-returns g t c =
    each_ends g.M.Maker.stand g.M.Maker.keeps (read_at (source_of c.args.reader.now.giver) (layout_of c.args.element.now).shape) (records_at (source_of c.args.reader.now.giver) (g.M.Maker.target c.args.reader.now.maker) (layout_of c.args.element.now).shape)
    (layout_of c.args.element.now).head.size c.args.count c.loop.counter c.loop.next _ _ c.loop.row c.args.kept.now c.loop.kept (state_of c.args.progress.now) (state_of c.loop.progress) c.loop-test.false c.loop.invariant.1

pub make_fields-loop-part-init : goal.make_fields-loop-part-init
make_fields-loop-part-init g t c = (
  parts_readable (length c.args.reader.now.giver.memory.now) c.args.at c.args.size 0 (parts_from (map part_of c.args.parts.now)) c.requires.within c.requires.laid c.requires.sized,
  begins g.M.Maker.stand g.M.Maker.keeps c.row-row.result c.args.kept.now (state_of c.args.progress.now) _ _ c.row-row.ensures (g.met.M.Maker.keeps_nothing c.args.kept.now),
)

pub make_fields-returns-in_err-made : goal.make_fields-returns-in_err-made
make_fields-returns-in_err-made g t c =
    let p = err_from_is_err_and c.from_residual.result c.from_residual.ensures.1 in
    rw (p.1, p.2) (stops_of g.M.Maker.allocates (λ vs. parts vs) (λ v. records_of_fields (source_of c.args.reader.now.giver) (g.M.Maker.target c.args.reader.now.maker) (parts_from (map part_of c.args.parts.now)) c.args.at (held v)) _ (state_of c.args.progress.now) (state_of c.make_field.new.progress) c.in_err-made.field-0.0
    (fields_stop g.M.Maker.stand g.M.Maker.keeps g.M.Maker.allocates (source_of c.args.reader.now.giver) (g.M.Maker.target c.args.reader.now.maker) c.args.parts.now c.loop-part.part-index c.args.at c.part-item.result _ _ c.loop-part.row c.args.kept.now c.loop-part.kept (state_of c.args.progress.now) (state_of c.loop-part.progress) (state_of c.make_field.new.progress) c.in_err-made.field-0.0
    c.loop-part-test.true c.part-item.is c.loop-part.invariant.1 c.in_err-made.ensures))

pub make_fields-loop-part-preserved : goal.make_fields-loop-part-preserved
make_fields-loop-part-preserved g t c = (
  (readable_next (length c.args.reader.now.giver.memory.now) c.args.at c.args.parts.now c.loop-part.part-index c.part-item.result c.loop-part-test.true c.part-item.is c.loop-part.invariant.0).1,
  fields_turn g.M.Maker.stands g.M.Maker.stand g.M.Maker.keeps g.met.M.Maker.keeps_both (source_of c.args.reader.now.giver) (g.M.Maker.target c.args.reader.now.maker) c.args.parts.now c.loop-part.part-index c.args.at c.part-item.result _ _ c.loop-part.row c.push.new.row c.in_ok-made.made c.args.kept.now c.loop-part.kept c.make_field.new.kept (state_of c.args.progress.now) (state_of c.loop-part.progress) (state_of c.make_field.new.progress)
      c.loop-part-test.true c.part-item.is c.loop-part.invariant.1 c.in_ok-made.ensures c.in_ok-push.ensures.ok,
)

pub make_fields-returns : goal.make_fields-returns
make_fields-returns g t c =
    fields_made g.M.Maker.stands g.M.Maker.stand g.M.Maker.keeps (records_of_fields (source_of c.args.reader.now.giver) (g.M.Maker.target c.args.reader.now.maker) (parts_from (map part_of c.args.parts.now)) c.args.at) _ (state_of c.loop-part.progress) c.loop-part.row c.fields.result c.args.kept.now c.loop-part.kept
    (fields_end g.M.Maker.stand g.M.Maker.keeps (source_of c.args.reader.now.giver) (g.M.Maker.target c.args.reader.now.maker) c.args.parts.now c.loop-part.part-index c.args.at _ _ c.loop-part.row c.args.kept.now c.loop-part.kept (state_of c.args.progress.now) (state_of c.loop-part.progress) c.loop-part-test.false c.loop-part.invariant.1)
    c.fields.ensures

pub make_list-returns-in_err-check_region : goal.make_list-returns-in_err-check_region
make_list-returns-in_err-check_region g t c =
    let p = err_from_is_err_and c.from_residual.result c.from_residual.ensures.1 in
    let stops : Stops c.in_err-check_region.field-0.0 (state_of c.check_region.new.progress) (region c.args.reader.now.giver.memory.now (layout_of c.args.element.now).head.align c.args.pointer (c.args.count * (layout_of c.args.element.now).head.size) (state_of c.args.progress.now)) =
    rw (seen_head c.args.element.now) (rw (c.from.ensures, c.from-2.ensures) at c.in_err-check_region.ensures.reads) in
    rw (p.1, p.2) (stops_wanted g.M.Maker.allocates (records_of_list (records_at (source_of c.args.reader.now.giver) (g.M.Maker.target c.args.reader.now.maker) (layout_of c.args.element.now).shape) (layout_of c.args.element.now).head c.args.pointer c.args.count) _ (state_of c.args.progress.now) (state_of c.check_region.new.progress) c.in_err-check_region.field-0.0
    (elements_stop (read_at (source_of c.args.reader.now.giver) (layout_of c.args.element.now).shape) c.args.reader.now.giver.memory.now (layout_of c.args.element.now).head c.args.pointer c.args.count (state_of c.args.progress.now) (state_of c.check_region.new.progress) c.in_err-check_region.field-0.0 stops)
    (list_more (source_of c.args.reader.now.giver) (g.M.Maker.target c.args.reader.now.maker) (layout_of c.args.element.now).shape c.args.reader.now.giver.memory.now (layout_of c.args.element.now).head c.args.pointer c.args.count (state_of c.args.progress.now)))

pub make_list-returns-in_err-keep : goal.make_list-returns-in_err-keep
make_list-returns-in_err-keep g t c =
    let p = err_from_is_err_and c.from_residual-in_err-keep.result c.from_residual-in_err-keep.ensures.1 in
    rw (p.1, p.2) (memory_wanted g.M.Maker.allocates (records_of_list (records_at (source_of c.args.reader.now.giver) (g.M.Maker.target c.args.reader.now.maker) (layout_of c.args.element.now).shape) (layout_of c.args.element.now).head c.args.pointer c.args.count) _ (state_of c.args.progress.now) (state_of c.check_region.new.progress) c.in_err-keep.field-0.0 c.in_err-keep.ensures.err
    (list_more (source_of c.args.reader.now.giver) (g.M.Maker.target c.args.reader.now.maker) (layout_of c.args.element.now).shape c.args.reader.now.giver.memory.now (layout_of c.args.element.now).head c.args.pointer c.args.count (state_of c.args.progress.now)))

pub make_list-returns-in_err-row : goal.make_list-returns-in_err-row
make_list-returns-in_err-row g t c =
    let p = err_from_is_err_and c.from_residual-in_err-row.result c.from_residual-in_err-row.ensures.1 in
    let region_is : region c.args.reader.now.giver.memory.now (layout_of c.args.element.now).head.align c.args.pointer (c.args.count * (layout_of c.args.element.now).head.size) (state_of c.args.progress.now) ≡ Ok (tt, state_of c.check_region.new.progress) =
    rw (seen_head c.args.element.now) (rw (c.from.ensures, c.from-2.ensures) at c.in_ok-check_region.ensures.reads) in
    rw (p.1, p.2) (list_stops g.M.Maker.allocates (source_of c.args.reader.now.giver) (g.M.Maker.target c.args.reader.now.maker) (layout_of c.args.element.now).shape c.args.reader.now.giver.memory.now (layout_of c.args.element.now).head c.args.pointer c.args.count
    (state_of c.args.progress.now) (state_of c.check_region.new.progress) (state_of c.make_each.new.progress) c.in_err-row.field-0.0 region_is c.in_err-row.ensures)

pub make_list-returns : goal.make_list-returns
make_list-returns g t c =
    let region_is : region c.args.reader.now.giver.memory.now (layout_of c.args.element.now).head.align c.args.pointer (c.args.count * (layout_of c.args.element.now).head.size) (state_of c.args.progress.now) ≡ Ok (tt, state_of c.check_region.new.progress) =
    rw (seen_head c.args.element.now) (rw (c.from.ensures, c.from-2.ensures) at c.in_ok-check_region.ensures.reads) in
    list_made g.M.Maker.stands g.M.Maker.stand g.M.Maker.keeps g.met.M.Maker.keeps_both (source_of c.args.reader.now.giver) (g.M.Maker.target c.args.reader.now.maker) (layout_of c.args.element.now).shape c.args.reader.now.giver.memory.now (layout_of c.args.element.now).head c.args.pointer c.args.count
    (state_of c.args.progress.now) (state_of c.check_region.new.progress) (state_of c.make_each.new.progress) c.in_ok-row.row c.list.result c.args.kept.now c.keep.new.kept c.make_each.new.kept _
    region_is (rw (seen_head c.args.element.now, sym c.from.ensures, sym c.from-2.ensures) refl) c.in_ok-keep.ensures.ok c.in_ok-row.ensures c.list.ensures

pub make_value-make_case-requires : goal.make_value-make_case-requires
make_value-make_case-requires g t c κs within =
    let there : c.deref-in-Cases-2.result.now ≡ c.in-Cases.payloads.value.items = c.deref-in-Cases-2.ensures.value ∙ ap (λ v. v.items) c.deref-in-Cases.ensures in
    let shape_is : (layout_of c.args.layout.now).shape ≡ cases_shape c.in-Cases.discriminant c.in-Cases.offset (payloads_from (map payload_of c.deref-in-Cases-2.result.now)) =
    seen_shape c.args.layout.now ∙ (ap shape_of c.in-Cases.is ∙ (seen_form_Cases c.in-Cases.discriminant c.in-Cases.offset c.in-Cases.payloads ∙ ap (λ ps. cases_shape c.in-Cases.discriminant c.in-Cases.offset (payloads_from (map payload_of ps))) (sym there))) in
    let can : ArePayloadsReadable (length c.args.reader.now.giver.memory.now) (c.args.at + c.in-Cases.offset) (payloads_from (map payload_of c.deref-in-Cases-2.result.now)) =
    cases_readable (length c.args.reader.now.giver.memory.now) c.args.at c.in-Cases.discriminant c.in-Cases.offset (layout_of c.args.layout.now) (payloads_from (map payload_of c.deref-in-Cases-2.result.now)) shape_is c.requires.within c.requires.laid c.requires.sized in
    (search (rules, the_lemmas), search (rules, the_lemmas, can))

pub make_value-returns-in-Leaf : goal.make_value-returns-in-Leaf
make_value-returns-in-Leaf g t c =
    let shape_is : (layout_of c.args.layout.now).shape ≡ leaf_shape c.in-Leaf.leaf = seen_shape c.args.layout.now ∙ (ap shape_of c.in-Leaf.is ∙ seen_Leaf c.in-Leaf.leaf) in
    rw shape_is (c.make_leaf_at.ensures (state_of c.args.progress.now) c.args.kept.now)

pub make_value-returns-in-List : goal.make_value-returns-in-List
make_value-returns-in-List g t c =
    let shape_is : (layout_of c.args.layout.now).shape ≡ list_shape (layout_of c.deref.result.now).head (layout_of c.deref.result.now).shape =
    seen_shape c.args.layout.now ∙ (ap shape_of c.in-List.is ∙ (seen_form_List c.in-List.element ∙ ap (λ (l : Layout). list_shape (layout_of l).head (layout_of l).shape) (sym c.deref.ensures))) in
    rw shape_is (list_placed g.M.Maker.stands g.M.Maker.keeps g.M.Maker.allocates (source_of c.args.reader.now.giver) (g.M.Maker.target c.args.reader.now.maker) (layout_of c.deref.result.now).head (layout_of c.deref.result.now).shape c.number_32-pointer-in-List.result c.number_32-count.result c.args.at
    c.args.kept.now c.make_list.new.kept (state_of c.args.progress.now) (state_of c.make_list.new.progress) c.make_list.result c.number_32-pointer-in-List.ensures c.number_32-count.ensures c.make_list.ensures)

pub make_value-returns-in-FixedList : goal.make_value-returns-in-FixedList
make_value-returns-in-FixedList g t c =
    let shape_is : (layout_of c.args.layout.now).shape ≡ fixed_list_shape (layout_of c.deref-in-FixedList.result.now).head (layout_of c.deref-in-FixedList.result.now).shape c.in-FixedList.length =
    seen_shape c.args.layout.now ∙ (ap shape_of c.in-FixedList.is ∙ (seen_form_FixedList c.in-FixedList.element c.in-FixedList.length ∙ ap (λ (l : Layout). fixed_list_shape (layout_of l).head (layout_of l).shape c.in-FixedList.length) (sym c.deref-in-FixedList.ensures))) in
    rw shape_is c.make_fixed_list.ensures

pub make_value-returns-in-Enum : goal.make_value-returns-in-Enum
make_value-returns-in-Enum g t c =
    let shape_is : (layout_of c.args.layout.now).shape ≡ cases_shape c.in-Enum.discriminant c.in-Enum.discriminant (nothings c.in-Enum.count) =
    seen_shape c.args.layout.now ∙ (ap shape_of c.in-Enum.is ∙ seen_form_Enum c.in-Enum.discriminant c.in-Enum.count) in
    rw shape_is (enum_placed g.M.Maker.stands g.M.Maker.keeps g.M.Maker.allocates (source_of c.args.reader.now.giver) (g.M.Maker.target c.args.reader.now.maker) c.in-Enum.discriminant c.in-Enum.count c.number_at.result c.args.at
    c.args.kept.now c.args.kept.now (state_of c.args.progress.now) (state_of c.args.progress.now) c.make_enum.result c.number_at.ensures.value
    (c.make_enum.ensures (source_of c.args.reader.now.giver) (g.M.Maker.target c.args.reader.now.maker) (c.args.at + c.in-Enum.discriminant) (state_of c.args.progress.now) c.args.kept.now))

pub make_value-returns-in-Handle : goal.make_value-returns-in-Handle
make_value-returns-in-Handle g t c =
    let shape_is : (layout_of c.args.layout.now).shape ≡ handle_shape c.in-Handle.wanted = seen_shape c.args.layout.now ∙ (ap shape_of c.in-Handle.is ∙ seen_Handle c.in-Handle.wanted) in
    rw (shape_is, sym c.number_32.ensures) (c.make_handle.ensures c.args.kept.now)
