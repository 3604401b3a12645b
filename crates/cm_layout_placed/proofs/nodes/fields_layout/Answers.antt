use Rattle.std.proofs.Common.{◌≡◌, ◌<◌, ◌≤◌, ◌∙◌, suc, length, map, arith, sym, ap, add-one}
use Rattle.std.proofs.lemmas.List.{length-map}
use Rattle.std.proofs.lemmas.Result.{IfOk-weaker}
use Rattle.cm_types.specs.Limits.{nodes_of_fields}
use Rattle.cm_types.specs.declared.limits.TheConstants.{MAX_NODES}
use Rattle.cm_types.specs.Types.{Fields, FieldsKind, fields, no_fields}
use Rattle.cm_layout.specs.Layouts.{IsLayingFields, layout_of}
use Rattle.cm_layout.specs.Shapes.{layout_at}
use Rattle.cm_types_arena.specs.Arena.{field_types}
use Rattle.cm_layout_placed.specs.Placed.{AreOf}
use Rattle.cm_layout_placed.proofs.PlacedLaws.{as_many, behind, nth_there, nth_layout, next_field, none_behind}
use Rattle.cm_layout_placed.proofs.nodes.fields_layout.Goals as goal

pub loop-place-init : goal.loop-place-init
loop-place-init c = λ all few a. c.in_ok-builder.ensures all few

pub share_at-requires : goal.share_at-requires
share_at-requires c =
    let r = c.requires in
    let ls = map layout_of c.args.layouts.now in
    let lt : c.loop-place.place-index < length (field_types r.0) = rw (← as_many ls c.args.places.now (field_types r.0) r.2) c.loop-place-test.true in
    rw (length-map c.args.layouts.now layout_of) at (nth_there ls c.args.places.now (field_types r.0) c.loop-place.place-index r.2 lt)

pub push-requires : goal.push-requires
push-requires c =
    let r = c.requires in
    let i = c.loop-place.place-index in
    let ls = map layout_of c.args.layouts.now in
    let lt : i < length (field_types r.0) = rw (← as_many ls c.args.places.now (field_types r.0) r.2) c.loop-place-test.true in
    let h = next_field i r.0 lt in
    let is = c.in_ok-share_at.ensures ∙ nth_layout ls c.args.places.now (field_types r.0) i r.2 lt ∙ ap layout_at (sym h.there) in
    (r.0, behind (suc i) r.0, h.label, h.ty, rw h.split at (c.loop-place.invariant r.0 r.1 r.2), is)

pub loop-place-preserved : goal.loop-place-preserved
loop-place-preserved c = λ all few a.
    let i = c.loop-place.place-index in
    let ls = map layout_of c.args.layouts.now in
    let lt : i < length (field_types all) = rw (← as_many ls c.args.places.now (field_types all) a) c.loop-place-test.true in
    let h = next_field i all lt in
    let is = c.in_ok-share_at.ensures ∙ nth_layout ls c.args.places.now (field_types all) i a lt ∙ ap layout_at (sym h.there) in
    rw add-one (c.in_ok-push.ensures.ok all (behind (suc i) all) h.label h.ty (rw h.split at (c.loop-place.invariant all few a)) is)

pub finish-requires : goal.finish-requires
finish-requires c =
    let r = c.requires in
    let ls = map layout_of c.args.layouts.now in
    let le : length (field_types r.0) ≤ c.loop-place.place-index = rw (← as_many ls c.args.places.now (field_types r.0) r.2) (omega (arith, c.loop-place-test.false)) in
    (r.0, rw (none_behind c.loop-place.place-index r.0 le) at (c.loop-place.invariant r.0 r.1 r.2))

pub returns : goal.returns
returns c =
    let ls = map layout_of c.args.layouts.now in
    let ps = c.args.places.now in
    IfOk-weaker c.finish.result
    (λ l. (k : FieldsKind) (all : Fields) → IsLayingFields all no_fields c.loop-place.builder → layout_of l ≡ layout_at (fields k all))
    (λ l. (k : FieldsKind) (all : Fields) → nodes_of_fields all ≤ MAX_NODES → AreOf ls ps (field_types all) → layout_of l ≡ layout_at (fields k all))
    (λ l f k all few a.
    let le : length (field_types all) ≤ c.loop-place.place-index = rw (← as_many ls ps (field_types all) a) (omega (arith, c.loop-place-test.false)) in
    f k all (rw (none_behind c.loop-place.place-index all le) at (c.loop-place.invariant all few a)))
    c.finish.ensures
