use Rattle.std.proofs.Common.{◌≡◌, ◌<◌, ◌∙◌, List, length, map, slice_index_or, rules}
use Rattle.std.proofs.lemmas.List.{length-map}
use Rattle.std.proofs.lemmas.Result.{IfOk-weaker}
use Rattle.cm_types.specs.Types.{Ty}
use Rattle.cm_layout.specs.Layouts.{layout_of}
use Rattle.cm_layout.specs.Shapes.{layout_at}
use Rattle.cm_types_arena.specs.TypeDefs.{type_at}
use Rattle.cm_layout_placed.specs.Placed.{AreOf, at_place}
use Rattle.cm_layout_placed.proofs.PlacedLaws.{as_many, nth_there, nth_layout}
use Rattle.cm_layout_placed.proofs.placed.share_nth.Goals as goal

pub bounds-places-number : goal.bounds-places-number
bounds-places-number c =
    let r = c.requires in
    rw (as_many (map layout_of c.args.layouts.now) c.args.places.now r.0 r.1) r.2

pub share_at-requires : goal.share_at-requires
share_at-requires c =
    let r = c.requires in
    rw (length-map c.args.layouts.now layout_of) at (nth_there (map layout_of c.args.layouts.now) c.args.places.now r.0 c.args.number r.1 r.2)

pub returns : goal.returns
returns c =
    let ls = map layout_of c.args.layouts.now in
    IfOk-weaker c.share_at.result (λ l. layout_of l ≡ at_place ls (slice_index_or c.args.places.now c.args.number 0))
    (λ l. (types : List Ty) → AreOf ls c.args.places.now types → c.args.number < length types → layout_of l ≡ layout_at (type_at types c.args.number))
    (λ l e types a lt. e ∙ nth_layout ls c.args.places.now types c.args.number a lt)
    c.share_at.ensures

pub offset_bounds-places-number : goal.offset_bounds-places-number
offset_bounds-places-number c =
    let r = c.requires in
    let lt : c.args.number < length c.args.places.now = rw (as_many (map layout_of c.args.layouts.now) c.args.places.now r.0 r.1) r.2 in
    search (rules, lt, c.type_inv.places)
