use Rattle.std.proofs.Common.{◌≡◌, ◌∙◌, map, take, ap, sym}
use Rattle.std.proofs.lemmas.Result.{IfOk-weaker}
use Rattle.cm_layout.specs.Layouts.{layout_of}
use Rattle.cm_layout.specs.Shapes.{layout_at}
use Rattle.cm_types_arena.specs.Places.{types_of}
use Rattle.cm_types_arena.specs.TypeDefs.{type_at}
use Rattle.cm_layout_placed.specs.Placed.{types_by}
use Rattle.cm_layout_placed.proofs.ReplacedLaws.{itself}
use Rattle.cm_layout_placed.proofs.layouts.own_layout.Goals as goal

pub place_layout-requires-clause-before : goal.place_layout-requires-clause-before
place_layout-requires-clause-before c =
    c.requires.before ∙ ap (λ ts. take c.args.place (map layout_at ts)) (sym (itself (λ r. r) c.unmoved.ensures.types (types_of c.args.types.now)))

pub returns : goal.returns
returns c =
    let types = types_of c.args.types.now in
    IfOk-weaker c.place_layout.result (λ l. layout_of l ≡ layout_at (type_at (types_by (λ r. r) types) c.args.place))
    (λ l. layout_of l ≡ layout_at (type_at types c.args.place))
    (λ l e. e ∙ ap (λ ts. layout_at (type_at ts c.args.place)) (itself (λ r. r) c.unmoved.ensures.types types))
    c.place_layout.ensures
