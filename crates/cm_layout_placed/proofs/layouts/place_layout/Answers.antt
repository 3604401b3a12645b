use Rattle.std.proofs.Common.{◌≡◌, ◌∙◌, map, take, arith, ap, sym}
use Rattle.std.proofs.lemmas.Result.{IfOk-weaker}
use Rattle.cm_types.specs.TypeTrees.{type_of}
use Rattle.cm_layout.specs.Layouts.{layout_of}
use Rattle.cm_layout.specs.Shapes.{layout_at}
use Rattle.cm_types_arena.specs.Arena.{parts_in}
use Rattle.cm_types_arena.specs.Places.{types_of}
use Rattle.cm_types_arena.specs.TypeDefs.{type_at}
use Rattle.cm_types_arena.specs.Replaced.{replaced}
use Rattle.cm_layout_placed.specs.Placed.{types_by}
use Rattle.cm_layout_placed.proofs.PlacedLaws.{are_of, first_laid}
use Rattle.cm_layout_placed.proofs.ReplacedLaws.{as_many_by, parts_by, type_by, types_at_by}
use Rattle.cm_layout_placed.proofs.layouts.place_layout.Goals as goal

pub node_layout-requires-clause-parts : goal.node_layout-requires-clause-parts
node_layout-requires-clause-parts g c =
    let s = g.R.Replacement.replacement c.args.by.now in
    let types = types_of c.args.types.now in
    let ps = c.parts.result.now in
    let n = c.args.place in
    let ls = take n (map layout_at (types_by s types)) in
    let is : parts_in (replaced s (type_of c.in_ok-tree.tree.root)) ≡ map (type_at (types_by s types)) ps =
    parts_by s (type_of c.in_ok-tree.tree.root) ∙ ap (map (replaced s)) (ap parts_in c.in_ok-tree.ensures ∙ c.parts.ensures.parts) ∙ types_at_by s types ps in
    rw (c.requires.before, is) (are_of ls (types_by s types) n ps (first_laid (types_by s types) n (omega (arith, c.requires.there, as_many_by s types))) c.parts.ensures.earlier)

pub returns : goal.returns
returns g c =
    let s = g.R.Replacement.replacement c.args.by.now in
    let types = types_of c.args.types.now in
    IfOk-weaker c.node_layout.result (λ l. layout_of l ≡ layout_at (replaced s (type_of c.in_ok-tree.tree.root)))
    (λ l. layout_of l ≡ layout_at (type_at (types_by s types) c.args.place))
    (λ l e. e ∙ ap (λ t. layout_at (replaced s t)) c.in_ok-tree.ensures ∙ ap layout_at (sym (type_by s types c.args.place)))
    c.node_layout.ensures
