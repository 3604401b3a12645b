use Rattle.std.proofs.Common.{◌∙◌, map, arith, ap, sym}
use Rattle.cm_types_arena.specs.Arena.{parts_in}
use Rattle.cm_types_arena.specs.Places.{types_of}
use Rattle.cm_layout_placed.specs.Placed.{first_kinds}
use Rattle.cm_layout_placed.proofs.KindLaws.{kinds_there}
use Rattle.cm_layout_placed.proofs.kinds.place_kinds.Goals as goal

pub node_kinds-requires-clause-parts : goal.node_kinds-requires-clause-parts
node_kinds-requires-clause-parts c =
    let types = types_of c.args.types.now in
    kinds_there (map (λ v. v.items) c.args.kinds.now) types c.args.place c.parts.result.now (omega (arith, c.requires.there)) c.requires.before c.parts.ensures.earlier
    ∙ ap (map first_kinds) (sym (ap parts_in c.node.ensures ∙ c.parts.ensures.parts))
