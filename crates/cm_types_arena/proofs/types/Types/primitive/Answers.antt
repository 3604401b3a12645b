use Rattle.std.proofs.Common.{◌∙◌, ap, arith}
use Rattle.cm_types_arena.specs.Arena.{types_in}
use Rattle.cm_types_arena.specs.TypeDefs.{type_at}
use Rattle.cm_types_arena.proofs.ArenaLaws.{primitive_there, primitive_within}
use Rattle.cm_types_arena.proofs.types.Types.primitive.Goals as goal

pub returns-clause-there : goal.returns-clause-there
returns-clause-there c =
    let es = c.args.self.now.entries.items in
    omega (arith, primitive_within es c.args.primitive c.args.self.now.arena, c.place.ensures)

pub returns-clause-ty : goal.returns-clause-ty
returns-clause-ty c =
    let es = c.args.self.now.entries.items in
    ap (type_at (types_in es)) c.place.ensures ∙ primitive_there es c.args.primitive c.args.self.now.arena
