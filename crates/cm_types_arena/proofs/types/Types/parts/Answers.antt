use Rattle.std.proofs.Common.{◌∙◌, ap, sym, arith, map, subst, List, ℕ, ◌<◌}
use Rattle.std.specs.List.{AllByRecursion}
use Rattle.cm_types_arena.specs.Arena.{types_in}
use Rattle.cm_types_arena.specs.TypeDefs.{type_at}
use Rattle.cm_types_arena.proofs.ArenaLaws.{count, parts_there, earlier_there}
use Rattle.cm_types_arena.proofs.types.Types.parts.Goals as goal

pub returns-clause-parts : goal.returns-clause-parts
returns-clause-parts c =
    let es = c.args.self.now.entries.items in
    parts_there es c.args.place c.index.result.now c.args.self.now.arena (omega (arith, c.requires, count es)) c.index.ensures
    ∙ ap (map (type_at (types_in es))) (sym c.deref.ensures.value)

pub returns-clause-earlier : goal.returns-clause-earlier
returns-clause-earlier c =
    let es = c.args.self.now.entries.items in
    subst (λ (ps : List ℕ). AllByRecursion (λ p. p < c.args.place) ps) (sym c.deref.ensures.value)
    (earlier_there es c.args.place c.index.result.now c.args.self.now.arena (omega (arith, c.requires, count es)) c.index.ensures)
