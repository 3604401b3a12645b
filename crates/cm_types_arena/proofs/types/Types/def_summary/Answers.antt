use Rattle.cm_types_arena.specs.Places.{types_of}
use Rattle.cm_types_arena.proofs.SummaryLaws.{too_large, summary_known}
use Rattle.cm_types_arena.proofs.types.Types.def_summary.Goals as goal

pub returns-in_err-together : goal.returns-in_err-together
returns-in_err-together c =
    rw c.from_residual.ensures (too_large (types_of c.args.self.now) c.args.def.now c.args.parts.now c.requires.parts c.in_err-together.ensures)

pub returns : goal.returns
returns c =
    summary_known (types_of c.args.self.now) c.args.def.now c.args.parts.now c.summary.result c.in_ok-together.together c.requires.parts c.in_ok-together.ensures.1
    c.summary.ensures
