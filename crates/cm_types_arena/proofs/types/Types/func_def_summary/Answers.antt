use Rattle.cm_types_arena.specs.Places.{types_of}
use Rattle.cm_types_arena.proofs.FuncLaws.{func_too_large, func_summary_known}
use Rattle.cm_types_arena.proofs.types.Types.func_def_summary.Goals as goal

pub returns-in_err-together : goal.returns-in_err-together
returns-in_err-together c =
    rw c.from_residual.ensures (func_too_large (types_of c.args.self.now) c.args.def.now c.args.params.now c.requires.parts c.in_err-together.ensures)

pub returns : goal.returns
returns c =
    func_summary_known (types_of c.args.self.now) c.args.def.now c.args.params.now c.above.result c.in_ok-together.together c.requires.parts c.in_ok-together.ensures.1
    c.above.ensures
