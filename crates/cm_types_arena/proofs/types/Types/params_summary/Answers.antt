use Rattle.std.proofs.Common.{arith}
use Rattle.cm_types_arena.specs.Arena.{types_in}
use Rattle.cm_types_arena.proofs.FuncLaws.{func_count, params_known}
use Rattle.cm_types_arena.proofs.types.Types.params_summary.Goals as goal

pub returns : goal.returns
returns c =
    let types = types_in c.args.self.now.entries.items in
    let fs = c.args.self.now.funcs.items in
    params_known types fs c.args.place c.index.result.now c.args.self.now.functions (omega (arith, c.requires, func_count fs)) c.index.ensures
