use Rattle.std.proofs.Common.{arith}
use Rattle.cm_types_arena.specs.Arena.{types_in}
use Rattle.cm_types_arena.proofs.FuncLaws.{func_count, answer_there, answer_low}
use Rattle.cm_types_arena.proofs.types.Types.func_result.Goals as goal

pub returns-clause-there : goal.returns-clause-there
returns-clause-there c =
    let types = types_in c.args.self.now.entries.items in
    let fs = c.args.self.now.funcs.items in
    answer_low types fs c.args.place c.index.result.now c.args.self.now.functions (omega (arith, c.requires, func_count fs)) c.index.ensures

pub returns-clause-answer : goal.returns-clause-answer
returns-clause-answer c =
    let types = types_in c.args.self.now.entries.items in
    let fs = c.args.self.now.funcs.items in
    answer_there types fs c.args.place c.index.result.now c.args.self.now.functions (omega (arith, c.requires, func_count fs)) c.index.ensures
