use Rattle.std.proofs.Common.{arith}
use Rattle.cm_types_arena.proofs.ArenaLaws.{count, summary_there}
use Rattle.cm_types_arena.proofs.types.Types.summary.Goals as goal

pub returns : goal.returns
returns c =
    let es = c.args.self.now.entries.items in
    summary_there es c.args.place c.index.result.now c.args.self.now.arena (omega (arith, c.requires, count es)) c.index.ensures
