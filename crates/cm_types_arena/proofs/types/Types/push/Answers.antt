use Rattle.std.proofs.Common.{is_ok}
use Rattle.cm_types_arena.proofs.ArenaLaws.{arena_pushed}
use Rattle.cm_types_arena.proofs.FuncLaws.{funcs_kept}
use Rattle.cm_types_arena.proofs.types.Types.push.Goals as goal

pub invariant_of-self : goal.invariant_of-self
invariant_of-self c =
    record {
      arena = arena_pushed (is_ok c.push.result) c.push.new.self.items c.args.self.now.entries.items c.in_ok-entry.entry c.push.ensures.items c.args.self.now.arena c.in_ok-entry.ensures.entry;
      functions = funcs_kept (is_ok c.push.result) c.push.new.self.items c.args.self.now.entries.items c.in_ok-entry.entry c.args.self.now.funcs.items c.push.ensures.items c.args.self.now.functions;
    }
