use Rattle.std.proofs.Common.{is_ok}
use Rattle.cm_types_arena.specs.Arena.{types_in}
use Rattle.cm_types_arena.proofs.FuncLaws.{funcs_pushed}
use Rattle.cm_types_arena.proofs.types.Types.push_func.Goals as goal

pub invariant_of-self : goal.invariant_of-self
invariant_of-self c =
    record {
      arena = c.args.self.now.arena;
      functions = funcs_pushed (is_ok c.push.result) (types_in c.args.self.now.entries.items) c.push.new.self.items c.args.self.now.funcs.items c.in_ok-entry.entry c.push.ensures.items c.args.self.now.functions c.in_ok-entry.ensures.entry;
    }
