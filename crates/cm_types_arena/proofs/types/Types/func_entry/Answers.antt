use Rattle.cm_types_arena.proofs.FuncLaws.{func_entry_made}
use Rattle.cm_types_arena.proofs.types.Types.func_entry.Goals as goal

pub returns-in-Ok-build_func-clause-entry : goal.returns-in-Ok-build_func-clause-entry
returns-in-Ok-build_func-clause-entry c =
    func_entry_made c.args.self.now.entries.items c.args.def c.in-Ok-build_func.func c.in-Ok.params c.in-Some.summary c.requires.parts
    c.in-Ok.ensures c.in-Some.ensures.1 c.in-Ok-build_func.ensures
