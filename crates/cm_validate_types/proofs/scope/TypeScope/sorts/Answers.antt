use Rattle.std.proofs.Common.{◌∙◌, sym}
use Rattle.cm_validate_types.specs.TypeScopes.{arena_types, arena_funcs}
use Rattle.cm_validate_types.proofs.ScopeLaws.{sorts_told}
use Rattle.cm_validate_types.proofs.scope.TypeScope.sorts.Goals as goal

pub returns : goal.returns
returns c = c.deref.ensures.value ∙ c.args.self.now.own.sorted ∙ sym (sorts_told (arena_types c.args.self.now) (arena_funcs c.args.self.now) c.args.self.now.own.entries.items)
