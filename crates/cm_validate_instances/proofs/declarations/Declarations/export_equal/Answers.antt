use Rattle.std.proofs.Common.{subst}
use Rattle.cm_validate_types.specs.SettledScopes.{IsMovedCounted}
use Rattle.cm_validate_types.specs.TypeScopes.{arena_funcs, arena_types}
use Rattle.cm_validate_instances.proofs.PropLaws.{moved_known}
use Rattle.cm_validate_instances.proofs.declarations.Declarations.export_equal.Goals as goal

pub add_both-requires-clause-settled : goal.add_both-requires-clause-settled
add_both-requires-clause-settled c = λ a.
    let d = c.args.self.now in
    subst (IsMovedCounted (arena_types d.scope) (arena_funcs d.scope) d.first) c.in-Some-Value.field-0-is (c.in-Some-Value.ensures.moved d.first (moved_known d.first d.scope d.moved_counted a))

pub add_both-requires-clause-moved : goal.add_both-requires-clause-moved
add_both-requires-clause-moved c = λ a.
    let d = c.args.self.now in
    subst (IsMovedCounted (arena_types d.scope) (arena_funcs d.scope) d.first) c.in-Some-Value.field-0-is (c.in-Some-Value.ensures.moved d.first (moved_known d.first d.scope d.moved_counted a))
