use Rattle.std.proofs.Common.{subst}
use Rattle.cm_validate_types.specs.SettledScopes.{IsMovedCounted}
use Rattle.cm_validate_types.specs.TypeScopes.{arena_funcs, arena_types}
use Rattle.cm_validate_instances.proofs.PropLaws.{moved_known}
use Rattle.cm_validate_instances.proofs.declarations.Declarations.export_func.Goals as goal
use Rattle.cm_validate_types.proofs.GrowLaws.{same}

pub returns-in-Some-clause-grown : goal.returns-in-Some-clause-grown
returns-in-Some-clause-grown c = same c.args.self.now.scope

pub add_item-requires-clause-settled : goal.add_item-requires-clause-settled
add_item-requires-clause-settled c = λ a.
    let d = c.args.self.now in
    subst (IsMovedCounted (arena_types d.scope) (arena_funcs d.scope) d.first) c.in-Some-Func.field-0-is (c.in-Some-Func.ensures.moved d.first (moved_known d.first d.scope d.moved_counted a))
