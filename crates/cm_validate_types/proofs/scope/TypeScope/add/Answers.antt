use Rattle.cm_validate_types.specs.Settled.{IsEntrySettled}
use Rattle.cm_validate_types.specs.SettledScopes.{IsMovedCounted}
use Rattle.cm_validate_types.specs.TypeScopes.{arena_funcs, arena_types, entries_of}
use Rattle.cm_validate_types.proofs.StayLaws.{all_added}
use Rattle.cm_validate_types.proofs.scope.TypeScope.add.Goals as goal

pub returns-clause-settled : goal.returns-clause-settled
returns-clause-settled c = λ p a.
    let s = c.args.self.now in
    all_added (IsEntrySettled (arena_types s) (arena_funcs s)) (entries_of s) _ c.args.entry c.push.result c.push.ensures.pushed c.push.ensures.kept p a

pub returns-clause-moved : goal.returns-clause-moved
returns-clause-moved c = λ n p a.
    let s = c.args.self.now in
    all_added (IsMovedCounted (arena_types s) (arena_funcs s) n) (entries_of s) _ c.args.entry c.push.result c.push.ensures.pushed c.push.ensures.kept p a
