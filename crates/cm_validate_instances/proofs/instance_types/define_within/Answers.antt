use Rattle.std.proofs.Common.{◌≡◌, ◌++◌, ◌∷◌, [], subst, map, IfOk, MatchOption}
use Rattle.std.specs.List.{AllByRecursion}
use Rattle.cm_validate_model.specs.CountedSpaces.{IsDefCounted}
use Rattle.cm_types.specs.DefTypes.{declaration_tree}
use Rattle.cm_validate_model.specs.Declarations.{instance_def_broken, instance_defined}
use Rattle.cm_validate_model.specs.Definitions.{instance_type}
use Rattle.cm_validate_model.specs.Reasons.{least}
use Rattle.cm_validate_types.specs.SettledScopes.{AreSettled}
use Rattle.cm_validate_types.specs.TypeScopes.{HasGrown, own_types}
use Rattle.cm_validate_types.specs.declared.scope.TypeScope.{TypeScope}
use Rattle.cm_validate_instances.proofs.instance_types.define_within.Goals as goal

pub returns-clause-fault : goal.returns-clause-fault
returns-clause-fault c =
    subst (λ (s : TypeScope). IfOk c.defined-component.result.1 (λ r. r ≡ least (instance_def_broken (own_types s) c.args.next (map declaration_tree c.args.declarations.now))))
    c.replace-component.ensures.value c.defined-component.ensures.fault

pub returns-clause-defined : goal.returns-clause-defined
returns-clause-defined c =
    let ds = map declaration_tree c.args.declarations.now in
    let after = c.defined-component.result.0 in
    subst (λ (s : TypeScope). IfOk c.defined-component.result.1 (λ r. MatchOption r (own_types after ≡ own_types s ++ instance_type (instance_defined (own_types s) c.args.next ds) ∷ []) (λ _. own_types after ≡ own_types s)))
    c.replace-component.ensures.value c.defined-component.ensures.defined

pub returns-clause-grown : goal.returns-clause-grown
returns-clause-grown c = subst (λ (s : TypeScope). HasGrown s c.defined-component.result.0) c.replace-component.ensures.value c.defined-component.ensures.grown

pub returns-clause-settled : goal.returns-clause-settled
returns-clause-settled c =
    subst (λ (s : TypeScope). AllByRecursion (IsDefCounted c.args.next) (own_types s) → AreSettled s → AreSettled c.defined-component.result.0) c.replace-component.ensures.value c.defined-component.ensures.settled
