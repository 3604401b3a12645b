-- The arena of a scope has what it had.
use Rattle.cm_validate_types.specs.declared.scope.TypeScope.{TypeScope}
use Rattle.cm_validate_types.specs.TypeScopes.{HasGrown}
use Rattle.cm_validate_types.proofs.GrowLaws.{grown_on}

pub through : (a b c d : TypeScope) → HasGrown a b → HasGrown b c → HasGrown c d → HasGrown a d
through a b c d p q r = grown_on a b d p (grown_on b c d q r)
