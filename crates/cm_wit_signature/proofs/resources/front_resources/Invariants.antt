use Rattle.std.proofs.Common.{◌≡◌, List, map, take}
use Rattle.cm_types.specs.Types.{Ty}
use Rattle.cm_wit_meanings.specs.Places.{scope_in}
use Rattle.cm_wit_signature.specs.Fronts.{front_resource}
use Rattle.cm_wit_signature.proofs.resources.front_resources.Given as goal

abbrev pub invariant-loop-front : goal.invariant-loop-front
invariant-loop-front l = (types : List Ty) → l.resources.items ≡ map (front_resource (scope_in types l.scope)) (take l.front-index l.fronts)
