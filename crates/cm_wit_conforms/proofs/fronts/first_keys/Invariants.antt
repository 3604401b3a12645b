use Rattle.cm_names.specs.Keys.{key_view}
use Rattle.cm_wit_conforms.specs.Numbers.{first_of}
use Rattle.cm_wit_conforms.specs.PartViews.{front_view}
use Rattle.cm_wit_conforms.proofs.MapLaws.{Rests}
use Rattle.cm_wit_conforms.proofs.fronts.first_keys.Given as goal

abbrev pub invariant-loop-front : goal.invariant-loop-front
invariant-loop-front l = Rests (λ f. first_of (front_view f)) key_view l.fronts l.front-index l.keys.items
