use Rattle.cm_names.specs.Keys.{key_view}
use Rattle.cm_names.specs.Listed.{listed}
use Rattle.cm_wit_conforms.specs.Numbers.{second_of}
use Rattle.cm_wit_conforms.specs.PartViews.{front_view}
use Rattle.cm_wit_conforms.proofs.MapLaws.{Rests}
use Rattle.cm_wit_conforms.proofs.fronts.second_keys.Given as goal

abbrev pub invariant-loop-front : goal.invariant-loop-front
invariant-loop-front l = Rests (λ f. second_of (listed l.firsts) (front_view f)) key_view l.fronts l.front-index l.keys.items
