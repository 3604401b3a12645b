use Rattle.cm_names.specs.Keys.{key_view}
use Rattle.cm_names.specs.Listed.{listed}
use Rattle.cm_wit_conforms.specs.Numbers.{version_of}
use Rattle.cm_wit_conforms.specs.PartViews.{front_view}
use Rattle.cm_wit_conforms.proofs.MapLaws.{Rests}
use Rattle.cm_wit_conforms.proofs.fronts.version_keys.Given as goal

abbrev pub invariant-loop-front : goal.invariant-loop-front
invariant-loop-front l = Rests (λ f. version_of (listed l.firsts) (listed l.seconds) (front_view f)) key_view l.fronts l.front-index l.keys.items
