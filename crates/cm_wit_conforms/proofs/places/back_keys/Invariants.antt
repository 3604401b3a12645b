use Rattle.cm_names.specs.Keys.{key_view}
use Rattle.cm_wit_conforms.specs.Places.{back_key}
use Rattle.cm_wit_conforms.proofs.MapLaws.{Rests}
use Rattle.cm_wit_conforms.proofs.places.back_keys.Given as goal

abbrev pub invariant-loop-name : goal.invariant-loop-name
invariant-loop-name l = Rests (back_key l.numbers) key_view l.names l.name-index l.keys.items
