use Rattle.cm_wit_meanings.proofs.TypeLaws.{PushedTypes}
use Rattle.cm_wit_meanings.proofs.types.+types.Given as goal

abbrev pub invariant-push_parts-loop-text : goal.invariant-push_parts-loop-text
invariant-push_parts-loop-text l = PushedTypes l.scope l.texts l.initial.types l.text-index l.types l.places.items
