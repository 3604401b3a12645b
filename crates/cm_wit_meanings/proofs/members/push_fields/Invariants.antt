use Rattle.cm_wit_meanings.proofs.MemberLaws.{PushedFields}
use Rattle.cm_wit_meanings.proofs.members.push_fields.Given as goal

abbrev pub invariant-loop-text : goal.invariant-loop-text
invariant-loop-text l = PushedFields l.scope l.texts l.initial.types l.text-index l.types l.fields.items
