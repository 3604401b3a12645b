use Rattle.cm_wit_meanings.proofs.MemberLaws.{PushedCases}
use Rattle.cm_wit_meanings.proofs.members.push_cases.Given as goal

abbrev pub invariant-loop-text : goal.invariant-loop-text
invariant-loop-text l = PushedCases l.scope l.texts l.initial.types l.text-index l.types l.cases.items
