use Rattle.cm_wit_signature.proofs.ItemLaws.{PushedItems}
use Rattle.cm_wit_signature.proofs.items.push_members.Given as goal

abbrev pub invariant-loop-member : goal.invariant-loop-member
invariant-loop-member l = PushedItems l.scope l.fn.members.fronts.items l.fn.members.list.items l.initial.types l.member-index l.types l.items.items
