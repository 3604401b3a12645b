use Rattle.std.proofs.Common.{map, length}
use Rattle.cm_wit_tokens.specs.Grammar.{steps}
use Rattle.cm_wit_tokens.specs.Lists.{next_member}
use Rattle.cm_wit_tokens.proofs.ListLaws.{StepsGo}
use Rattle.cm_wit_tokens.proofs.lists.read_members.Given as goal

abbrev pub invariant-loop-list : goal.invariant-loop-list
invariant-loop-list g l = StepsGo (next_member g.T.Item.grammar) (map g.T.Item.tree l.list.items) l.cursor ((steps (next_member g.T.Item.grammar)).reads l.initial.cursor)

abbrev pub decreases-loop-list : goal.decreases-loop-list
decreases-loop-list g l = length l.cursor
