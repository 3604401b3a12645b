use Rattle.std.proofs.Common.{map}
use Rattle.cm_wit_tokens.specs.Grammar.{with_front}
use Rattle.cm_wit_tokens.specs.Lists.{at_most}
use Rattle.cm_wit_tokens.proofs.MostLaws.{MostGo}
use Rattle.cm_wit_tokens.proofs.lists.at_most.Given as goal

abbrev pub invariant-loop-turn : goal.invariant-loop-turn
invariant-loop-turn g l = MostGo l.closing g.T.Item.grammar l.most l._turn (map g.T.Item.tree l.list.items) l.cursor (with_front (map g.T.Item.tree l.initial.list.items) ((at_most l.most l.closing g.T.Item.grammar).reads l.initial.cursor))
