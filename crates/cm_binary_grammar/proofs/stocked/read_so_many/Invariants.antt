use Rattle.std.proofs.Common.{◌≡◌, ◌-◌, map}
use Rattle.cm_binary_grammar.specs.Grammar.{chain}
use Rattle.cm_binary_grammar.proofs.ReadingLaws.{with_front}
use Rattle.cm_binary_grammar.proofs.stocked.read_so_many.Given as goal

abbrev pub invariant-loop : goal.invariant-loop
invariant-loop g l =
    (with_front (map g.T.StockedForm.tree l.values.items) ((chain g.T.StockedForm.grammar (λ left x. left - g.T.StockedForm.cost x) (l.count - l.counter) l.left).reads l.cursor.end l.cursor.rest.now)
    ≡ (chain g.T.StockedForm.grammar (λ left x. left - g.T.StockedForm.cost x) l.count l.stock).reads l.initial.cursor.end l.initial.cursor.rest.now)
    × (l.cursor.end ≡ l.initial.cursor.end)
