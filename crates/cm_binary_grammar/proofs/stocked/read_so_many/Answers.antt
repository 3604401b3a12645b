use Rattle.std.proofs.Common.{◌-◌, ◌∙◌}
use Rattle.std.proofs.lemmas.Result.{err_from_is_err_and}
use Rattle.cm_binary_grammar.proofs.ReadingLaws.{chain_turn, chain_stops}
use Rattle.cm_binary_grammar.proofs.stocked.read_so_many.Goals as goal

pub returns-in_err-value-clause-read : goal.returns-in_err-value-clause-read
returns-in_err-value-clause-read g c =
    let p = err_from_is_err_and c.from_residual.result c.from_residual.ensures.1 in
    rw (p.1, p.2) (chain_stops g.T.StockedForm.grammar (λ left x. left - g.T.StockedForm.cost x) g.T.StockedForm.tree c.loop.values.items c.args.count c.loop.counter c.loop.left c.loop.cursor.end c.loop.cursor.rest.now c.in_err-value.field-0.0 _ c.loop-test.true c.in_err-value.ensures.read c.loop.invariant.0)

pub loop-preserved : goal.loop-preserved
loop-preserved g c = (
  chain_turn g.T.StockedForm.grammar (λ left x. left - g.T.StockedForm.cost x) g.T.StockedForm.tree c.loop.values.items c.push.new.self.items c.in_ok-value.value c.args.count c.loop.counter c.loop.left c.rest_of-left.result c.loop.cursor.end c.read.new.cursor.end c.loop.cursor.rest.now c.read.new.cursor.rest.now _ c.in_ok-push.ensures.items c.in_ok-value.ensures.end c.rest_of-left.ensures c.loop-test.true c.in_ok-value.ensures.read c.loop.invariant.0,
  c.in_ok-value.ensures.end ∙ c.loop.invariant.1,
)
