use Rattle.std.proofs.Common.{Option, Ok, ap, ◌∙◌, arith}
use Rattle.std.specs.Option.{option_map}
use Rattle.std.proofs.lemmas.Result.{err_from_is_err_and}
use Rattle.cm_wit_tokens.proofs.MostLaws.{most_fail, most_end, most_go_on, most_last}
use Rattle.cm_wit_tokens.proofs.lists.at_most.Goals as goal

pub returns-in_err-one : goal.returns-in_err-one
returns-in_err-one g c =
    let p = err_from_is_err_and c.from_residual.result c.from_residual.ensures.1 in
    rw (p.1, p.2) (most_fail g.T.Item.tree c.args.closing g.T.Item.grammar c.args.most c.loop-turn._turn c.loop-turn.list.items c.loop-turn.cursor c.next_item.new.cursor c.in_err-one.field-0.0 _ (omega arith) c.loop-turn.invariant c.in_err-one.ensures)

pub returns-in-None : goal.returns-in-None
returns-in-None g c = most_end g.T.Item.tree c.args.closing g.T.Item.grammar c.args.most c.loop-turn._turn c.loop-turn.list.items c.loop-turn.cursor c.next_item.new.cursor _ (omega arith) c.loop-turn.invariant (c.in_ok-one.ensures ∙ ap (λ (o : Option _). Ok (option_map g.T.Item.tree o, c.next_item.new.cursor)) c.in-None.is)

pub loop-turn-preserved : goal.loop-turn-preserved
loop-turn-preserved g c = rw c.in_ok-push-in-Some.ensures.items (most_go_on g.T.Item.tree c.args.closing g.T.Item.grammar c.args.most c.loop-turn._turn c.loop-turn.list.items c.in-Some.one c.loop-turn.cursor c.next_item.new.cursor _ (omega arith) c.loop-turn.invariant (c.in_ok-one.ensures ∙ ap (λ (o : Option _). Ok (option_map g.T.Item.tree o, c.next_item.new.cursor)) c.in-Some.is))

pub returns : goal.returns
returns g c = most_last g.T.Item.tree c.args.closing g.T.Item.grammar c.args.most c.loop-turn._turn c.loop-turn.list.items c.loop-turn.cursor c.last_comma.new.cursor _ (omega arith) c.loop-turn.invariant c.in_ok-last_comma.ensures
