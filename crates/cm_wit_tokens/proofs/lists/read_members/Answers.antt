use Rattle.std.proofs.Common.{Option, Ok, ap, ◌∙◌}
use Rattle.std.specs.Option.{option_map}
use Rattle.std.proofs.lemmas.Result.{err_from_is_err_and}
use Rattle.cm_wit_tokens.specs.Lists.{next_member}
use Rattle.cm_wit_tokens.proofs.ListLaws.{next_member_moves}
use Rattle.cm_wit_tokens.proofs.LoopLaws.{loop_fail, loop_go_on, loop_end}
use Rattle.cm_wit_tokens.proofs.lists.read_members.Goals as goal

pub returns-in_err-one : goal.returns-in_err-one
returns-in_err-one g c =
    let p = err_from_is_err_and c.from_residual.result c.from_residual.ensures.1 in
    rw (p.1, p.2) (loop_fail g.T.Item.tree (next_member g.T.Item.grammar) c.loop-list.list.items c.loop-list.cursor c.next_member.new.cursor c.in_err-one.field-0.0 _ c.loop-list.invariant c.in_err-one.ensures)

pub loop-list-smaller : goal.loop-list-smaller
loop-list-smaller g c = next_member_moves g.T.Item.grammar c.requires.shortens c.loop-list.cursor (g.T.Item.tree c.in-Some.one) c.next_member.new.cursor (c.in_ok-one.ensures ∙ ap (λ (o : Option _). Ok (option_map g.T.Item.tree o, c.next_member.new.cursor)) c.in-Some.is)

pub loop-list-preserved : goal.loop-list-preserved
loop-list-preserved g c = rw c.in_ok-push.ensures.items (loop_go_on g.T.Item.tree (next_member g.T.Item.grammar) (next_member_moves g.T.Item.grammar c.requires.shortens) c.loop-list.list.items c.in-Some.one c.loop-list.cursor c.next_member.new.cursor _ c.loop-list.invariant (c.in_ok-one.ensures ∙ ap (λ (o : Option _). Ok (option_map g.T.Item.tree o, c.next_member.new.cursor)) c.in-Some.is))

pub returns : goal.returns
returns g c = loop_end g.T.Item.tree (next_member g.T.Item.grammar) c.loop-list.list.items c.loop-list.cursor c.next_member.new.cursor _ c.loop-list.invariant (c.in_ok-one.ensures ∙ ap (λ (o : Option _). Ok (option_map g.T.Item.tree o, c.next_member.new.cursor)) c.in_default.is)
