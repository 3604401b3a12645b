use Rattle.huxarte_c.proofs.moving.give.Goals as goal

pub returns : goal.returns
returns c = (c.give_values.result, c.give_values.ensures, c.verdict.ensures)
