use Rattle.huxarte_c.proofs.moving.begin.Goals as goal

pub returns : goal.returns
returns c = (c.begin_told.result, c.begin_told.ensures, c.verdict.ensures)
