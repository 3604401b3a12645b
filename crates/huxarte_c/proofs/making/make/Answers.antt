use Rattle.huxarte_c.proofs.making.make.Goals as goal

pub returns : goal.returns
returns c = (c.make_kept.result, c.make_kept.ensures, c.verdict.ensures)
