use Rattle.huxarte_c.proofs.moving.call.Goals as goal

pub returns : goal.returns
returns c = (c.call_func.result, c.call_func.ensures, c.verdict.ensures)
