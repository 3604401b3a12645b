use Rattle.huxarte_c.proofs.moving.write.Goals as goal

pub returns : goal.returns
returns c = (c.write_bytes.result, c.write_bytes.ensures, c.verdict.ensures)
