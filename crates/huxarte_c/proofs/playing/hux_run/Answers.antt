use Rattle.huxarte_c.proofs.playing.hux_run.Goals as goal

pub returns-clause-verdict : goal.returns-clause-verdict
returns-clause-verdict c = (c.play_parts-ran.result, c.play_parts-ran.ensures, c.verdict.ensures)
