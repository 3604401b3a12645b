use Rattle.std.proofs.Common.{Err, Ok}
use Rattle.huxarte_c_components.proofs.linking.link_files.Goals as goal

pub returns-in-Ok-clause-verdict : goal.returns-in-Ok-clause-verdict
returns-in-Ok-clause-verdict c = (Ok tt, (c.in-Ok.ensures.within, c.in-Ok.ensures.linked), c.fine.ensures)

pub returns-in-Err-clause-verdict : goal.returns-in-Err-clause-verdict
returns-in-Err-clause-verdict c = (Err c.in-Err.refusal, c.in-Err.ensures.refused, c.verdict.ensures)
