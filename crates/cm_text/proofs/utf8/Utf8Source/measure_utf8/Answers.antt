use Rattle.std.proofs.Common.{sym, ◌∙◌}
use Rattle.cm_text.proofs.TightLemmas.{ascii_of_own_size}
use Rattle.cm_text.proofs.utf8.Utf8Source.measure_utf8.Goals as goal

pub returns-then-ascii_run-bytes-clause-ok : goal.returns-then-ascii_run-bytes-clause-ok
returns-then-ascii_run-bytes-clause-ok c = ascii_of_own_size c.args.bytes.now (sym c.ascii_run.ensures ∙ c.if-ascii_run-bytes.true)
