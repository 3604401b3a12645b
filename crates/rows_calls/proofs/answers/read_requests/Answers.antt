use Rattle.std.proofs.Common.{subst, sym}
use Rattle.cm_abi_model.specs.Answering.{AreAligned}
use Rattle.rows_calls.proofs.RequestLemmas.{aligned_more}
use Rattle.rows_calls.proofs.answers.read_requests.Goals as goal

pub loop-word-preserved : goal.loop-word-preserved
loop-word-preserved c = subst AreAligned (sym c.in_ok-push.ensures.items) (aligned_more c.loop-word.requests.items _ c.loop-word.invariant c.read_request.ensures)
