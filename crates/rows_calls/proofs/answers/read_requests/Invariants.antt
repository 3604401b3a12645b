use Rattle.cm_abi_model.specs.Answering.{AreAligned}
use Rattle.rows_calls.proofs.answers.read_requests.Given as goal

abbrev pub invariant-loop-word : goal.invariant-loop-word
invariant-loop-word l = AreAligned l.requests.items
