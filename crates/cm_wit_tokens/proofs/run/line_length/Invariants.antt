use Rattle.std.proofs.Common.{◌≡◌, ◌+◌, drop}
use Rattle.cm_wit_tokens.specs.declared.run.Run.TheVariants as run
use Rattle.cm_wit_tokens.specs.Runs.{run_length}
use Rattle.cm_wit_tokens.proofs.run.line_length.Given as goal

abbrev pub invariant-loop-index : goal.invariant-loop-index
invariant-loop-index l = run_length run.Line l.text ≡ l.index + run_length run.Line (drop l.index l.text)
