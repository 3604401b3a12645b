use Rattle.std.proofs.Common.{◌≡◌, ◌+◌, drop}
use Rattle.cm_wit_tokens.specs.Runs.{run_length}
use Rattle.cm_wit_tokens.proofs.run.Run.length_of_others.Given as goal

abbrev pub invariant-loop-count : goal.invariant-loop-count
invariant-loop-count l = run_length l.self l.text ≡ l.count + run_length l.self (drop l.count l.text)
