use Rattle.std.proofs.Common.{◌≡◌, ◌+◌, drop}
use Rattle.cm_wit_tokens.specs.Runs.{run_length}
use Rattle.cm_wit_projects_tokens.specs.Views.{run_view}
use Rattle.cm_wit_projects_tokens.proofs.run.Run.length.Given as goal

abbrev pub invariant-loop-count : goal.invariant-loop-count
invariant-loop-count l = run_length (run_view l.self) l.text ≡ l.count + run_length (run_view l.self) (drop l.count l.text)
