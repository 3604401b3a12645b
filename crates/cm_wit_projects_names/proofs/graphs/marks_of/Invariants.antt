use Rattle.std.proofs.Common.{◌≡◌, vec_len}
use Rattle.cm_wit_projects_names.proofs.graphs.marks_of.Given as goal

abbrev pub invariant-loop-start : goal.invariant-loop-start
invariant-loop-start l = vec_len l.marks ≡ l.nodes
