use Rattle.cm_wit_projects_reading.specs.Views.{placed_gate_tree}
use Rattle.cm_wit_projects.specs.Gates.{is_origin}
use Rattle.cm_wit_projects.proofs.SeekLaws.{Seeks}
use Rattle.cm_wit_projects.proofs.gating.has_origin.Given as goal

abbrev pub invariant-loop-placed : goal.invariant-loop-placed
invariant-loop-placed l = Seeks placed_gate_tree (λ g. is_origin g.1) l.gates l.placed-index
