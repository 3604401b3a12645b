use Rattle.cm_wit_projects_reading.specs.Views.{placed_gate_tree}
use Rattle.cm_wit_projects.specs.Gates.{is_open}
use Rattle.cm_wit_projects.specs.GateViews.{features_of}
use Rattle.cm_wit_projects.proofs.SeekLaws.{Holds}
use Rattle.cm_wit_projects.proofs.gating.is_there.Given as goal

abbrev pub invariant-loop-placed : goal.invariant-loop-placed
invariant-loop-placed l = Holds placed_gate_tree (λ g. is_open (features_of l.features) g.1) l.gates l.placed-index
