use Rattle.std.proofs.Common.{map}
use Rattle.std.specs.List.{list_any}
use Rattle.cm_wit_projects_reading.specs.Views.{placed_gate_tree}
use Rattle.cm_wit_projects.specs.Gates.{is_origin}
use Rattle.cm_wit_projects.specs.GateViews.{version_view}
use Rattle.cm_wit_projects.proofs.GatingLaws.{Bad}
use Rattle.cm_wit_projects.proofs.gating.first_bad_gate.Given as goal

abbrev pub invariant-loop-placed : goal.invariant-loop-placed
invariant-loop-placed l = Bad (version_view l.version) (list_any (λ g. is_origin g.1) (map placed_gate_tree l.gates)) l.gates l.placed-index l.before
