use Rattle.cm_wit_graph.specs.Graphs.{IsWithin}
use Rattle.cm_wit_projects_names.proofs.graphs.edges_within.Given as goal

abbrev pub invariant-loop-edge : goal.invariant-loop-edge
invariant-loop-edge l = IsWithin l.nodes l.kept.items
