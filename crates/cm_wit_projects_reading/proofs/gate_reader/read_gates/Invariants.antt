use Rattle.std.proofs.Common.{map, length}
use Rattle.cm_wit_tokens.proofs.ListLaws.{StepsGo}
use Rattle.cm_wit_projects_reading.specs.Gates.{gates, next_gate}
use Rattle.cm_wit_projects_reading.specs.Views.{placed_gate_tree}
use Rattle.cm_wit_projects_reading.proofs.gate_reader.read_gates.Given as goal

abbrev pub invariant-loop-gates : goal.invariant-loop-gates
invariant-loop-gates l = StepsGo next_gate (map placed_gate_tree l.gates.items) l.cursor (gates.reads l.initial.cursor)

abbrev pub decreases-loop-gates : goal.decreases-loop-gates
decreases-loop-gates l = length l.cursor
