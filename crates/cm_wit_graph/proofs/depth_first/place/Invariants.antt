use Rattle.std.proofs.Common.{◌∷◌, []}
use Rattle.cm_wit_graph.specs.DepthFirst.{Orders, needs_of}
use Rattle.cm_wit_graph.specs.Paths.{Leaves}
use Rattle.cm_wit_graph.proofs.depth_first.place.Given as goal

abbrev pub invariant-loop-step : goal.invariant-loop-step
invariant-loop-step l = Leaves (needs_of l.rows) l.path.items (Orders (needs_of l.rows) l.initial.order.keys (l.fn.node ∷ [])) l.order.keys
