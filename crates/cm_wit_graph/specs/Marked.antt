-- Edges to marked nodes.
use Rattle.std.specs.Prelude.{Bool, false, List, Option, Some, None, slice_index_or}
use Rattle.std.specs.Prelude.{ℕ, if◌then◌else◌}
use Rattle.std.specs.List.{filter_map}
use Rattle.cm_wit_graph.specs.Graphs.{Edges}

abbrev pub marked_edge : List Bool → ℕ × ℕ → Option (ℕ × ℕ)
marked_edge marks e = if slice_index_or marks e.1 false then Some e else None

abbrev pub marked_edges : List Bool → Edges → Edges
marked_edges marks es = filter_map (marked_edge marks) es
