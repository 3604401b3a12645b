-- Which declarations bring a type from which.
use Rattle.std.specs.Prelude.{ℕ, ◌+◌, List, [], ◌∷◌, Option}
use Rattle.std.specs.List.{cons_option}
use Rattle.std.specs.Option.{option_map}
use Rattle.cm_wit_graph.specs.Graphs.{Edges}
use Rattle.cm_names.specs.Keys.{Key}
use Rattle.cm_wit_tables.specs.Declarations.{Declaration}
use Rattle.cm_wit_tables.specs.Leading.{brought_target}

-- an edge from the k-th declaration to the one from which it brings its type
abbrev pub brought_edge : List Key → ℕ → Declaration → Option (ℕ × ℕ)
brought_edge keys k d = option_map (λ j. (k, j)) (brought_target keys d.is)

-- those of these declarations, of which the first is the k-th
abbrev pub brought_edges : List Key → ℕ → List Declaration → Edges
brought_edges keys k [] = []
brought_edges keys k (d ∷ ds) = cons_option (brought_edge keys k d) (brought_edges keys (k + 1) ds)
