-- The edges of a graph, sorted by the nodes to which they lead.
use Rattle.std.specs.Prelude.{ℕ, ◌==◌, List, [], ◌∷◌, if◌then◌else◌, map, slice_index_or}
use Rattle.std.specs.Global.{Vec}
use Rattle.cm_wit_graph.specs.Graphs.{Edges}

-- the nodes from which an edge leads to b, in the order of the edges
abbrev pub sources : Edges → ℕ → List ℕ
sources [] b = []
sources (e ∷ es) b = if e.1 == b then e.0 ∷ sources es b else sources es b

-- the b-th row
abbrev pub row_of : List (Vec ℕ) → ℕ → List ℕ
row_of rows b = slice_index_or (map (λ row. row.items) rows) b []
