-- What a world imports and exports, in order (WIT.md, "Worlds" and "Item: `use`"; which imports a
-- `use` brings in, and where, is this project's own choice).
use Rattle.std.specs.Prelude.{ℕ, ◌+◌, List, [], ◌∷◌, Option, Some, map, filter, not}
use Rattle.std.specs.Prelude.{slice_index_or}
use Rattle.std.specs.List.{filter_map, flat_map}
use Rattle.cm_wit_graph.specs.DepthFirst.{Orders, is_among}
use Rattle.cm_wit_reading.specs.Trees.{File, WorldExtern, interface_at, named_func, WorldItem}
use Rattle.cm_wit_reading.specs.Trees.{imports, exports}
use Rattle.cm_wit_worlds.specs.Interfaces.{target}
use Rattle.cm_wit_graph.specs.Reach.{Rows}

-- ---- a number stands for each thing in a world: an interface has its own, and the function of the
-- j-th item has j and the number of all interfaces

-- the number of what an item is, where there is such an interface, in the package at a place
abbrev pub extern_number : List File → ℕ → ℕ → ℕ → WorldExtern → Option ℕ
extern_number fs p count j (interface_at path) = target fs p path
extern_number fs p count j (named_func name f) = Some (count + j)

-- those of the imports, and of the exports, from the j-th item on
abbrev pub imports_from : List File → ℕ → ℕ → ℕ → List WorldItem → List (Option ℕ)
imports_from fs p count j [] = []
imports_from fs p count j (imports e ∷ rest) =
    extern_number fs p count j e ∷ imports_from fs p count (j + 1) rest
imports_from fs p count j (exports e ∷ rest) = imports_from fs p count (j + 1) rest

abbrev pub exports_from : List File → ℕ → ℕ → ℕ → List WorldItem → List (Option ℕ)
exports_from fs p count j [] = []
exports_from fs p count j (imports e ∷ rest) = exports_from fs p count (j + 1) rest
exports_from fs p count j (exports e ∷ rest) =
    extern_number fs p count j e ∷ exports_from fs p count (j + 1) rest

-- ---- order

-- those that are there
abbrev pub found : List (Option ℕ) → List ℕ
found numbers = filter_map (λ n. n) numbers

-- the interfaces that the k-th uses, in the order of its text
abbrev pub uses : Rows → ℕ → List ℕ
uses rows k = slice_index_or (map found rows) k []

-- what these exports use that is not exported itself, in order
abbrev pub used_by_exports : Rows → List ℕ → List ℕ
used_by_exports rows out = flat_map (λ k. filter (λ j. not (is_among j out)) (uses rows k)) out

-- The imports of a world, in order, where the world's text imports and exports these. They are
-- those of the text, each behind the interfaces that it uses and that are not there yet, and those
-- behind what they use; and then, in the same way, what the exports use that is not exported.
pub record AreImports (rows : Rows) (written out : List ℕ) (order : List ℕ) : Type 0 where
  pub first : List ℕ
  pub of_text : Orders (uses rows) [] written first
  pub of_exports : Orders (uses rows) first (used_by_exports rows out) order
