-- How values are written: the shortest numbers, and lists behind their count.
use Rattle.std.specs.Prelude.{ℕ, List, ◌++◌, length}
use Rattle.std.specs.List.{flat_map}
use Rattle.cm_leb.specs.NumbersWritten.{shortest_unsigned}

-- The number of things, and the things one after the other.
abbrev pub vec_spelling : {A : Type 0} → (A → List ℕ) → List A → List ℕ
vec_spelling spell xs = shortest_unsigned (length xs) ++ flat_map spell xs

-- The number of bytes, and the bytes.
abbrev pub blob_spelling : List ℕ → List ℕ
blob_spelling bytes = shortest_unsigned (length bytes) ++ bytes
