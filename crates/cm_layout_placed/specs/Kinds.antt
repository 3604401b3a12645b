-- Core kinds, one list behind the other, and joined (CanonicalABI.md, "Flattening").
use Rattle.std.specs.Prelude.{ℕ, List, [], ◌∷◌, ◌++◌, slice_index_or}
use Rattle.cm_types.specs.declared.core_value.CoreKind.{CoreKind}
use Rattle.cm_layout.specs.Flattening.{join_slots}

-- the kinds at a place
abbrev pub kinds_at : List (List CoreKind) → ℕ → List CoreKind
kinds_at kinds place = slice_index_or kinds place []

-- one list behind the other
abbrev pub in_turn : List (List CoreKind) → List CoreKind
in_turn [] = []
in_turn (ks ∷ kss) = ks ++ in_turn kss

-- lists joined slot by slot
abbrev pub joined : List (List CoreKind) → List CoreKind
joined [] = []
joined (ks ∷ kss) = join_slots ks (joined kss)
