-- What stands under names.
use Rattle.std.specs.Prelude.{ℕ, List}
use Rattle.std.specs.Borrow.{Bor}
use Rattle.cm_validate_core.specs.declared.name_map.NameMap.{NameMap}

-- the names and values, in order
abbrev pub entries_of : {V : Type 0} → NameMap V → List (Bor (List ℕ) × V)
entries_of m = m.entries.items
