-- What moves brought into the types of a scope (Explainer.md, "Alias Definitions"): an outer alias
-- may name a type whose resources an import of the component has moved.
use Rattle.std.specs.Prelude.{◌≡◌, ⊤, ℕ, List}
use Rattle.std.specs.List.{AllByRecursion}
use Rattle.cm_types.specs.Types.{Ty, FuncTy}
use Rattle.cm_types_arena.specs.Placed.{placed_type, placed_func}
use Rattle.cm_validate_model.specs.Counted.{IsCounted, IsFuncCounted}
use Rattle.cm_validate_types.specs.declared.entries.TypeEntry.{TypeEntry}
use Rattle.cm_validate_types.specs.declared.entries.TypeEntry.TheVariants as entry
use Rattle.cm_validate_types.specs.declared.scope.TypeScope.{TypeScope}
use Rattle.cm_validate_types.specs.Settled.{WhereMoved, IsEntrySettled}
use Rattle.cm_validate_types.specs.TypeScopes.{arena_funcs, arena_types, entries_around, entries_of}

-- ---- entries

-- a type that was moved names only the first so many resources of the component
abbrev pub IsMovedCounted : List Ty → List FuncTy → ℕ → TypeEntry → Type 0
IsMovedCounted types funcs n (entry.Value p) = WhereMoved p.by (IsCounted n (placed_type types p))
IsMovedCounted types funcs n (entry.Func p) =
    WhereMoved p.by (IsFuncCounted n (placed_func funcs p))
IsMovedCounted types funcs n _ = ⊤

-- ---- scopes

-- what a move brought into the type of an instance, among the types of its own, names no resource
-- of that instance
abbrev pub AreSettled : TypeScope → Type 0
AreSettled s = AllByRecursion (IsEntrySettled (arena_types s) (arena_funcs s)) (entries_of s)

-- each type of a scope's own that an import moved names only the first so many resources
abbrev pub AreMovedCounted : ℕ → TypeScope → Type 0
AreMovedCounted n s =
    AllByRecursion (IsMovedCounted (arena_types s) (arena_funcs s) n) (entries_of s)

-- both stay true of a scope, and the entries around stay as they are
pub record StaysSettled (old new : TypeScope) : Type 0 where
  pub settled : AreSettled old → AreSettled new
  pub moved : (n : ℕ) → AreMovedCounted n old → AreMovedCounted n new
  pub around : entries_around new ≡ entries_around old
