-- What the code's scopes are, among the types of an arena.
use Rattle.std.specs.Prelude.{◌≡◌, ℕ, ◌<◌, ◌++◌, List, Option, IfSome, map}
use Rattle.std.specs.List.{AllByRecursion}
use Rattle.std.specs.Option.{option_map}
use Rattle.cm_types.specs.Types.{Ty}
use Rattle.cm_types_arena.specs.TypeDefs.{type_at}
use Rattle.cm_names.specs.Listed.{listed}
use Rattle.cm_wit_meanings.specs.declared.scope.Meaning as code
use Rattle.cm_wit_meanings.specs.declared.scope.Meaning.TheVariants as meant
use Rattle.cm_wit_meanings.specs.declared.scope.Scope as code_scope
use Rattle.cm_wit_meanings.specs.Scopes.{Meaning, Scope, value, resource, scope_at}

-- what a name stands for, with types by place
abbrev pub meaning_in : List Ty → code.Meaning → Meaning
meaning_in types (meant.Value place) = value (type_at types place)
meaning_in types (meant.Resource r) = resource r

abbrev pub table_in : List Ty → List (Option code.Meaning) → List (Option Meaning)
table_in types table = map (option_map (meaning_in types)) table

-- the scope that the code's is
abbrev pub scope_in : List Ty → code_scope.Scope → Scope
scope_in types s = scope_at (listed s.names.now) (table_in types s.table.now) s.list

-- what a name stands for has a place among so many types
abbrev pub IsPlaced : ℕ → code.Meaning → Type 0
IsPlaced count (meant.Value place) = place < count
IsPlaced count (meant.Resource r) = Unit {0}

abbrev pub ArePlaced : ℕ → List (Option code.Meaning) → Type 0
ArePlaced count table = AllByRecursion (λ m. IfSome m (IsPlaced count)) table

-- a list has what it had, and maybe more behind it
abbrev pub Extends : {A : Type 0} → List A → List A → Type 0
Extends {A} old new = (more : List A) × (new ≡ old ++ more)
