-- What the declarations of a world stand for: a table that solves one equation.
use Rattle.std.specs.Prelude.{◌≡◌, ◌<◌, ℕ, Bool, true, false, List, Option, Some, None, filter}
use Rattle.std.specs.Prelude.{length}
use Rattle.std.specs.Prelude.{slice_get, take}
use Rattle.std.specs.Option.{option_map}
use Rattle.cm_types.specs.declared.resource.ResourceId.{ResourceId}
use Rattle.cm_wit_reading.specs.Trees.{TypeDef, alias, record_of, variant, enum, flags, resource}
use Rattle.cm_wit_meanings.specs.Scopes.{Meaning, Scope, scope_at}
use Rattle.cm_wit_meanings.specs.Meanings.{def_meaning}
use Rattle.cm_wit_tables.specs.Declarations.{Declared, Declaration, brought, defined, keys_of}

abbrev pub is_resource : TypeDef → Bool
is_resource (alias t) = false
is_resource (record_of fs) = false
is_resource (variant cs) = false
is_resource (enum names) = false
is_resource (flags names) = false
is_resource (resource fs) = true

-- whether a resource is declared, and not brought from elsewhere
abbrev pub defines_resource : Declared → Bool
defines_resource (brought key) = false
defines_resource (defined t) = is_resource t

abbrev pub declares_resource : Declaration → Bool
declares_resource d = defines_resource d.is

-- the resource that the k-th declaration brings, if it declares one: resources are numbered in
-- order (this project's own choice)
abbrev pub resource_of : List Declaration → ℕ → ResourceId
resource_of ds k =
    record { component = 0; number = length (filter declares_resource (take k ds)) }

-- what the names of the l-th list stand for, given what each declaration stands for
abbrev pub scope_of : List Declaration → List (Option Meaning) → ℕ → Scope
scope_of ds table l = scope_at (keys_of ds) table l

-- what the k-th declaration stands for, given what each does: a used type what its name does where
-- it is declared, and a definition what its text does among the names beside it
abbrev pub declared_meaning : List Declaration → List (Option Meaning) → ℕ → ℕ → Declared
    → Option Meaning
declared_meaning ds table k l (brought None) = None
declared_meaning ds table k l (brought (Some key)) = scope_of ds table key.0 key.1
declared_meaning ds table k l (defined t) =
    def_meaning (scope_of ds table l) (resource_of ds k) t

abbrev pub entry_meaning : List Declaration → List (Option Meaning) → ℕ → Declaration
    → Option Meaning
entry_meaning ds table k d = declared_meaning ds table k d.in_list d.is

-- A table has for each declaration what it stands for, given the table itself.
abbrev pub Solves : List Declaration → List (Option Meaning) → Type 0
Solves ds table =
    (k : ℕ) → slice_get table k ≡ option_map (entry_meaning ds table k) (slice_get ds k)

-- One table solves the equation, and no other.
abbrev pub HasOneTable : List Declaration → Type 0
HasOneTable ds =
    (table : List (Option Meaning)) × Solves ds table
    × ((other : List (Option Meaning)) → Solves ds other → other ≡ table)

-- Each declaration stands for something.
abbrev pub IsWhole : List Declaration → List (Option Meaning) → Type 0
IsWhole ds table =
    (k : ℕ) → k < length ds → (m : Meaning) × (slice_get table k ≡ Some (Some m))
