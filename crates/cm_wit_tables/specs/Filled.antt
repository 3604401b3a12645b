-- What a table of what declarations stand for is filled with.
use Rattle.std.specs.Prelude.{ℕ, List, Option, IfSome, slice_get}
use Rattle.std.specs.List.{AllByRecursion}
use Rattle.std.specs.Option.{option_map}
use Rattle.cm_types.specs.Types.{Ty}
use Rattle.cm_types.specs.Limits.{IsWithinLimits}
use Rattle.cm_wit_meanings.specs.declared.scope.Meaning as code
use Rattle.cm_wit_meanings.specs.Places.{meaning_in}
use Rattle.cm_wit_meanings.specs.Scopes.{Meaning, as_type}
use Rattle.cm_wit_tables.specs.Declarations.{Declaration}
use Rattle.cm_wit_tables.specs.Tables.{entry_meaning}

-- what the k-th declaration stands for, if there is one, given what each does
abbrev pub entry_at : List Declaration → List (Option Meaning) → ℕ → Option (Option Meaning)
entry_at ds table k = option_map (entry_meaning ds table k) (slice_get ds k)

-- what a declaration stands for is within the limits, as a type
abbrev pub IsWithin : List Ty → code.Meaning → Type 0
IsWithin types m = IsWithinLimits (as_type (meaning_in types m))

abbrev pub AreWithin : List Ty → List (Option code.Meaning) → Type 0
AreWithin types table = AllByRecursion (λ m. IfSome m (IsWithin types)) table
