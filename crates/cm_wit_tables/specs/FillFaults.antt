-- Why declarations, each name in which leads to a type, do not all stand for something that can be
-- had.
use Rattle.std.specs.Prelude.{◌≡◌, ℕ, false, List, Option, Some, slice_get}
use Rattle.cm_types.specs.Limits.{IsWithinLimits}
use Rattle.cm_types.specs.Spellable.{is_spellable}
use Rattle.cm_wit_meanings.specs.declared.fault.MeaningFault.{MeaningFault}
use Rattle.cm_wit_meanings.specs.declared.fault.MeaningFault.TheVariants as fault
use Rattle.cm_wit_meanings.specs.Scopes.{Meaning, as_type}
use Rattle.cm_wit_tables.specs.Declarations.{Declaration}
use Rattle.cm_wit_tables.specs.Tables.{Solves}

-- In the table that has what each does, the k-th declaration stands for this.
abbrev pub StandsFor : List Declaration → ℕ → Meaning → Type 0
StandsFor ds k m =
    (table : List (Option Meaning)) × Solves ds table × (slice_get table k ≡ Some (Some m))

-- A declaration stands for a type that is over the limits (this project's own choice).
abbrev pub HasTooLarge : List Declaration → Type 0
HasTooLarge ds = (k : ℕ) × (m : Meaning) × StandsFor ds k m × ¬ (IsWithinLimits (as_type m))

-- A declaration stands for a type that no file can spell (Binary.md, `defvaltype`).
abbrev pub HasUnspellable : List Declaration → Type 0
HasUnspellable ds =
    (k : ℕ) × (m : Meaning) × StandsFor ds k m × (is_spellable (as_type m) ≡ false)

-- Each name leads to a type, so none is missing. Where memory ran out nothing is said.
abbrev pub IsFillFault : List Declaration → MeaningFault → Type 0
IsFillFault ds fault.NoSuchType = ⊥
IsFillFault ds fault.TooLarge = HasTooLarge ds
IsFillFault ds fault.NotSpellable = HasUnspellable ds
IsFillFault ds fault.Memory = Unit {0}
