-- What code that judges wants says of itself.
use Rattle.std.specs.Prelude.{◌≡◌, ◌⊎◌, List, take, Option, Some, None, Result, Ok, Err}
use Rattle.cm_types_arena.specs.Places.{funcs_of, types_of}
use Rattle.cm_types_arena.specs.declared.types.Types.{Types}
use Rattle.cm_types_numbers.specs.Numbering.{numbering}
use Rattle.cm_types_numbers.specs.PlacedTables.{KnowsPlaced}
use Rattle.cm_validate_model.specs.Definitions.{TypeDef}
use Rattle.cm_validate_model.specs.Spaces.{Spaces}
use Rattle.cm_validate_spaces.specs.IndexSpaces.{funcs_in, types_in}
use Rattle.cm_validate_spaces.specs.declared.spaces.IndexSpaces.{IndexSpaces}
use Rattle.cm_shims_plain.specs.declared.wants.Want.{Want}
use Rattle.cm_shims.specs.declared.fault.FitFault.{FitFault}
use Rattle.cm_shims.specs.declared.fault.FitReason.{FitReason}
use Rattle.cm_shims.specs.declared.fault.FitReason.TheVariants as reasons
use Rattle.cm_shims.specs.declared.judge.Tables.{Tables}
use Rattle.cm_shims.specs.Fitting.{AllHold, IsComparable, IsFirstUnmet}

-- What is known of the types of an arena are their numbers.
abbrev pub IsKnown : Tables → Types → Type 0
IsKnown t arena = KnowsPlaced (numbering t.numbers) (λ r. r) arena t.known

-- The arena is that of the types of these index spaces.
abbrev pub IsArenaOf : Types → IndexSpaces → Type 0
IsArenaOf arena w = (types_of arena ≡ types_in w) × (funcs_of arena ≡ funcs_in w)

-- Two types are one, which a shim can name.
abbrev pub AreOne : TypeDef → TypeDef → Type 0
AreOne a b = IsComparable a × (a ≡ b)

-- A fact holds, or does not for this reason.
abbrev pub Judges : Type 0 → FitReason → Option FitReason → Type 0
Judges fact reason None = fact
Judges fact reason (Some r) = (¬ fact) × (r ≡ reason)

-- All wants hold; or this is the first that does not; or memory was refused at a want before which
-- all hold.
abbrev pub IsJudged : Spaces → List Want → Result (Unit {0}) FitFault → Type 0
IsJudged s ws (Ok done) = AllHold s ws
IsJudged s ws (Err f) =
    ((f.reason ≡ reasons.Memory) × AllHold s (take f.want ws)) ⊎ IsFirstUnmet s ws f
