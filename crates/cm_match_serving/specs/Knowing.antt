-- What is known of the types of one component.
use Rattle.std.specs.Prelude.{◌≡◌, ℕ, List, Some, slice_get}
use Rattle.cm_types.specs.Types.{Ty, FuncTy}
use Rattle.cm_types_arena.specs.Replaced.{Standing}
use Rattle.cm_types_arena.specs.Places.{types_of, funcs_of}
use Rattle.cm_types_arena.specs.declared.types.Types.{Types}
use Rattle.cm_types_numbers.specs.Numbering.{Numbering}
use Rattle.cm_types_numbers.specs.PlacedTables.{KnowsPlaced}
use Rattle.cm_types_numbers.specs.declared.known_placed.KnownPlaced.{KnownPlaced}

-- What is known are numbers of these types and types of functions, whichever arena has them.
abbrev pub KnowsAll : Numbering → Standing → List Ty → List FuncTy → KnownPlaced → Type 0
KnowsAll t s types funcs known = (arena : Types) → types_of arena ≡ types → funcs_of arena ≡ funcs
    → KnowsPlaced t s arena known

-- Nothing is known, so that it is right of any types.
abbrev pub AreUnknown : List KnownPlaced → Type 0
AreUnknown ks = (c : ℕ) (k : KnownPlaced) → slice_get ks c ≡ Some k
    → (t : Numbering) (s : Standing) (arena : Types) → KnowsPlaced t s arena k
