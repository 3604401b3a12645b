-- What has to be looked at, and what has to be written, of the values of types, by their places.
use Rattle.std.specs.Prelude.{◌≡◌, Bool, true, List, map, nat_lt, if◌then◌else◌}
use Rattle.cm_types.specs.Types.{Ty, fixed_list}
use Rattle.cm_types.specs.declared.limits.TheConstants.{MAX_FLAT_PARAMS}
use Rattle.cm_layout.specs.Shapes.{Shape, head_of, shape_of_type}
use Rattle.cm_layout.specs.declared.heads.Head.{Head}
use Rattle.cm_abi_programs.specs.Checks.{Checks, checks_of, flat_checks_of, no_checks}
use Rattle.cm_abi_programs.specs.Coded.{check_lists}
use Rattle.cm_abi_programs.specs.CodedPuts.{put_lists}
use Rattle.cm_abi_programs.specs.CodedSlots.{slot_lists}
use Rattle.cm_abi_programs.specs.Puts.{Puts, puts_of}
use Rattle.cm_abi_programs.specs.SlotPuts.{SlotPuts, flat_puts_of, no_slots}
use Rattle.cm_abi_programs.specs.declared.placed_checks.PlacedChecks.{PlacedChecks}
use Rattle.cm_abi_programs.specs.declared.programs.PlacedPrograms.{PlacedPrograms}
use Rattle.cm_abi_programs.specs.declared.placed_puts.PlacedPuts.{PlacedPuts}

-- more core values would pass it than ever do, so that it always passes in memory
abbrev pub is_wide : Head → Bool
is_wide h = nat_lt MAX_FLAT_PARAMS h.width

-- what is listed of a type for the core values that pass it: nothing where it is wide
abbrev pub listed_flat : {C : Type 0} → C → (Shape → C) → Ty → C
listed_flat none flat t = if is_wide (head_of t) then none else flat (shape_of_type t)

-- what has to be looked at of a type in memory, and where core values pass it
abbrev pub stored_of : Ty → Checks
stored_of t = checks_of (shape_of_type t)

abbrev pub passed_of : Ty → Checks
passed_of t = listed_flat no_checks flat_checks_of t

-- what has to be written of a type in memory, and where core values pass it
abbrev pub stored_puts_of : Ty → Puts
stored_puts_of t = puts_of (shape_of_type t)

abbrev pub passed_puts_of : Ty → SlotPuts
passed_puts_of t = listed_flat no_slots flat_puts_of t

-- if it is a list of fixed length, then it has elements: so its parts are no wider than itself
abbrev pub has_elements : Ty → Bool
has_elements (fixed_list t n) = nat_lt 0 n
has_elements _ = true

-- the checks are those of these types, by place
pub record AreChecksOf (types : List Ty) (p : PlacedChecks) : Type 0 where
  pub stored_are : check_lists p.stored.items ≡ map stored_of types
  pub passed_are : check_lists p.flat.items ≡ map passed_of types

-- and the puts
pub record ArePutsOf (types : List Ty) (p : PlacedPuts) : Type 0 where
  pub stored_are : put_lists p.stored.items ≡ map stored_puts_of types
  pub passed_are : slot_lists p.flat.items ≡ map passed_puts_of types

-- both are
pub record AreProgramsOf (types : List Ty) (p : PlacedPrograms) : Type 0 where
  pub checks_are : AreChecksOf types p.checks
  pub puts_are : ArePutsOf types p.puts
