-- How values go in and out of the memory of a host's instance (CanonicalABI.md, "Lifting and
-- Lowering Values"; that bytes are written from the start of the memory on is this project's own
-- choice).
use Rattle.std.specs.Prelude.{◌≡◌, ◌⊎◌, ℕ, true, List, [], ◌∷◌, ◌++◌}
use Rattle.std.specs.List.{AllByRecursion}
use Rattle.cm_types.specs.Types.{Fields}
use Rattle.cm_types.specs.Values.{Val}
use Rattle.cm_types.specs.declared.core_value.CoreValue.{CoreValue}
use Rattle.cm_abi_model.specs.Denotes.{Denotes}
use Rattle.cm_abi_model.specs.Requests.{tuple_of}
use Rattle.cm_abi_model.specs.Views.{View}
use Rattle.cm_host_values.specs.HostTypes.{types_in, way_in}
use Rattle.cm_host_values.specs.Indexed.{host_types}
use Rattle.cm_host_values.specs.Sees.{Sees, host_of}
use Rattle.cm_host_values.specs.declared.host_types.HostTypes.{HostTypes}
use Rattle.cm_host_values.specs.Lowering.{DenoteThere}
use Rattle.cm_host_values.specs.Reading.{IsReadBy}
use Rattle.cm_host_values.specs.declared.lowering.Lowered.{Lowered}
use Rattle.cm_machine.specs.cm_machine_guests.Allocating.{grows}
use Rattle.cm_machine.specs.cm_machine_model.Moves.{CallsWith, ReturnsWith, WritesAt}
use Rattle.cm_machine.specs.cm_machine_model.declared.moves.Move.{Move}

-- A host gets a value by core values in the memory of its instance: they denote it, as a host sees
-- values, and so it is what the host sees of any value that they denote in a view of the instance,
-- each handle as its index.
pub record Gets (memory : List ℕ) (types : HostTypes) (slots : List CoreValue) (v : Val)
    : Type 0 where
  pub denoted : (w : View) → IsReadBy w memory
      → Denotes (host_of w) (way_in types) (types_in types) slots v
  pub seen : (w : View) (all : Fields) (u : Val) → IsReadBy w memory
      → types_in types ≡ host_types all → Denotes w (way_in types) all slots u
      → Sees w.table (tuple_of all) u v

-- each of these moves lets the memory grow
abbrev pub AreGrowths : List Move → Type 0
AreGrowths moves = AllByRecursion (λ m. grows m ≡ true) moves

-- Moves write these bytes from the start of the memory on, if there are any; before that the memory
-- may grow.
abbrev pub AreWrites : List ℕ → List Move → Type 0
AreWrites bytes [] = bytes ≡ []
AreWrites bytes (m ∷ ms) =
    ((grows m ≡ true) × AreWrites bytes ms) ⊎ (WritesAt 0 bytes m × (ms ≡ []))

-- What was lowered is returned: its bytes are written, and then its core values are returned.
pub record IsReturnOf (lowered : Lowered) (moves : List Move) : Type 0 where
  pub writes : List Move
  pub last : Move
  pub moves_are : moves ≡ writes ++ last ∷ []
  pub written : AreWrites lowered.bytes.items writes
  pub returned : ReturnsWith lowered.slots.items last

-- Values are returned: core values that denote them in every memory that begins with the bytes that
-- are written.
pub record Returns (types : HostTypes) (v : Val) (moves : List Move) : Type 0 where
  pub lowered : Lowered
  pub denote : DenoteThere (way_in types) (types_in types) v lowered
  pub is_return : IsReturnOf lowered moves

-- What was lowered is called with: its bytes are written, and then a core function is called with
-- its core values and, where the results go by memory, their place; behind it the root returns.
pub record IsCallOf (core_func : ℕ) (lowered : Lowered) (place : List CoreValue)
    (moves : List Move) : Type 0 where
  pub writes : List Move
  pub call : Move
  pub last : Move
  pub moves_are : moves ≡ writes ++ call ∷ last ∷ []
  pub written : AreWrites lowered.bytes.items writes
  pub called : CallsWith core_func (lowered.slots.items ++ place) call
  pub returned : ReturnsWith [] last

-- A core function is called with values: with core values that denote them in every memory that
-- begins with the bytes that are written.
pub record Calls (core_func : ℕ) (types : HostTypes) (v : Val) (place : List CoreValue)
    (moves : List Move) : Type 0 where
  pub lowered : Lowered
  pub denote : DenoteThere (way_in types) (types_in types) v lowered
  pub is_call : IsCallOf core_func lowered place moves
