-- What is there where the values of a call are copied by their puts (CanonicalABI.md, "Lifting and
-- Lowering Values").
use Rattle.std.specs.Prelude.{◌≡◌, ℕ, ◌+◌, ◌<◌, ◌≤◌, length}
use Rattle.cm_types.specs.Types.{Fields}
use Rattle.cm_types.specs.Values.{Val}
use Rattle.cm_layout.specs.Layouts.{layout_of}
use Rattle.cm_abi_model.specs.Numbers.{wrapped_at}
use Rattle.cm_abi_model.specs.Receives.{call_bytes, call_numbers, put}
use Rattle.cm_abi_model.specs.Stores.{place_of}
use Rattle.cm_abi_model.specs.Ways.{way_of}
use Rattle.cm_abi_lift.specs.declared.passed.Passed.{Passed}
use Rattle.cm_abi_store.specs.Storing.{given_of}
use Rattle.cm_abi_programs.specs.Puts.{puts_of}
use Rattle.cm_abi_programs.specs.SlotPuts.{flat_puts_of}
use Rattle.cm_abi_running.specs.Passing.{all_passed}
use Rattle.cm_abi_running.specs.Putting.{all_written}
use Rattle.cm_abi_running.specs.Copying.{copying_of}
use Rattle.cm_abi_running.specs.declared.copier.Copier.{Copier}
use Rattle.cm_abi_running.specs.PutsReady.{ArePutsReady, seen_from}
use Rattle.cm_abi_running.specs.PutsWithin.{ArePutsWithin}
use Rattle.cm_abi_running.specs.SlotPutsReady.{AreSlotsReady, AreSlotsWithin}

-- The tuple of the values can be copied by its puts from where it stands to the place of the first
-- part: it lies within the source, its place within a memory of so many bytes, and its puts within
-- it. What they write, and the place, are what the call stores and passes.
pub record IsSpilledPut (n m : ℕ) (from : Copier) (passed : Passed) (types : Fields) (v : Val)
    : Type 0 where
  pub within : wrapped_at 4 passed.slots.now 0 + (layout_of passed.layout.now).head.size
      ≤ length from.memory.now
  pub inside : place_of (given_of from.target) 0 + (layout_of passed.layout.now).head.size ≤ n
  pub fits : ArePutsWithin (layout_of passed.layout.now).head.size
      (puts_of (layout_of passed.layout.now).shape)
  pub ready : ArePutsReady n (copying_of from) (puts_of (layout_of passed.layout.now).shape)
      (wrapped_at 4 passed.slots.now 0) (place_of (given_of from.target) 0) 1 0
  pub place : 0 < length from.target.places.now
  pub slot : 0 < m
  pub bytes : (all_written (seen_from (copying_of from)) (given_of from.target)
      (puts_of (layout_of passed.layout.now).shape) (wrapped_at 4 passed.slots.now 0)
      (place_of (given_of from.target) 0) 1 0).bytes
      ≡ call_bytes (given_of from.target) (way_of passed.way) types v
  pub numbers : put 0 (place_of (given_of from.target) 0)
      ≡ call_numbers (given_of from.target) (way_of passed.way) types v

-- The values can be copied by their puts from core values to so many others. What these put and
-- write is what the call passes and stores.
pub record IsFlatPut (n m : ℕ) (from : Copier) (passed : Passed) (types : Fields) (v : Val)
    : Type 0 where
  pub fits : AreSlotsWithin m (flat_puts_of (layout_of passed.layout.now).shape)
  pub ready : AreSlotsReady n (copying_of from) passed.slots.now
      (flat_puts_of (layout_of passed.layout.now).shape) 0 0 0
  pub bytes : (all_passed (seen_from (copying_of from)) (given_of from.target) passed.slots.now
      (flat_puts_of (layout_of passed.layout.now).shape) 0 0 0).bytes
      ≡ call_bytes (given_of from.target) (way_of passed.way) types v
  pub numbers : (all_passed (seen_from (copying_of from)) (given_of from.target) passed.slots.now
      (flat_puts_of (layout_of passed.layout.now).shape) 0 0 0).numbers
      ≡ call_numbers (given_of from.target) (way_of passed.way) types v
