-- What is there where the values of a call are copied (CanonicalABI.md, "Lifting and Lowering
-- Values").
use Rattle.std.specs.Prelude.{◌≡◌, ℕ, ◌+◌, ◌<◌, ◌≤◌, length}
use Rattle.cm_types.specs.Types.{Fields}
use Rattle.cm_types.specs.Values.{Val}
use Rattle.cm_layout.specs.Layouts.{layout_of}
use Rattle.cm_abi_model.specs.Numbers.{wrapped_at}
use Rattle.cm_abi_model.specs.Receives.{call_bytes, call_numbers, put}
use Rattle.cm_abi_model.specs.Stores.{place_of}
use Rattle.cm_abi_model.specs.Ways.{way_of}
use Rattle.cm_abi_lift.specs.declared.passed.Passed.{Passed}
use Rattle.cm_abi_store.specs.FlatLowering.{behind_by, slots_by}
use Rattle.cm_abi_store.specs.Storing.{given_of, stored_by}
use Rattle.cm_abi_running.specs.Copying.{copying_of}
use Rattle.cm_abi_running.specs.Known.{CanBeCopied}
use Rattle.cm_abi_running.specs.declared.copier.Copier.{Copier}
use Rattle.cm_abi_copy.specs.FlatReady.{IsFlatReady, IsInSlots}
use Rattle.cm_abi_copy.specs.FlatShown.{flat_shown}

-- The tuple of the values can be copied from where it stands to the place of the first part, and
-- what is stored and passed then is what the call stores and passes.
pub record IsSpilledCopy (n m : ℕ) (from : Copier) (passed : Passed) (types : Fields) (v : Val)
    : Type 0 where
  pub within : wrapped_at 4 passed.slots.now 0 + (layout_of passed.layout.now).head.size
      ≤ length from.memory.now
  pub inside : place_of (given_of from.target) 0 + (layout_of passed.layout.now).head.size ≤ n
  pub copied : CanBeCopied n (copying_of from) (layout_of passed.layout.now).shape
      (wrapped_at 4 passed.slots.now 0) v 1 0
  pub place : 0 < length from.target.places.now
  pub slot : 0 < m
  pub bytes : stored_by (given_of from.target) (layout_of passed.layout.now).shape v
      (place_of (given_of from.target) 0) 1 0
      ≡ call_bytes (given_of from.target) (way_of passed.way) types v
  pub numbers : put 0 (place_of (given_of from.target) 0)
      ≡ call_numbers (given_of from.target) (way_of passed.way) types v

-- The values can be copied from slots to slots, and what is stored behind them and passed then is
-- what the call stores and passes.
pub record IsFlatCopy (n m : ℕ) (from : Copier) (passed : Passed) (types : Fields) (v : Val)
    : Type 0 where
  pub lies : IsInSlots m 0 (layout_of passed.layout.now)
  pub ready : IsFlatReady n (copying_of from) passed.slots.now
      (layout_of passed.layout.now).shape 0 0 0
  pub bytes : behind_by (given_of from.target) (layout_of passed.layout.now).shape
      (flat_shown (copying_of from) passed.slots.now (layout_of passed.layout.now).shape 0) 0 0
      ≡ call_bytes (given_of from.target) (way_of passed.way) types v
  pub numbers : slots_by (given_of from.target) (layout_of passed.layout.now).shape
      (flat_shown (copying_of from) passed.slots.now (layout_of passed.layout.now).shape 0) 0 0 0
      ≡ call_numbers (given_of from.target) (way_of passed.way) types v
