-- What a receiver has of a value while other things happen to it (CanonicalABI.md, "Lifting and
-- Lowering Context"): lends end, post-return runs, its memory grows.
use Rattle.std.specs.Prelude.{◌≡◌, ℕ, ◌≤◌, List, length, Some}
use Rattle.cm_handles.specs.Handles.{Handles, handle_at}
use Rattle.cm_handles.specs.declared.handle.Handle.{Handle}
use Rattle.cm_abi_model.specs.Requests.{stored_charset}
use Rattle.cm_abi_model.specs.Stores.{Holds, Placed}
use Rattle.cm_abi_model.specs.Views.{View}

-- each handle that is lent to nobody stands as it was
abbrev pub UnlentStay : Handles → Handles → Type 0
UnlentStay old new =
    (index : ℕ) (h : Handle) → handle_at old index ≡ Some h → h.lends ≡ 0
    → handle_at new index ≡ Some h

-- A later view of the same instance in the same call: its memory is as long or longer and has these
-- bytes, strings are stored alike, and each handle that was lent to nobody stands as it was.
pub record IsLater (w u : View) (bytes : List Placed) : Type 0 where
  pub instance_is : w.instance ≡ u.instance
  pub call_is : w.call ≡ u.call
  pub stored_alike : stored_charset w.encoding ≡ stored_charset u.encoding
  pub longer : length w.memory ≤ length u.memory
  pub stand : Holds u.memory bytes
  pub unlent : UnlentStay w.table u.table
