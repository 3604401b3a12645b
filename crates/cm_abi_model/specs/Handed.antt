-- What a table has once all that was met in a value was handed over (CanonicalABI.md, "Lifting" of
-- own and borrow).
use Rattle.std.specs.Prelude.{◌≡◌, ℕ, ◌+◌, ◌==◌, List, ◌++◌, reverse, Contains, count_by, None}
use Rattle.std.specs.Option.{option_map}
use Rattle.cm_handles.specs.Handles.{Handles, IsSoundHandles, handle_at, with_lends}
use Rattle.cm_abi_model.specs.Taken.{Met, lent_of, taken_of}

-- how often an index is among some
abbrev pub times : ℕ → List ℕ → ℕ
times index indices = count_by (λ i. i == index) indices

-- Nothing stands where a handle was to be owned, and these indices are freed, the last one first.
-- Each other handle stands where it stood, lent once more for each time that it is to be borrowed.
pub record IsHanded (old : Handles) (ms : List Met) (new : Handles) : Type 0 where
  pub sound : IsSoundHandles new
  pub freed : new.freed ≡ reverse (taken_of ms) ++ old.freed
  pub gone : (index : ℕ) → Contains (taken_of ms) index → handle_at new index ≡ None
  pub stays : (index : ℕ) → (Contains (taken_of ms) index → ⊥) → handle_at new index
      ≡ option_map (λ h. with_lends (h.lends + times index (lent_of ms)) h) (handle_at old index)
