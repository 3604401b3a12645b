-- What each change of a sound table does: which index it changes, which indices are freed, and how
-- many are left.
use Rattle.std.specs.Prelude.{◌≡◌, ℕ, ◌+◌, ◌<◌, ◌≤◌, ◌∷◌, ◌++◌, drop, reverse, length, Some, None}
use Rattle.cm_handles.specs.declared.table.TheConstants.{MAX_HANDLES}
use Rattle.cm_handles.specs.declared.handle.Handle.{Handle}
use Rattle.cm_handles.specs.Handles.{Handles, IsSoundHandles, Changes, handle_at, next_index}
use Rattle.cm_handles.specs.Handles.{indices_left, after_add, after_release, after_close}
use Rattle.cm_handles.specs.Handles.{slot_after_close, borrows_from, with_lends}

-- A handle that is added stands at the next index, which is from 1 to the greatest and at which
-- nothing stood. That index is freed no longer, and one fewer is left.
pub record AddsTo (t : Handles) (h : Handle) : Type 0 where
  pub sound : IsSoundHandles (after_add t h)
  pub changes : Changes t (after_add t h) (next_index t) (Some h)
  pub vacant : handle_at t (next_index t) ≡ None
  pub positive : 0 < next_index t
  pub limit : next_index t ≤ MAX_HANDLES
  pub freed : (after_add t h).freed ≡ drop 1 t.freed
  pub left : indices_left (after_add t h) + 1 ≡ indices_left t

-- Where a handle goes, nothing stands any longer. Its index is freed last, so that the next handle
-- gets it, and one more is left.
pub record ReleasesFrom (t : Handles) (index : ℕ) : Type 0 where
  pub sound : IsSoundHandles (after_release t index)
  pub changes : Changes t (after_release t index) index None
  pub freed : (after_release t index).freed ≡ index ∷ t.freed
  pub next : next_index (after_release t index) ≡ index
  pub left : indices_left (after_release t index) ≡ indices_left t + 1

-- At the index the handle stands with this number of lends; no index is freed or used.
pub record WritesLends (old new : Handles) (index : ℕ) (h : Handle) (lends : ℕ) : Type 0 where
  pub sound : IsSoundHandles new
  pub changes : Changes old new index (Some (with_lends lends h))
  pub freed : new.freed ≡ old.freed
  pub left : indices_left new ≡ indices_left old

-- A table that is closed has its owned handles, lent to nobody. The indices of the borrows are
-- freed, the greatest last, and so many more are left.
pub record ClosesAll (t : Handles) : Type 0 where
  pub sound : IsSoundHandles (after_close t)
  pub each : (index : ℕ) → handle_at (after_close t) index ≡ slot_after_close (handle_at t index)
  pub freed : (after_close t).freed ≡ reverse (borrows_from 0 t.slots) ++ t.freed
  pub left : indices_left (after_close t) ≡ indices_left t + length (borrows_from 0 t.slots)
