-- The handles of a table that are borrowed for a call (CanonicalABI.md, "Storing", `lower_borrow`,
-- which counts them for the call).
use Rattle.std.specs.Prelude.{ℕ, Bool, false, ◌==◌, if◌then◌else◌, count_by, Option, Some}
use Rattle.std.specs.Prelude.{None}
use Rattle.cm_handles.specs.declared.handle.Handle.{Handle}
use Rattle.cm_handles.specs.declared.handle.HandleKind.{HandleKind}
use Rattle.cm_handles.specs.declared.handle.HandleKind.TheVariants.{Owned, Borrowed}
use Rattle.cm_handles.specs.Handles.{Handles}

-- Whether a handle of this kind is borrowed for the call with this number.
abbrev pub is_borrow_for : ℕ → HandleKind → Bool
is_borrow_for call Owned = false
is_borrow_for call (Borrowed c) = c == call

-- Whether a handle stands in the slot, and is borrowed for the call.
abbrev pub is_borrowed_by : ℕ → Option Handle → Bool
is_borrowed_by call None = false
is_borrowed_by call (Some h) = is_borrow_for call h.kind

-- How many handles of a table are borrowed for the call.
abbrev pub borrows_of : ℕ → Handles → ℕ
borrows_of call t = count_by (is_borrowed_by call) t.slots

-- How many of them a handle is: one where it is borrowed for the call, else none.
abbrev pub borrows_by : ℕ → Handle → ℕ
borrows_by call h = if is_borrow_for call h.kind then 1 else 0
