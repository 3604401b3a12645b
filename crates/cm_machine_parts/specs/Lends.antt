-- Lends in the order in which they were made.
use Rattle.std.specs.Prelude.{◌≡◌, ℕ, ◌<◌, ◌≤◌, List, [], ◌∷◌, Contains, Option, Some, None}
use Rattle.std.specs.Prelude.{slice_get}
use Rattle.cm_handles.specs.declared.handle.Handle.{Handle}
use Rattle.cm_handles.specs.Handles.{Handles, handle_at}
use Rattle.cm_machine_model.specs.declared.frame.Lend.{Lend}
use Rattle.cm_machine_model.specs.Owning.{count_lends}
use Rattle.cm_machine_model.specs.State.{table_at, tables_after_unlend}

-- the frames of lends never fall: those to a later call stand behind those to an earlier one
abbrev pub NeverFall : List Lend → Type 0
NeverFall lends = (j k : ℕ) (a b : Lend) → j ≤ k → slice_get lends j ≡ Some a
    → slice_get lends k ≡ Some b → a.frame ≤ b.frame

-- none of these lends is to a call above this place
abbrev pub NoneAbove : ℕ → List Lend → Type 0
NoneAbove place lends = (l : Lend) → Contains lends l → l.frame ≤ place

-- how often a handle is lent, 0 where none stands
abbrev pub lends_at : Option Handle → ℕ
lends_at None = 0
lends_at (Some h) = h.lends

-- each handle is lent at least as often as it is among these
abbrev pub AreLentAtLeast : List Lend → List Handles → Type 0
AreLentAtLeast lends tables = (i index : ℕ)
    → count_lends i index lends ≤ lends_at (handle_at (table_at tables i) index)

-- the tables after these lends end, one after another
abbrev pub tables_after_unlends : List Lend → List Handles → List Handles
tables_after_unlends [] tables = tables
tables_after_unlends (l ∷ ls) tables = tables_after_unlends ls (tables_after_unlend l tables)
