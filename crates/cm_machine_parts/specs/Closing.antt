-- Tables that are closed once.
use Rattle.std.specs.Prelude.{◌≡◌, ℕ, Bool, true, false, List, slice_index_or}
use Rattle.cm_handles.specs.Handles.{Handles, after_close}
use Rattle.cm_machine_model.specs.State.{table_at}

-- the tables of the instances that are marked so are as they are after a close
abbrev pub AreClosed : List Bool → List Handles → Type 0
AreClosed done tables = (i : ℕ) → slice_index_or done i false ≡ true
    → after_close (table_at tables i) ≡ table_at tables i
