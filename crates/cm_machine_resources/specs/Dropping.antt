-- A handle that can be dropped.
use Rattle.std.specs.Prelude.{◌≡◌, ◌<◌, List, Ok, length}
use Rattle.cm_handles.specs.Handles.{Handles, if_not_lent, look_up}
use Rattle.cm_machine_model.specs.State.{table_at}
use Rattle.cm_machine_resources.specs.declared.drops.Dropped.{Dropped}

-- it stands in the table of its instance, of its resource, and is not lent
abbrev pub IsFound : List Handles → Dropped → Type 0
IsFound tables d = (d.instance < length tables)
    × (if_not_lent (look_up (table_at tables d.instance) d.index d.resource) ≡ Ok d.handle)
