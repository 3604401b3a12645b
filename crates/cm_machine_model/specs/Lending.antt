-- What core values in place end as, where they are lent as a slice.
use Rattle.std.specs.Prelude.{List, length}
use Rattle.std.specs.List.{refill}
use Rattle.std.specs.Borrow.{Array, Fml, Lends, MutBor}
use Rattle.cm_types.specs.declared.core_value.CoreValue.{CoreValue}
use Rattle.cm_types.specs.contracts.core_value.CoreValue.{the_row as core_value}
use Rattle.cm_machine_model.specs.contracts.flat.Flat.{the_row}

-- once the borrow ends, they are those that were written through it, as many as before
abbrev pub lends_values : MutBor (List CoreValue) → MutBor (List CoreValue) → Fml
lends_values values lent =
    Lends the_row (Array core_value 0) values lent (refill (length values.now) values.now)
