-- What code that reads by a grammar says of itself.
use Rattle.std.specs.Prelude.{Result}
use Rattle.cm_values.specs.declared.cursor.Cursor.{Cursor}
use Rattle.cm_values.specs.declared.value_fault.ReadError.{ReadError}
use Rattle.cm_values.specs.ReadFaults.{Gives}
use Rattle.cm_values.specs.Grammar.{Grammar}

-- What was read between these two states of a cursor is what the grammar gives, seen by view.
abbrev pub Reads : {A X : Type 0} →
    Grammar A → (X → A) → Cursor → Cursor → Result X ReadError → Type 0
Reads g view old new r = Gives (λ x. (view x, new.rest.now)) r (g.reads old.rest.now)
