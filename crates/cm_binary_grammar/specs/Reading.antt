-- What code that reads by a grammar says of itself: bytes of which a cursor has read a part.
use Rattle.std.specs.Prelude.{ℕ, ◌≤◌, ◌-◌, nat_le, if◌then◌else◌, List, length}
use Rattle.std.specs.Prelude.{Result, Ok, Err}
use Rattle.cm_binary_grammar.specs.declared.fault.End.{End}
use Rattle.cm_binary_grammar.specs.declared.fault.End.TheVariants as end
use Rattle.cm_binary_grammar.specs.declared.fault.ReadError.{ReadError}
use Rattle.cm_binary_grammar.specs.declared.fault.ReadError.TheVariants as errors
use Rattle.cm_binary_grammar.specs.declared.cursor.Cursor.{Cursor}
use Rattle.cm_binary_grammar.specs.Faults.{later, want, Gives}
use Rattle.cm_binary_grammar.specs.Grammar.{Grammar}
use Rattle.cm_binary_grammar.specs.Whole.{Whole}

-- How a part of so many bytes ends: as itself where it is all there, else as the bytes do.
abbrev pub part_end : {R : Type 0} → R → ℕ → End R → List ℕ → End R
part_end mismatch size e bytes = if nat_le size (length bytes) then end.Whole mismatch else e

-- The fault is inside a part of so many bytes.
abbrev pub IsInside : {R X : Type 0} → ℕ → Result X (ReadError R) → Type 0
IsInside size (Ok x) = Unit {0}
IsInside size (Err errors.Memory) = Unit {0}
IsInside size (Err (errors.Fault f)) = f.left ≤ size

-- What the reading of a part comes to behind it.
abbrev pub behind_part : {R X : Type 0} → ℕ → End R → List ℕ → Result X (ReadError R)
    → Result X (ReadError R)
behind_part size e bytes (Ok x) =
    if nat_le size (length bytes) then Ok x else Err (errors.Fault (want e))
behind_part size e bytes (Err errors.Memory) = Err errors.Memory
behind_part size e bytes (Err (errors.Fault f)) = if nat_le size (length bytes)
    then Err (errors.Fault (later f (length bytes - size))) else Err (errors.Fault f)

-- What was read between these two states of a cursor is what the grammar gives, seen by view.
abbrev pub Reads : {R A X : Type 0} → Grammar R A → (X → A) → Cursor R → Cursor R
    → Result X (ReadError R) → Type 0
Reads g view old new r = Gives (λ x. (view x, new.rest.now)) r (g.reads old.end old.rest.now)

-- What was read of all that is left is what the grammar gives, seen by view.
abbrev pub ReadsAll : {R A X : Type 0} → Whole R A → (X → A) → Cursor R → Result X (ReadError R)
    → Type 0
ReadsAll w view old r = Gives view r (w.reads old.end old.rest.now)
