-- Faults in bytes that are read from the front on, and what a reader that also needs memory may
-- answer.
use Rattle.std.specs.Prelude.{◌≡◌, ℕ, ◌+◌, Result, Ok, Err}
use Rattle.cm_binary_grammar.specs.declared.fault.Fault.{Fault}
use Rattle.cm_binary_grammar.specs.declared.fault.End.{End}
use Rattle.cm_binary_grammar.specs.declared.fault.End.TheVariants as end
use Rattle.cm_binary_grammar.specs.declared.fault.ReadError.{ReadError}
use Rattle.cm_binary_grammar.specs.declared.fault.ReadError.TheVariants as errors

-- A fault so many bytes before the end.
abbrev pub flaw : {R : Type 0} → ℕ → R → Fault R
flaw left reason = record { left = left; reason = reason }

-- A fault, where so many bytes more stand at the end.
abbrev pub later : {R : Type 0} → Fault R → ℕ → Fault R
later f more = flaw (f.left + more) f.reason

-- Why a byte past the end is missing.
abbrev pub want_reason : {R : Type 0} → End R → R
want_reason (end.Whole reason) = reason
want_reason (end.Cut reason) = reason

-- A byte is wanted where the bytes end.
abbrev pub want : {R : Type 0} → End R → Fault R
want e = flaw 0 (want_reason e)

-- The next step, where the one before did not fail.
abbrev pub and_then : {A B E : Type 0} → Result A E → (A → Result B E) → Result B E
and_then (Ok x) next = next x
and_then (Err e) next = Err e

-- What a function returned, seen by view, is what reading gives, unless memory ran out.
abbrev pub Fails : {R Y : Type 0} → ReadError R → Result Y (Fault R) → Type 0
Fails errors.Memory read = Unit {0}
Fails (errors.Fault f) read = read ≡ Err f

abbrev pub Gives : {R X Y : Type 0} → (X → Y) → Result X (ReadError R) → Result Y (Fault R) → Type 0
Gives view (Ok x) read = read ≡ Ok (view x)
Gives view (Err e) read = Fails e read
