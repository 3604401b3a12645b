-- Faults in texts that are read byte by byte, and what a reader that also needs memory may answer.
use Rattle.std.specs.Prelude.{◌≡◌, ℕ, Result, Ok, Err}
use Rattle.cm_values.specs.declared.value_fault.Fault.{Fault}
use Rattle.cm_values.specs.declared.value_fault.ReadError.{ReadError}
use Rattle.cm_values.specs.declared.value_fault.ReadError.TheVariants as errors
use Rattle.cm_values.specs.declared.value_fault.ValueReason.{ValueReason}

-- A fault so many bytes before the end.
abbrev pub flaw : ℕ → ValueReason → Fault
flaw left reason = record { left = left; reason = reason }

-- The next step, where the one before did not fail.
abbrev pub and_then : {A B : Type 0} → Result A Fault → (A → Result B Fault) → Result B Fault
and_then (Ok x) next = next x
and_then (Err f) next = Err f

-- What a function returned, seen by view, is what reading gives, unless memory ran out.
abbrev pub Fails : {Y : Type 0} → ReadError → Result Y Fault → Type 0
Fails errors.Memory read = Unit {0}
Fails (errors.Fault f) read = read ≡ Err f

abbrev pub Gives : {X Y : Type 0} → (X → Y) → Result X ReadError → Result Y Fault → Type 0
Gives view (Ok x) read = read ≡ Ok (view x)
Gives view (Err e) read = Fails e read
