-- Going through lists state after state, up to the first fault; and what code that does so says.
use Rattle.std.specs.Prelude.{◌≡◌, ℕ, suc, List, [], ◌∷◌, Option, Some, None, Result, Ok, Err}
use Rattle.cm_binary_grammar.specs.Faults.{and_then}
use Rattle.cm_shims_plain.specs.declared.fault.ShimReason.{ShimReason}
use Rattle.cm_shims_plain.specs.declared.stop.Stop.{Stop}
use Rattle.cm_shims_plain.specs.declared.stop.Stop.TheVariants as stops

-- The state behind all of a list, or the first fault.
abbrev pub each : {S A E : Type 0} → (S → A → Result S E) → S → List A → Result S E
each step s [] = Ok s
each step s (x ∷ xs) = and_then (step s x) (λ t. each step t xs)

-- What is there, or the fault that this one comes to.
abbrev pub or_fault : {A E F : Type 0} → (E → F) → Result A E → Result A F
or_fault fault (Ok x) = Ok x
or_fault fault (Err e) = Err (fault e)

-- The state behind all of a list, whose items are counted from so many and gone through with their
-- numbers, or the first fault with the number of its item.
abbrev pub each_numbered : {S A E F : Type 0} → (ℕ → E → F) → (ℕ → S → A → Result S E) → ℕ → S
    → List A → Result S F
each_numbered fault step n s [] = Ok s
each_numbered fault step n s (x ∷ xs) =
    and_then (or_fault (fault n) (step n s x)) (λ t. each_numbered fault step (suc n) t xs)

-- What is there, or why it is not.
abbrev pub or_reason : {A : Type 0} → ShimReason → Option A → Result A ShimReason
or_reason reason (Some x) = Ok x
or_reason reason None = Err reason

-- The answer is what is wanted, seen by view, unless memory ran out.
abbrev pub Comes : {E X Y : Type 0} → (X → Y) → Result X (Stop E) → Result Y E → Type 0
Comes view (Ok x) wanted = wanted ≡ Ok (view x)
Comes view (Err stops.Memory) wanted = Unit {0}
Comes view (Err (stops.Fault fault)) wanted = wanted ≡ Err fault
