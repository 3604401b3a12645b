-- Faults of projects: the folder and the file in it, by their numbers in the order in which they
-- are handed over, and the fault of the file's text.
use Rattle.std.specs.Prelude.{◌≡◌, ◌⊎◌, ℕ, ◌+◌, List, [], ◌∷◌, Option, Some, None, Result, Ok, Err}
use Rattle.std.specs.Prelude.{MatchResult}
use Rattle.cm_wit_tokens.specs.declared.fault.WitFault.{WitFault}
use Rattle.cm_wit_tokens.specs.declared.fault.WitReason.{WitReason}
use Rattle.cm_wit_tokens.specs.declared.fault.WitReason.TheVariants as reason
use Rattle.cm_wit_projects.specs.declared.fault.ResolveFault.{ResolveFault}

-- a fault of the text of a file
abbrev pub fault_in : ℕ → ℕ → WitFault → ResolveFault
fault_in folder n f = record { folder = folder; file = n; fault = f }

-- a fault for this reason at a byte of the text of a file
abbrev pub fault_at : ℕ → ℕ → ℕ → WitReason → ResolveFault
fault_at folder n at r = fault_in folder n (record { at = at; reason = r })

-- want of memory
abbrev pub IsMemory : ResolveFault → Type 0
IsMemory e = e.fault.reason ≡ reason.Memory

-- A function answered this, seen by view, or that memory was refused.
abbrev pub Answers : {A X : Type 0} →
    (X → A) → Result A ResolveFault → Result X ResolveFault → Type 0
Answers view wanted result =
    MatchResult result (λ x. wanted ≡ Ok (view x)) (λ e. IsMemory e ⊎ (wanted ≡ Err e))

-- a thing in front of others, where there is no fault in either; else the first fault
abbrev pub in_front : {A : Type 0} →
    Result A ResolveFault → Result (List A) ResolveFault → Result (List A) ResolveFault
in_front (Err e) others = Err e
in_front (Ok x) (Err e) = Err e
in_front (Ok x) (Ok xs) = Ok (x ∷ xs)

-- what each of these gives, of which the first is the k-th, or the first fault
abbrev pub each_from : {A B : Type 0} → (ℕ → B → Result A ResolveFault) → ℕ → List B
    → Result (List A) ResolveFault
each_from reads k [] = Ok []
each_from reads k (t ∷ ts) = in_front (reads k t) (each_from reads (k + 1) ts)

-- nothing, where there is no fault
abbrev pub none_of : List ResolveFault → Result (Unit {0}) ResolveFault
none_of [] = Ok tt
none_of (e ∷ es) = Err e

-- the first, if there is one
abbrev pub first : {A : Type 0} → List A → Option A
first [] = None
first (x ∷ xs) = Some x
