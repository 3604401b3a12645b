-- How far a reader of a value has come, and what reading a part of it comes to.
use Rattle.std.specs.Prelude.{◌≡◌, ℕ, Bool, List, Result, Ok, Err, ⊤}
use Rattle.cm_abi_model.specs.declared.fault.AbiFault.{AbiFault}
use Rattle.cm_abi_load.specs.declared.progress.MetHandle.{MetHandle}
use Rattle.cm_abi_load.specs.declared.progress.Progress.{Progress}
use Rattle.cm_abi_load.specs.declared.stop.Stop.{Stop}
use Rattle.cm_abi_load.specs.declared.stop.Stop.TheVariants as stop

-- how many bytes of strings and lists may still come; and the handles met so far, and the tags of
-- strings, in order
pub record State : Type 0 where
  pub left : ℕ
  pub handles : List MetHandle
  pub tags : List Bool

-- that of the code's
abbrev pub state_of : Progress → State
state_of p = record { left = p.left; handles = p.handles.items; tags = p.tags.items }

-- what reading comes to: a value, or the first fault; and how far the reader has come
abbrev pub Outcome : Type 0 → Type 0
Outcome A = Result (A × State) (AbiFault × State)

-- the next part, where the one before has no fault
infixl 10 ◌>>=◌
abbrev pub ◌>>=◌ : {A B : Type 0} → Outcome A → (A × State → Outcome B) → Outcome B
(Ok x) >>= f = f x
(Err e) >>= f = Err e

-- what is read, with a function applied to the value
abbrev pub mapped : {A B : Type 0} → (A → B) → Outcome A → Outcome B
mapped f r = r >>= λ x. Ok (f x.0, x.1)

-- a stop of the code is where reading comes to, want of memory aside
abbrev pub Stops : {Y : Type 0} → Stop → State → Outcome Y → Type 0
Stops stop.Memory new outcome = ⊤
Stops (stop.Fault fault) new outcome = outcome ≡ Err (fault, new)

-- what the code answered, seen by view, is what reading comes to, want of memory aside
abbrev pub Reads : {X Y : Type 0} → (X → Y) → Result X Stop → State → Outcome Y → Type 0
Reads view (Ok x) new outcome = outcome ≡ Ok (view x, new)
Reads view (Err e) new outcome = Stops e new outcome
