-- What is made of the values that are read, and what is kept of their parts (both are this
-- project's own choice).
use Rattle.std.specs.Prelude.{◌≡◌, ◌+◌, ◌<◌, ◌≤◌, ◌⊎◌, ⊤, List, length, Result, Ok, Err}
use Rattle.cm_types.specs.Values.{Val, Vals, no_vals, val}
use Rattle.cm_abi_load.specs.declared.stop.Stop.{Stop}
use Rattle.cm_abi_load.specs.declared.stop.Stop.TheVariants as stop
use Rattle.cm_abi_load.specs.Outcomes.{Outcome, State}
use Rattle.cm_abi_model.specs.declared.record.PartRecord.{PartRecord}

-- values with one more behind them
abbrev pub with_last : Vals → Val → Vals
with_last no_vals v = val v no_vals
with_last (val u vs) v = val u (with_last vs v)

-- handles that were met stay met
abbrev pub KeepsHandles : {A : Type 0} → State → Outcome A → Type 0
KeepsHandles s (Ok x) = length s.handles ≤ length x.1.handles
KeepsHandles s (Err e) = ⊤

-- a value is read, of which this holds; and the reader has come so far
abbrev pub IsRead : {V : Type 0} → Outcome V → State → (V → Type 0) → Type 0
IsRead (Ok x) after P = (x.1 ≡ after) × P x.0
IsRead (Err e) after P = ⊥

-- where something is read, it has records, or a handle is met
abbrev pub HasMore : {V : Type 0} → (V → List PartRecord) → State → Outcome V → Type 0
HasMore R s (Ok x) = length s.handles < length (R x.0) + length x.1.handles
HasMore R s (Err e) = ⊤

-- a stop is where reading comes to; memory is wanted for what is made, if that takes any, or for
-- records and handles
abbrev pub StopsMaking : {V : Type 0} → Type 0 → (V → List PartRecord) → Outcome V → State → State
    → Stop → Type 0
StopsMaking allocates R outcome s after stop.Memory = allocates ⊎ HasMore R s outcome
StopsMaking allocates R outcome s after (stop.Fault f) = outcome ≡ Err (f, after)

-- what is made stands for the value that is read from one state to another, and its records were
-- kept; or the answer says why not
abbrev pub Makes : {A V K : Type 0} → (A → V → Type 0) → (K → List PartRecord → K → Type 0) → Type 0
    → (V → List PartRecord) → Outcome V → K → K → State → State → Result A Stop → Type 0
Makes stands keeps allocates R outcome old new s after (Ok made) =
    IsRead outcome after (λ v. stands made v × keeps old (R v) new)
Makes stands keeps allocates R outcome old new s after (Err e) =
    StopsMaking allocates R outcome s after e
