-- Lemmas on the rows of a step: what holds of each way on of a row, and of each trap, holds of the
-- row. They spare each law the walk through `Unless`, `UnlessWrong` and `GoesOn`.
use Rattle.std.proofs.Common.{◌≡◌, ℕ, ◌⊎◌, inl, inr, List, length, Option, Some, None, sym, subst}
use Rattle.std.proofs.Common.{◌∙◌}
use Rattle.std.specs.Prelude.{slice_get}
use Rattle.std.proofs.lemmas.Option.{same_Some}
use Rattle.cm_types.specs.declared.core_value.CoreValue.{CoreValue}
use Rattle.cm_types.specs.Values.{Val}
use Rattle.cm_abi_model.specs.declared.fault.AbiFault.{AbiFault}
use Rattle.cm_abi_model.specs.declared.request.Request.{Request}
use Rattle.cm_abi_model.specs.Views.{Way}
use Rattle.cm_abi_model.specs.Answered.{last_answer}
use Rattle.cm_machine_model.specs.declared.event.Event.{Event}
use Rattle.cm_machine_model.specs.declared.event.Event.TheVariants as event
use Rattle.cm_machine_model.specs.declared.event.Trap.{Trap}
use Rattle.cm_machine_model.specs.declared.event.Trap.TheVariants as trap
use Rattle.cm_machine_model.specs.declared.frame.Call.{Call}
use Rattle.cm_machine_model.specs.declared.frame.Phase.TheVariants as phase
use Rattle.cm_machine_model.specs.Passages.{as_args, asked_for}
use Rattle.cm_machine_model.specs.Plan.{Plan, Link, Reaches, lowered, receiver_side}
use Rattle.cm_machine_model.specs.State.{Passage, State, after_trap}
use Rattle.cm_machine_model.specs.Step.{Asks, Finishes, GoesOn, GoesOnBy, IsReceived, Traps}
use Rattle.cm_machine_model.specs.Step.{UnlessWrong, after_call, after_handing, first_value}
use Rattle.cm_machine_model.specs.Step.{flat_result, in_phase, receiver_of, trap_of}

-- what is said of an event and a new state
abbrev pub Said : Type 1
Said = Event → State → Type 0

-- what is said of an event and a state is said of those that equal them
pub at : (Q : Said) (e f : Event) (new st : State) → e ≡ f → new ≡ st → Q f st → Q e new
at Q e f new st is eq q =
    subst (λ (x : Event). Q x new) (sym is) (subst (λ (y : State). Q f y) (sym eq) q)

-- It holds of each trap, from whatever state.
abbrev pub OfTraps : Said → Type 0
OfTraps Q = (st : State) (t : Trap) → Q (event.Trapped t) (after_trap st)

-- so it does where a row traps
pub by_trap : (Q : Said) → OfTraps Q → (st : State) (t : Trap) (e : Event) (new : State)
    → Traps st t e new → Q e new
by_trap Q traps st t e new x =
    at Q e (event.Trapped t) new (after_trap st) x.0 x.1 (traps st t)

-- a check
pub by_check : {P R : Type 0} {t : Trap} (Q : Said) (traps : OfTraps Q) (st : State) (e : Event)
    (new : State) → ((P → ⊥) × Traps st t e new) ⊎ (P × R) → (P → R → Q e new) → Q e new
by_check {P} {R} {t} Q traps st e new (inl x) go = by_trap Q traps st t e new x.1
by_check {P} {R} {t} Q traps st e new (inr x) go = go x.0 x.1

-- where there may be no memory
pub by_memory : {P R : Type 0} (Q : Said) (traps : OfTraps Q) (st : State) (e : Event)
    (new : State) → (P × Traps st trap.EngineMemory e new) ⊎ R → (R → Q e new) → Q e new
by_memory {P} {R} Q traps st e new (inl x) go = by_trap Q traps st trap.EngineMemory e new x.1
by_memory {P} {R} Q traps st e new (inr x) go = go x

-- an answer of an allocator
pub by_wrong : (Q : Said) (traps : OfTraps Q) (row : Said) (st : State) (o : Option AbiFault)
    (e : Event) (new : State) → UnlessWrong st o row e new → (row e new → Q e new) → Q e new
by_wrong Q traps row st None e new x go = go x
by_wrong Q traps row st (Some f) e new x go = by_trap Q traps st (trap_of f) e new x

-- a request
pub by_request : (Q : Said) (o : Option ℕ) (i : ℕ) (args : List CoreValue) (st : State)
    (e : Event) (new : State) → ((f : ℕ) → Q (event.Realloc i f args) st) → Asks o i args st e new
    → Q e new
by_request Q None i args st e new ask x = absurd x
by_request Q (Some f) i args st e new ask x =
    at Q e (event.Realloc i f args) new st x.0 x.1 (ask f)

-- a request, or where there is none a value that is handed over
pub goes_by : (Q : Said) (traps : OfTraps Q) (o : Option Request) (st : State) (place : ℕ)
    (l : Link) (way : Way) (call : Call) (p : Passage) (v : Val) (rs : List Request)
    (answers : List ℕ) (e : Event) (new : State)
    → ((f : ℕ) (args : List CoreValue)
    → Q (event.Realloc (receiver_of way place l call).instance f args) st)
    → ((memory : List ℕ) (slots : List CoreValue)
    → IsReceived way place l call p slots
    (after_handing st (receiver_of way place l call) p memory) e new → Q e new)
    → GoesOnBy o st place l way call p v rs answers e new → Q e new
goes_by Q traps (Some r) st place l way call p v rs answers e new ask received x =
    by_request Q (receiver_side l way).realloc (receiver_of way place l call).instance
    (as_args (last_answer answers) r) st e new (λ f. ask f (as_args (last_answer answers) r)) x
goes_by Q traps None st place l way call p v rs answers e new ask received x =
    by_check Q traps st e new x
    (λ apart y. by_check Q traps st e new y
    (λ room z. by_memory Q traps st e new z (λ w. received w.0 w.1 w.3)))

-- the next request, or behind the last a value that is handed over
pub goes : (Q : Said) (traps : OfTraps Q) (st : State) (place : ℕ) (l : Link) (way : Way)
    (call : Call) (p : Passage) (v : Val) (answers : List ℕ) (e : Event) (new : State)
    → ((f : ℕ) (args : List CoreValue)
    → Q (event.Realloc (receiver_of way place l call).instance f args) st)
    → ((memory : List ℕ) (slots : List CoreValue)
    → IsReceived way place l call p slots
    (after_handing st (receiver_of way place l call) p memory) e new → Q e new)
    → GoesOn st place l way call p v answers e new → Q e new
goes Q traps st place l way call p v answers e new ask received x =
    goes_by Q traps (slice_get (asked_for l way p v) (length answers)) st place l way call p v
    (asked_for l way p v) answers e new ask received x

-- a call that finishes: the callee tidies up, or the call ends
pub finish : (Q : Said) (o : Option ℕ) (place : ℕ) (l : Link) (call : Call) (p : Passage)
    (slots : List CoreValue) (h : State) (e : Event) (new : State)
    → ((f : ℕ) (v : Option CoreValue) → Q (event.PostReturn l.instance f p.slots)
    (in_phase (phase.PostReturn v) l.instance call h))
    → ((values : List CoreValue) → Q (event.Resume call.caller values) (after_call place h))
    → Finishes o place l call p slots h e new → Q e new
finish Q None place l call p slots h e new tidy end x =
    at Q e (event.Resume call.caller (flat_result l slots)) new (after_call place h) x.0 x.1
    (end (flat_result l slots))
finish Q (Some f) place l call p slots h e new tidy end x =
    at Q e (event.PostReturn l.instance f p.slots) new
    (in_phase (phase.PostReturn (first_value (flat_result l slots))) l.instance call h) x.0 x.1
    (tidy f (first_value (flat_result l slots)))

-- one core function comes to one link
pub same_link : (plan : Plan) (c f : ℕ) (l k : Link) → Reaches plan c f l → Reaches plan c f k
    → l ≡ k
same_link plan c f l k a b =
    lowered_in l k (same_Some (lowered l) (lowered k) (sym a ∙ b)) where
      lowered_in : (l k : Link) → lowered l ≡ lowered k → l ≡ k
      lowered_in l k e = cc (e)
