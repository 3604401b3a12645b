-- Why each step keeps the frames standing on one another.
use Rattle.std.proofs.Common.{◌≡◌, ℕ, ◌<◌, inl, inr, Bool, true, false, List, [], ◌∷◌, ◌++◌, length}
use Rattle.std.proofs.Common.{Option, Some, None, refl, sym, ap, subst, ◌∙◌, arith}
use Rattle.std.specs.Prelude.{Result, Ok, Err}
use Rattle.cm_types.specs.declared.core_value.CoreValue.{CoreValue}
use Rattle.cm_types.specs.Values.{Val}
use Rattle.cm_handles.specs.Handles.{if_not_lent, look_up}
use Rattle.cm_handles.specs.declared.handle.Handle.{Handle}
use Rattle.cm_handles.specs.declared.handle.HandleKind.{HandleKind}
use Rattle.cm_handles.specs.declared.handle.HandleKind.TheVariants as handle
use Rattle.cm_handles.specs.declared.fault.HandleFault.{HandleFault}
use Rattle.cm_abi_model.specs.Answering.{answer_fault}
use Rattle.cm_abi_model.specs.Numbers.{slot_at}
use Rattle.cm_abi_model.specs.Requests.{is_spilled}
use Rattle.cm_abi_model.specs.Views.{Way, params, results}
use Rattle.cm_machine_model.specs.declared.event.Event.{Event}
use Rattle.cm_machine_model.specs.declared.event.Trap.TheVariants as trap
use Rattle.cm_machine_model.specs.declared.frame.Call.{Call}
use Rattle.cm_machine_model.specs.declared.frame.Frame.{Frame}
use Rattle.cm_machine_model.specs.declared.frame.Phase.{Phase}
use Rattle.cm_machine_model.specs.declared.frame.Phase.TheVariants as phase
use Rattle.cm_machine_model.specs.declared.frame.Purpose.{Purpose}
use Rattle.cm_machine_model.specs.declared.frame.Purpose.TheVariants as purpose
use Rattle.cm_machine_model.specs.declared.moves.Move.{Move}
use Rattle.cm_machine_model.specs.declared.moves.Move.TheVariants as move
use Rattle.cm_machine_model.specs.Memories.{after_growth, after_write, memory_at}
use Rattle.cm_machine_model.specs.Passages.{IsAnswered, asked_for}
use Rattle.cm_machine_model.specs.Plan.{Plan, CoreFunc, Link, Reaches, core_func_at, drops, guest}
use Rattle.cm_machine_model.specs.Plan.{lowered, makes, represents, types_of}
use Rattle.cm_machine_model.specs.Stack.{actor, actor_of, below_top, top_of}
use Rattle.cm_machine_model.specs.State.{Passage, State, table_at}
use Rattle.cm_machine_model.specs.Step as step
use Rattle.cm_machine_model.specs.Step.{GoesOn, IsReceived, PassesArguments, DropsFound}
use Rattle.cm_machine_model.specs.Step.{DropsHandle, DropsOwned, TellsFound, Calls, Answers}
use Rattle.cm_machine_model.specs.Step.{PlacesResult, ReturnsResult, ReturnsIn, Returns, Moves}
use Rattle.cm_machine_model.specs.Step.{StepOn, Step, after_handing, after_lift_of_args}
use Rattle.cm_machine_model.specs.Step.{after_lift_of_result, new_call, receiver_of, top_place}
use Rattle.cm_machine_model.specs.Step.{trap_of, trap_of_handle}
use Rattle.cm_machine_model.specs.Valid.{IsStack, IsValidState}
use Rattle.cm_machine_model.specs.Plans.{IsLink, IsPlan, IsResourceOf}
use Rattle.cm_machine_model.specs.Rows.{OfTraps, by_check, by_memory, by_trap, by_wrong}
use Rattle.cm_machine_model.specs.Rows.{finish, goes, same_link}
use Rattle.cm_machine_laws.proofs.StepPlaces.{actor_there}

abbrev Q : Plan → Event → State → Type 0
Q plan e new = IsStack plan new.stack

q_traps : (plan : Plan) → OfTraps (Q plan)
q_traps plan st t = tt

kept : (plan : Plan) (e : Event) (new st : State) → new ≡ st → IsStack plan st.stack → IsStack plan new.stack
kept plan e new st is q = subst (λ (x : State). IsStack plan x.stack) (sym is) q

-- a frame that stands on those below
abbrev Below : Plan → Call → List Frame → Type 0
Below plan call fs = ((f : Frame) × (top_of fs ≡ Some f) × (actor f ≡ call.caller) × step.MayLeave f.purpose)

-- what is known of a call: its link, and what it stands on
record Standing (plan : Plan) (call : Call) (fs : List Frame) (l : Link) : Type 0 where
  reach : Reaches plan call.caller call.func l
  inside : l.instance < length plan
  below : Below plan call fs
  rest : IsStack plan fs

framed : (plan : Plan) (call : Call) (fs : List Frame) (l : Link) (ph : Phase) → Standing plan call fs l → IsStack plan (record { instance = l.instance; purpose = purpose.Call (record call { phase = ph }) } ∷ fs)
framed plan call fs l ph k = (k.inside, ((l, k.reach, refl), k.below), k.rest)

-- where a call goes on, its frame stands in whatever phase, or is popped
received : (way : Way) (plan : Plan) (place : ℕ) (l : Link) (call : Call) (p : Passage) (slots : List CoreValue) (h : State) (fs : List Frame) (e : Event) (new : State) → Standing plan call fs l → below_top h.stack ≡ fs
    → IsReceived way place l call p slots h e new → IsStack plan new.stack
received params plan place l call p slots h fs e new k is x =
    kept plan e new (step.in_phase phase.Body l.instance call h) x.1 (subst (λ (gs : List Frame). IsStack plan (record { instance = l.instance; purpose = purpose.Call (record call { phase = phase.Body }) } ∷ gs)) (sym is) (framed plan call fs l phase.Body k))
received results plan place l call p slots h fs e new k is x =
    finish (Q plan) l.post_return place l call p slots h e new
    (λ f v. subst (λ (gs : List Frame). IsStack plan (record { instance = l.instance; purpose = purpose.Call (record call { phase = phase.PostReturn v }) } ∷ gs)) (sym is) (framed plan call fs l (phase.PostReturn v) k))
    (λ values. subst (λ (gs : List Frame). IsStack plan gs) (sym is) k.rest) x

goes_on : (way : Way) (plan : Plan) (st : State) (place : ℕ) (l : Link) (call : Call) (p : Passage) (v : Val) (answers : List ℕ) (fs : List Frame) (e : Event) (new : State) → Standing plan call fs l → IsStack plan st.stack → below_top st.stack ≡ fs
    → GoesOn st place l way call p v answers e new → IsStack plan new.stack
goes_on way plan st place l call p v answers fs e new k now is x =
    goes (Q plan) (q_traps plan) st place l way call p v answers e new (λ f rs. now)
    (λ memory slots r. received way plan place l call p slots (after_handing st (receiver_of way place l call) p memory) fs e new k is r) x

-- ---- calls

called : (plan : Plan) (s : State) (top : Frame) (fs : List Frame) (func : ℕ) (o : Option CoreFunc) (args : List CoreValue) (e : Event) (new : State) → IsPlan plan → core_func_at plan (actor top) func ≡ o → s.stack ≡ top ∷ fs → IsStack plan s.stack → actor top < length plan
    → Calls s top func o args e new → IsStack plan new.stack
called plan s top fs func None args e new linked is at_top now lt x = by_trap (Q plan) (q_traps plan) s trap.UnknownFunction e new x
called plan s top fs func (Some guest) args e new linked is at_top now lt x = by_trap (Q plan) (q_traps plan) s trap.UnknownFunction e new x
called plan s top fs func (Some (lowered l)) args e new linked is at_top now lt x =
    by_check (Q plan) (q_traps plan) s e new x (λ shape y. by_check (Q plan) (q_traps plan) s e new y (λ may z. by_check (Q plan) (q_traps plan) s e new z (λ opened u. by_check (Q plan) (q_traps plan) s e new u (λ room w. passed may w)))) where
      link : IsLink plan (actor top) l
      link = linked.core_funcs (actor top) func (lowered l) is

      stands : step.MayLeave top.purpose → Standing plan (new_call (actor top) func l args) s.stack l
      stands may = record { reach = is; inside = omega (arith, link.earlier, lt); below = (top, ap top_of at_top, refl, may); rest = now }

      passed : step.MayLeave top.purpose → PassesArguments s (actor top) func l args e new → IsStack plan new.stack
      passed may (inl y) = by_trap (Q plan) (q_traps plan) s (trap_of y.0) e new y.2
      passed may (inr (inl y)) = by_trap (Q plan) (q_traps plan) s trap.EngineMemory e new y.1
      passed may (inr (inr y)) =
          by_memory (Q plan) (q_traps plan) (after_lift_of_args s (actor top) func l args y.0 y.1) e new y.5 (λ z.
          goes_on params plan (after_lift_of_args s (actor top) func l args y.0 y.1) (length s.stack) l (new_call (actor top) func l args) y.1 y.0 [] s.stack e new (stands may)
          (framed plan (new_call (actor top) func l args) s.stack l phase.Arguments (stands may)) refl z)
called plan s top fs func (Some (makes r)) args e new linked is at_top now lt x =
    by_check (Q plan) (q_traps plan) s e new x (λ shape y. by_check (Q plan) (q_traps plan) s e new y (λ may z. by_check (Q plan) (q_traps plan) s e new z (λ can u.
    by_memory (Q plan) (q_traps plan) s e new u (λ w. kept plan e new (step.after_new s (actor top) r (slot_at args 0)) w.1 now))))
called plan s top fs func (Some (drops r d)) args e new linked is at_top now lt x =
    by_check (Q plan) (q_traps plan) s e new x (λ shape y. by_check (Q plan) (q_traps plan) s e new y (λ may z. found may (if_not_lent (look_up (table_at s.tables (actor top)) (slot_at args 0) r)) z)) where
      of : IsResourceOf plan (actor top) r d
      of = linked.core_funcs (actor top) func (drops r d) is

      owned : step.MayLeave top.purpose → (h : Handle) (k : Option ℕ) → DropsOwned s (actor top) r k (slot_at args 0) h e new → IsStack plan new.stack
      owned may h None y = kept plan e new (step.after_drop s (actor top) (slot_at args 0) h) y.1 now
      owned may h (Some f) y =
          by_check (Q plan) (q_traps plan) s e new y (λ opened z. by_check (Q plan) (q_traps plan) s e new z (λ room w.
          kept plan e new (step.pushed (record { instance = r.component; purpose = purpose.Destructor (actor top) }) (step.after_drop s (actor top) (slot_at args 0) h)) w.1
          (omega (arith, of.earlier, lt), (of.earlier, (top, ap top_of at_top, refl, may)), now)))

      handled : step.MayLeave top.purpose → (h : Handle) (k : HandleKind) → DropsHandle k s (actor top) r d (slot_at args 0) h e new → IsStack plan new.stack
      handled may h handle.Owned y = owned may h d y
      handled may h (handle.Borrowed c) y = kept plan e new (step.without_handle s (actor top) (slot_at args 0)) y.1 now

      found : step.MayLeave top.purpose → (q : Result Handle HandleFault) → DropsFound q s (actor top) r d (slot_at args 0) e new → IsStack plan new.stack
      found may (Err f) y = by_trap (Q plan) (q_traps plan) s (trap_of_handle f) e new y
      found may (Ok h) y = handled may h h.kind y
called plan s top fs func (Some (represents r)) args e new linked is at_top now lt x =
    by_check (Q plan) (q_traps plan) s e new x (λ shape y. found (look_up (table_at s.tables (actor top)) (slot_at args 0) r) y) where
      found : (q : Result Handle HandleFault) → TellsFound q s (actor top) e new → IsStack plan new.stack
      found (Err f) y = by_trap (Q plan) (q_traps plan) s (trap_of_handle f) e new y
      found (Ok h) y = kept plan e new s y.1 now

-- ---- returns

answered : (way : Way) (plan : Plan) (s : State) (l : Link) (call : Call) (values : List CoreValue) (fs : List Frame) (e : Event) (new : State) → Standing plan call fs l → IsStack plan s.stack → below_top s.stack ≡ fs → Answers s l way call values e new → IsStack plan new.stack
answered way plan s l call values fs e new k now is y =
    by_wrong (Q plan) (q_traps plan)
    (λ e new. (q : Passage) × IsAnswered (asked_for l way y.0 y.1) y.0 (slot_at values 0) q × GoesOn (record s { passage = Some q }) (top_place s) l way call q y.1 (y.2 ++ slot_at values 0 ∷ []) e new)
    s (answer_fault (length (memory_at s.memories (receiver_of way (top_place s) l call).instance)) y.3 (slot_at values 0)) e new y.8
    (λ z. goes_on way plan (record s { passage = Some z.0 }) (top_place s) l call z.0 y.1 (y.2 ++ slot_at values 0 ∷ []) fs e new k now is z.2)

placed : (b : Bool) (plan : Plan) (st : State) (l : Link) (call : Call) (p : Passage) (v : Val) (fs : List Frame) (e : Event) (new : State) → Standing plan call fs l → IsStack plan st.stack → below_top st.stack ≡ fs → PlacesResult b st l call p v e new → IsStack plan new.stack
placed false plan st l call p v fs e new k now is y = goes_on results plan st (top_place st) l call p v [] fs e new k now is y
placed true plan st l call p v fs e new k now is y =
    by_wrong (Q plan) (q_traps plan)
    (λ e new. (q : Passage) × IsAnswered (asked_for l results p v) p call.result_at q × GoesOn (record st { passage = Some q }) (top_place st) l results call q v (call.result_at ∷ []) e new)
    st (answer_fault (length (memory_at st.memories call.caller)) y.0 call.result_at) e new y.2
    (λ z. goes_on results plan (record st { passage = Some z.0 }) (top_place st) l call z.0 v (call.result_at ∷ []) fs e new k now is z.2)

returned : (plan : Plan) (s : State) (l : Link) (call : Call) (values : List CoreValue) (fs : List Frame) (e : Event) (new : State) → Standing plan call fs l → below_top s.stack ≡ fs → ReturnsResult s l call values e new → IsStack plan new.stack
returned plan s l call values fs e new k is (inl y) = by_trap (Q plan) (q_traps plan) s (trap_of y.0) e new y.2
returned plan s l call values fs e new k is (inr (inl y)) = by_trap (Q plan) (q_traps plan) s trap.EngineMemory e new y.1
returned plan s l call values fs e new k is (inr (inr y)) =
    by_memory (Q plan) (q_traps plan) (after_lift_of_result s l call values y.0 y.1) e new y.5 (λ z.
    placed (is_spilled results (types_of l results)) plan (after_lift_of_result s l call values y.0 y.1) l call y.1 y.0 fs e new k
    (subst (λ (gs : List Frame). IsStack plan (record { instance = l.instance; purpose = purpose.Call (record call { phase = phase.Results }) } ∷ gs)) (sym is) (framed plan call fs l phase.Results k)) is z)

in_phases : (ph : Phase) (plan : Plan) (s : State) (l : Link) (call : Call) (values : List CoreValue) (fs : List Frame) (e : Event) (new : State) → Standing plan call fs l → IsStack plan s.stack → below_top s.stack ≡ fs → ReturnsIn ph s l call values e new → IsStack plan new.stack
in_phases phase.Arguments plan s l call values fs e new k now is x = by_check (Q plan) (q_traps plan) s e new x (λ shape y. answered params plan s l call values fs e new k now is y)
in_phases phase.Body plan s l call values fs e new k now is x = by_check (Q plan) (q_traps plan) s e new x (λ shape y. by_check (Q plan) (q_traps plan) s e new y (λ borrows z. returned plan s l call values fs e new k is z))
in_phases phase.Results plan s l call values fs e new k now is x = by_check (Q plan) (q_traps plan) s e new x (λ shape y. answered results plan s l call values fs e new k now is y)
in_phases (phase.PostReturn v) plan s l call values fs e new k now is x =
    by_check (Q plan) (q_traps plan) s e new x (λ shape y. kept plan e new (step.after_call (top_place s) s) y.1 (subst (λ (gs : List Frame). IsStack plan gs) (sym is) k.rest))

returns : (plan : Plan) (s : State) (pu : Purpose) (i : ℕ) (fs : List Frame) (values : List CoreValue) (e : Event) (new : State) → s.stack ≡ record { instance = i; purpose = pu } ∷ fs → IsPlan plan → IsStack plan (record { instance = i; purpose = pu } ∷ fs) → actor_of pu i < length plan
    → Returns plan s pu values e new → IsStack plan new.stack
returns plan s purpose.Root i fs values e new is linked st lt x = by_check (Q plan) (q_traps plan) s e new x (λ shape y. kept plan e new (step.popped s) y.1 (subst (λ (gs : List Frame). IsStack plan gs) (sym (ap below_top is)) st.2))
returns plan s (purpose.Call call) i fs values e new is linked st lt x =
    let link : IsLink plan call.caller x.0 = linked.core_funcs call.caller call.func (lowered x.0) x.1 in
    let k : Standing plan call fs x.0 = record { reach = x.1; inside = inside_of x.0 x.1; below = st.1.1; rest = st.2 } in
    in_phases call.phase plan s x.0 call values fs e new k (subst (λ (gs : List Frame). IsStack plan gs) (sym is) st) (ap below_top is) x.2 where
      inside_of : (l : Link) → Reaches plan call.caller call.func l → l.instance < length plan
      inside_of l reach = subst (λ (n : ℕ). n < length plan) (sym (ap (λ (k : Link). k.instance) (same_link plan call.caller call.func l st.1.0.0 reach st.1.0.1) ∙ st.1.0.2)) st.0
returns plan s (purpose.Destructor who) i fs values e new is linked st lt x = by_check (Q plan) (q_traps plan) s e new x (λ shape y. kept plan e new (step.popped s) y.1 (subst (λ (gs : List Frame). IsStack plan gs) (sym (ap below_top is)) st.2))

moved : (plan : Plan) (s : State) (top : Frame) (fs : List Frame) (m : Move) (e : Event) (new : State) → s.stack ≡ top ∷ fs → IsValidState plan s → Moves plan s top m e new → IsStack plan new.stack
moved plan s top fs (move.Write a bytes) e new is valid x = by_check (Q plan) (q_traps plan) s e new x (λ inside y. kept plan e new (step.with_memory s (actor top) (after_write (memory_at s.memories (actor top)) a bytes.items)) y.1 valid.stack)
moved plan s top fs (move.Grow pages) e new is valid (inl x) = kept plan e new s x.2 valid.stack
moved plan s top fs (move.Grow pages) e new is valid (inr (inl x)) = kept plan e new (step.with_memory s (actor top) (after_growth (memory_at s.memories (actor top)) pages)) x.2 valid.stack
moved plan s top fs (move.Grow pages) e new is valid (inr (inr x)) = by_trap (Q plan) (q_traps plan) s trap.EngineMemory e new x.2
moved plan s top fs (move.Call func args) e new is valid x =
    called plan s top fs func (core_func_at plan (actor top) func) args.items e new valid.linked refl is valid.stack (actor_there plan fs top (subst (λ (gs : List Frame). IsStack plan gs) is valid.stack)) x
moved plan s top fs (move.Return values) e new is valid x =
    let st : IsStack plan (top ∷ fs) = subst (λ (gs : List Frame). IsStack plan gs) is valid.stack in
    returns plan s top.purpose top.instance fs values.items e new is valid.linked st (actor_there plan fs top st) x
moved plan s top fs move.Unreachable e new is valid x = by_trap (Q plan) (q_traps plan) s trap.Unreachable e new x

stepped : (plan : Plan) (s : State) (fs : List Frame) (m : Move) (e : Event) (new : State) → IsValidState plan s → s.stack ≡ fs → StepOn plan fs s m e new → IsStack plan new.stack
stepped plan s [] m e new valid is x = absurd x
stepped plan s (top ∷ fs) m e new valid is x = moved plan s top fs m e new is valid x

pub steps_stand : (plan : Plan) (s : State) (m : Move) (e : Event) (new : State) → IsValidState plan s → Step plan s m e new → IsStack plan new.stack
steps_stand plan s m e new valid x = stepped plan s s.stack m e new valid refl x
