-- Why each step keeps lends counted, to calls that stand, and borrows backed.
use Rattle.std.proofs.Common.{◌≡◌, ℕ, ◌<◌, ◌≤◌, ◌⊎◌, inl, inr, Bool, true, false, List, [], ◌∷◌}
use Rattle.std.proofs.Common.{◌++◌, length, Option, Some, None, refl, sym, ap, subst, ◌∙◌, arith}
use Rattle.std.specs.Prelude.{slice_get, slice_set, Result, Ok, Err, ◌==◌, if◌then◌else◌}
use Rattle.std.proofs.lemmas.Bool.{cases_eq, eqb-true}
use Rattle.std.proofs.lemmas.Option.{same_Some}
use Rattle.std.proofs.lemmas.List.{length-set}
use Rattle.cm_types.specs.declared.core_value.CoreValue.{CoreValue}
use Rattle.cm_types.specs.Values.{Val, HandleValue}
use Rattle.cm_handles.specs.Handles.{Handles, IsSoundHandles, after_add, after_release, handle_at}
use Rattle.cm_handles.specs.Handles.{if_not_lent, indices_left, look_up, next_index}
use Rattle.cm_handles.specs.declared.fault.HandleFault.{HandleFault}
use Rattle.cm_handles.specs.declared.fault.HandleFault.TheVariants as handle_fault
use Rattle.cm_handles.specs.declared.handle.Handle.{Handle}
use Rattle.cm_handles.specs.declared.handle.HandleKind.{HandleKind}
use Rattle.cm_handles.specs.declared.handle.HandleKind.TheVariants as handle
use Rattle.cm_abi_model.specs.Answering.{answer_fault}
use Rattle.cm_abi_model.specs.declared.fault.AbiFault.{AbiFault}
use Rattle.cm_abi_model.specs.declared.request.Request.{Request}
use Rattle.cm_abi_model.specs.Denotes.{Denotes}
use Rattle.cm_abi_model.specs.Numbers.{slot_at}
use Rattle.cm_abi_model.specs.Receives.{HandleLeaf}
use Rattle.cm_abi_model.specs.Requests.{is_spilled}
use Rattle.cm_abi_model.specs.Taken.{MAX_CONTENT, Met, after_met, lent_of, met}
use Rattle.cm_abi_model.specs.Views.{View, Way, params, results}
use Rattle.cm_abi_model.specs.Giving.{added_count, after_given}
use Rattle.cm_abi_model.specs.declared.receiver.Receiver.{Receiver}
use Rattle.cm_machine_model.specs.declared.event.Event.{Event}
use Rattle.cm_machine_model.specs.declared.event.Trap.{Trap}
use Rattle.cm_machine_model.specs.declared.event.Trap.TheVariants as trap
use Rattle.cm_machine_model.specs.declared.frame.Call.{Call}
use Rattle.cm_machine_model.specs.declared.frame.Frame.{Frame}
use Rattle.cm_machine_model.specs.declared.frame.Phase.{Phase}
use Rattle.cm_machine_model.specs.declared.frame.Phase.TheVariants as phase
use Rattle.cm_machine_model.specs.declared.frame.Purpose.{Purpose}
use Rattle.cm_machine_model.specs.declared.frame.Purpose.TheVariants as purpose
use Rattle.cm_machine_model.specs.declared.moves.Move.{Move}
use Rattle.cm_machine_model.specs.declared.moves.Move.TheVariants as move
use Rattle.cm_machine_model.specs.Memories.{memory_at}
use Rattle.cm_machine_model.specs.Owning.{IsAmong, standing}
use Rattle.cm_machine_laws.proofs.OwningLaws.{AddingIsFine}
use Rattle.cm_machine_model.specs.Passages.{Carries, IsAnswered, IsScanned, as_args, asked_for}
use Rattle.cm_abi_model.specs.Answered.{last_answer}
use Rattle.cm_machine_model.specs.Plan.{Plan, CoreFunc, Link, Reaches, core_func_at, drops, guest}
use Rattle.cm_machine_model.specs.Plan.{lowered, makes, represents, receiver_side, types_of}
use Rattle.cm_machine_model.specs.Plans.{IsLink, IsPlan, IsResourceOf, NoneBorrowed}
use Rattle.cm_machine_model.specs.Stack.{actor, below_top, top_of}
use Rattle.cm_machine_model.specs.State.{Passage, State, after_trap, table_at}
use Rattle.cm_machine_model.specs.Step as step
use Rattle.cm_machine_model.specs.Step.{Traps, UnlessWrong, Asks, Answers, Calls, CanMake}
use Rattle.cm_machine_model.specs.Step.{DropsFound, DropsHandle, DropsOwned, Finishes, GoesOn}
use Rattle.cm_machine_model.specs.Step.{GoesOnBy, HasNoBorrows, IsReceived, MayLeave, Moves}
use Rattle.cm_machine_model.specs.Step.{PassesArguments, PlacesResult, Returns, ReturnsIn}
use Rattle.cm_machine_model.specs.Step.{ReturnsResult, Step, StepOn, TellsFound, after_handing}
use Rattle.cm_machine_model.specs.Step.{after_lift_of_args, after_lift_of_result, arg_slots}
use Rattle.cm_machine_model.specs.Step.{args_view, call_frame, new_call, receiver_of, result_view}
use Rattle.cm_machine_model.specs.Step.{top_place, trap_of, trap_of_handle}
use Rattle.cm_machine_model.specs.Valid.{IsBorrowedLeaf, IsStack, IsValidState, PassesAtTop}
use Rattle.cm_machine_model.specs.Valid.{PassesFor, PassesIn, StandsOn}
use Rattle.cm_machine_laws.proofs.LendKeeps.{Backed, GivenAt, Holds, LentFor, call_of, ends}
use Rattle.cm_machine_laws.proofs.LendKeeps.{frame_top, given_at, gives_by, lifts, none_on_top}
use Rattle.cm_machine_laws.proofs.LendKeeps.{pops, pushes, releases, rephases, repasses}
use Rattle.cm_machine_laws.proofs.LendKeeps.{same_purpose, traps, unpasses}
use Rattle.cm_machine_laws.proofs.LentLeaves.{none_lent, none_to_borrow}
use Rattle.cm_machine_model.specs.Rows.{same_link}
use Rattle.cm_machine_laws.proofs.StepPlaces.{KnowsCall, KnowsCallee, actor_there, call_stands}
use Rattle.cm_machine_laws.proofs.StepPlaces.{none_for}
use Rattle.cm_machine_laws.specs.Taking.{AreThere}
use Rattle.cm_machine_laws.proofs.Takes.{there_denoted}
use Rattle.cm_handles.proofs.HandleLaws.{err_is_no_ok, ok_in}
use Rattle.cm_handles.proofs.HandlesLaws.{looked, not_lent}
use Rattle.cm_machine_model.proofs.StateLaws.{table_other}

abbrev pub H : Plan → State → Type 0
H plan s = Holds plan s.tables s.lends s.stack s.passage

-- ---- rows

at : (plan : Plan) (new st : State) → new ≡ st → H plan st → H plan new
at plan new st is h = subst (λ (x : State). H plan x) (sym is) h

by_trap : (plan : Plan) (s : State) (t : Trap) (e : Event) (new : State) → H plan s → Traps s t e new → H plan new
by_trap plan s t e new h x = at plan new (after_trap s) x.1 (traps plan s.tables s.lends s.stack s.passage h)

by_check : {P R : Type 0} {t : Trap} (plan : Plan) (s : State) (e : Event) (new : State) → H plan s → ((P → ⊥) × Traps s t e new) ⊎ (P × R) → (P → R → H plan new) → H plan new
by_check {P} {R} {t} plan s e new h (inl x) go = by_trap plan s t e new h x.1
by_check {P} {R} {t} plan s e new h (inr x) go = go x.0 x.1

by_memory : {P R : Type 0} (plan : Plan) (s : State) (e : Event) (new : State) → H plan s → (P × Traps s trap.EngineMemory e new) ⊎ R → (R → H plan new) → H plan new
by_memory {P} {R} plan s e new h (inl x) go = by_trap plan s trap.EngineMemory e new h x.1
by_memory {P} {R} plan s e new h (inr x) go = go x

by_wrong : (plan : Plan) (row : Event → State → Type 0) (s : State) (o : Option AbiFault) (e : Event) (new : State) → H plan s → UnlessWrong s o row e new → (row e new → H plan new) → H plan new
by_wrong plan row s None e new h x go = go x
by_wrong plan row s (Some f) e new h x go = by_trap plan s (trap_of f) e new h x

-- ---- handing over

asked : (plan : Plan) (o : Option ℕ) (i : ℕ) (args : List CoreValue) (st : State) (e : Event) (new : State) → H plan st → Asks o i args st e new → H plan new
asked plan None i args st e new h x = absurd x
asked plan (Some f) i args st e new h x = at plan new st x.1 h

goes_by : (plan : Plan) (o : Option Request) (st : State) (place : ℕ) (l : Link) (way : Way) (call : Call) (p : Passage) (v : Val) (rs : List Request) (answers : List ℕ) (e : Event) (new : State) → H plan st
    → ((memory : List ℕ) (slots : List CoreValue) → added_count (receiver_of way place l call) p.leaves ≤ indices_left (table_at st.tables (receiver_of way place l call).instance)
    → IsReceived way place l call p slots (after_handing st (receiver_of way place l call) p memory) e new → H plan new)
    → GoesOnBy o st place l way call p v rs answers e new → H plan new
goes_by plan (Some r) st place l way call p v rs answers e new h go x = asked plan (receiver_side l way).realloc (receiver_of way place l call).instance (as_args (last_answer answers) r) st e new h x
goes_by plan None st place l way call p v rs answers e new h go x =
    by_check plan st e new h x (λ apart y. by_check plan st e new h y (λ room z. by_memory plan st e new h z (λ w. go w.0 w.1 room w.3)))

-- the frame of a call on top, in a phase
abbrev on_top : Link → Call → Phase → List Frame → List Frame
on_top l call ph fs = call_of l.instance (record call { phase = ph }) ∷ fs

arguments_no_body : phase.Arguments ≡ phase.Body → ⊥
arguments_no_body e = cc (e)

results_no_body : phase.Results ≡ phase.Body → ⊥
results_no_body e = cc (e)

results_no_arguments : phase.Results ≡ phase.Arguments → ⊥
results_no_arguments e = cc (e)

post_no_body : (r : Option CoreValue) → phase.PostReturn r ≡ phase.Body → ⊥
post_no_body r e = cc (e)

goes_on_params : AddingIsFine → (plan : Plan) (st : State) (place : ℕ) (l : Link) (call : Call) (p : Passage) (v : Val) (answers : List ℕ) (fs : List Frame) (e : Event) (new : State)
    → H plan st → st.passage ≡ Some p → st.stack ≡ on_top l call phase.Arguments fs → place ≡ length fs → l.instance < length st.tables → IsSoundHandles (table_at st.tables l.instance)
    → GoesOn st place l params call p v answers e new → H plan new
goes_on_params fine plan st place l call p v answers fs e new h is stack is_place lt sound x =
    goes_by plan (slice_get (asked_for l params p v) (length answers)) st place l params call p v (asked_for l params p v) answers e new h
    (λ memory slots room y. at plan new (step.in_phase phase.Body l.instance call (after_handing st to p memory)) y.1 (handed room)) x where
      to : Receiver
      to = receiver_of params place l call

      now : Holds plan st.tables st.lends (on_top l call phase.Arguments fs) (Some p)
      now = subst (λ (o : Option Passage). Holds plan st.tables st.lends (on_top l call phase.Arguments fs) o) is (subst (λ (gs : List Frame). Holds plan st.tables st.lends gs st.passage) stack h)

      enters : Holds plan st.tables st.lends (on_top l call phase.Body fs) None
      enters = rephases plan st.tables st.lends fs l.instance (record call { phase = phase.Arguments }) phase.Body (Some p) now.stack now
          (λ k g e kind. none_on_top plan st.tables st.lends fs l.instance (record call { phase = phase.Arguments }) (Some p) now arguments_no_body l.instance k g e kind)

      back : (u : HandleValue) → IsBorrowedLeaf p.leaves u → Backed st.tables st.lends (on_top l call phase.Body fs) l.instance place u
      back u leaf = record {
        of = record call { phase = phase.Body };
        stands = frame_top (call_of l.instance (record call { phase = phase.Body })) fs place is_place;
        in_body = refl;
        lent_for = subst (λ n. LentFor st.tables st.lends n call.caller u) (sym is_place)
            (now.lent_out p u (call_of l.instance (record call { phase = phase.Arguments })) (record call { phase = phase.Arguments }) refl refl refl refl leaf);
      }

      handed : added_count to p.leaves ≤ indices_left (table_at st.tables l.instance)
          → Holds plan (slice_set st.tables l.instance (after_given to (table_at st.tables l.instance) p.leaves)) st.lends (call_of l.instance (record call { phase = phase.Body }) ∷ below_top st.stack) None
      handed room =
          subst (λ (gs : List Frame). Holds plan (slice_set st.tables l.instance (after_given to (table_at st.tables l.instance) p.leaves)) st.lends (call_of l.instance (record call { phase = phase.Body }) ∷ gs) None) (sym (ap below_top stack))
          (gives_by plan st.tables st.lends (on_top l call phase.Body fs) to p.leaves (after_given to (table_at st.tables l.instance) p.leaves) lt (given_at fine to p.leaves (table_at st.tables l.instance) sound room) back enters)

finished : (plan : Plan) (o : Option ℕ) (place : ℕ) (l : Link) (call : Call) (p : Passage) (slots : List CoreValue) (h : State) (fs : List Frame) (e : Event) (new : State)
    → Holds plan h.tables h.lends (on_top l call phase.Results fs) None → h.passage ≡ None → below_top h.stack ≡ fs → place ≡ length fs → Finishes o place l call p slots h e new → H plan new
finished plan None place l call p slots h fs e new holds none below is_place x =
    at plan new (step.after_call place h) x.1
    (subst (λ (o : Option Passage). Holds plan (step.after_call place h).tables (step.after_call place h).lends (below_top h.stack) o) (sym none)
    (subst (λ (gs : List Frame). Holds plan (step.after_call place h).tables (step.after_call place h).lends gs None) (sym below)
    (subst (λ n. Holds plan (step.after_call n h).tables (step.after_call n h).lends fs None) (sym is_place)
    (ends plan h.tables h.lends fs l.instance (record call { phase = phase.Results }) results_no_body holds))))
finished plan (Some f) place l call p slots h fs e new holds none below is_place x =
    let ph : Phase = phase.PostReturn (step.first_value (step.flat_result l slots)) in
    at plan new (step.in_phase ph l.instance call h) x.1
    (subst (λ (o : Option Passage). Holds plan h.tables h.lends (call_of l.instance (record call { phase = ph }) ∷ below_top h.stack) o) (sym none)
    (subst (λ (gs : List Frame). Holds plan h.tables h.lends (call_of l.instance (record call { phase = ph }) ∷ gs) None) (sym below)
    (rephases plan h.tables h.lends fs l.instance (record call { phase = phase.Results }) ph None holds.stack holds
    (λ k g e kind. none_on_top plan h.tables h.lends fs l.instance (record call { phase = phase.Results }) None holds results_no_body l.instance k g e kind))))

goes_on_results : AddingIsFine → (plan : Plan) (st : State) (place : ℕ) (l : Link) (call : Call) (p : Passage) (v : Val) (answers : List ℕ) (fs : List Frame) (e : Event) (new : State)
    → H plan st → st.passage ≡ Some p → NoneBorrowed p.leaves → st.stack ≡ on_top l call phase.Results fs → place ≡ length fs → call.caller < length st.tables → IsSoundHandles (table_at st.tables call.caller)
    → GoesOn st place l results call p v answers e new → H plan new
goes_on_results fine plan st place l call p v answers fs e new h is no_borrow stack is_place lt sound x =
    goes_by plan (slice_get (asked_for l results p v) (length answers)) st place l results call p v (asked_for l results p v) answers e new h
    (λ memory slots room y. finished plan l.post_return place l call p slots (after_handing st to p memory) fs e new (handed room) refl (ap below_top stack) is_place y) x where
      to : Receiver
      to = receiver_of results place l call

      now : Holds plan st.tables st.lends (on_top l call phase.Results fs) st.passage
      now = subst (λ (gs : List Frame). Holds plan st.tables st.lends gs st.passage) stack h

      handed : added_count to p.leaves ≤ indices_left (table_at st.tables call.caller)
          → Holds plan (slice_set st.tables call.caller (after_given to (table_at st.tables call.caller) p.leaves)) st.lends (on_top l call phase.Results fs) None
      handed room =
          gives_by plan st.tables st.lends (on_top l call phase.Results fs) to p.leaves (after_given to (table_at st.tables call.caller) p.leaves) lt (given_at fine to p.leaves (table_at st.tables call.caller) sound room)
          (λ u leaf. absurd (none_to_borrow p.leaves u no_borrow leaf)) (unpasses plan st.tables st.lends (on_top l call phase.Results fs) st.passage now)

-- ---- lifting

pub met_there : (w : View) (l : Link) (way : Way) (slots : List CoreValue) (v : Val) (p : Passage) (t : Handles) → w.table ≡ t → Denotes w way (types_of l way) slots v → IsScanned w l way slots v p
    → AreThere t (met w way (types_of l way) slots v) p.leaves
met_there w l way slots v p t table d kept =
    subst (λ (u : Handles). AreThere u (met w way (types_of l way) slots v) p.leaves) table
    (subst (λ (ls : List HandleLeaf). AreThere w.table (met w way (types_of l way) slots v) ls) (sym kept.carried.handles) (there_denoted w way (types_of l way) slots v d))

passes_arguments : AddingIsFine → (plan : Plan) (s : State) (top : Frame) (fs : List Frame) (func : ℕ) (l : Link) (args : List CoreValue) (e : Event) (new : State)
    → H plan s → s.stack ≡ top ∷ fs → MayLeave top.purpose → Reaches plan (actor top) func l → l.instance < length plan → actor top < length s.tables → KnowsCallee s (actor top) l
    → PassesArguments s (actor top) func l args e new → H plan new
passes_arguments fine plan s top fs func l args e new h is may reach inside lt knows (inl x) = by_trap plan s (trap_of x.0) e new h x.2
passes_arguments fine plan s top fs func l args e new h is may reach inside lt knows (inr (inl x)) = by_trap plan s trap.EngineMemory e new h x.1
passes_arguments fine plan s top fs func l args e new h is may reach inside lt knows (inr (inr x)) =
    by_memory plan st e new there x.5 (λ y.
    goes_on_params fine plan st (length s.stack) l (new_call (actor top) func l args) x.1 x.0 [] s.stack e new there refl refl refl
    (subst (λ (n : ℕ). l.instance < n) (sym (length-set s.tables (actor top) (after_met (table_at s.tables (actor top)) ms))) knows.there)
    (subst (λ (t : Handles). IsSoundHandles t) (sym (table_other s.tables (actor top) l.instance (after_met (table_at s.tables (actor top)) ms) knows.apart)) knows.sound) y) where
      ms : List Met
      ms = met (args_view s (actor top) l) params (types_of l params) (arg_slots l args) x.0

      st : State
      st = after_lift_of_args s (actor top) func l args x.0 x.1

      frame : Frame
      frame = call_frame (actor top) func l args

      there : H plan st
      there = lifts plan s.tables s.lends (frame ∷ s.stack) (actor top) (length s.stack) MAX_CONTENT ms x.1 lt
          (met_there (args_view s (actor top) l) l params (arg_slots l args) x.0 x.1 (table_at s.tables (actor top)) refl x.2 x.4) x.3
          (λ k a. record { instance = l.instance; call = new_call (actor top) func l args; stands = frame_top frame s.stack (length s.stack) refl; caller_is = refl })
          (λ f c at_top is_call ph. (refl, ap (λ (d : Call). d.caller) (same_purpose (new_call (actor top) func l args) c (ap (λ (g : Frame). g.purpose) (same_Some frame f at_top) ∙ is_call))))
          (pushes plan s.tables s.lends s.stack frame (inside, ((l, reach, refl), (top, ap top_of is, refl, may)), h.stack) s.passage h)

-- ---- calls

-- nothing is on its way where a call may be made
unpassed : (plan : Plan) (s : State) → s.passage ≡ None → H plan s → Holds plan s.tables s.lends s.stack None
unpassed plan s none h = subst (λ (o : Option Passage). Holds plan s.tables s.lends s.stack o) none h

made_at : AddingIsFine → (t : Handles) (h : Handle) → IsSoundHandles t → 0 < indices_left t → h.lends ≡ 0 → h.kind ≡ handle.Owned → (k : ℕ) → GivenAt (record { instance = 0; call = 0 }) [] (handle_at t k) (handle_at (after_add t h) k)
made_at fine t h sound room free owned k =
    let adds = fine t h sound room in
    elim (cases_eq k (next_index t)) as (λ r. GivenAt (record { instance = 0; call = 0 }) [] (handle_at t k) (handle_at (after_add t h) k)) [
      | inl same ↦ inr (ap (λ n. handle_at t n) same ∙ adds.vacant, h, ap (λ n. handle_at (after_add t h) n) same ∙ adds.changes.here, free, λ call e. absurd (owned_is_no_borrow call (sym owned ∙ e)))
      | inr ne ↦ inl (adds.changes.others k ne)
    ] where
      owned_is_no_borrow : (c : ℕ) → handle.Owned ≡ handle.Borrowed c → ⊥
      owned_is_no_borrow c e = cc (e)

free_by : (b : Bool) (g h : Handle) → (if b then Ok g else Err handle_fault.StillLent) ≡ Ok h → b ≡ true
free_by true g h e = refl
free_by false g h e = absurd (err_is_no_ok handle_fault.StillLent h e)

free : (x : Result Handle HandleFault) (h : Handle) → if_not_lent x ≡ Ok h → h.lends ≡ 0
free (Err f) h e = absurd (err_is_no_ok f h e)
free (Ok g) h e = ap (λ (x : Handle). x.lends) (ok_in h g (sym (not_lent (Ok g) h e))) ∙ eqb-true g.lends 0 (free_by (g.lends == 0) g h e)

called : AddingIsFine → (plan : Plan) (s : State) (top : Frame) (fs : List Frame) (func : ℕ) (o : Option CoreFunc) (args : List CoreValue) (e : Event) (new : State)
    → IsPlan plan → core_func_at plan (actor top) func ≡ o → s.stack ≡ top ∷ fs → H plan s → (MayLeave top.purpose → s.passage ≡ None) → actor top < length plan → actor top < length s.tables
    → IsSoundHandles (table_at s.tables (actor top)) → ((l : Link) → o ≡ Some (lowered l) → KnowsCallee s (actor top) l) → Calls s top func o args e new → H plan new
called fine plan s top fs func None args e new linked is at_top h none inside lt sound knows x = by_trap plan s trap.UnknownFunction e new h x
called fine plan s top fs func (Some guest) args e new linked is at_top h none inside lt sound knows x = by_trap plan s trap.UnknownFunction e new h x
called fine plan s top fs func (Some (lowered l)) args e new linked is at_top h none inside lt sound knows x =
    let link : IsLink plan (actor top) l = linked.core_funcs (actor top) func (lowered l) is in
    by_check plan s e new h x (λ shape y. by_check plan s e new h y (λ may z. by_check plan s e new h z (λ opened u. by_check plan s e new h u (λ room w.
    passes_arguments fine plan s top fs func l args e new h at_top may is (omega (arith, link.earlier, inside)) lt (knows l refl) w))))
called fine plan s top fs func (Some (makes r)) args e new linked is at_top h none inside lt sound knows x =
    by_check plan s e new h x (λ shape y. by_check plan s e new h y (λ may z. by_check plan s e new h z (λ can u. by_memory plan s e new h u (λ w.
    at plan new (step.after_new s (actor top) r (slot_at args 0)) w.1 (makes_one (none may) can))))) where
      one : Handle
      one = record { resource = r; serial = length s.owners; lends = 0; rep = slot_at args 0; kind = handle.Owned }

      makes_one : s.passage ≡ None → CanMake s (actor top) → Holds plan (slice_set s.tables (actor top) (after_add (table_at s.tables (actor top)) one)) s.lends s.stack s.passage
      makes_one nothing can =
          subst (λ (o : Option Passage). Holds plan (slice_set s.tables (actor top) (after_add (table_at s.tables (actor top)) one)) s.lends s.stack o) (sym nothing)
          (gives_by plan s.tables s.lends s.stack (record { instance = actor top; call = 0 }) [] (after_add (table_at s.tables (actor top)) one) lt
          (made_at fine (table_at s.tables (actor top)) one sound can.index refl refl) (λ v leaf. absurd leaf) (unpassed plan s nothing h))
called fine plan s top fs func (Some (drops r d)) args e new linked is at_top h none inside lt sound knows x =
    by_check plan s e new h x (λ shape y. by_check plan s e new h y (λ may z. found may (if_not_lent (look_up (table_at s.tables (actor top)) (slot_at args 0) r)) refl z)) where
      index : ℕ
      index = slot_at args 0

      of : IsResourceOf plan (actor top) r d
      of = linked.core_funcs (actor top) func (drops r d) is

      gone : (g : Handle) → s.passage ≡ None → standing s.tables (actor top) index ≡ Some g → g.lends ≡ 0 → Holds plan (slice_set s.tables (actor top) (after_release (table_at s.tables (actor top)) index)) s.lends s.stack s.passage
      gone g nothing stands no_lends =
          subst (λ (o : Option Passage). Holds plan (slice_set s.tables (actor top) (after_release (table_at s.tables (actor top)) index)) s.lends s.stack o) (sym nothing)
          (releases plan s.tables s.lends s.stack (actor top) index g lt stands no_lends (unpassed plan s nothing h))

      owned : MayLeave top.purpose → (g : Handle) (k : Option ℕ) → Holds plan (slice_set s.tables (actor top) (after_release (table_at s.tables (actor top)) index)) s.lends s.stack s.passage → DropsOwned s (actor top) r k index g e new → H plan new
      owned may g None j y = at plan new (step.after_drop s (actor top) index g) y.1 j
      owned may g (Some f) j y =
          by_check plan s e new h y (λ opened z. by_check plan s e new h z (λ room w.
          at plan new (step.pushed (record { instance = r.component; purpose = purpose.Destructor (actor top) }) (step.after_drop s (actor top) index g)) w.1
          (subst (λ (o : Option Passage). Holds plan (slice_set s.tables (actor top) (after_release (table_at s.tables (actor top)) index)) s.lends (record { instance = r.component; purpose = purpose.Destructor (actor top) } ∷ s.stack) o) (sym (none may))
          (pushes plan (slice_set s.tables (actor top) (after_release (table_at s.tables (actor top)) index)) s.lends s.stack (record { instance = r.component; purpose = purpose.Destructor (actor top) })
          (omega (arith, of.earlier, inside), (of.earlier, (top, ap top_of at_top, refl, may)), h.stack) s.passage j))))

      handled : MayLeave top.purpose → (g : Handle) (k : HandleKind) → Holds plan (slice_set s.tables (actor top) (after_release (table_at s.tables (actor top)) index)) s.lends s.stack s.passage → DropsHandle k s (actor top) r d index g e new → H plan new
      handled may g handle.Owned j y = owned may g d j y
      handled may g (handle.Borrowed c) j y = at plan new (step.without_handle s (actor top) index) y.1 j

      found : MayLeave top.purpose → (q : Result Handle HandleFault) → if_not_lent (look_up (table_at s.tables (actor top)) index r) ≡ q → DropsFound q s (actor top) r d index e new → H plan new
      found may (Err f) eq y = by_trap plan s (trap_of_handle f) e new h y
      found may (Ok g) eq y =
          handled may g g.kind (gone g (none may) (looked (handle_at (table_at s.tables (actor top)) index) r g (not_lent (look_up (table_at s.tables (actor top)) index r) g eq)) (free (look_up (table_at s.tables (actor top)) index r) g eq)) y
called fine plan s top fs func (Some (represents r)) args e new linked is at_top h none inside lt sound knows x =
    by_check plan s e new h x (λ shape y. found (look_up (table_at s.tables (actor top)) (slot_at args 0) r) y) where
      found : (q : Result Handle HandleFault) → TellsFound q s (actor top) e new → H plan new
      found (Err f) y = by_trap plan s (trap_of_handle f) e new h y
      found (Ok g) y = at plan new s y.1 h

-- ---- returns

-- what is on its way back has no borrow
none_back : (plan : Plan) (call : Call) (l : Link) (memory : List ℕ) (p : Passage) (v : Val) → IsPlan plan → Reaches plan call.caller call.func l → Carries memory l results p v → NoneBorrowed p.leaves
none_back plan call l memory p v linked reach c =
    let link : IsLink plan call.caller l = linked.core_funcs call.caller call.func (lowered l) reach in
    subst (λ (ls : List HandleLeaf). NoneBorrowed ls) (sym c.handles) (link.none_lent_back v)

answered_params : AddingIsFine → (plan : Plan) (s : State) (l : Link) (call : Call) (values : List CoreValue) (fs : List Frame) (e : Event) (new : State)
    → H plan s → s.stack ≡ on_top l call phase.Arguments fs → KnowsCall s l call → Answers s l params call values e new → H plan new
answered_params fine plan s l call values fs e new h stack knows y =
    by_wrong plan
    (λ e new. (q : Passage) × IsAnswered (asked_for l params y.0 y.1) y.0 (slot_at values 0) q × GoesOn (record s { passage = Some q }) (top_place s) l params call q y.1 (y.2 ++ slot_at values 0 ∷ []) e new)
    s (answer_fault (length (memory_at s.memories (receiver_of params (top_place s) l call).instance)) y.3 (slot_at values 0)) e new h y.8
    (λ z. goes_on_params fine plan (record s { passage = Some z.0 }) (top_place s) l call z.0 y.1 (y.2 ++ slot_at values 0 ∷ []) fs e new
    (repasses plan s.tables s.lends s.stack y.0 z.0 z.1.leaves (subst (λ (o : Option Passage). Holds plan s.tables s.lends s.stack o) y.4 h)) refl stack (ap (λ (gs : List Frame). length (below_top gs)) stack) knows.callee knows.sound_callee z.2)

answered_results : AddingIsFine → (plan : Plan) (s : State) (l : Link) (call : Call) (values : List CoreValue) (fs : List Frame) (e : Event) (new : State)
    → IsPlan plan → Reaches plan call.caller call.func l → H plan s → s.stack ≡ on_top l call phase.Results fs → KnowsCall s l call → Answers s l results call values e new → H plan new
answered_results fine plan s l call values fs e new linked reach h stack knows y =
    by_wrong plan
    (λ e new. (q : Passage) × IsAnswered (asked_for l results y.0 y.1) y.0 (slot_at values 0) q × GoesOn (record s { passage = Some q }) (top_place s) l results call q y.1 (y.2 ++ slot_at values 0 ∷ []) e new)
    s (answer_fault (length (memory_at s.memories (receiver_of results (top_place s) l call).instance)) y.3 (slot_at values 0)) e new h y.8
    (λ z. goes_on_results fine plan (record s { passage = Some z.0 }) (top_place s) l call z.0 y.1 (y.2 ++ slot_at values 0 ∷ []) fs e new
    (repasses plan s.tables s.lends s.stack y.0 z.0 z.1.leaves (subst (λ (o : Option Passage). Holds plan s.tables s.lends s.stack o) y.4 h)) refl
    (subst (λ (ls : List HandleLeaf). NoneBorrowed ls) (sym z.1.leaves) (none_back plan call l (memory_at s.memories (step.giver_of results l call)) y.0 y.1 linked reach y.5))
    stack (ap (λ (gs : List Frame). length (below_top gs)) stack) knows.caller knows.sound_caller z.2)

placed : AddingIsFine → (b : Bool) (plan : Plan) (st : State) (l : Link) (call : Call) (p : Passage) (v : Val) (fs : List Frame) (e : Event) (new : State)
    → H plan st → st.passage ≡ Some p → NoneBorrowed p.leaves → st.stack ≡ on_top l call phase.Results fs → call.caller < length st.tables → IsSoundHandles (table_at st.tables call.caller)
    → PlacesResult b st l call p v e new → H plan new
placed fine false plan st l call p v fs e new h is no_borrow stack lt sound y =
    goes_on_results fine plan st (top_place st) l call p v [] fs e new h is no_borrow stack (ap (λ (gs : List Frame). length (below_top gs)) stack) lt sound y
placed fine true plan st l call p v fs e new h is no_borrow stack lt sound y =
    by_wrong plan
    (λ e new. (q : Passage) × IsAnswered (asked_for l results p v) p call.result_at q × GoesOn (record st { passage = Some q }) (top_place st) l results call q v (call.result_at ∷ []) e new)
    st (answer_fault (length (memory_at st.memories call.caller)) y.0 call.result_at) e new h y.2
    (λ z. goes_on_results fine plan (record st { passage = Some z.0 }) (top_place st) l call z.0 v (call.result_at ∷ []) fs e new
    (repasses plan st.tables st.lends st.stack p z.0 z.1.leaves (subst (λ (o : Option Passage). Holds plan st.tables st.lends st.stack o) is h)) refl
    (subst (λ (ls : List HandleLeaf). NoneBorrowed ls) (sym z.1.leaves) no_borrow) stack (ap (λ (gs : List Frame). length (below_top gs)) stack) lt sound z.2)

returned : AddingIsFine → (plan : Plan) (s : State) (l : Link) (call : Call) (values : List CoreValue) (fs : List Frame) (e : Event) (new : State)
    → IsPlan plan → Reaches plan call.caller call.func l → H plan s → s.passage ≡ None → s.stack ≡ on_top l call phase.Body fs → KnowsCall s l call → HasNoBorrows (table_at s.tables l.instance) (top_place s)
    → ReturnsResult s l call values e new → H plan new
returned fine plan s l call values fs e new linked reach h none stack knows no_borrows (inl y) = by_trap plan s (trap_of y.0) e new h y.2
returned fine plan s l call values fs e new linked reach h none stack knows no_borrows (inr (inl y)) = by_trap plan s trap.EngineMemory e new h y.1
returned fine plan s l call values fs e new linked reach h none stack knows no_borrows (inr (inr y)) =
    by_memory plan st e new there y.5 (λ z.
    placed fine (is_spilled results (types_of l results)) plan st l call y.1 y.0 fs e new there refl back (ap (λ (gs : List Frame). call_of l.instance (record call { phase = phase.Results }) ∷ gs) (ap below_top stack))
    (subst (λ (n : ℕ). call.caller < n) (sym (length-set s.tables l.instance (after_met (table_at s.tables l.instance) ms))) knows.caller)
    (subst (λ (t : Handles). IsSoundHandles t) (sym (table_other s.tables l.instance call.caller (after_met (table_at s.tables l.instance) ms) knows.apart)) knows.sound_caller) z) where
      ms : List Met
      ms = met (result_view s l) results (types_of l results) values y.0

      st : State
      st = after_lift_of_result s l call values y.0 y.1

      back : NoneBorrowed y.1.leaves
      back = none_back plan call l (memory_at s.memories l.instance) y.1 y.0 linked reach y.4.carried

      met_all : AreThere (table_at s.tables l.instance) ms y.1.leaves
      met_all = met_there (result_view s l) l results values y.0 y.1 (table_at s.tables l.instance) refl y.2 y.4

      no_lends : lent_of ms ≡ []
      no_lends = none_lent (table_at s.tables l.instance) ms y.1.leaves met_all back

      now : Holds plan s.tables s.lends (on_top l call phase.Body fs) s.passage
      now = subst (λ (gs : List Frame). Holds plan s.tables s.lends gs s.passage) stack h

      turned : Holds plan s.tables s.lends (on_top l call phase.Results fs) None
      turned = rephases plan s.tables s.lends fs l.instance (record call { phase = phase.Body }) phase.Results s.passage now.stack now
          (λ k g e kind. no_borrows k g e (kind ∙ ap (λ n. handle.Borrowed n) (sym (ap (λ (gs : List Frame). length (below_top gs)) stack))))

      there : H plan st
      there = lifts plan s.tables s.lends (call_of l.instance (record call { phase = phase.Results }) ∷ below_top s.stack) l.instance (top_place s) MAX_CONTENT ms y.1 knows.callee met_all y.3
          (λ k a. absurd (subst (λ (is : List ℕ). IsAmong is k) no_lends a))
          (λ f c at_top is_call ph. absurd (results_no_arguments (ap (λ (d : Call). d.phase) (same_purpose (record call { phase = phase.Results }) c (ap (λ (g : Frame). g.purpose) (same_Some (call_of l.instance (record call { phase = phase.Results })) f at_top) ∙ is_call)) ∙ ph)))
          (subst (λ (gs : List Frame). Holds plan s.tables s.lends (call_of l.instance (record call { phase = phase.Results }) ∷ gs) None) (sym (ap below_top stack)) turned)

in_phases : AddingIsFine → (ph : Phase) (plan : Plan) (s : State) (l : Link) (call : Call) (values : List CoreValue) (fs : List Frame) (e : Event) (new : State)
    → IsPlan plan → Reaches plan call.caller call.func l → H plan s → PassesIn ph s l call s.passage → s.stack ≡ on_top l call ph fs → KnowsCall s l call → ReturnsIn ph s l call values e new → H plan new
in_phases fine phase.Arguments plan s l call values fs e new linked reach h passes stack knows x = by_check plan s e new h x (λ shape y. answered_params fine plan s l call values fs e new h stack knows y)
in_phases fine phase.Body plan s l call values fs e new linked reach h passes stack knows x =
    by_check plan s e new h x (λ shape y. by_check plan s e new h y (λ borrows z. returned fine plan s l call values fs e new linked reach h passes stack knows borrows z))
in_phases fine phase.Results plan s l call values fs e new linked reach h passes stack knows x = by_check plan s e new h x (λ shape y. answered_results fine plan s l call values fs e new linked reach h stack knows y)
in_phases fine (phase.PostReturn r) plan s l call values fs e new linked reach h passes stack knows x =
    by_check plan s e new h x (λ shape y. at plan new (step.after_call (top_place s) s) y.1
    (subst (λ (o : Option Passage). Holds plan (step.after_call (top_place s) s).tables (step.after_call (top_place s) s).lends (below_top s.stack) o) (sym passes)
    (subst (λ (gs : List Frame). Holds plan (step.after_call (length (below_top gs)) s).tables (step.after_call (length (below_top gs)) s).lends (below_top gs) None) (sym stack)
    (ends plan s.tables s.lends fs l.instance (record call { phase = phase.PostReturn r }) (post_no_body r)
    (subst (λ (o : Option Passage). Holds plan s.tables s.lends (on_top l call (phase.PostReturn r) fs) o) passes (subst (λ (gs : List Frame). Holds plan s.tables s.lends gs s.passage) stack h))))))

popped_holds : (plan : Plan) (s : State) (f : Frame) (fs : List Frame) → s.stack ≡ f ∷ fs → s.passage ≡ None → ((c : Call) → f.purpose ≡ purpose.Call c → ⊥) → H plan s → H plan (step.popped s)
popped_holds plan s f fs is none no_call h =
    subst (λ (o : Option Passage). Holds plan s.tables s.lends (below_top s.stack) o) (sym none)
    (subst (λ (gs : List Frame). Holds plan s.tables s.lends (below_top gs) None) (sym is)
    (pops plan s.tables s.lends fs f no_call (subst (λ (gs : List Frame). Holds plan s.tables s.lends gs None) is (unpassed plan s none h))))

root_is_no_call : (c : Call) → purpose.Root ≡ purpose.Call c → ⊥
root_is_no_call c e = cc (e)

destructor_is_no_call : (d : ℕ) (c : Call) → purpose.Destructor d ≡ purpose.Call c → ⊥
destructor_is_no_call d c e = cc (e)

returns : AddingIsFine → (plan : Plan) (s : State) (pu : Purpose) (i : ℕ) (fs : List Frame) (values : List CoreValue) (e : Event) (new : State)
    → s.stack ≡ record { instance = i; purpose = pu } ∷ fs → IsPlan plan → H plan s → PassesFor plan s pu → StandsOn plan pu i fs
    → ((call : Call) (l : Link) → pu ≡ purpose.Call call → Reaches plan call.caller call.func l → KnowsCall s l call) → Returns plan s pu values e new → H plan new
returns fine plan s purpose.Root i fs values e new is linked h passes on knows x =
    by_check plan s e new h x (λ shape y. at plan new (step.popped s) y.1 (popped_holds plan s (record { instance = i; purpose = purpose.Root }) fs is passes root_is_no_call h))
returns fine plan s (purpose.Call call) i fs values e new is linked h passes on knows x =
    let same : i ≡ x.0.instance = sym (ap (λ (k : Link). k.instance) (same_link plan call.caller call.func x.0 on.0.0 x.1 on.0.1) ∙ on.0.2) in
    in_phases fine call.phase plan s x.0 call values fs e new linked x.1 h (passes x.0 x.1) (is ∙ ap (λ n. call_of n call ∷ fs) same) (knows call x.0 refl x.1) x.2
returns fine plan s (purpose.Destructor d) i fs values e new is linked h passes on knows x =
    by_check plan s e new h x (λ shape y. at plan new (step.popped s) y.1 (popped_holds plan s (record { instance = i; purpose = purpose.Destructor d }) fs is passes (destructor_is_no_call d) h))

-- ---- a step

moved : AddingIsFine → (plan : Plan) (s : State) (top : Frame) (fs : List Frame) (m : Move) (e : Event) (new : State) → s.stack ≡ top ∷ fs → IsValidState plan s → H plan s → IsStack plan (top ∷ fs) → PassesFor plan s top.purpose
    → Moves plan s top m e new → H plan new
moved fine plan s top fs (move.Write a bytes) e new is valid h stack passes x = by_check plan s e new h x (λ inside y. subst (λ (st : State). H plan st) (sym y.1) h)
moved fine plan s top fs (move.Grow pages) e new is valid h stack passes (inl x) = at plan new s x.2 h
moved fine plan s top fs (move.Grow pages) e new is valid h stack passes (inr (inl x)) = subst (λ (st : State). H plan st) (sym x.2) h
moved fine plan s top fs (move.Grow pages) e new is valid h stack passes (inr (inr x)) = by_trap plan s trap.EngineMemory e new h x.2
moved fine plan s top fs (move.Call func args) e new is valid h stack passes x =
    let inside : actor top < length plan = actor_there plan fs top stack in
    let lt : actor top < length s.tables = omega (arith, inside, valid.tables) in
    called fine plan s top fs func (core_func_at plan (actor top) func) args.items e new valid.linked refl is h (λ may. none_for plan s top.purpose top.instance fs stack.1 passes may) inside lt (valid.sound (actor top))
    (λ l eq.
    let link : IsLink plan (actor top) l = valid.linked.core_funcs (actor top) func (lowered l) eq in
    record { there = omega (arith, link.earlier, lt); apart = λ same. omega (arith, same, link.earlier); sound = valid.sound l.instance }) x
moved fine plan s top fs (move.Return values) e new is valid h stack passes x =
    returns fine plan s top.purpose top.instance fs values.items e new is valid.linked h passes stack.1 (λ call l eq reach. call_stands plan s top.instance fs top.purpose call l valid stack.1 stack.2 eq reach) x
moved fine plan s top fs move.Unreachable e new is valid h stack passes x = by_trap plan s trap.Unreachable e new h x

stepped : AddingIsFine → (plan : Plan) (s : State) (fs : List Frame) (m : Move) (e : Event) (new : State) → IsValidState plan s → H plan s → s.stack ≡ fs → StepOn plan fs s m e new → H plan new
stepped fine plan s [] m e new valid h is x = absurd x
stepped fine plan s (top ∷ fs) m e new valid h is x =
    moved fine plan s top fs m e new is valid h (subst (λ (st : List Frame). IsStack plan st) is valid.stack) (subst (λ (st : List Frame). PassesAtTop plan s st) is valid.passes) x

pub steps_hold : AddingIsFine → (plan : Plan) (s : State) (m : Move) (e : Event) (new : State) → IsValidState plan s → H plan s → Step plan s m e new → H plan new
steps_hold fine plan s m e new valid h x = stepped fine plan s s.stack m e new valid h refl x
