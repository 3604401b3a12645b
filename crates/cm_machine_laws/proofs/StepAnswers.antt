-- Why each step answers its move by its own event, or traps.
use Rattle.std.proofs.Common.{◌≡◌, ℕ, ◌⊎◌, inl, inr, Bool, true, false, List, [], ◌∷◌, ◌++◌, length}
use Rattle.std.proofs.Common.{Option, Some, None, refl, sym, ap, subst, ◌∙◌}
use Rattle.std.specs.Prelude.{slice_get, Result, Ok, Err}
use Rattle.std.specs.Option.{option_map}
use Rattle.cm_types.specs.declared.core_value.CoreValue.{CoreValue}
use Rattle.cm_types.specs.declared.resource.ResourceId.{ResourceId}
use Rattle.cm_types.specs.Values.{Val}
use Rattle.cm_handles.specs.Handles.{if_not_lent, look_up, next_index}
use Rattle.cm_handles.specs.declared.handle.Handle.{Handle}
use Rattle.cm_handles.specs.declared.handle.HandleKind.{HandleKind}
use Rattle.cm_handles.specs.declared.handle.HandleKind.TheVariants as handle
use Rattle.cm_handles.specs.declared.fault.HandleFault.{HandleFault}
use Rattle.cm_abi_model.specs.Answering.{answer_fault}
use Rattle.cm_abi_model.specs.declared.request.Request.{Request}
use Rattle.cm_abi_model.specs.Numbers.{slot_at}
use Rattle.cm_abi_model.specs.Requests.{is_spilled}
use Rattle.cm_abi_model.specs.Views.{Way, params, results}
use Rattle.cm_machine_model.specs.declared.event.Event.{Event}
use Rattle.cm_machine_model.specs.declared.event.Event.TheVariants as event
use Rattle.cm_machine_model.specs.declared.event.Trap.TheVariants as trap
use Rattle.cm_machine_model.specs.declared.frame.Call.{Call}
use Rattle.cm_machine_model.specs.declared.frame.Frame.{Frame}
use Rattle.cm_machine_model.specs.declared.frame.Phase.{Phase}
use Rattle.cm_machine_model.specs.declared.frame.Phase.TheVariants as phase
use Rattle.cm_machine_model.specs.declared.frame.Purpose.{Purpose}
use Rattle.cm_machine_model.specs.declared.frame.Purpose.TheVariants as purpose
use Rattle.cm_machine_model.specs.declared.moves.Move.{Move}
use Rattle.cm_machine_model.specs.declared.moves.Move.TheVariants as move
use Rattle.cm_machine_laws.specs.Doing.{Doing, body, destroys, handing, placing, root, tidying}
use Rattle.cm_machine_laws.specs.Matching.{AllMatch, AreTold, MatchIn, MatchOne}
use Rattle.cm_machine_model.specs.Memories.{memory_at, pages_of}
use Rattle.cm_machine_model.specs.Passages.{IsAnswered, as_args, asked_for}
use Rattle.cm_abi_model.specs.Answered.{last_answer}
use Rattle.cm_machine_model.specs.Plan.{Plan, CoreFunc, Link, Reaches, core_func_at, drops, guest}
use Rattle.cm_machine_model.specs.Plan.{lowered, makes, receiver_side, represents, types_of}
use Rattle.cm_machine_model.specs.Stack.{actor, top_of}
use Rattle.cm_machine_model.specs.State.{Passage, State, table_at}
use Rattle.cm_machine_model.specs.Step as step
use Rattle.cm_machine_model.specs.Step.{Traps, Asks, GoesOn, GoesOnBy, IsReceived, Finishes}
use Rattle.cm_machine_model.specs.Step.{PassesArguments, CallsLowered, Makes, DropsFound}
use Rattle.cm_machine_model.specs.Step.{DropsHandle, DropsOwned, TellsFound, Calls, Answers}
use Rattle.cm_machine_model.specs.Step.{PlacesResult, ReturnsResult, ReturnsIn, Returns, Moves}
use Rattle.cm_machine_model.specs.Step.{StepOn, Step, after_handing, after_lift_of_args}
use Rattle.cm_machine_model.specs.Step.{after_lift_of_result, new_call, receiver_of, top_place}
use Rattle.cm_machine_model.specs.Step.{trap_of, trap_of_handle}
use Rattle.cm_machine_model.specs.Valid.{IsValidState}
use Rattle.cm_machine_laws.specs.Answers.{AnswersCall, AnswersReturn, IsAnswerTo, IsEntry}
use Rattle.cm_machine_laws.specs.Answers.{IsPostReturn, IsRequest, IsResumption}
use Rattle.cm_machine_laws.specs.Answers as told
use Rattle.cm_machine_model.specs.Rows.{OfTraps, by_check, by_memory, by_trap, by_wrong, same_link}

-- what is said of an event: it is a trap, or this holds
abbrev Ans : (Event → Type 0) → Event → State → Type 0
Ans A e new = told.Traps e ⊎ A e

ans_traps : (A : Event → Type 0) → OfTraps (Ans A)
ans_traps A st t = inl (t, refl)

told_at : (A : Event → Type 0) (e f : Event) (new : State) → e ≡ f → A f → Ans A e new
told_at A e f new is a = inr (subst A (sym is) a)

asked_by : (A : Event → Type 0) (o : Option ℕ) (i : ℕ) (args : List CoreValue) (st : State) (e : Event) (new : State) → (IsRequest i o e → A e) → Asks o i args st e new → Ans A e new
asked_by A None i args st e new ask x = absurd x
asked_by A (Some f) i args st e new ask x = inr (ask (f, refl, args, x.0))

goes_by : (A : Event → Type 0) (o : Option Request) (st : State) (place : ℕ) (l : Link) (way : Way) (call : Call) (p : Passage) (v : Val) (rs : List Request) (answers : List ℕ) (e : Event) (new : State)
    → (IsRequest (receiver_of way place l call).instance (receiver_side l way).realloc e → A e)
    → ((h : State) (slots : List CoreValue) → IsReceived way place l call p slots h e new → Ans A e new)
    → GoesOnBy o st place l way call p v rs answers e new → Ans A e new
goes_by A (Some r) st place l way call p v rs answers e new ask received x =
    asked_by A (receiver_side l way).realloc (receiver_of way place l call).instance (as_args (last_answer answers) r) st e new ask x
goes_by A None st place l way call p v rs answers e new ask received x =
    by_check (Ans A) (ans_traps A) st e new x (λ apart y. by_check (Ans A) (ans_traps A) st e new y (λ room z. by_memory (Ans A) (ans_traps A) st e new z (λ w. received (after_handing st (receiver_of way place l call) p w.0) w.1 w.3)))

goes : (A : Event → Type 0) (st : State) (place : ℕ) (l : Link) (way : Way) (call : Call) (p : Passage) (v : Val) (answers : List ℕ) (e : Event) (new : State)
    → (IsRequest (receiver_of way place l call).instance (receiver_side l way).realloc e → A e)
    → ((h : State) (slots : List CoreValue) → IsReceived way place l call p slots h e new → Ans A e new)
    → GoesOn st place l way call p v answers e new → Ans A e new
goes A st place l way call p v answers e new ask received x =
    goes_by A (slice_get (asked_for l way p v) (length answers)) st place l way call p v (asked_for l way p v) answers e new ask received x

-- ---- calls

lowered_answers : (s : State) (top : Frame) (func : ℕ) (l : Link) (args : List CoreValue) (e : Event) (new : State) → CallsLowered s top func l args e new → Ans (AnswersCall (actor top) (Some (lowered l))) e new
lowered_answers s top func l args e new x =
    by_check (Ans (AnswersCall (actor top) (Some (lowered l)))) (ans_traps (AnswersCall (actor top) (Some (lowered l)))) s e new x (λ shape y.
    by_check (Ans (AnswersCall (actor top) (Some (lowered l)))) (ans_traps (AnswersCall (actor top) (Some (lowered l)))) s e new y (λ may z.
    by_check (Ans (AnswersCall (actor top) (Some (lowered l)))) (ans_traps (AnswersCall (actor top) (Some (lowered l)))) s e new z (λ opened u.
    by_check (Ans (AnswersCall (actor top) (Some (lowered l)))) (ans_traps (AnswersCall (actor top) (Some (lowered l)))) s e new u (λ room w. passed w)))) where
      passed : PassesArguments s (actor top) func l args e new → Ans (AnswersCall (actor top) (Some (lowered l))) e new
      passed (inl y) = by_trap (Ans (AnswersCall (actor top) (Some (lowered l)))) (ans_traps (AnswersCall (actor top) (Some (lowered l)))) s (trap_of y.0) e new y.2
      passed (inr (inl y)) = by_trap (Ans (AnswersCall (actor top) (Some (lowered l)))) (ans_traps (AnswersCall (actor top) (Some (lowered l)))) s trap.EngineMemory e new y.1
      passed (inr (inr y)) =
          by_memory (Ans (AnswersCall (actor top) (Some (lowered l)))) (ans_traps (AnswersCall (actor top) (Some (lowered l)))) (after_lift_of_args s (actor top) func l args y.0 y.1) e new y.5 (λ z.
          goes (AnswersCall (actor top) (Some (lowered l))) (after_lift_of_args s (actor top) func l args y.0 y.1) (length s.stack) l params (new_call (actor top) func l args) y.1 y.0 [] e new
          (λ r. inl r) (λ h slots r. inr (inr (slots, r.0))) z)

make_answers : (s : State) (top : Frame) (r : ResourceId) (args : List CoreValue) (e : Event) (new : State) → Makes s top r args e new → Ans (AnswersCall (actor top) (Some (makes r))) e new
make_answers s top r args e new x =
    by_check (Ans (AnswersCall (actor top) (Some (makes r)))) (ans_traps (AnswersCall (actor top) (Some (makes r)))) s e new x (λ shape y.
    by_check (Ans (AnswersCall (actor top) (Some (makes r)))) (ans_traps (AnswersCall (actor top) (Some (makes r)))) s e new y (λ may z.
    by_check (Ans (AnswersCall (actor top) (Some (makes r)))) (ans_traps (AnswersCall (actor top) (Some (makes r)))) s e new z (λ can u.
    by_memory (Ans (AnswersCall (actor top) (Some (makes r)))) (ans_traps (AnswersCall (actor top) (Some (makes r)))) s e new u (λ w. inr (next_index (table_at s.tables (actor top)), w.0)))))

tell_answers : (o : Result Handle HandleFault) (s : State) (i : ℕ) (r : ResourceId) (e : Event) (new : State) → TellsFound o s i e new → Ans (AnswersCall i (Some (represents r))) e new
tell_answers (Err f) s i r e new x = by_trap (Ans (AnswersCall i (Some (represents r)))) (ans_traps (AnswersCall i (Some (represents r)))) s (trap_of_handle f) e new x
tell_answers (Ok h) s i r e new x = inr (h.rep, x.0)

owned_answers : (d : Option ℕ) (s : State) (i : ℕ) (r : ResourceId) (index : ℕ) (h : Handle) (e : Event) (new : State) → DropsOwned s i r d index h e new → Ans (AnswersCall i (Some (drops r d))) e new
owned_answers None s i r index h e new x = inr (inl x.0)
owned_answers (Some f) s i r index h e new x =
    by_check (Ans (AnswersCall i (Some (drops r (Some f))))) (ans_traps (AnswersCall i (Some (drops r (Some f))))) s e new x (λ opened y.
    by_check (Ans (AnswersCall i (Some (drops r (Some f))))) (ans_traps (AnswersCall i (Some (drops r (Some f))))) s e new y (λ room z. inr (inr (f, h.rep, refl, z.0))))

handle_answers : (k : HandleKind) (s : State) (i : ℕ) (r : ResourceId) (d : Option ℕ) (index : ℕ) (h : Handle) (e : Event) (new : State) → DropsHandle k s i r d index h e new → Ans (AnswersCall i (Some (drops r d))) e new
handle_answers handle.Owned s i r d index h e new x = owned_answers d s i r index h e new x
handle_answers (handle.Borrowed call) s i r d index h e new x = inr (inl x.0)

found_answers : (o : Result Handle HandleFault) (s : State) (i : ℕ) (r : ResourceId) (d : Option ℕ) (index : ℕ) (e : Event) (new : State) → DropsFound o s i r d index e new → Ans (AnswersCall i (Some (drops r d))) e new
found_answers (Err f) s i r d index e new x = by_trap (Ans (AnswersCall i (Some (drops r d)))) (ans_traps (AnswersCall i (Some (drops r d)))) s (trap_of_handle f) e new x
found_answers (Ok h) s i r d index e new x = handle_answers h.kind s i r d index h e new x

call_answers : (o : Option CoreFunc) (s : State) (top : Frame) (func : ℕ) (args : List CoreValue) (e : Event) (new : State) → Calls s top func o args e new → Ans (AnswersCall (actor top) o) e new
call_answers None s top func args e new x = by_trap (Ans (AnswersCall (actor top) None)) (ans_traps (AnswersCall (actor top) None)) s trap.UnknownFunction e new x
call_answers (Some guest) s top func args e new x = by_trap (Ans (AnswersCall (actor top) (Some guest))) (ans_traps (AnswersCall (actor top) (Some guest))) s trap.UnknownFunction e new x
call_answers (Some (lowered l)) s top func args e new x = lowered_answers s top func l args e new x
call_answers (Some (makes r)) s top func args e new x = make_answers s top r args e new x
call_answers (Some (drops r d)) s top func args e new x =
    by_check (Ans (AnswersCall (actor top) (Some (drops r d)))) (ans_traps (AnswersCall (actor top) (Some (drops r d)))) s e new x (λ shape y.
    by_check (Ans (AnswersCall (actor top) (Some (drops r d)))) (ans_traps (AnswersCall (actor top) (Some (drops r d)))) s e new y (λ may z.
    found_answers (if_not_lent (look_up (table_at s.tables (actor top)) (slot_at args 0) r)) s (actor top) r d (slot_at args 0) e new z))
call_answers (Some (represents r)) s top func args e new x =
    by_check (Ans (AnswersCall (actor top) (Some (represents r)))) (ans_traps (AnswersCall (actor top) (Some (represents r)))) s e new x (λ shape y.
    tell_answers (look_up (table_at s.tables (actor top)) (slot_at args 0) r) s (actor top) r e new y)

-- ---- returns

abbrev Ended : Link → ℕ → Event → Type 0
Ended l c e = IsPostReturn l.instance l.post_return e ⊎ ((l.post_return ≡ None) × IsResumption c e)

-- what answers a return, by the link that is returned over
abbrev ByLink : Phase → Link → ℕ → Event → Type 0
ByLink phase.Arguments l c e = IsRequest l.instance l.callee.realloc e ⊎ IsEntry l.instance l.func e
ByLink phase.Body l c e = IsRequest c l.caller.realloc e ⊎ Ended l c e
ByLink phase.Results l c e = IsRequest c l.caller.realloc e ⊎ Ended l c e
ByLink (phase.PostReturn v) l c e = IsResumption c e

finished : (o : Option ℕ) (place : ℕ) (l : Link) (call : Call) (p : Passage) (slots : List CoreValue) (h : State) (e : Event) (new : State) → Finishes o place l call p slots h e new → IsPostReturn l.instance o e ⊎ ((o ≡ None) × IsResumption call.caller e)
finished None place l call p slots h e new x = inr (refl, (step.flat_result l slots, x.0))
finished (Some f) place l call p slots h e new x = inl (f, refl, p.slots, x.0)

answers_by : (way : Way) (A : Event → Type 0) (s : State) (l : Link) (call : Call) (values : List CoreValue) (e : Event) (new : State)
    → (IsRequest (receiver_of way (top_place s) l call).instance (receiver_side l way).realloc e → A e)
    → ((p : Passage) (h : State) (slots : List CoreValue) → IsReceived way (top_place s) l call p slots h e new → Ans A e new) → Answers s l way call values e new → Ans A e new
answers_by way A s l call values e new ask received y =
    by_wrong (Ans A) (ans_traps A)
    (λ e new. (q : Passage) × IsAnswered (asked_for l way y.0 y.1) y.0 (slot_at values 0) q × GoesOn (record s { passage = Some q }) (top_place s) l way call q y.1 (y.2 ++ slot_at values 0 ∷ []) e new)
    s (answer_fault (length (memory_at s.memories (receiver_of way (top_place s) l call).instance)) y.3 (slot_at values 0)) e new y.8
    (λ z. goes A (record s { passage = Some z.0 }) (top_place s) l way call z.0 y.1 (y.2 ++ slot_at values 0 ∷ []) e new ask (λ h slots r. received z.0 h slots r) z.2)

placed_answers : (b : Bool) (st : State) (l : Link) (call : Call) (p : Passage) (v : Val) (e : Event) (new : State) → PlacesResult b st l call p v e new → Ans (ByLink phase.Body l call.caller) e new
placed_answers false st l call p v e new y =
    goes (ByLink phase.Body l call.caller) st (top_place st) l results call p v [] e new (λ r. inl r) (λ h slots r. inr (inr (finished l.post_return (top_place st) l call p slots h e new r))) y
placed_answers true st l call p v e new y =
    by_wrong (Ans (ByLink phase.Body l call.caller)) (ans_traps (ByLink phase.Body l call.caller))
    (λ e new. (q : Passage) × IsAnswered (asked_for l results p v) p call.result_at q × GoesOn (record st { passage = Some q }) (top_place st) l results call q v (call.result_at ∷ []) e new)
    st (answer_fault (length (memory_at st.memories call.caller)) y.0 call.result_at) e new y.2
    (λ z. goes (ByLink phase.Body l call.caller) (record st { passage = Some z.0 }) (top_place st) l results call z.0 v (call.result_at ∷ []) e new (λ r. inl r) (λ h slots r. inr (inr (finished l.post_return (top_place st) l call z.0 slots h e new r))) z.2)

result_answers : (s : State) (l : Link) (call : Call) (values : List CoreValue) (e : Event) (new : State) → ReturnsResult s l call values e new → Ans (ByLink phase.Body l call.caller) e new
result_answers s l call values e new (inl y) = by_trap (Ans (ByLink phase.Body l call.caller)) (ans_traps (ByLink phase.Body l call.caller)) s (trap_of y.0) e new y.2
result_answers s l call values e new (inr (inl y)) = by_trap (Ans (ByLink phase.Body l call.caller)) (ans_traps (ByLink phase.Body l call.caller)) s trap.EngineMemory e new y.1
result_answers s l call values e new (inr (inr y)) =
    by_memory (Ans (ByLink phase.Body l call.caller)) (ans_traps (ByLink phase.Body l call.caller)) (after_lift_of_result s l call values y.0 y.1) e new y.5 (λ z.
    placed_answers (is_spilled results (types_of l results)) (after_lift_of_result s l call values y.0 y.1) l call y.1 y.0 e new z)

phase_answers : (ph : Phase) (s : State) (l : Link) (call : Call) (values : List CoreValue) (e : Event) (new : State) → ReturnsIn ph s l call values e new → Ans (ByLink ph l call.caller) e new
phase_answers phase.Arguments s l call values e new x =
    by_check (Ans (ByLink phase.Arguments l call.caller)) (ans_traps (ByLink phase.Arguments l call.caller)) s e new x (λ shape y.
    answers_by params (ByLink phase.Arguments l call.caller) s l call values e new (λ r. inl r) (λ p h slots r. inr (inr (slots, r.0))) y)
phase_answers phase.Body s l call values e new x =
    by_check (Ans (ByLink phase.Body l call.caller)) (ans_traps (ByLink phase.Body l call.caller)) s e new x (λ shape y.
    by_check (Ans (ByLink phase.Body l call.caller)) (ans_traps (ByLink phase.Body l call.caller)) s e new y (λ borrows z. result_answers s l call values e new z))
phase_answers phase.Results s l call values e new x =
    by_check (Ans (ByLink phase.Results l call.caller)) (ans_traps (ByLink phase.Results l call.caller)) s e new x (λ shape y.
    answers_by results (ByLink phase.Results l call.caller) s l call values e new (λ r. inl r) (λ p h slots r. inr (inr (finished l.post_return (top_place s) l call p slots h e new r))) y)
phase_answers (phase.PostReturn v) s l call values e new x =
    by_check (Ans (ByLink (phase.PostReturn v) l call.caller)) (ans_traps (ByLink (phase.PostReturn v) l call.caller)) s e new x (λ shape y. inr (step.as_values v, y.0))

-- by what goes on
by_doing : (ph : Phase) (plan : Plan) (i n : ℕ) (call : Call) (d : Doing) (ds : List Doing) (l : Link) (e : Event) → MatchIn ph plan i call n d → Reaches plan call.caller call.func l → ByLink ph l call.caller e → AnswersReturn (d ∷ ds) e
by_doing phase.Arguments plan i n call (placing x asked) ds l e c reach a = subst (λ (k : Link). IsRequest k.instance k.callee.realloc e ⊎ IsEntry k.instance k.func e) (same_link plan call.caller call.func l x.link reach c.link) a
by_doing phase.Body plan i n call (body x asked) ds l e c reach a =
    subst (λ (j : ℕ). IsRequest j x.link.caller.realloc e ⊎ Ended x.link j e) (sym c.caller) (subst (λ (k : Link). IsRequest call.caller k.caller.realloc e ⊎ Ended k call.caller e) (same_link plan call.caller call.func l x.link reach c.link) a)
by_doing phase.Results plan i n call (handing x asked r more) ds l e c reach a =
    subst (λ (j : ℕ). IsRequest j x.link.caller.realloc e ⊎ Ended x.link j e) (sym c.caller) (subst (λ (k : Link). IsRequest call.caller k.caller.realloc e ⊎ Ended k call.caller e) (same_link plan call.caller call.func l x.link reach c.link) a)
by_doing (phase.PostReturn v) plan i n call (tidying x asked r more) ds l e c reach a = subst (λ (j : ℕ). IsResumption j e) (sym c.caller) a
by_doing phase.Arguments plan i n call (root j) ds l e c reach a = absurd c
by_doing phase.Arguments plan i n call (body x asked) ds l e c reach a = absurd c
by_doing phase.Arguments plan i n call (handing x asked r more) ds l e c reach a = absurd c
by_doing phase.Arguments plan i n call (tidying x asked r more) ds l e c reach a = absurd c
by_doing phase.Arguments plan i n call (destroys w j) ds l e c reach a = absurd c
by_doing phase.Body plan i n call (root j) ds l e c reach a = absurd c
by_doing phase.Body plan i n call (placing x asked) ds l e c reach a = absurd c
by_doing phase.Body plan i n call (handing x asked r more) ds l e c reach a = absurd c
by_doing phase.Body plan i n call (tidying x asked r more) ds l e c reach a = absurd c
by_doing phase.Body plan i n call (destroys w j) ds l e c reach a = absurd c
by_doing phase.Results plan i n call (root j) ds l e c reach a = absurd c
by_doing phase.Results plan i n call (placing x asked) ds l e c reach a = absurd c
by_doing phase.Results plan i n call (body x asked) ds l e c reach a = absurd c
by_doing phase.Results plan i n call (tidying x asked r more) ds l e c reach a = absurd c
by_doing phase.Results plan i n call (destroys w j) ds l e c reach a = absurd c
by_doing (phase.PostReturn v) plan i n call (root j) ds l e c reach a = absurd c
by_doing (phase.PostReturn v) plan i n call (placing x asked) ds l e c reach a = absurd c
by_doing (phase.PostReturn v) plan i n call (body x asked) ds l e c reach a = absurd c
by_doing (phase.PostReturn v) plan i n call (handing x asked r more) ds l e c reach a = absurd c
by_doing (phase.PostReturn v) plan i n call (destroys w j) ds l e c reach a = absurd c

either : (A B : Event → Type 0) (e : Event) (new : State) → (A e → B e) → Ans A e new → Ans B e new
either A B e new f (inl t) = inl t
either A B e new f (inr a) = inr (f a)

return_answers : (plan : Plan) (s : State) (pu : Purpose) (i n : ℕ) (values : List CoreValue) (d : Doing) (ds : List Doing) (e : Event) (new : State) → MatchOne pu plan i n d → Returns plan s pu values e new → Ans (AnswersReturn (d ∷ ds)) e new
return_answers plan s purpose.Root i n values (root j) ds e new m x = by_check (Ans (AnswersReturn (root j ∷ ds))) (ans_traps (AnswersReturn (root j ∷ ds))) s e new x (λ shape y. inr y.0)
return_answers plan s (purpose.Call call) i n values d ds e new m x =
    either (ByLink call.phase x.0 call.caller) (AnswersReturn (d ∷ ds)) e new (by_doing call.phase plan i n call d ds x.0 e m x.1) (phase_answers call.phase s x.0 call values e new x.2)
return_answers plan s (purpose.Destructor who) i n values (destroys w j) ds e new m x =
    by_check (Ans (AnswersReturn (destroys w j ∷ ds))) (ans_traps (AnswersReturn (destroys w j ∷ ds))) s e new x (λ shape y. inr (y.0 ∙ ap (λ k. event.Resume k []) (sym m.0)))
return_answers plan s purpose.Root i n values (placing a b) ds e new m x = absurd m
return_answers plan s purpose.Root i n values (body a b) ds e new m x = absurd m
return_answers plan s purpose.Root i n values (handing a b c d) ds e new m x = absurd m
return_answers plan s purpose.Root i n values (tidying a b c d) ds e new m x = absurd m
return_answers plan s purpose.Root i n values (destroys a b) ds e new m x = absurd m
return_answers plan s (purpose.Destructor who) i n values (root j) ds e new m x = absurd m
return_answers plan s (purpose.Destructor who) i n values (placing a b) ds e new m x = absurd m
return_answers plan s (purpose.Destructor who) i n values (body a b) ds e new m x = absurd m
return_answers plan s (purpose.Destructor who) i n values (handing a b c d) ds e new m x = absurd m
return_answers plan s (purpose.Destructor who) i n values (tidying a b c d) ds e new m x = absurd m

-- ---- a step

moved : (plan : Plan) (s : State) (top : Frame) (fs : List Frame) (m : Move) (ds : List Doing) (e : Event) (new : State) → s.stack ≡ top ∷ fs → AllMatch plan s.stack ds → Moves plan s top m e new → Ans (IsAnswerTo plan (Some (actor top)) ds m) e new
moved plan s top fs (move.Write a bytes) ds e new is told x = by_check (Ans (IsAnswerTo plan (Some (actor top)) ds (move.Write a bytes))) (ans_traps (IsAnswerTo plan (Some (actor top)) ds (move.Write a bytes))) s e new x (λ inside y. inr y.0)
moved plan s top fs (move.Grow pages) ds e new is told (inl x) = inr (None, x.1)
moved plan s top fs (move.Grow pages) ds e new is told (inr (inl x)) = inr (Some (pages_of (memory_at s.memories (actor top))), x.1)
moved plan s top fs (move.Grow pages) ds e new is told (inr (inr x)) = inl (trap.EngineMemory, x.2.0)
moved plan s top fs (move.Call func args) ds e new is told x =
    either (AnswersCall (actor top) (core_func_at plan (actor top) func)) (IsAnswerTo plan (Some (actor top)) ds (move.Call func args)) e new (λ a. (actor top, refl, a)) (call_answers (core_func_at plan (actor top) func) s top func args.items e new x)
moved plan s top fs (move.Return values) [] e new is told x = absurd (subst (λ (gs : List Frame). AllMatch plan gs []) is told)
moved plan s top fs (move.Return values) (d ∷ ds) e new is told x =
    let m : AllMatch plan (top ∷ fs) (d ∷ ds) = subst (λ (gs : List Frame). AllMatch plan gs (d ∷ ds)) is told in
    return_answers plan s top.purpose top.instance (length fs) values.items d ds e new m.0 x
moved plan s top fs move.Unreachable ds e new is told x = inl (trap.Unreachable, x.0)

stepped : (plan : Plan) (s : State) (fs : List Frame) (m : Move) (e : Event) (new : State) (acting : Option ℕ) (ds : List Doing) → s.stack ≡ fs → AreTold plan s acting ds → StepOn plan fs s m e new → Ans (IsAnswerTo plan acting ds m) e new
stepped plan s [] m e new acting ds is told x = absurd x
stepped plan s (top ∷ fs) m e new acting ds is told x =
    subst (λ (o : Option ℕ). Ans (IsAnswerTo plan o ds m) e new) (sym (ap (λ gs. option_map actor (top_of gs)) is) ∙ told.acts) (moved plan s top fs m ds e new is told.matched x)

pub steps_answer : (plan : Plan) (s : State) (m : Move) (e : Event) (new : State) (acting : Option ℕ) (ds : List Doing) → IsValidState plan s → AreTold plan s acting ds → Step plan s m e new
    → told.Traps e ⊎ IsAnswerTo plan acting ds m e
steps_answer plan s m e new acting ds valid told x = stepped plan s s.stack m e new acting ds refl told x
