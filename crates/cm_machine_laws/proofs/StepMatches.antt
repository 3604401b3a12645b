-- Why each step keeps the frames as what goes on by the events.
use Rattle.cm_machine_model.specs.Rows.{at, OfTraps, by_trap, by_check, by_memory, by_wrong, goes}
use Rattle.cm_machine_model.specs.Rows.{finish, same_link}
use Rattle.std.proofs.Common.{◌≡◌, ℕ, suc, inl, inr, Bool, true, false, List, [], ◌∷◌, ◌++◌, length}
use Rattle.std.proofs.Common.{Option, Some, None, refl, sym, ap, subst, ◌∙◌}
use Rattle.std.specs.Prelude.{Result, Ok, Err}
use Rattle.std.specs.Option.{option_map}
use Rattle.cm_types.specs.declared.core_value.CoreValue.{CoreValue}
use Rattle.cm_types.specs.declared.resource.ResourceId.{ResourceId}
use Rattle.cm_types.specs.Values.{Val}
use Rattle.cm_types.specs.declared.core_value.CoreValue.TheVariants as core_value
use Rattle.cm_handles.specs.Handles.{if_not_lent, look_up, next_index}
use Rattle.cm_handles.specs.declared.handle.Handle.{Handle}
use Rattle.cm_handles.specs.declared.handle.HandleKind.{HandleKind}
use Rattle.cm_handles.specs.declared.handle.HandleKind.TheVariants as handle
use Rattle.cm_handles.specs.declared.fault.HandleFault.{HandleFault}
use Rattle.cm_abi_model.specs.Answering.{answer_fault}
use Rattle.cm_abi_model.specs.Numbers.{slot_at}
use Rattle.cm_abi_model.specs.Requests.{is_spilled}
use Rattle.cm_abi_model.specs.Views.{params, results}
use Rattle.cm_machine_model.specs.declared.event.Event.{Event}
use Rattle.cm_machine_model.specs.declared.event.Event.TheVariants as event
use Rattle.cm_machine_model.specs.declared.event.Trap.TheVariants as trap
use Rattle.cm_machine_model.specs.declared.frame.Call.{Call}
use Rattle.cm_machine_model.specs.declared.frame.Frame.{Frame}
use Rattle.cm_machine_model.specs.declared.frame.Phase.{Phase}
use Rattle.cm_machine_model.specs.declared.frame.Phase.TheVariants as phase
use Rattle.cm_machine_model.specs.declared.frame.Purpose.{Purpose}
use Rattle.cm_machine_model.specs.declared.frame.Purpose.TheVariants as purpose
use Rattle.cm_machine_model.specs.declared.moves.Move.{Move}
use Rattle.cm_machine_model.specs.declared.moves.Move.TheVariants as move
use Rattle.cm_machine_laws.specs.Acting.{acts_after}
use Rattle.cm_machine_laws.specs.Doing.{Asked, Doing, LoweredCall, after_call, after_move}
use Rattle.cm_machine_laws.specs.Doing.{after_return, body, destroys, handing, lowered_call}
use Rattle.cm_machine_laws.specs.Doing.{placing, root, tidying, unless_last, with_answer}
use Rattle.cm_machine_laws.specs.Doing.{with_request}
use Rattle.cm_machine_laws.specs.Matching.{AllMatch, AreTold, IsCallOf, MatchIn, MatchOne}
use Rattle.cm_machine_model.specs.Memories.{after_growth, after_write, memory_at, pages_of}
use Rattle.cm_machine_model.specs.Passages.{IsAnswered, asked_for}
use Rattle.cm_machine_model.specs.Plan.{Plan, CoreFunc, Link, Reaches, core_func_at, drops, guest}
use Rattle.cm_machine_model.specs.Plan.{lowered, makes, represents, types_of}
use Rattle.cm_machine_model.specs.Stack.{actor, actor_in, actor_of, below_top, top_of}
use Rattle.cm_machine_model.specs.State.{Passage, State, table_at}
use Rattle.cm_machine_model.specs.Step as step
use Rattle.cm_machine_model.specs.Step.{GoesOn, PassesArguments, CallsLowered, Makes, DropsFound}
use Rattle.cm_machine_model.specs.Step.{DropsHandle, DropsOwned, TellsFound, Calls, Answers}
use Rattle.cm_machine_model.specs.Step.{PlacesResult, ReturnsResult, ReturnsIn, Returns, Moves}
use Rattle.cm_machine_model.specs.Step.{StepOn, Step, after_handing, after_lift_of_args}
use Rattle.cm_machine_model.specs.Step.{after_lift_of_result, new_call, receiver_of, top_place}
use Rattle.cm_machine_model.specs.Step.{trap_of, trap_of_handle}
use Rattle.cm_machine_model.specs.Valid.{IsStack, IsValidState, StandsOn}

match_length : (plan : Plan) (fs : List Frame) (ds : List Doing) → AllMatch plan fs ds → length ds ≡ length fs
match_length plan [] [] m = refl
match_length plan [] (d ∷ ds) m = absurd m
match_length plan (f ∷ fs) [] m = absurd m
match_length plan (f ∷ fs) (d ∷ ds) m = ap suc (match_length plan fs ds m.1)

-- ---- calls

-- what is said where a call was made of a core function
abbrev AfterCall : Plan → State → ℕ → Option CoreFunc → List CoreValue → List Doing → Event → State → Type 0
AfterCall plan s i o args ds e new = AreTold plan new (acts_after e (Some i)) (after_call (lowered_call s (Some i) args o (length ds)) (Some i) e ds)

call_traps : (plan : Plan) (s : State) (i : ℕ) (o : Option CoreFunc) (args : List CoreValue) (ds : List Doing) → OfTraps (AfterCall plan s i o args ds)
call_traps plan s i o args ds st t = record { matched = tt; acts = refl }

-- a frame of the call stands on top
call_on_top : (plan : Plan) (s : State) (i func : ℕ) (l : Link) (args : List CoreValue) (ds : List Doing) → Reaches plan i func l → AllMatch plan s.stack ds
    → IsCallOf plan l.instance (new_call i func l args) (length s.stack) (record { caller = i; link = l; args = args; state = s; place = length ds })
call_on_top plan s i func l args ds reach m = record { caller = refl; link = reach; instance = refl; placed = match_length plan s.stack ds m; result_at = refl }

in_body : (plan : Plan) (i n : ℕ) (call : Call) (x : LoweredCall) (p : Phase) → IsCallOf plan i call n x → IsCallOf plan i (record call { phase = p }) n x
in_body plan i n call x p c = record { caller = c.caller; link = c.link; instance = c.instance; placed = c.placed; result_at = c.result_at }

passed_args : (plan : Plan) (s : State) (i func : ℕ) (l : Link) (args : List CoreValue) (ds : List Doing) (e : Event) (new : State) → Reaches plan i func l → AllMatch plan s.stack ds
    → PassesArguments s i func l args e new → AfterCall plan s i (Some (lowered l)) args ds e new
passed_args plan s i func l args ds e new reach m (inl y) = by_trap (AfterCall plan s i (Some (lowered l)) args ds) (call_traps plan s i (Some (lowered l)) args ds) s (trap_of y.0) e new y.2
passed_args plan s i func l args ds e new reach m (inr (inl y)) = by_trap (AfterCall plan s i (Some (lowered l)) args ds) (call_traps plan s i (Some (lowered l)) args ds) s trap.EngineMemory e new y.1
passed_args plan s i func l args ds e new reach m (inr (inr y)) =
    let st : State = after_lift_of_args s i func l args y.0 y.1 in
    let call : Call = new_call i func l args in
    let x : LoweredCall = record { caller = i; link = l; args = args; state = s; place = length ds } in
    let is : IsCallOf plan l.instance call (length s.stack) x = call_on_top plan s i func l args ds reach m in
    by_memory (AfterCall plan s i (Some (lowered l)) args ds) (call_traps plan s i (Some (lowered l)) args ds) st e new y.5 (λ z.
    goes (AfterCall plan s i (Some (lowered l)) args ds) (call_traps plan s i (Some (lowered l)) args ds) st (length s.stack) l params call y.1 y.0 [] e new
    (λ f rs. record { matched = (is, m); acts = refl })
    (λ memory slots r. at (AfterCall plan s i (Some (lowered l)) args ds) e (event.Enter l.instance l.func slots) new
    (step.in_phase phase.Body l.instance call (after_handing st (receiver_of params (length s.stack) l call) y.1 memory)) r.0 r.1
    (record { matched = (in_body plan l.instance (length s.stack) call x phase.Body is, m); acts = refl })) z)

calls_lowered : (plan : Plan) (s : State) (top : Frame) (func : ℕ) (l : Link) (args : List CoreValue) (ds : List Doing) (e : Event) (new : State) → Reaches plan (actor top) func l → AllMatch plan s.stack ds
    → CallsLowered s top func l args e new → AfterCall plan s (actor top) (Some (lowered l)) args ds e new
calls_lowered plan s top func l args ds e new reach m x =
    by_check (AfterCall plan s (actor top) (Some (lowered l)) args ds) (call_traps plan s (actor top) (Some (lowered l)) args ds) s e new x (λ shape y.
    by_check (AfterCall plan s (actor top) (Some (lowered l)) args ds) (call_traps plan s (actor top) (Some (lowered l)) args ds) s e new y (λ may z.
    by_check (AfterCall plan s (actor top) (Some (lowered l)) args ds) (call_traps plan s (actor top) (Some (lowered l)) args ds) s e new z (λ opened u.
    by_check (AfterCall plan s (actor top) (Some (lowered l)) args ds) (call_traps plan s (actor top) (Some (lowered l)) args ds) s e new u (λ room w.
    passed_args plan s (actor top) func l args ds e new reach m w))))

-- the same frames, and the instance that called goes on
same_frames : (plan : Plan) (s new : State) (i : ℕ) (o : Option CoreFunc) (args values : List CoreValue) (ds : List Doing) → AreTold plan s (Some i) ds → new.stack ≡ s.stack → AfterCall plan s i o args ds (event.Resume i values) new
same_frames plan s new i o args values ds told same = record {
  matched = subst (λ (fs : List Frame). AllMatch plan fs ds) (sym same) told.matched;
  acts = ap (λ fs. option_map actor (top_of fs)) same ∙ told.acts;
}

calls_make : (plan : Plan) (s : State) (top : Frame) (r : ResourceId) (args : List CoreValue) (ds : List Doing) (e : Event) (new : State) → AreTold plan s (Some (actor top)) ds
    → Makes s top r args e new → AfterCall plan s (actor top) (Some (makes r)) args ds e new
calls_make plan s top r args ds e new told x =
    by_check (AfterCall plan s (actor top) (Some (makes r)) args ds) (call_traps plan s (actor top) (Some (makes r)) args ds) s e new x (λ shape y.
    by_check (AfterCall plan s (actor top) (Some (makes r)) args ds) (call_traps plan s (actor top) (Some (makes r)) args ds) s e new y (λ may z.
    by_check (AfterCall plan s (actor top) (Some (makes r)) args ds) (call_traps plan s (actor top) (Some (makes r)) args ds) s e new z (λ can u.
    by_memory (AfterCall plan s (actor top) (Some (makes r)) args ds) (call_traps plan s (actor top) (Some (makes r)) args ds) s e new u (λ w.
    let back : List CoreValue = core_value.I32 (next_index (table_at s.tables (actor top))) ∷ [] in
    at (AfterCall plan s (actor top) (Some (makes r)) args ds) e (event.Resume (actor top) back) new (step.after_new s (actor top) r (slot_at args 0)) w.0 w.1
    (same_frames plan s (step.after_new s (actor top) r (slot_at args 0)) (actor top) (Some (makes r)) args back ds told refl)))))

calls_tell : (plan : Plan) (o : Result Handle HandleFault) (s : State) (i : ℕ) (r : ResourceId) (args : List CoreValue) (ds : List Doing) (e : Event) (new : State) → AreTold plan s (Some i) ds
    → TellsFound o s i e new → AfterCall plan s i (Some (represents r)) args ds e new
calls_tell plan (Err f) s i r args ds e new told x = by_trap (AfterCall plan s i (Some (represents r)) args ds) (call_traps plan s i (Some (represents r)) args ds) s (trap_of_handle f) e new x
calls_tell plan (Ok h) s i r args ds e new told x =
    let back : List CoreValue = core_value.I32 h.rep ∷ [] in
    at (AfterCall plan s i (Some (represents r)) args ds) e (event.Resume i back) new s x.0 x.1 (same_frames plan s s i (Some (represents r)) args back ds told refl)

drops_owned : (plan : Plan) (s : State) (i : ℕ) (r : ResourceId) (d : Option ℕ) (index : ℕ) (h : Handle) (args : List CoreValue) (ds : List Doing) (e : Event) (new : State) (f : CoreFunc) → f ≡ drops r d → AreTold plan s (Some i) ds
    → DropsOwned s i r d index h e new → AfterCall plan s i (Some (drops r d)) args ds e new
drops_owned plan s i r None index h args ds e new f is told x =
    at (AfterCall plan s i (Some (drops r None)) args ds) e (event.Resume i []) new (step.after_drop s i index h) x.0 x.1 (same_frames plan s (step.after_drop s i index h) i (Some (drops r None)) args [] ds told refl)
drops_owned plan s i r (Some f) index h args ds e new g is told x =
    by_check (AfterCall plan s i (Some (drops r (Some f))) args ds) (call_traps plan s i (Some (drops r (Some f))) args ds) s e new x (λ opened y.
    by_check (AfterCall plan s i (Some (drops r (Some f))) args ds) (call_traps plan s i (Some (drops r (Some f))) args ds) s e new y (λ room z.
    at (AfterCall plan s i (Some (drops r (Some f))) args ds) e (event.Dtor r.component f h.rep) new (step.pushed (record { instance = r.component; purpose = purpose.Destructor i }) (step.after_drop s i index h)) z.0 z.1
    (record { matched = ((refl, refl), told.matched); acts = refl })))

drops_handle : (plan : Plan) (k : HandleKind) (s : State) (i : ℕ) (r : ResourceId) (d : Option ℕ) (index : ℕ) (h : Handle) (args : List CoreValue) (ds : List Doing) (e : Event) (new : State) → AreTold plan s (Some i) ds
    → DropsHandle k s i r d index h e new → AfterCall plan s i (Some (drops r d)) args ds e new
drops_handle plan handle.Owned s i r d index h args ds e new told x = drops_owned plan s i r d index h args ds e new (drops r d) refl told x
drops_handle plan (handle.Borrowed call) s i r d index h args ds e new told x =
    at (AfterCall plan s i (Some (drops r d)) args ds) e (event.Resume i []) new (step.without_handle s i index) x.0 x.1 (same_frames plan s (step.without_handle s i index) i (Some (drops r d)) args [] ds told refl)

drops_found : (plan : Plan) (o : Result Handle HandleFault) (s : State) (i : ℕ) (r : ResourceId) (d : Option ℕ) (index : ℕ) (args : List CoreValue) (ds : List Doing) (e : Event) (new : State) → AreTold plan s (Some i) ds
    → DropsFound o s i r d index e new → AfterCall plan s i (Some (drops r d)) args ds e new
drops_found plan (Err f) s i r d index args ds e new told x = by_trap (AfterCall plan s i (Some (drops r d)) args ds) (call_traps plan s i (Some (drops r d)) args ds) s (trap_of_handle f) e new x
drops_found plan (Ok h) s i r d index args ds e new told x = drops_handle plan h.kind s i r d index h args ds e new told x

calls : (plan : Plan) (s : State) (top : Frame) (func : ℕ) (o : Option CoreFunc) (args : List CoreValue) (ds : List Doing) (e : Event) (new : State) → core_func_at plan (actor top) func ≡ o → AreTold plan s (Some (actor top)) ds
    → Calls s top func o args e new → AfterCall plan s (actor top) o args ds e new
calls plan s top func None args ds e new is told x = by_trap (AfterCall plan s (actor top) None args ds) (call_traps plan s (actor top) None args ds) s trap.UnknownFunction e new x
calls plan s top func (Some guest) args ds e new is told x = by_trap (AfterCall plan s (actor top) (Some guest) args ds) (call_traps plan s (actor top) (Some guest) args ds) s trap.UnknownFunction e new x
calls plan s top func (Some (lowered l)) args ds e new is told x = calls_lowered plan s top func l args ds e new is told.matched x
calls plan s top func (Some (makes r)) args ds e new is told x = calls_make plan s top r args ds e new told x
calls plan s top func (Some (drops r d)) args ds e new is told x =
    by_check (AfterCall plan s (actor top) (Some (drops r d)) args ds) (call_traps plan s (actor top) (Some (drops r d)) args ds) s e new x (λ shape y.
    by_check (AfterCall plan s (actor top) (Some (drops r d)) args ds) (call_traps plan s (actor top) (Some (drops r d)) args ds) s e new y (λ may z.
    drops_found plan (if_not_lent (look_up (table_at s.tables (actor top)) (slot_at args 0) r)) s (actor top) r d (slot_at args 0) args ds e new told z))
calls plan s top func (Some (represents r)) args ds e new is told x =
    by_check (AfterCall plan s (actor top) (Some (represents r)) args ds) (call_traps plan s (actor top) (Some (represents r)) args ds) s e new x (λ shape y.
    calls_tell plan (look_up (table_at s.tables (actor top)) (slot_at args 0) r) s (actor top) r args ds e new told y)

-- ---- returns

abbrev AfterReturn : Plan → State → ℕ → List CoreValue → List Doing → Event → State → Type 0
AfterReturn plan s i values ds e new = AreTold plan new (acts_after e (Some i)) (after_return (Some (record { callee = i; values = values; state = s })) values e ds)

return_traps : (plan : Plan) (s : State) (i : ℕ) (values : List CoreValue) (ds : List Doing) → OfTraps (AfterReturn plan s i values ds)
return_traps plan s i values ds st t = record { matched = tt; acts = refl }

-- what is known where a call's function returns: the frames, what goes on, and the link
pub record Returning (plan : Plan) (s : State) (call : Call) (i : ℕ) (fs : List Frame) (l : Link) : Type 0 where
  pub stack : s.stack ≡ record { instance = i; purpose = purpose.Call call } ∷ fs
  pub instance : l.instance ≡ i
  pub reach : Reaches plan call.caller call.func l
  pub below : option_map actor (top_of fs) ≡ Some call.caller

below_is : (plan : Plan) (s : State) (call : Call) (i : ℕ) (fs : List Frame) (l : Link) → Returning plan s call i fs l → below_top s.stack ≡ fs
below_is plan s call i fs l r = ap below_top r.stack

-- a call in a phase, on top of what stood below it
on_top : (plan : Plan) (s : State) (call : Call) (i : ℕ) (fs : List Frame) (l : Link) (ph : Phase) (d : Doing) (ds : List Doing) → Returning plan s call i fs l
    → MatchIn ph plan l.instance (record call { phase = ph }) (length fs) d → AllMatch plan fs ds
    → AllMatch plan (record { instance = l.instance; purpose = purpose.Call (record call { phase = ph }) } ∷ below_top s.stack) (d ∷ ds)
on_top plan s call i fs l ph d ds r one rest =
    subst (λ (gs : List Frame). AllMatch plan (record { instance = l.instance; purpose = purpose.Call (record call { phase = ph }) } ∷ gs) (d ∷ ds)) (sym (below_is plan s call i fs l r)) (one, rest)

-- what stood below goes on
off_top : (plan : Plan) (s : State) (call : Call) (i : ℕ) (fs : List Frame) (l : Link) (ds : List Doing) (values : List CoreValue) (new : State) → Returning plan s call i fs l → AllMatch plan fs ds → new.stack ≡ below_top s.stack
    → AreTold plan new (Some call.caller) ds
off_top plan s call i fs l ds values new r rest same = record {
  matched = subst (λ (gs : List Frame). AllMatch plan gs ds) (sym (same ∙ below_is plan s call i fs l r)) rest;
  acts = ap (λ gs. option_map actor (top_of gs)) (same ∙ below_is plan s call i fs l r) ∙ r.below;
}

-- the same call over the link that is returned from
renamed : (plan : Plan) (s : State) (call : Call) (i n : ℕ) (fs : List Frame) (l : Link) (x : LoweredCall) (ph : Phase) → Returning plan s call i fs l → IsCallOf plan i call n x → IsCallOf plan l.instance (record call { phase = ph }) n x
renamed plan s call i n fs l x ph r c = record { caller = c.caller; link = c.link; instance = c.instance ∙ sym r.instance; placed = c.placed; result_at = c.result_at }

args_answered : (plan : Plan) (s : State) (call : Call) (i : ℕ) (fs : List Frame) (l : Link) (values : List CoreValue) (d : Doing) (ds : List Doing) (e : Event) (new : State) → Returning plan s call i fs l → call.phase ≡ phase.Arguments
    → MatchIn phase.Arguments plan i call (length fs) d → AllMatch plan fs ds → Answers s l params call values e new → AfterReturn plan s i values (d ∷ ds) e new
args_answered plan s call i fs l values (placing x asked) ds e new r ph c rest y =
    by_wrong (AfterReturn plan s i values (placing x asked ∷ ds)) (return_traps plan s i values (placing x asked ∷ ds))
    (λ e new. (q : Passage) × IsAnswered (asked_for l params y.0 y.1) y.0 (slot_at values 0) q × GoesOn (record s { passage = Some q }) (top_place s) l params call q y.1 (y.2 ++ slot_at values 0 ∷ []) e new)
    s (answer_fault (length (memory_at s.memories (receiver_of params (top_place s) l call).instance)) y.3 (slot_at values 0)) e new y.8 (λ z.
    goes (AfterReturn plan s i values (placing x asked ∷ ds)) (return_traps plan s i values (placing x asked ∷ ds)) (record s { passage = Some z.0 }) (top_place s) l params call z.0 y.1 (y.2 ++ slot_at values 0 ∷ []) e new
    (λ f rs. record { matched = still (with_request values rs asked); acts = ap (λ gs. option_map actor (top_of gs)) r.stack ∙ (ap (λ p. Some (actor_in p i call.caller)) ph ∙ ap Some (sym r.instance)) })
    (λ memory slots w. at (AfterReturn plan s i values (placing x asked ∷ ds)) e (event.Enter l.instance l.func slots) new (step.in_phase phase.Body l.instance call (after_handing (record s { passage = Some z.0 }) (receiver_of params (top_place s) l call) z.0 memory)) w.0 w.1
    (record { matched = on_top plan s call i fs l phase.Body (body x (with_answer values asked)) ds r (renamed plan s call i (length fs) fs l x phase.Body r c) rest; acts = refl })) z.2) where
      still : (more : List Asked) → AllMatch plan s.stack (placing x more ∷ ds)
      still more = subst (λ (gs : List Frame). AllMatch plan gs (placing x more ∷ ds)) (sym r.stack) (subst (λ (p : Phase). MatchIn p plan i call (length fs) (placing x more)) (sym ph) c, rest)
args_answered plan s call i fs l values (root j) ds e new r ph c rest y = absurd c
args_answered plan s call i fs l values (body x asked) ds e new r ph c rest y = absurd c
args_answered plan s call i fs l values (handing x asked b more) ds e new r ph c rest y = absurd c
args_answered plan s call i fs l values (tidying x asked b more) ds e new r ph c rest y = absurd c
args_answered plan s call i fs l values (destroys a b) ds e new r ph c rest y = absurd c

result_answered : (plan : Plan) (s : State) (call : Call) (i : ℕ) (fs : List Frame) (l : Link) (values : List CoreValue) (d : Doing) (ds : List Doing) (e : Event) (new : State) → Returning plan s call i fs l → call.phase ≡ phase.Results
    → MatchIn phase.Results plan i call (length fs) d → AllMatch plan fs ds → Answers s l results call values e new → AfterReturn plan s call.caller values (d ∷ ds) e new
result_answered plan s call i fs l values (handing x sent b told) ds e new r ph c rest y =
    by_wrong (AfterReturn plan s call.caller values (handing x sent b told ∷ ds)) (return_traps plan s call.caller values (handing x sent b told ∷ ds))
    (λ e new. (q : Passage) × IsAnswered (asked_for l results y.0 y.1) y.0 (slot_at values 0) q × GoesOn (record s { passage = Some q }) (top_place s) l results call q y.1 (y.2 ++ slot_at values 0 ∷ []) e new)
    s (answer_fault (length (memory_at s.memories (receiver_of results (top_place s) l call).instance)) y.3 (slot_at values 0)) e new y.8 (λ z.
    goes (AfterReturn plan s call.caller values (handing x sent b told ∷ ds)) (return_traps plan s call.caller values (handing x sent b told ∷ ds)) (record s { passage = Some z.0 }) (top_place s) l results call z.0 y.1 (y.2 ++ slot_at values 0 ∷ []) e new
    (λ f rs. record { matched = still (with_request values rs told); acts = ap (λ gs. option_map actor (top_of gs)) r.stack ∙ ap (λ p. Some (actor_in p i call.caller)) ph })
    (λ memory slots w.
    finish (AfterReturn plan s call.caller values (handing x sent b told ∷ ds)) l.post_return (top_place s) l call z.0 slots (after_handing (record s { passage = Some z.0 }) (receiver_of results (top_place s) l call) z.0 memory) e new
    (λ f v. record { matched = on_top plan s call i fs l (phase.PostReturn v) (tidying x sent b (with_answer values told)) ds r (renamed plan s call i (length fs) fs l x (phase.PostReturn v) r c) rest; acts = refl })
    (λ vs. off_top plan s call i fs l ds vs (step.after_call (top_place s) (after_handing (record s { passage = Some z.0 }) (receiver_of results (top_place s) l call) z.0 memory)) r rest refl) w) z.2) where
      still : (more : List Asked) → AllMatch plan s.stack (handing x sent b more ∷ ds)
      still more = subst (λ (gs : List Frame). AllMatch plan gs (handing x sent b more ∷ ds)) (sym r.stack) (subst (λ (p : Phase). MatchIn p plan i call (length fs) (handing x sent b more)) (sym ph) c, rest)
result_answered plan s call i fs l values (root j) ds e new r ph c rest y = absurd c
result_answered plan s call i fs l values (placing x sent) ds e new r ph c rest y = absurd c
result_answered plan s call i fs l values (body x sent) ds e new r ph c rest y = absurd c
result_answered plan s call i fs l values (tidying x sent b more) ds e new r ph c rest y = absurd c
result_answered plan s call i fs l values (destroys a b) ds e new r ph c rest y = absurd c

-- where a result goes on, in whatever state with the call in its phase results
result_goes : (plan : Plan) (s st : State) (call : Call) (i : ℕ) (fs : List Frame) (l : Link) (values : List CoreValue) (x : LoweredCall) (sent : List Asked) (ds : List Doing) (place : ℕ) (p : Passage) (v : Val) (answers : List ℕ) (e : Event) (new : State)
    → Returning plan s call i fs l → IsCallOf plan i call (length fs) x → AllMatch plan fs ds
    → st.stack ≡ record { instance = l.instance; purpose = purpose.Call (record call { phase = phase.Results }) } ∷ below_top s.stack
    → GoesOn st place l results call p v answers e new → AfterReturn plan s i values (body x sent ∷ ds) e new
result_goes plan s st call i fs l values x sent ds place p v answers e new r c rest is y =
    goes (AfterReturn plan s i values (body x sent ∷ ds)) (return_traps plan s i values (body x sent ∷ ds)) st place l results call p v answers e new
    (λ f rs. record {
      matched = subst (λ (gs : List Frame). AllMatch plan gs (handing x sent (record { callee = i; values = values; state = s }) (record { request = rs; answer = None } ∷ []) ∷ ds)) (sym is) (on_top plan s call i fs l phase.Results (handing x sent (record { callee = i; values = values; state = s }) (record { request = rs; answer = None } ∷ [])) ds r (renamed plan s call i (length fs) fs l x phase.Results r c) rest);
      acts = ap (λ gs. option_map actor (top_of gs)) is;
    })
    (λ memory slots w.
    finish (AfterReturn plan s i values (body x sent ∷ ds)) l.post_return place l call p slots (after_handing st (receiver_of results place l call) p memory) e new
    (λ f vs. record {
      matched = subst (λ (gs : List Frame). AllMatch plan (record { instance = l.instance; purpose = purpose.Call (record call { phase = phase.PostReturn vs }) } ∷ gs) (tidying x sent (record { callee = i; values = values; state = s }) [] ∷ ds)) (sym (ap below_top is))
          (on_top plan s call i fs l (phase.PostReturn vs) (tidying x sent (record { callee = i; values = values; state = s }) []) ds r (renamed plan s call i (length fs) fs l x (phase.PostReturn vs) r c) rest);
      acts = refl;
    })
    (λ vs. off_top plan s call i fs l ds vs (step.after_call place (after_handing st (receiver_of results place l call) p memory)) r rest (ap below_top is)) w) y

result_placed : (b : Bool) (plan : Plan) (s st : State) (call : Call) (i : ℕ) (fs : List Frame) (l : Link) (values : List CoreValue) (x : LoweredCall) (sent : List Asked) (ds : List Doing) (p : Passage) (v : Val) (e : Event) (new : State)
    → Returning plan s call i fs l → IsCallOf plan i call (length fs) x → AllMatch plan fs ds
    → st.stack ≡ record { instance = l.instance; purpose = purpose.Call (record call { phase = phase.Results }) } ∷ below_top s.stack
    → PlacesResult b st l call p v e new → AfterReturn plan s i values (body x sent ∷ ds) e new
result_placed false plan s st call i fs l values x sent ds p v e new r c rest is y = result_goes plan s st call i fs l values x sent ds (top_place st) p v [] e new r c rest is y
result_placed true plan s st call i fs l values x sent ds p v e new r c rest is y =
    by_wrong (AfterReturn plan s i values (body x sent ∷ ds)) (return_traps plan s i values (body x sent ∷ ds))
    (λ e new. (q : Passage) × IsAnswered (asked_for l results p v) p call.result_at q × GoesOn (record st { passage = Some q }) (top_place st) l results call q v (call.result_at ∷ []) e new)
    st (answer_fault (length (memory_at st.memories call.caller)) y.0 call.result_at) e new y.2
    (λ z. result_goes plan s (record st { passage = Some z.0 }) call i fs l values x sent ds (top_place st) z.0 v (call.result_at ∷ []) e new r c rest is z.2)

body_returns : (plan : Plan) (s : State) (call : Call) (i : ℕ) (fs : List Frame) (l : Link) (values : List CoreValue) (d : Doing) (ds : List Doing) (e : Event) (new : State) → Returning plan s call i fs l
    → MatchIn phase.Body plan i call (length fs) d → AllMatch plan fs ds → ReturnsResult s l call values e new → AfterReturn plan s i values (d ∷ ds) e new
body_returns plan s call i fs l values (body x sent) ds e new r c rest (inl y) = by_trap (AfterReturn plan s i values (body x sent ∷ ds)) (return_traps plan s i values (body x sent ∷ ds)) s (trap_of y.0) e new y.2
body_returns plan s call i fs l values (body x sent) ds e new r c rest (inr (inl y)) = by_trap (AfterReturn plan s i values (body x sent ∷ ds)) (return_traps plan s i values (body x sent ∷ ds)) s trap.EngineMemory e new y.1
body_returns plan s call i fs l values (body x sent) ds e new r c rest (inr (inr y)) =
    by_memory (AfterReturn plan s i values (body x sent ∷ ds)) (return_traps plan s i values (body x sent ∷ ds)) (after_lift_of_result s l call values y.0 y.1) e new y.5 (λ z.
    result_placed (is_spilled results (types_of l results)) plan s (after_lift_of_result s l call values y.0 y.1) call i fs l values x sent ds y.1 y.0 e new r c rest refl z)
body_returns plan s call i fs l values (root j) ds e new r c rest y = absurd c
body_returns plan s call i fs l values (placing x sent) ds e new r c rest y = absurd c
body_returns plan s call i fs l values (handing x sent b more) ds e new r c rest y = absurd c
body_returns plan s call i fs l values (tidying x sent b more) ds e new r c rest y = absurd c
body_returns plan s call i fs l values (destroys a b) ds e new r c rest y = absurd c

tidied : (plan : Plan) (s : State) (call : Call) (i : ℕ) (fs : List Frame) (l : Link) (v : Option CoreValue) (values : List CoreValue) (d : Doing) (ds : List Doing) (e : Event) (new : State) → Returning plan s call i fs l
    → MatchIn (phase.PostReturn v) plan i call (length fs) d → AllMatch plan fs ds → step.EndsCall (top_place s) call (step.as_values v) s e new → AfterReturn plan s i values (d ∷ ds) e new
tidied plan s call i fs l v values (tidying x sent b more) ds e new r c rest y =
    at (AfterReturn plan s i values (tidying x sent b more ∷ ds)) e (event.Resume call.caller (step.as_values v)) new (step.after_call (top_place s) s) y.0 y.1 (off_top plan s call i fs l ds values (step.after_call (top_place s) s) r rest refl)
tidied plan s call i fs l v values (root j) ds e new r c rest y = absurd c
tidied plan s call i fs l v values (placing x sent) ds e new r c rest y = absurd c
tidied plan s call i fs l v values (body x sent) ds e new r c rest y = absurd c
tidied plan s call i fs l v values (handing x sent b more) ds e new r c rest y = absurd c
tidied plan s call i fs l v values (destroys a b) ds e new r c rest y = absurd c

call_returns : (ph : Phase) (plan : Plan) (s : State) (call : Call) (i : ℕ) (fs : List Frame) (l : Link) (values : List CoreValue) (d : Doing) (ds : List Doing) (e : Event) (new : State) → call.phase ≡ ph → Returning plan s call i fs l
    → MatchIn ph plan i call (length fs) d → AllMatch plan fs ds → ReturnsIn ph s l call values e new → AfterReturn plan s (actor_in ph i call.caller) values (d ∷ ds) e new
call_returns phase.Arguments plan s call i fs l values d ds e new is r c rest x =
    by_check (AfterReturn plan s i values (d ∷ ds)) (return_traps plan s i values (d ∷ ds)) s e new x (λ shape y. args_answered plan s call i fs l values d ds e new r is c rest y)
call_returns phase.Body plan s call i fs l values d ds e new is r c rest x =
    by_check (AfterReturn plan s i values (d ∷ ds)) (return_traps plan s i values (d ∷ ds)) s e new x (λ shape y.
    by_check (AfterReturn plan s i values (d ∷ ds)) (return_traps plan s i values (d ∷ ds)) s e new y (λ borrows z. body_returns plan s call i fs l values d ds e new r c rest z))
call_returns phase.Results plan s call i fs l values d ds e new is r c rest x =
    by_check (AfterReturn plan s call.caller values (d ∷ ds)) (return_traps plan s call.caller values (d ∷ ds)) s e new x (λ shape y. result_answered plan s call i fs l values d ds e new r is c rest y)
call_returns (phase.PostReturn v) plan s call i fs l values d ds e new is r c rest x =
    by_check (AfterReturn plan s i values (d ∷ ds)) (return_traps plan s i values (d ∷ ds)) s e new x (λ shape y. tidied plan s call i fs l v values d ds e new r c rest y)

-- ---- a step

-- the frame on top, with what goes on above all else
returns : (plan : Plan) (s : State) (pu : Purpose) (i : ℕ) (fs : List Frame) (values : List CoreValue) (d : Doing) (ds : List Doing) (e : Event) (new : State) → s.stack ≡ record { instance = i; purpose = pu } ∷ fs
    → StandsOn plan pu i fs → MatchOne pu plan i (length fs) d → AllMatch plan fs ds → Returns plan s pu values e new → AfterReturn plan s (actor_of pu i) values (d ∷ ds) e new
returns plan s purpose.Root i fs values d ds e new is st one rest x =
    by_check (AfterReturn plan s i values (d ∷ ds)) (return_traps plan s i values (d ∷ ds)) s e new x (λ shape y.
    at (AfterReturn plan s i values (d ∷ ds)) e event.Ended new (step.popped s) y.0 y.1
    (record {
      matched = subst (λ (gs : List Frame). AllMatch plan gs ds) (sym (ap below_top is)) rest;
      acts = ap (λ gs. option_map actor (top_of gs)) (ap below_top is ∙ st);
    }))
returns plan s (purpose.Call call) i fs values d ds e new is st one rest x =
    let same : x.0 ≡ st.0.0 = same_link plan call.caller call.func x.0 st.0.0 x.1 st.0.1 in
    let r : Returning plan s call i fs x.0 = record {
      stack = is;
      instance = ap (λ (l : Link). l.instance) same ∙ st.0.2;
      reach = x.1;
      below = ap (λ o. option_map actor o) st.1.1 ∙ ap Some st.1.2;
    } in
    call_returns call.phase plan s call i fs x.0 values d ds e new refl r one rest x.2
returns plan s (purpose.Destructor who) i fs values d ds e new is st one rest x =
    by_check (AfterReturn plan s i values (d ∷ ds)) (return_traps plan s i values (d ∷ ds)) s e new x (λ shape y.
    at (AfterReturn plan s i values (d ∷ ds)) e (event.Resume who []) new (step.popped s) y.0 y.1
    (record {
      matched = subst (λ (gs : List Frame). AllMatch plan gs ds) (sym (ap below_top is)) rest;
      acts = ap (λ gs. option_map actor (top_of gs)) (ap below_top is) ∙ (ap (λ o. option_map actor o) st.1.1 ∙ ap Some st.1.2);
    }))

-- a write or a growth, or a stop: nothing else goes on
abbrev AfterPlain : Plan → ℕ → List Doing → Event → State → Type 0
AfterPlain plan i ds e new = AreTold plan new (acts_after e (Some i)) (unless_last e ds)

plain_traps : (plan : Plan) (i : ℕ) (ds : List Doing) → OfTraps (AfterPlain plan i ds)
plain_traps plan i ds st t = record { matched = tt; acts = refl }

moved : (plan : Plan) (s : State) (top : Frame) (fs : List Frame) (m : Move) (ds : List Doing) (e : Event) (new : State) → s.stack ≡ top ∷ fs → IsStack plan (top ∷ fs) → AreTold plan s (Some (actor top)) ds
    → Moves plan s top m e new → AreTold plan new (acts_after e (Some (actor top))) (after_move plan (Some (actor top)) s m e ds)
moved plan s top fs (move.Write a bytes) ds e new is st told x =
    by_check (AfterPlain plan (actor top) ds) (plain_traps plan (actor top) ds) s e new x (λ inside y.
    at (AfterPlain plan (actor top) ds) e event.Done new (step.with_memory s (actor top) (after_write (memory_at s.memories (actor top)) a bytes.items)) y.0 y.1 (record { matched = told.matched; acts = told.acts }))
moved plan s top fs (move.Grow pages) ds e new is st told (inl x) = at (AfterPlain plan (actor top) ds) e (event.Grown None) new s x.1 x.2 told
moved plan s top fs (move.Grow pages) ds e new is st told (inr (inl x)) =
    at (AfterPlain plan (actor top) ds) e (event.Grown (Some (pages_of (memory_at s.memories (actor top))))) new (step.with_memory s (actor top) (after_growth (memory_at s.memories (actor top)) pages)) x.1 x.2 (record { matched = told.matched; acts = told.acts })
moved plan s top fs (move.Grow pages) ds e new is st told (inr (inr x)) = by_trap (AfterPlain plan (actor top) ds) (plain_traps plan (actor top) ds) s trap.EngineMemory e new x.2
moved plan s top fs (move.Call func args) ds e new is st told x = calls plan s top func (core_func_at plan (actor top) func) args.items ds e new refl told x
moved plan s top fs (move.Return values) [] e new is st told x = absurd (subst (λ (gs : List Frame). AllMatch plan gs []) is told.matched)
moved plan s top fs (move.Return values) (d ∷ ds) e new is st told x =
    let m : AllMatch plan (top ∷ fs) (d ∷ ds) = subst (λ (gs : List Frame). AllMatch plan gs (d ∷ ds)) is told.matched in
    returns plan s top.purpose top.instance fs values.items d ds e new is st.1 m.0 m.1 x
moved plan s top fs move.Unreachable ds e new is st told x = by_trap (AfterPlain plan (actor top) ds) (plain_traps plan (actor top) ds) s trap.Unreachable e new x

stepped : (plan : Plan) (s : State) (fs : List Frame) (m : Move) (e : Event) (new : State) (acting : Option ℕ) (ds : List Doing) → IsValidState plan s → s.stack ≡ fs → AreTold plan s acting ds → StepOn plan fs s m e new
    → AreTold plan new (acts_after e acting) (after_move plan acting s m e ds)
stepped plan s [] m e new acting ds valid is told x = absurd x
stepped plan s (top ∷ fs) m e new acting ds valid is told x =
    let acts_is : Some (actor top) ≡ acting = sym (ap (λ gs. option_map actor (top_of gs)) is) ∙ told.acts in
    subst (λ (o : Option ℕ). AreTold plan new (acts_after e o) (after_move plan o s m e ds)) acts_is
    (moved plan s top fs m ds e new is (subst (λ (gs : List Frame). IsStack plan gs) is valid.stack) (record { matched = told.matched; acts = told.acts ∙ sym acts_is }) x)

pub steps_tell : (plan : Plan) (s : State) (m : Move) (e : Event) (new : State) (acting : Option ℕ) (ds : List Doing) → IsValidState plan s → AreTold plan s acting ds → Step plan s m e new
    → AreTold plan new (acts_after e acting) (after_move plan acting s m e ds)
steps_tell plan s m e new acting ds valid told x = stepped plan s s.stack m e new acting ds valid refl told x
