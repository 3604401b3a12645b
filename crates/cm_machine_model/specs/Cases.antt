-- The cases of a step: each way that the machine can answer a move without a trap, with all that
-- was found on the way, its event and its new state; and from which state it traps. That each step
-- is one of them is a lemma, so that a law on steps goes by cases.
use Rattle.std.proofs.Common.{◌≡◌, ◌≢◌, ℕ, ◌+◌, ◌≤◌, ◌⊎◌, inl, inr, Bool, true, false, List, []}
use Rattle.std.proofs.Common.{◌∷◌}
use Rattle.std.proofs.Common.{◌++◌, length, Option, Some, None, refl, sym, subst}
use Rattle.std.specs.Prelude.{slice_get, Result, Ok, Err}
use Rattle.std.specs.declared.alloc.Global.{Global}
use Rattle.std.specs.declared.vec.Vec.{Vec}
use Rattle.cm_types.specs.declared.core_value.CoreValue.{CoreValue}
use Rattle.cm_types.specs.declared.core_value.CoreValue.TheVariants as core_value
use Rattle.cm_types.specs.declared.resource.ResourceId.{ResourceId}
use Rattle.cm_types.specs.Values.{Val}
use Rattle.cm_handles.specs.Handles.{if_not_lent, indices_left, look_up, next_index}
use Rattle.cm_handles.specs.declared.fault.HandleFault.{HandleFault}
use Rattle.cm_handles.specs.declared.handle.Handle.{Handle}
use Rattle.cm_handles.specs.declared.handle.HandleKind.{HandleKind}
use Rattle.cm_handles.specs.declared.handle.HandleKind.TheVariants as handle
use Rattle.cm_abi_model.specs.declared.fault.AbiFault.{AbiFault}
use Rattle.cm_abi_model.specs.declared.request.Request.{Request}
use Rattle.cm_abi_model.specs.Denotes.{Denotes}
use Rattle.cm_abi_model.specs.Numbers.{slot_at}
use Rattle.cm_abi_model.specs.Requests.{is_spilled}
use Rattle.cm_abi_model.specs.Taken.{Transferable}
use Rattle.cm_abi_model.specs.Views.{Way, params, results}
use Rattle.cm_abi_model.specs.Giving.{added_count}
use Rattle.cm_abi_model.specs.declared.receiver.Receiver.{Receiver}
use Rattle.cm_abi_model.specs.Answering.{answer_fault, regions_of}
use Rattle.cm_abi_model.specs.Overlap.{AreDisjoint}
use Rattle.cm_abi_model.specs.Answered.{last_answer}
use Rattle.cm_machine_model.specs.declared.event.Event.{Event}
use Rattle.cm_machine_model.specs.declared.event.Event.TheVariants as event
use Rattle.cm_machine_model.specs.declared.event.Trap.{Trap}
use Rattle.cm_machine_model.specs.declared.event.Trap.TheVariants as trap
use Rattle.cm_machine_model.specs.declared.moves.Move.{Move}
use Rattle.cm_machine_model.specs.declared.moves.Move.TheVariants as move
use Rattle.cm_machine_model.specs.Memories.{after_growth, after_write, memory_at, pages_of}
use Rattle.cm_machine_model.specs.declared.frame.Call.{Call}
use Rattle.cm_machine_model.specs.declared.frame.Frame.{Frame}
use Rattle.cm_machine_model.specs.declared.frame.Phase.{Phase}
use Rattle.cm_machine_model.specs.declared.frame.Phase.TheVariants as phase
use Rattle.cm_machine_model.specs.declared.frame.Purpose.{Purpose}
use Rattle.cm_machine_model.specs.declared.frame.Purpose.TheVariants as purpose
use Rattle.cm_machine_model.specs.Passages.{Carries, HasAnswers, IsAnswered, IsScanned, as_args}
use Rattle.cm_machine_model.specs.Passages.{asked_for}
use Rattle.cm_machine_model.specs.Plan.{CoreFunc, Link, Plan, Reaches, core_func_at, drops, guest}
use Rattle.cm_machine_model.specs.Plan.{lowered, makes, receiver_side, represents, returned_kinds}
use Rattle.cm_machine_model.specs.Plan.{taken_kinds, types_of}
use Rattle.cm_machine_model.specs.Rows.{at}
use Rattle.cm_machine_model.specs.Stack.{actor}
use Rattle.cm_machine_model.specs.State.{Passage, State, after_trap, table_at}
use Rattle.cm_machine_model.specs.Step.{AreOf, Asks, CanMake, DropsFound, DropsHandle, DropsOwned}
use Rattle.cm_machine_model.specs.Step.{Answers, Calls, CallsLowered, Finishes, Fits, GoesOn}
use Rattle.cm_machine_model.specs.Step.{GoesOnBy, HasNoBorrows, HasRoom, IsHanded, IsOpen}
use Rattle.cm_machine_model.specs.Step.{IsReceived, MayLeave, Moves, PassesArguments}
use Rattle.cm_machine_model.specs.Step.{PlacesResult, Returns, ReturnsIn, ReturnsResult, Step}
use Rattle.cm_machine_model.specs.Step.{StepOn, TellsFound, Traps, UnlessWrong, after_call}
use Rattle.cm_machine_model.specs.Step.{after_drop, after_handing, after_lift_of_args}
use Rattle.cm_machine_model.specs.Step.{after_lift_of_result, after_new, arg_slots, args_view}
use Rattle.cm_machine_model.specs.Step.{as_values, first_value, flat_result, giver_of, in_phase}
use Rattle.cm_machine_model.specs.Step.{new_call, one_i32, popped, pushed, receiver_of}
use Rattle.cm_machine_model.specs.Step.{result_view, top_place, trap_of, trap_of_handle}
use Rattle.cm_machine_model.specs.Step.{with_memory, without_handle}

-- ---- what was found

-- A call of a lowered function whose arguments were lifted.
pub record IsCalled (plan : Plan) (s : State) (top : Frame) (func : ℕ) (args : List CoreValue)
    (l : Link) (v : Val) (p : Passage) : Type 0 where
  pub reach : Reaches plan (actor top) func l
  pub of_kinds : AreOf (taken_kinds l) args
  pub may : MayLeave top.purpose
  pub opened : IsOpen s l.instance
  pub room : HasRoom s
  pub denoted : Denotes (args_view s (actor top) l) params (types_of l params) (arg_slots l args) v
  pub transferable :
      Transferable (args_view s (actor top) l) params (types_of l params) (arg_slots l args) v
  pub scanned : IsScanned (args_view s (actor top) l) l params (arg_slots l args) v p

-- the phase in which a value is placed that goes this way
abbrev pub phase_of : Way → Phase
phase_of params = phase.Arguments
phase_of results = phase.Results

-- An allocator's answer that will do.
pub record IsPlaced (plan : Plan) (s : State) (top : Frame) (values : List CoreValue) (way : Way)
    (call : Call) (l : Link) (p : Passage) (v : Val) (answers : List ℕ) (q : Passage)
    : Type 0 where
  pub purpose_is : top.purpose ≡ purpose.Call call
  pub phase_is : call.phase ≡ phase_of way
  pub reach : Reaches plan call.caller call.func l
  pub of_kinds : AreOf one_i32 values
  pub passage_is : s.passage ≡ Some p
  pub carried : Carries (memory_at s.memories (giver_of way l call)) l way p v
  pub answered_before : HasAnswers (asked_for l way p v) answers p
  pub request : Request
  pub asked : slice_get (asked_for l way p v) (length answers) ≡ Some request
  pub fine : answer_fault
      (length (memory_at s.memories (receiver_of way (top_place s) l call).instance)) request
      (slot_at values 0) ≡ None
  pub answered : IsAnswered (asked_for l way p v) p (slot_at values 0) q

-- A body's return whose result was lifted.
pub record IsReturned (plan : Plan) (s : State) (top : Frame) (values : List CoreValue)
    (call : Call) (l : Link) (v : Val) (p : Passage) : Type 0 where
  pub purpose_is : top.purpose ≡ purpose.Call call
  pub phase_is : call.phase ≡ phase.Body
  pub reach : Reaches plan call.caller call.func l
  pub of_kinds : AreOf (returned_kinds l) values
  pub no_borrows : HasNoBorrows (table_at s.tables l.instance) (top_place s)
  pub denoted : Denotes (result_view s l) results (types_of l results) values v
  pub transferable : Transferable (result_view s l) results (types_of l results) values v
  pub scanned : IsScanned (result_view s l) l results values v p

-- A result goes in core values, or by memory, where its place answers the first request.
pub data HasPlace (st : State) (l : Link) (call : Call) (p : Passage) (v : Val)
    : Passage → List ℕ → State → Type 0 where
  in_values : is_spilled results (types_of l results) ≡ false → HasPlace st l call p v p [] st
  by_memory : (r : Request) (q : Passage) → is_spilled results (types_of l results) ≡ true
      → slice_get (asked_for l results p v) 0 ≡ Some r
      → answer_fault (length (memory_at st.memories call.caller)) r call.result_at ≡ None
      → IsAnswered (asked_for l results p v) p call.result_at q
      → HasPlace st l call p v q (call.result_at ∷ []) (record st { passage = Some q })

-- so nothing but what is on its way changes
pub place_changes : (st : State) (l : Link) (call : Call) (p : Passage) (v : Val) (q : Passage)
    (answers : List ℕ) (new : State) → HasPlace st l call p v q answers new
    → (o : Option Passage) × (new ≡ record st { passage = o })
place_changes st l call p v _ _ _ (in_values flat) = (st.passage, refl)
place_changes st l call p v _ _ _ (by_memory r q spilled asked fine answered) = (Some q, refl)

-- and the handles on their way are the same
pub place_leaves : (st : State) (l : Link) (call : Call) (p : Passage) (v : Val) (q : Passage)
    (answers : List ℕ) (new : State) → HasPlace st l call p v q answers new
    → q.leaves ≡ p.leaves
place_leaves st l call p v _ _ _ (in_values flat) = refl
place_leaves st l call p v _ _ _ (by_memory r q spilled asked fine answered) = answered.leaves

-- With these answers one more request comes, of this allocator.
pub record HasNext (l : Link) (way : Way) (p : Passage) (v : Val) (answers : List ℕ)
    (func : ℕ) (args : List CoreValue) : Type 0 where
  pub next : Request
  pub to_come : slice_get (asked_for l way p v) (length answers) ≡ Some next
  pub allocator : (receiver_side l way).realloc ≡ Some func
  pub args_are : args ≡ as_args (last_answer answers) next

-- With these answers a value is handed over, from this state, to these core values.
pub record IsGiven (st : State) (l : Link) (way : Way) (to : Receiver) (p : Passage) (v : Val)
    (answers : List ℕ) (memory : List ℕ) (slots : List CoreValue) : Type 0 where
  pub none_to_come : slice_get (asked_for l way p v) (length answers) ≡ None
  pub apart : AreDisjoint (regions_of (asked_for l way p v) answers)
  pub room : added_count to p.leaves ≤ indices_left (table_at st.tables to.instance)
  pub handed : IsHanded st l way to p v memory slots

-- A resource built-in's handle was found at an index.
pub record IsFound (plan : Plan) (s : State) (top : Frame) (func : ℕ) (args : List CoreValue)
    (r : ResourceId) (d : Option ℕ) (h : Handle) : Type 0 where
  pub reach : core_func_at plan (actor top) func ≡ Some (drops r d)
  pub of_kinds : AreOf one_i32 args
  pub may : MayLeave top.purpose
  pub found : if_not_lent (look_up (table_at s.tables (actor top)) (slot_at args 0) r) ≡ Ok h

-- ---- the states from which a move traps

pub data TrapsFrom (plan : Plan) (s : State) (top : Frame) : Move → State → Type 0 where
  as_it_was : (m : Move) → TrapsFrom plan s top m s
  called : (func : ℕ) (args : Vec CoreValue Global) (l : Link) (v : Val) (p : Passage)
      → IsCalled plan s top func args.items l v p
      → TrapsFrom plan s top (move.Call func args)
      (after_lift_of_args s (actor top) func l args.items v p)
  placed : (values : Vec CoreValue Global) (way : Way) (call : Call) (l : Link) (p : Passage)
      (v : Val) (answers : List ℕ) (q : Passage)
      → IsPlaced plan s top values.items way call l p v answers q
      → TrapsFrom plan s top (move.Return values) (record s { passage = Some q })
  returned : (values : Vec CoreValue Global) (call : Call) (l : Link) (v : Val) (p : Passage)
      → IsReturned plan s top values.items call l v p
      → TrapsFrom plan s top (move.Return values) (after_lift_of_result s l call values.items v p)
  result_placed : (values : Vec CoreValue Global) (call : Call) (l : Link) (v : Val)
      (p q : Passage) (answers : List ℕ) (st : State)
      → IsReturned plan s top values.items call l v p
      → HasPlace (after_lift_of_result s l call values.items v p) l call p v q answers st
      → TrapsFrom plan s top (move.Return values) st

-- ---- cases

pub data Cases (plan : Plan) (s : State) (top : Frame) : Move → Event → State → Type 0 where
  trapped : (m : Move) (t : Trap) (st : State) → TrapsFrom plan s top m st
      → Cases plan s top m (event.Trapped t) (after_trap st)
  wrote : (at : ℕ) (bytes : Vec ℕ Global)
      → at + length bytes.items ≤ length (memory_at s.memories (actor top))
      → Cases plan s top (move.Write at bytes) event.Done
      (with_memory s (actor top) (after_write (memory_at s.memories (actor top)) at bytes.items))
  stayed : (pages : ℕ) → (Fits s (actor top) pages → ⊥)
      → Cases plan s top (move.Grow pages) (event.Grown None) s
  grew : (pages : ℕ) → Fits s (actor top) pages
      → Cases plan s top (move.Grow pages)
      (event.Grown (Some (pages_of (memory_at s.memories (actor top)))))
      (with_memory s (actor top) (after_growth (memory_at s.memories (actor top)) pages))
  made : (func : ℕ) (args : Vec CoreValue Global) (r : ResourceId)
      → core_func_at plan (actor top) func ≡ Some (makes r) → AreOf one_i32 args.items
      → MayLeave top.purpose → CanMake s (actor top)
      → Cases plan s top (move.Call func args) (event.Resume (actor top)
      (core_value.I32 (next_index (table_at s.tables (actor top))) ∷ []))
      (after_new s (actor top) r (slot_at args.items 0))
  represented : (func : ℕ) (args : Vec CoreValue Global) (r : ResourceId) (h : Handle)
      → core_func_at plan (actor top) func ≡ Some (represents r) → AreOf one_i32 args.items
      → look_up (table_at s.tables (actor top)) (slot_at args.items 0) r ≡ Ok h
      → Cases plan s top (move.Call func args)
      (event.Resume (actor top) (core_value.I32 h.rep ∷ [])) s
  dropped : (func : ℕ) (args : Vec CoreValue Global) (r : ResourceId) (h : Handle)
      → IsFound plan s top func args.items r None h → h.kind ≡ handle.Owned
      → Cases plan s top (move.Call func args) (event.Resume (actor top) [])
      (after_drop s (actor top) (slot_at args.items 0) h)
  destroyed : (func : ℕ) (args : Vec CoreValue Global) (r : ResourceId) (f : ℕ) (h : Handle)
      → IsFound plan s top func args.items r (Some f) h → h.kind ≡ handle.Owned
      → IsOpen s r.component → HasRoom s
      → Cases plan s top (move.Call func args) (event.Dtor r.component f h.rep)
      (pushed (record { instance = r.component; purpose = purpose.Destructor (actor top) })
      (after_drop s (actor top) (slot_at args.items 0) h))
  given_back : (func : ℕ) (args : Vec CoreValue Global) (r : ResourceId) (d : Option ℕ)
      (h : Handle) (call : ℕ)
      → IsFound plan s top func args.items r d h → h.kind ≡ handle.Borrowed call
      → Cases plan s top (move.Call func args) (event.Resume (actor top) [])
      (without_handle s (actor top) (slot_at args.items 0))
  call_asks : (func : ℕ) (args : Vec CoreValue Global) (l : Link) (v : Val) (p : Passage) (f : ℕ)
      (request : List CoreValue)
      → IsCalled plan s top func args.items l v p → HasNext l params p v [] f request
      → Cases plan s top (move.Call func args) (event.Realloc l.instance f request)
      (after_lift_of_args s (actor top) func l args.items v p)
  call_enters : (func : ℕ) (args : Vec CoreValue Global) (l : Link) (v : Val) (p : Passage)
      (memory : List ℕ) (slots : List CoreValue)
      → IsCalled plan s top func args.items l v p
      → IsGiven (after_lift_of_args s (actor top) func l args.items v p) l params
      (receiver_of params (length s.stack) l (new_call (actor top) func l args.items)) p v []
      memory slots
      → Cases plan s top (move.Call func args) (event.Enter l.instance l.func slots)
      (in_phase phase.Body l.instance (new_call (actor top) func l args.items)
      (after_handing (after_lift_of_args s (actor top) func l args.items v p)
      (receiver_of params (length s.stack) l (new_call (actor top) func l args.items)) p memory))
  answer_asks : (values : Vec CoreValue Global) (way : Way) (call : Call) (l : Link)
      (p : Passage) (v : Val) (answers : List ℕ) (q : Passage) (f : ℕ) (request : List CoreValue)
      → IsPlaced plan s top values.items way call l p v answers q
      → HasNext l way q v (answers ++ slot_at values.items 0 ∷ []) f request
      → Cases plan s top (move.Return values)
      (event.Realloc (receiver_of way (top_place s) l call).instance f request)
      (record s { passage = Some q })
  answer_enters : (values : Vec CoreValue Global) (call : Call) (l : Link) (p : Passage) (v : Val)
      (answers : List ℕ) (q : Passage) (memory : List ℕ) (slots : List CoreValue)
      → IsPlaced plan s top values.items params call l p v answers q
      → IsGiven (record s { passage = Some q }) l params (receiver_of params (top_place s) l call)
      q v (answers ++ slot_at values.items 0 ∷ []) memory slots
      → Cases plan s top (move.Return values) (event.Enter l.instance l.func slots)
      (in_phase phase.Body l.instance call (after_handing (record s { passage = Some q })
      (receiver_of params (top_place s) l call) q memory))
  answer_tidies : (values : Vec CoreValue Global) (call : Call) (l : Link) (p : Passage) (v : Val)
      (answers : List ℕ) (q : Passage) (memory : List ℕ) (slots : List CoreValue) (f : ℕ)
      → IsPlaced plan s top values.items results call l p v answers q
      → IsGiven (record s { passage = Some q }) l results
      (receiver_of results (top_place s) l call) q v (answers ++ slot_at values.items 0 ∷ [])
      memory slots
      → l.post_return ≡ Some f
      → Cases plan s top (move.Return values) (event.PostReturn l.instance f q.slots)
      (in_phase (phase.PostReturn (first_value (flat_result l slots))) l.instance call
      (after_handing (record s { passage = Some q }) (receiver_of results (top_place s) l call) q
      memory))
  answer_ends : (values : Vec CoreValue Global) (call : Call) (l : Link) (p : Passage) (v : Val)
      (answers : List ℕ) (q : Passage) (memory : List ℕ) (slots : List CoreValue)
      → IsPlaced plan s top values.items results call l p v answers q
      → IsGiven (record s { passage = Some q }) l results
      (receiver_of results (top_place s) l call) q v (answers ++ slot_at values.items 0 ∷ [])
      memory slots
      → l.post_return ≡ None
      → Cases plan s top (move.Return values) (event.Resume call.caller (flat_result l slots))
      (after_call (top_place s) (after_handing (record s { passage = Some q })
      (receiver_of results (top_place s) l call) q memory))
  return_asks : (values : Vec CoreValue Global) (call : Call) (l : Link) (v : Val)
      (p q : Passage) (answers : List ℕ) (st : State) (f : ℕ) (request : List CoreValue)
      → IsReturned plan s top values.items call l v p
      → HasPlace (after_lift_of_result s l call values.items v p) l call p v q answers st
      → HasNext l results q v answers f request
      → Cases plan s top (move.Return values) (event.Realloc call.caller f request) st
  return_tidies : (values : Vec CoreValue Global) (call : Call) (l : Link) (v : Val)
      (p q : Passage) (answers : List ℕ) (st : State) (memory : List ℕ) (slots : List CoreValue)
      (f : ℕ)
      → IsReturned plan s top values.items call l v p
      → HasPlace (after_lift_of_result s l call values.items v p) l call p v q answers st
      → IsGiven st l results (receiver_of results (top_place st) l call) q v answers memory slots
      → l.post_return ≡ Some f
      → Cases plan s top (move.Return values) (event.PostReturn l.instance f q.slots)
      (in_phase (phase.PostReturn (first_value (flat_result l slots))) l.instance call
      (after_handing st (receiver_of results (top_place st) l call) q memory))
  return_ends : (values : Vec CoreValue Global) (call : Call) (l : Link) (v : Val)
      (p q : Passage) (answers : List ℕ) (st : State) (memory : List ℕ) (slots : List CoreValue)
      → IsReturned plan s top values.items call l v p
      → HasPlace (after_lift_of_result s l call values.items v p) l call p v q answers st
      → IsGiven st l results (receiver_of results (top_place st) l call) q v answers memory slots
      → l.post_return ≡ None
      → Cases plan s top (move.Return values) (event.Resume call.caller (flat_result l slots))
      (after_call (top_place st)
      (after_handing st (receiver_of results (top_place st) l call) q memory))
  tidied : (values : Vec CoreValue Global) (call : Call) (l : Link) (result : Option CoreValue)
      → top.purpose ≡ purpose.Call call → call.phase ≡ phase.PostReturn result
      → Reaches plan call.caller call.func l → values.items ≡ []
      → Cases plan s top (move.Return values) (event.Resume call.caller (as_values result))
      (after_call (top_place s) s)
  root_ended : (values : Vec CoreValue Global) → top.purpose ≡ purpose.Root → values.items ≡ []
      → Cases plan s top (move.Return values) event.Ended (popped s)
  destructor_ended : (values : Vec CoreValue Global) (dropper : ℕ)
      → top.purpose ≡ purpose.Destructor dropper → values.items ≡ []
      → Cases plan s top (move.Return values) (event.Resume dropper []) (popped s)

-- ---- each step is one of them

trap_case : (plan : Plan) (s : State) (top : Frame) (m : Move) (st : State) (t : Trap) (e : Event)
    (new : State) → TrapsFrom plan s top m st → Traps st t e new → Cases plan s top m e new
trap_case plan s top m st t e new from x =
    at (Cases plan s top m) e (event.Trapped t) new (after_trap st) x.0 x.1 (trapped m t st from)

check : {P R : Type 0} {t : Trap} (plan : Plan) (s : State) (top : Frame) (m : Move) (st : State)
    (e : Event) (new : State) → TrapsFrom plan s top m st
    → ((P → ⊥) × Traps st t e new) ⊎ (P × R) → (P → R → Cases plan s top m e new)
    → Cases plan s top m e new
check {P} {R} {t} plan s top m st e new from (inl x) go =
    trap_case plan s top m st t e new from x.1
check {P} {R} {t} plan s top m st e new from (inr x) go = go x.0 x.1

want : {P R : Type 0} (plan : Plan) (s : State) (top : Frame) (m : Move) (st : State) (e : Event)
    (new : State) → TrapsFrom plan s top m st → (P × Traps st trap.EngineMemory e new) ⊎ R
    → (R → Cases plan s top m e new) → Cases plan s top m e new
want {P} {R} plan s top m st e new from (inl x) go =
    trap_case plan s top m st trap.EngineMemory e new from x.1
want {P} {R} plan s top m st e new from (inr x) go = go x

answer : (plan : Plan) (s : State) (top : Frame) (m : Move) (row : Event → State → Type 0)
    (st : State) (o : Option AbiFault) (e : Event) (new : State) → TrapsFrom plan s top m st
    → UnlessWrong st o row e new → (o ≡ None → row e new → Cases plan s top m e new)
    → Cases plan s top m e new
answer plan s top m row st None e new from x go = go refl x
answer plan s top m row st (Some f) e new from x go =
    trap_case plan s top m st (trap_of f) e new from x

module _ (plan : Plan) (s : State) (top : Frame) (m : Move) (e : Event) (new : State) where
  asks : (l : Link) (way : Way) (call : Call) (place : ℕ) (p : Passage) (v : Val)
      (answers : List ℕ) (st : State) (r : Request) (a : Option ℕ)
      → slice_get (asked_for l way p v) (length answers) ≡ Some r
      → (receiver_side l way).realloc ≡ a
      → ((f : ℕ) (args : List CoreValue) → HasNext l way p v answers f args
      → Cases plan s top m (event.Realloc (receiver_of way place l call).instance f args) st)
      → Asks a (receiver_of way place l call).instance (as_args (last_answer answers) r) st e new
      → Cases plan s top m e new
  asks l way call place p v answers st r None to_come is next x = absurd x
  asks l way call place p v answers st r (Some f) to_come is next x =
      at (Cases plan s top m) e
      (event.Realloc (receiver_of way place l call).instance f (as_args (last_answer answers) r))
      new st x.0 x.1
      (next f (as_args (last_answer answers) r)
      (record { next = r; to_come = to_come; allocator = is; args_are = refl }))

  goes_on_by : (o : Option Request) (st : State) (place : ℕ) (l : Link) (way : Way) (call : Call)
      (p : Passage) (v : Val) (answers : List ℕ)
      → slice_get (asked_for l way p v) (length answers) ≡ o → TrapsFrom plan s top m st
      → ((f : ℕ) (args : List CoreValue) → HasNext l way p v answers f args
      → Cases plan s top m (event.Realloc (receiver_of way place l call).instance f args) st)
      → ((memory : List ℕ) (slots : List CoreValue)
      → IsGiven st l way (receiver_of way place l call) p v answers memory slots
      → IsReceived way place l call p slots
      (after_handing st (receiver_of way place l call) p memory) e new → Cases plan s top m e new)
      → GoesOnBy o st place l way call p v (asked_for l way p v) answers e new
      → Cases plan s top m e new
  goes_on_by (Some r) st place l way call p v answers is from next given x =
      asks l way call place p v answers st r (receiver_side l way).realloc is refl next x
  goes_on_by None st place l way call p v answers is from next given x =
      check plan s top m st e new from x
      (λ apart y. check plan s top m st e new from y
      (λ room z. want plan s top m st e new from z
      (λ w. given w.0 w.1
      (record { none_to_come = is; apart = apart; room = room; handed = w.2 }) w.3)))

  goes_on : (st : State) (place : ℕ) (l : Link) (way : Way) (call : Call) (p : Passage) (v : Val)
      (answers : List ℕ) → TrapsFrom plan s top m st
      → ((f : ℕ) (args : List CoreValue) → HasNext l way p v answers f args
      → Cases plan s top m (event.Realloc (receiver_of way place l call).instance f args) st)
      → ((memory : List ℕ) (slots : List CoreValue)
      → IsGiven st l way (receiver_of way place l call) p v answers memory slots
      → IsReceived way place l call p slots
      (after_handing st (receiver_of way place l call) p memory) e new → Cases plan s top m e new)
      → GoesOn st place l way call p v answers e new → Cases plan s top m e new
  goes_on st place l way call p v answers from next given x =
      goes_on_by (slice_get (asked_for l way p v) (length answers)) st place l way call p v
      answers refl from next given x

  finishes : (o : Option ℕ) (place : ℕ) (l : Link) (call : Call) (p : Passage)
      (slots : List CoreValue) (st : State) → l.post_return ≡ o
      → ((f : ℕ) → l.post_return ≡ Some f
      → Cases plan s top m (event.PostReturn l.instance f p.slots)
      (in_phase (phase.PostReturn (first_value (flat_result l slots))) l.instance call st))
      → (l.post_return ≡ None
      → Cases plan s top m (event.Resume call.caller (flat_result l slots))
      (after_call place st))
      → Finishes o place l call p slots st e new → Cases plan s top m e new
  finishes None place l call p slots st is tidies ends x =
      at (Cases plan s top m) e (event.Resume call.caller (flat_result l slots)) new
      (after_call place st) x.0 x.1 (ends is)
  finishes (Some f) place l call p slots st is tidies ends x =
      at (Cases plan s top m) e (event.PostReturn l.instance f p.slots) new
      (in_phase (phase.PostReturn (first_value (flat_result l slots))) l.instance call st) x.0 x.1
      (tidies f is)

-- ---- calls

module _ (plan : Plan) (s : State) (top : Frame) (func : ℕ) (args : Vec CoreValue Global)
    (e : Event) (new : State) where
  abbrev Case : Event → State → Type 0
  Case = Cases plan s top (move.Call func args)

  was : TrapsFrom plan s top (move.Call func args) s
  was = as_it_was (move.Call func args)

  passes_case : (l : Link) → Reaches plan (actor top) func l → AreOf (taken_kinds l) args.items
      → MayLeave top.purpose → IsOpen s l.instance → HasRoom s
      → PassesArguments s (actor top) func l args.items e new → Case e new
  passes_case l reach kinds may opened room (inl x) =
      trap_case plan s top (move.Call func args) s (trap_of x.0) e new was x.2
  passes_case l reach kinds may opened room (inr (inl x)) =
      trap_case plan s top (move.Call func args) s trap.EngineMemory e new was x.1
  passes_case l reach kinds may opened room (inr (inr x)) =
      want plan s top (move.Call func args) st e new from x.5
      (λ y. goes_on plan s top (move.Call func args) e new st (length s.stack) l params call x.1
      x.0 [] from (λ f request next. call_asks func args l x.0 x.1 f request is next)
      (λ memory slots given z. at Case e (event.Enter l.instance l.func slots) new
      (in_phase phase.Body l.instance call
      (after_handing st (receiver_of params (length s.stack) l call) x.1 memory)) z.0 z.1
      (call_enters func args l x.0 x.1 memory slots is given)) y) where
        call : Call
        call = new_call (actor top) func l args.items

        st : State
        st = after_lift_of_args s (actor top) func l args.items x.0 x.1

        is : IsCalled plan s top func args.items l x.0 x.1
        is = record {
          reach = reach;
          of_kinds = kinds;
          may = may;
          opened = opened;
          room = room;
          denoted = x.2;
          transferable = x.3;
          scanned = x.4;
        }

        from : TrapsFrom plan s top (move.Call func args) st
        from = called func args l x.0 x.1 is

  owned_case : (d : Option ℕ) (r : ResourceId) (h : Handle)
      → IsFound plan s top func args.items r d h → h.kind ≡ handle.Owned
      → DropsOwned s (actor top) r d (slot_at args.items 0) h e new → Case e new
  owned_case None r h is owned x =
      at Case e (event.Resume (actor top) []) new
      (after_drop s (actor top) (slot_at args.items 0) h) x.0 x.1 (dropped func args r h is owned)
  owned_case (Some f) r h is owned x =
      check plan s top (move.Call func args) s e new was x
      (λ opened y. check plan s top (move.Call func args) s e new was y
      (λ room z. at Case e (event.Dtor r.component f h.rep) new
      (pushed (record { instance = r.component; purpose = purpose.Destructor (actor top) })
      (after_drop s (actor top) (slot_at args.items 0) h)) z.0 z.1
      (destroyed func args r f h is owned opened room)))

  handle_case : (k : HandleKind) (d : Option ℕ) (r : ResourceId) (h : Handle) → h.kind ≡ k
      → IsFound plan s top func args.items r d h
      → DropsHandle k s (actor top) r d (slot_at args.items 0) h e new → Case e new
  handle_case handle.Owned d r h kind is x = owned_case d r h is kind x
  handle_case (handle.Borrowed call) d r h kind is x =
      at Case e (event.Resume (actor top) []) new
      (without_handle s (actor top) (slot_at args.items 0)) x.0 x.1
      (given_back func args r d h call is kind)

  found_case : (o : Result Handle HandleFault) (d : Option ℕ) (r : ResourceId)
      → core_func_at plan (actor top) func ≡ Some (drops r d) → AreOf one_i32 args.items
      → MayLeave top.purpose
      → if_not_lent (look_up (table_at s.tables (actor top)) (slot_at args.items 0) r) ≡ o
      → DropsFound o s (actor top) r d (slot_at args.items 0) e new → Case e new
  found_case (Err f) d r reach kinds may is x =
      trap_case plan s top (move.Call func args) s (trap_of_handle f) e new was x
  found_case (Ok h) d r reach kinds may is x =
      handle_case h.kind d r h refl
      (record { reach = reach; of_kinds = kinds; may = may; found = is }) x

  told_case : (o : Result Handle HandleFault) (r : ResourceId)
      → core_func_at plan (actor top) func ≡ Some (represents r) → AreOf one_i32 args.items
      → look_up (table_at s.tables (actor top)) (slot_at args.items 0) r ≡ o
      → TellsFound o s (actor top) e new → Case e new
  told_case (Err f) r reach kinds is x =
      trap_case plan s top (move.Call func args) s (trap_of_handle f) e new was x
  told_case (Ok h) r reach kinds is x =
      at Case e (event.Resume (actor top) (core_value.I32 h.rep ∷ [])) new s x.0 x.1
      (represented func args r h reach kinds is)

  call_case : (o : Option CoreFunc) → core_func_at plan (actor top) func ≡ o
      → Calls s top func o args.items e new → Case e new
  call_case None is x =
      trap_case plan s top (move.Call func args) s trap.UnknownFunction e new was x
  call_case (Some guest) is x =
      trap_case plan s top (move.Call func args) s trap.UnknownFunction e new was x
  call_case (Some (lowered l)) is x =
      check plan s top (move.Call func args) s e new was x
      (λ kinds y. check plan s top (move.Call func args) s e new was y
      (λ may z. check plan s top (move.Call func args) s e new was z
      (λ opened u. check plan s top (move.Call func args) s e new was u
      (λ room w. passes_case l is kinds may opened room w))))
  call_case (Some (makes r)) is x =
      check plan s top (move.Call func args) s e new was x
      (λ kinds y. check plan s top (move.Call func args) s e new was y
      (λ may z. check plan s top (move.Call func args) s e new was z
      (λ can u. want plan s top (move.Call func args) s e new was u
      (λ w. at Case e (event.Resume (actor top)
      (core_value.I32 (next_index (table_at s.tables (actor top))) ∷ [])) new
      (after_new s (actor top) r (slot_at args.items 0)) w.0 w.1
      (made func args r is kinds may can)))))
  call_case (Some (drops r d)) is x =
      check plan s top (move.Call func args) s e new was x
      (λ kinds y. check plan s top (move.Call func args) s e new was y
      (λ may z. found_case
      (if_not_lent (look_up (table_at s.tables (actor top)) (slot_at args.items 0) r)) d r is
      kinds may refl z))
  call_case (Some (represents r)) is x =
      check plan s top (move.Call func args) s e new was x
      (λ kinds y. told_case (look_up (table_at s.tables (actor top)) (slot_at args.items 0) r) r
      is kinds refl y)

-- ---- returns

module _ (plan : Plan) (s : State) (top : Frame) (values : Vec CoreValue Global) (e : Event)
    (new : State) where
  abbrev Back : Event → State → Type 0
  Back = Cases plan s top (move.Return values)

  before : TrapsFrom plan s top (move.Return values) s
  before = as_it_was (move.Return values)

  -- what is received once an allocator answered
  received_case : (way : Way) (call : Call) (l : Link) (p : Passage) (v : Val) (answers : List ℕ)
      (q : Passage) (memory : List ℕ) (slots : List CoreValue)
      → IsPlaced plan s top values.items way call l p v answers q
      → IsGiven (record s { passage = Some q }) l way (receiver_of way (top_place s) l call) q v
      (answers ++ slot_at values.items 0 ∷ []) memory slots
      → IsReceived way (top_place s) l call q slots
      (after_handing (record s { passage = Some q }) (receiver_of way (top_place s) l call) q
      memory) e new
      → Back e new
  received_case params call l p v answers q memory slots is given x =
      at Back e (event.Enter l.instance l.func slots) new
      (in_phase phase.Body l.instance call (after_handing (record s { passage = Some q })
      (receiver_of params (top_place s) l call) q memory)) x.0 x.1
      (answer_enters values call l p v answers q memory slots is given)
  received_case results call l p v answers q memory slots is given x =
      finishes plan s top (move.Return values) e new l.post_return (top_place s) l call q slots
      (after_handing (record s { passage = Some q }) (receiver_of results (top_place s) l call) q
      memory) refl
      (λ f post. answer_tidies values call l p v answers q memory slots f is given post)
      (λ post. answer_ends values call l p v answers q memory slots is given post) x

  answered_case : (way : Way) (call : Call) (l : Link) → top.purpose ≡ purpose.Call call
      → call.phase ≡ phase_of way → Reaches plan call.caller call.func l
      → AreOf one_i32 values.items → Answers s l way call values.items e new → Back e new
  answered_case way call l is ph reach kinds x =
      answer plan s top (move.Return values) _ s _ e new before x.8
      (λ fine y. next fine y.0 y.1 y.2) where
        next : answer_fault
            (length (memory_at s.memories (receiver_of way (top_place s) l call).instance)) x.3
            (slot_at values.items 0) ≡ None
            → (q : Passage) → IsAnswered (asked_for l way x.0 x.1) x.0 (slot_at values.items 0) q
            → GoesOn (record s { passage = Some q }) (top_place s) l way call q x.1
            (x.2 ++ slot_at values.items 0 ∷ []) e new → Back e new
        next fine q answered y =
            goes_on plan s top (move.Return values) e new (record s { passage = Some q })
            (top_place s) l way call q x.1 (x.2 ++ slot_at values.items 0 ∷ []) from
            (λ f request one. answer_asks values way call l x.0 x.1 x.2 q f request placed_is one)
            (λ memory slots given z.
            received_case way call l x.0 x.1 x.2 q memory slots placed_is given z) y where
              placed_is : IsPlaced plan s top values.items way call l x.0 x.1 x.2 q
              placed_is = record {
                purpose_is = is;
                phase_is = ph;
                reach = reach;
                of_kinds = kinds;
                passage_is = x.4;
                carried = x.5;
                answered_before = x.6;
                request = x.3;
                asked = x.7;
                fine = fine;
                answered = answered;
              }

              from : TrapsFrom plan s top (move.Return values) (record s { passage = Some q })
              from = placed values way call l x.0 x.1 x.2 q placed_is

  result_goes : (call : Call) (l : Link) (v : Val) (p q : Passage) (answers : List ℕ)
      (st : State) (place : ℕ) → place ≡ top_place st
      → IsReturned plan s top values.items call l v p
      → HasPlace (after_lift_of_result s l call values.items v p) l call p v q answers st
      → GoesOn st place l results call q v answers e new → Back e new
  result_goes call l v p q answers st place is_place is has x =
      goes_on plan s top (move.Return values) e new st (top_place st) l results call q v answers
      (result_placed values call l v p q answers st is has)
      (λ f request one. return_asks values call l v p q answers st f request is has one)
      (λ memory slots given z.
      finishes plan s top (move.Return values) e new l.post_return (top_place st) l call q slots
      (after_handing st (receiver_of results (top_place st) l call) q memory) refl
      (λ f post. return_tidies values call l v p q answers st memory slots f is has given post)
      (λ post. return_ends values call l v p q answers st memory slots is has given post) z)
      (subst (λ (n : ℕ). GoesOn st n l results call q v answers e new) is_place x)

  result_case : (b : Bool) (call : Call) (l : Link) (v : Val) (p : Passage)
      → is_spilled results (types_of l results) ≡ b
      → IsReturned plan s top values.items call l v p
      → PlacesResult b (after_lift_of_result s l call values.items v p) l call p v e new
      → Back e new
  result_case false call l v p spilled is x =
      result_goes call l v p p [] (after_lift_of_result s l call values.items v p)
      (top_place (after_lift_of_result s l call values.items v p)) refl is (in_values spilled) x
  result_case true call l v p spilled is x =
      answer plan s top (move.Return values) _ (after_lift_of_result s l call values.items v p) _
      e new (returned values call l v p is) x.2
      (λ fine y. result_goes call l v p y.0 (call.result_at ∷ [])
      (record (after_lift_of_result s l call values.items v p) { passage = Some y.0 })
      (top_place (after_lift_of_result s l call values.items v p)) refl is
      (by_memory x.0 y.0 spilled x.1 fine y.1) y.2)

  returned_case : (call : Call) (l : Link) → top.purpose ≡ purpose.Call call
      → call.phase ≡ phase.Body → Reaches plan call.caller call.func l
      → AreOf (returned_kinds l) values.items
      → HasNoBorrows (table_at s.tables l.instance) (top_place s)
      → ReturnsResult s l call values.items e new → Back e new
  returned_case call l is ph reach kinds none (inl x) =
      trap_case plan s top (move.Return values) s (trap_of x.0) e new before x.2
  returned_case call l is ph reach kinds none (inr (inl x)) =
      trap_case plan s top (move.Return values) s trap.EngineMemory e new before x.1
  returned_case call l is ph reach kinds none (inr (inr x)) =
      want plan s top (move.Return values) (after_lift_of_result s l call values.items x.0 x.1) e
      new (returned values call l x.0 x.1 back) x.5
      (λ y. result_case (is_spilled results (types_of l results)) call l x.0 x.1 refl back y)
    where
      back : IsReturned plan s top values.items call l x.0 x.1
      back = record {
        purpose_is = is;
        phase_is = ph;
        reach = reach;
        of_kinds = kinds;
        no_borrows = none;
        denoted = x.2;
        transferable = x.3;
        scanned = x.4;
      }

  phase_case : (ph : Phase) (call : Call) (l : Link) → top.purpose ≡ purpose.Call call
      → call.phase ≡ ph → Reaches plan call.caller call.func l
      → ReturnsIn ph s l call values.items e new → Back e new
  phase_case phase.Arguments call l is ph reach x =
      check plan s top (move.Return values) s e new before x
      (λ kinds y. answered_case params call l is ph reach kinds y)
  phase_case phase.Body call l is ph reach x =
      check plan s top (move.Return values) s e new before x
      (λ kinds y. check plan s top (move.Return values) s e new before y
      (λ none z. returned_case call l is ph reach kinds none z))
  phase_case phase.Results call l is ph reach x =
      check plan s top (move.Return values) s e new before x
      (λ kinds y. answered_case results call l is ph reach kinds y)
  phase_case (phase.PostReturn result) call l is ph reach x =
      check plan s top (move.Return values) s e new before x
      (λ nothing y. at Back e (event.Resume call.caller (as_values result)) new
      (after_call (top_place s) s) y.0 y.1 (tidied values call l result is ph reach nothing))

  return_case : (pu : Purpose) → top.purpose ≡ pu → Returns plan s pu values.items e new
      → Back e new
  return_case purpose.Root is x =
      check plan s top (move.Return values) s e new before x
      (λ nothing y. at Back e event.Ended new (popped s) y.0 y.1 (root_ended values is nothing))
  return_case (purpose.Call call) is x = phase_case call.phase call x.0 is refl x.1 x.2
  return_case (purpose.Destructor dropper) is x =
      check plan s top (move.Return values) s e new before x
      (λ nothing y. at Back e (event.Resume dropper []) new (popped s) y.0 y.1
      (destructor_ended values dropper is nothing))

-- ---- moves

move_case : (plan : Plan) (s : State) (top : Frame) (m : Move) (e : Event) (new : State)
    → Moves plan s top m e new → Cases plan s top m e new
move_case plan s top (move.Write a bytes) e new x =
    check plan s top (move.Write a bytes) s e new (as_it_was (move.Write a bytes)) x
    (λ inside y. at (Cases plan s top (move.Write a bytes)) e event.Done new
    (with_memory s (actor top) (after_write (memory_at s.memories (actor top)) a bytes.items)) y.0
    y.1 (wrote a bytes inside))
move_case plan s top (move.Grow pages) e new (inl x) =
    at (Cases plan s top (move.Grow pages)) e (event.Grown None) new s x.1 x.2
    (stayed pages x.0)
move_case plan s top (move.Grow pages) e new (inr (inl x)) =
    at (Cases plan s top (move.Grow pages)) e
    (event.Grown (Some (pages_of (memory_at s.memories (actor top))))) new
    (with_memory s (actor top) (after_growth (memory_at s.memories (actor top)) pages)) x.1 x.2
    (grew pages x.0)
move_case plan s top (move.Grow pages) e new (inr (inr x)) =
    trap_case plan s top (move.Grow pages) s trap.EngineMemory e new
    (as_it_was (move.Grow pages)) x.2
move_case plan s top (move.Call func args) e new x =
    call_case plan s top func args e new (core_func_at plan (actor top) func) refl x
move_case plan s top (move.Return values) e new x =
    return_case plan s top values e new top.purpose refl x
move_case plan s top move.Unreachable e new x =
    trap_case plan s top move.Unreachable s trap.Unreachable e new (as_it_was move.Unreachable) x

-- Each step is one of the cases, of the frame on top.
pub record IsCase (plan : Plan) (s : State) (m : Move) (e : Event) (new : State) : Type 0 where
  pub top : Frame
  pub rest : List Frame
  pub stack : s.stack ≡ top ∷ rest
  pub case : Cases plan s top m e new

pub case_on : (plan : Plan) (fs : List Frame) (s : State) (m : Move) (e : Event) (new : State)
    → s.stack ≡ fs → StepOn plan fs s m e new → IsCase plan s m e new
case_on plan [] s m e new is x = absurd x
case_on plan (top ∷ rest) s m e new is x =
    record { top = top; rest = rest; stack = is; case = move_case plan s top m e new x }

pub case_of : (plan : Plan) (s : State) (m : Move) (e : Event) (new : State)
    → Step plan s m e new → IsCase plan s m e new
case_of plan s m e new x = case_on plan s.stack s m e new refl x
