-- What each trap of a row closes: from which state the machine traps, by which trap it is.
use Rattle.std.proofs.Common.{◌≡◌, ℕ, ◌+◌, ◌<◌, ◌⊎◌, inl, inr, Bool, true, false, List, [], ◌∷◌, ◌++◌}
use Rattle.std.proofs.Common.{length, Option, Some, None, refl, sym, ap, subst, ◌∙◌, arith}
use Rattle.std.specs.Prelude.{Contains, Result, Ok, Err, not, map, nat_lt, slice_get, ◌%◌, ◌==◌, if◌then◌else◌}
use Rattle.cm_types.specs.declared.core_value.CoreValue.{CoreValue}
use Rattle.cm_types.specs.declared.resource.ResourceId.{ResourceId}
use Rattle.cm_types.specs.Values.{HandleValue, Val}
use Rattle.cm_handles.specs.Handles.{if_not_lent, look_up}
use Rattle.cm_handles.specs.declared.fault.HandleFault.{HandleFault}
use Rattle.cm_handles.specs.declared.handle.Handle.{Handle}
use Rattle.cm_handles.specs.declared.handle.HandleKind.{HandleKind}
use Rattle.cm_handles.specs.declared.handle.HandleKind.TheVariants as handle
use Rattle.cm_abi_model.specs.declared.fault.AbiFault.{AbiFault}
use Rattle.cm_abi_model.specs.declared.fault.AbiFault.TheVariants as fault
use Rattle.cm_abi_model.specs.declared.request.Request.{Request}
use Rattle.cm_abi_model.specs.Answered.{last_answer}
use Rattle.cm_abi_model.specs.Answering.{answer_fault, regions_of}
use Rattle.cm_abi_model.specs.Denotes.{Denotes}
use Rattle.cm_abi_model.specs.Handed.{IsHanded}
use Rattle.cm_abi_model.specs.HandleLeaves.{owned_in}
use Rattle.cm_abi_model.specs.LiftStops.{LiftStops}
use Rattle.cm_abi_model.specs.Numbers.{slot_at}
use Rattle.cm_abi_model.specs.Overlap.{AreDisjoint}
use Rattle.cm_abi_model.specs.Receives.{HandleLeaf}
use Rattle.cm_abi_model.specs.Requests.{is_spilled}
use Rattle.cm_abi_model.specs.Taken.{MAX_CONTENT, Transferable, after_met, taken_of}
use Rattle.cm_abi_model.specs.Views.{Way, params, results}
use Rattle.cm_machine_model.specs.declared.event.Event.{Event}
use Rattle.cm_machine_model.specs.declared.event.Event.TheVariants as event
use Rattle.cm_machine_model.specs.declared.event.Trap.{Trap}
use Rattle.cm_machine_model.specs.declared.event.Trap.TheVariants as trap
use Rattle.cm_machine_model.specs.declared.moves.Move.{Move}
use Rattle.cm_machine_model.specs.declared.moves.Move.TheVariants as move
use Rattle.cm_machine_model.specs.declared.frame.Call.{Call}
use Rattle.cm_machine_model.specs.declared.frame.Frame.{Frame}
use Rattle.cm_machine_model.specs.declared.frame.Phase.{Phase}
use Rattle.cm_machine_model.specs.declared.frame.Phase.TheVariants as phase
use Rattle.cm_machine_model.specs.declared.frame.Purpose.{Purpose}
use Rattle.cm_machine_model.specs.declared.frame.Purpose.TheVariants as purpose
use Rattle.cm_machine_model.specs.Memories.{memory_at}
use Rattle.cm_machine_model.specs.Owning.{IsAmong}
use Rattle.cm_machine_model.specs.Passages.{IsAnswered, IsScanned, as_args, asked_for}
use Rattle.cm_machine_model.specs.Plan.{CoreFunc, Link, Plan, Reaches, core_func_at, drops, guest}
use Rattle.cm_machine_model.specs.Plan.{lowered, makes, receiver_side, represents, types_of}
use Rattle.cm_machine_model.specs.Stack.{actor, actor_in, actor_of, below_top}
use Rattle.cm_machine_model.specs.State.{Passage, State, after_trap, table_at}
use Rattle.cm_machine_model.specs.Step.{Answers, Asks, Calls, CallsLowered, Drops, DropsFound, Finishes, as_values, flat_result}
use Rattle.cm_machine_model.specs.Step.{DropsHandle, DropsOwned, GoesOn, GoesOnBy, Grows, IsReceived}
use Rattle.cm_machine_model.specs.Step.{Makes, MayLeave, Moves, PassesArguments, PlacesResult}
use Rattle.cm_machine_model.specs.Step.{Represents, Returns, ReturnsIn, ReturnsResult, TellsFound}
use Rattle.cm_machine_model.specs.Step.{Traps, UnlessWrong, Writes, after_handing, after_lift_of_args}
use Rattle.cm_machine_model.specs.Step.{after_lift_of_result, arg_slots, args_view, new_call}
use Rattle.cm_machine_model.specs.Step.{receiver_of, result_view, top_place, trap_of, trap_of_handle}
use Rattle.cm_machine_model.specs.Valid.{IsStack, IsValidState}
use Rattle.cm_machine_laws.specs.CallsOn.{as_framed, callee_there, framed}
use Rattle.cm_machine_laws.specs.CallsOn.{IsBodyCall, body_call, handing_call, placing_call}
use Rattle.cm_machine_laws.specs.CallsOn.{tidying_call}
use Rattle.cm_machine_laws.specs.Closing.{ClosesAsItWas, ClosesAtCall, ClosesAtReturn, ClosesByCall}
use Rattle.cm_machine_laws.specs.Closing.{ClosesByReturn, ClosesExactly, ClosesWhatWentOn}
use Rattle.cm_machine_laws.specs.Closing.{ClosesWithCall, ClosesWithReturn}
use Rattle.cm_machine_laws.specs.Doing.{BodyReturn, Doing, LoweredCall, destroys, instance_of}
use Rattle.cm_machine_laws.specs.Doing.{root}
use Rattle.cm_machine_laws.specs.Frames.{instances, leaver_acts, match_length}
use Rattle.cm_machine_laws.specs.Matching.{AllMatch, MatchOne}
use Rattle.cm_machine_laws.specs.Told.{WasReturned, met_at_call, met_at_return}
use Rattle.cm_machine_laws.specs.Told.{returned_leaves, sent_leaves}
use Rattle.cm_machine_model.specs.Rows.{at, same_link}
use Rattle.cm_machine_laws.proofs.BodyRows.{apart_before, no_answer, one_answer}
use Rattle.cm_machine_laws.proofs.ClosedStates.{ClosingLaws, closes_as_was, closes_lifted, owned_made}
use Rattle.cm_machine_laws.proofs.ClosedTables.{AreWithin, instances_of, within_plan}
use Rattle.cm_machine_laws.proofs.Lifting.{Laws}

-- ---- which events are traps

abbrev is_trap : Event → Bool
is_trap (event.Trapped t) = true
is_trap event.Ended = false
is_trap event.Done = false
is_trap (event.Grown pages) = false
is_trap (event.Enter instance func args) = false
is_trap (event.Realloc instance func args) = false
is_trap (event.Resume instance values) = false
is_trap (event.PostReturn instance func args) = false
is_trap (event.Dtor instance func rep) = false

-- What is closed where an event is this trap.
abbrev pub Closing : Type 1
Closing = Trap → State → Type 0

-- where an event is a trap, what it closes is right
abbrev pub Right : Closing → Event → State → Type 0
Right C e new = (t : Trap) → e ≡ event.Trapped t → C t new

-- an event that is no trap closes nothing
silent : (C : Closing) (e f : Event) (new : State) → is_trap f ≡ false → e ≡ f → Right C e new
silent C e f new no_trap is t traps = absurd (differ (sym no_trap ∙ ap is_trap (sym is ∙ traps))) where
  differ : false ≡ true → ⊥
  differ x = cc (x)

trap_in : (t u : Trap) → event.Trapped t ≡ event.Trapped u → t ≡ u
trap_in t u e = cc (e)

-- a row that traps from this state
traps : (C : Closing) (st : State) (t : Trap) (e : Event) (new : State) → C t (after_trap st)
    → Traps st t e new → Right C e new
traps C st t e new closes x u is =
    subst (λ (n : State). C u n) (sym x.1)
    (subst (λ (v : Trap). C v (after_trap st)) (trap_in t u (sym x.0 ∙ is)) closes)

check : {P R : Type 0} (C : Closing) (st : State) (t : Trap) (e : Event) (new : State)
    → C t (after_trap st) → ((P → ⊥) × Traps st t e new) ⊎ (P × R) → (P → R → Right C e new)
    → Right C e new
check {P} {R} C st t e new closes (inl x) go = traps C st t e new closes x.1
check {P} {R} C st t e new closes (inr x) go = go x.0 x.1

-- a check that holds
sure : {P R : Type 0} (C : Closing) (st : State) (t : Trap) (e : Event) (new : State) → P
    → ((P → ⊥) × Traps st t e new) ⊎ (P × R) → (R → Right C e new) → Right C e new
sure {P} {R} C st t e new holds (inl x) go = absurd (x.0 holds)
sure {P} {R} C st t e new holds (inr x) go = go x.1

want : {P R : Type 0} (C : Closing) (st : State) (e : Event) (new : State)
    → C trap.EngineMemory (after_trap st) → (P × Traps st trap.EngineMemory e new) ⊎ R
    → (R → Right C e new) → Right C e new
want {P} {R} C st e new closes (inl x) go = traps C st trap.EngineMemory e new closes x.1
want {P} {R} C st e new closes (inr x) go = go x

-- an allocator is asked
asks : (C : Closing) (o : Option ℕ) (i : ℕ) (args : List CoreValue) (st : State) (e : Event)
    (new : State) → Asks o i args st e new → Right C e new
asks C None i args st e new x = absurd x
asks C (Some f) i args st e new x = silent C e (event.Realloc i f args) new refl x.0

-- what was received goes on
receives : (C : Closing) (way : Way) (place : ℕ) (l : Link) (call : Call) (p : Passage)
    (slots : List CoreValue) (st : State) (e : Event) (new : State)
    → IsReceived way place l call p slots st e new → Right C e new
receives C params place l call p slots st e new x =
    silent C e (event.Enter l.instance l.func slots) new refl x.0
receives C results place l call p slots st e new x = by l.post_return x where
  by : (o : Option ℕ) → Finishes o place l call p slots st e new → Right C e new
  by None y = silent C e (event.Resume call.caller (flat_result l slots)) new refl y.0
  by (Some f) y = silent C e (event.PostReturn l.instance f p.slots) new refl y.0

-- a call goes on from a state, with few answers
goes : (C : Closing) (st : State) (place : ℕ) (l : Link) (way : Way) (call : Call) (p : Passage)
    (v : Val) (answers : List ℕ) (e : Event) (new : State)
    → C trap.TableFull (after_trap st) → C trap.EngineMemory (after_trap st)
    → AreDisjoint (regions_of (asked_for l way p v) answers) ⊎ C trap.Overlap (after_trap st)
    → (o : Option Request) → GoesOnBy o st place l way call p v (asked_for l way p v) answers e new
    → Right C e new
goes C st place l way call p v answers e new full memory apart (Some r) x =
    asks C (receiver_side l way).realloc (receiver_of way place l call).instance
    (as_args (last_answer answers) r) st e new x
goes C st place l way call p v answers e new full memory (inl apart) None x =
    sure C st trap.Overlap e new apart x
    (λ y. check C st trap.TableFull e new full y
    (λ room z. want C st e new memory z
    (λ w. receives C way place l call p w.1 (after_handing st (receiver_of way place l call) p w.0) e new w.3)))
goes C st place l way call p v answers e new full memory (inr overlap) None x =
    check C st trap.Overlap e new overlap x
    (λ apart y. check C st trap.TableFull e new full y
    (λ room z. want C st e new memory z
    (λ w. receives C way place l call p w.1 (after_handing st (receiver_of way place l call) p w.0) e new w.3)))

-- ---- what goes on where a root or a destructor stands

module _ (plan : Plan) (top : Frame) (fs : List Frame) (r : BodyReturn) (old : State) where
  -- whatever a return of these closes, it closes as it was
  of_root : (d : Doing) (ds : List Doing) → MatchOne purpose.Root plan top.instance (length fs) d
      → (t : Trap) (new : State) → ClosesAsItWas old (d ∷ ds) new → ClosesAtReturn old (d ∷ ds) r t new
  of_root (root i) ds m t new x = x
  of_root d ds m t new x = absurd m

  of_destructor : (dropper : ℕ) (d : Doing) (ds : List Doing)
      → MatchOne (purpose.Destructor dropper) plan top.instance (length fs) d
      → (t : Trap) (new : State) → ClosesAsItWas old (d ∷ ds) new → ClosesAtReturn old (d ∷ ds) r t new
  of_destructor dropper (destroys who i) ds m t new x = x
  of_destructor dropper d ds m t new x = absurd m

  rooted : (ds : List Doing) → top.purpose ≡ purpose.Root → AllMatch plan (top ∷ fs) ds
      → (t : Trap) (new : State) → ClosesAsItWas old ds new → ClosesAtReturn old ds r t new
  rooted [] pu m t new x = absurd m
  rooted (d ∷ ds) pu m t new x =
      of_root d ds (subst (λ (p : Purpose). MatchOne p plan top.instance (length fs) d) pu m.0) t new x

  destroying : (ds : List Doing) (dropper : ℕ) → top.purpose ≡ purpose.Destructor dropper
      → AllMatch plan (top ∷ fs) ds → (t : Trap) (new : State) → ClosesAsItWas old ds new
      → ClosesAtReturn old ds r t new
  destroying [] dropper pu m t new x = absurd m
  destroying (d ∷ ds) dropper pu m t new x =
      of_destructor dropper d ds (subst (λ (p : Purpose). MatchOne p plan top.instance (length fs) d) pu m.0) t new x

module _ (laws : Laws) (closing : ClosingLaws) (plan : Plan) (s : State) (top : Frame)
    (fs : List Frame) (ds : List Doing) (is : s.stack ≡ top ∷ fs) (valid : IsValidState plan s)
    (m : AllMatch plan (top ∷ fs) ds) where
  -- the instances of what goes on are those of the frames
  these : instances_of s.stack ≡ map instance_of ds
  these = ap instances_of is ∙ instances plan (top ∷ fs) ds m

  as_was : ClosesAsItWas s ds (after_trap s)
  as_was = subst (λ (ns : List ℕ). ClosesExactly s ns 0 [] [] (after_trap s)) these (closes_as_was plan s valid)

  stack : IsStack plan (top ∷ fs)
  stack = subst (λ (gs : List Frame). IsStack plan gs) is valid.stack

  -- ---- rows that trap from the state as it was

  abbrev Was : Closing
  Was t new = ClosesAsItWas s ds new

  abbrev Fine : Event → State → Type 0
  Fine = Right Was

  writes : (i at : ℕ) (bytes : List ℕ) (e : Event) (new : State) → Writes s i at bytes e new
      → Fine e new
  writes i at bytes e new x =
      check Was s trap.GuestBounds e new as_was x (λ inside y. silent Was e event.Done new refl y.0)

  grows : (i pages : ℕ) (e : Event) (new : State) → Grows s i pages e new → Fine e new
  grows i pages e new (inl x) = silent Was e (event.Grown None) new refl x.1
  grows i pages e new (inr (inl x)) = silent Was e (event.Grown (Some _)) new refl x.1
  grows i pages e new (inr (inr x)) = traps Was s trap.EngineMemory e new as_was x.2

  made : (r : ResourceId) (args : List CoreValue) (e : Event) (new : State)
      → Makes s top r args e new → Fine e new
  made r args e new x =
      check Was s trap.CoreShape e new as_was x
      (λ of y. check Was s trap.MayNotLeave e new as_was y
      (λ may z. check Was s trap.TableFull e new as_was z
      (λ can u. want Was s e new as_was u (λ w. silent Was e (event.Resume (actor top) _) new refl w.0))))

  told : (o : Result Handle HandleFault) (e : Event) (new : State) → TellsFound o s (actor top) e new
      → Fine e new
  told (Err f) e new x = traps Was s (trap_of_handle f) e new as_was x
  told (Ok h) e new x = silent Was e (event.Resume (actor top) _) new refl x.0

  represented : (r : ResourceId) (args : List CoreValue) (e : Event) (new : State)
      → Represents s top r args e new → Fine e new
  represented r args e new x =
      check Was s trap.CoreShape e new as_was x
      (λ of y. told (look_up (table_at s.tables (actor top)) (slot_at args 0) r) e new y)

  dropped_owned : (d : Option ℕ) (r : ResourceId) (index : ℕ) (h : Handle) (e : Event) (new : State)
      → DropsOwned s (actor top) r d index h e new → Fine e new
  dropped_owned None r index h e new x = silent Was e (event.Resume (actor top) []) new refl x.0
  dropped_owned (Some f) r index h e new x =
      check Was s trap.CalleeClosed e new as_was x
      (λ opened y. check Was s trap.StackFull e new as_was y
      (λ room z. silent Was e (event.Dtor r.component f h.rep) new refl z.0))

  dropped_handle : (k : HandleKind) (d : Option ℕ) (r : ResourceId) (index : ℕ) (h : Handle)
      (e : Event) (new : State) → DropsHandle k s (actor top) r d index h e new → Fine e new
  dropped_handle handle.Owned d r index h e new x = dropped_owned d r index h e new x
  dropped_handle (handle.Borrowed call) d r index h e new x =
      silent Was e (event.Resume (actor top) []) new refl x.0

  dropped_found : (o : Result Handle HandleFault) (d : Option ℕ) (r : ResourceId) (index : ℕ)
      (e : Event) (new : State) → DropsFound o s (actor top) r d index e new → Fine e new
  dropped_found (Err f) d r index e new x = traps Was s (trap_of_handle f) e new as_was x
  dropped_found (Ok h) d r index e new x = dropped_handle h.kind d r index h e new x

  dropped : (r : ResourceId) (d : Option ℕ) (args : List CoreValue) (e : Event) (new : State)
      → Drops s top r d args e new → Fine e new
  dropped r d args e new x =
      check Was s trap.CoreShape e new as_was x
      (λ of y. check Was s trap.MayNotLeave e new as_was y
      (λ may z. dropped_found (if_not_lent (look_up (table_at s.tables (actor top)) (slot_at args 0) r)) d r (slot_at args 0) e new z))

  -- an answer of an allocator
  answered : (way : Way) (l : Link) (call : Call) (values : List CoreValue) (e : Event) (new : State)
      → Answers s l way call values e new → Fine e new
  answered way l call values e new x =
      by (answer_fault (length _) x.3 (slot_at values 0)) x.8 where
        by : (o : Option AbiFault) → UnlessWrong s o
            (λ e new. (q : Passage) × IsAnswered (asked_for l way x.0 x.1) x.0 (slot_at values 0) q
            × GoesOn (record s { passage = Some q }) (top_place s) l way call q x.1
            (x.2 ++ slot_at values 0 ∷ []) e new) e new → Fine e new
        by (Some f) y = traps Was s (trap_of f) e new as_was y
        by None y =
            goes Was (record s { passage = Some y.0 }) (top_place s) l way call y.0 x.1
            (x.2 ++ slot_at values 0 ∷ []) e new as_was as_was (inr as_was)
            (slice_get (asked_for l way y.0 x.1) (length (x.2 ++ slot_at values 0 ∷ []))) y.2

  -- ---- a call of a lowered function

  module _ (func : ℕ) (l : Link) (args : List CoreValue) (reach : Reaches plan (actor top) func l) where
    abbrev x : LoweredCall
    x = record { caller = actor top; link = l; args = args; state = s; place = length s.stack }

    abbrev ByCall : Closing
    ByCall t new = ClosesByCall s ds x t new

    -- once its arguments were lifted
    with_call : (v : Val) (p : Passage) → MayLeave top.purpose
        → Denotes (args_view s (actor top) l) params (types_of l params) (arg_slots l args) v
        → Transferable (args_view s (actor top) l) params (types_of l params) (arg_slots l args) v
        → IsScanned (args_view s (actor top) l) l params (arg_slots l args) v p
        → ClosesWithCall s ds x (after_trap (after_lift_of_args s (actor top) func l args v p))
    with_call v p may denoted transferable scanned = (
      v,
      record { denoted = denoted; transferable = transferable },
      subst (λ (ls : List HandleLeaf). ClosesExactly s (l.instance ∷ map instance_of ds) (actor top) (taken_of (met_at_call x v)) (owned_in ls) (after_trap st)) scanned.carried.handles
          (subst (λ (ns : List ℕ). ClosesExactly s (l.instance ∷ ns) (actor top) (taken_of (met_at_call x v)) (owned_in p.leaves) (after_trap st)) these
          (closes_lifted s st (actor top) (length s.stack) (met_at_call x v) (owned_in p.leaves) refl refl refl refl
          (omega (arith, callee_in, valid.closed), within_plan plan s.stack (length s.closed) valid.closed valid.stack)
          (omega (arith, callee_in, valid.tables), within_plan plan s.stack (length s.tables) valid.tables valid.stack)
          (omega (arith, caller_in, valid.tables)) (inr among) handed made_all)),
    ) where
      st : State
      st = after_lift_of_args s (actor top) func l args v p

      acts : actor top ≡ top.instance
      acts = leaver_acts top.purpose top.instance may

      caller_in : actor top < length plan
      caller_in = omega (arith, acts, stack.0)

      callee_in : l.instance < length plan
      callee_in = callee_there plan valid.linked (actor top) func l reach

      among : IsAmong (instances_of s.stack) (actor top)
      among = subst (λ (gs : List Frame). IsAmong (instances_of gs) (actor top)) (sym is) (inl (sym acts))

      handed : IsHanded (table_at s.tables (actor top)) (met_at_call x v) (after_met (table_at s.tables (actor top)) (met_at_call x v))
      handed = closing.hands (table_at s.tables (actor top)) MAX_CONTENT (met_at_call x v)
          (closing.stands (args_view s (actor top) l) params (types_of l params) (arg_slots l args) v denoted)
          transferable (valid.sound (actor top))

      made_all : (h : HandleValue) → Contains (owned_in p.leaves) h → h.serial < length s.owners
      made_all h c = owned_made plan s valid (actor top) (met_at_call x v) (sent_leaves x v)
          (closing.there (args_view s (actor top) l) params (types_of l params) (arg_slots l args) v denoted) h
          (subst (λ (ls : List HandleLeaf). Contains (owned_in ls) h) scanned.carried.handles c)

    -- a lift that stops
    stopped : (f : AbiFault) → LiftStops (args_view s (actor top) l) params (types_of l params) (arg_slots l args) f
        → ByCall (trap_of f) (after_trap s)
    stopped fault.Misaligned stops = as_was
    stopped fault.PointerBounds stops = as_was
    stopped fault.BadChar stops = as_was
    stopped fault.BadCase stops = as_was
    stopped fault.TooLarge stops = as_was
    stopped fault.BadText stops = as_was
    stopped fault.NoHandle stops = as_was
    stopped fault.WrongResource stops = as_was
    stopped fault.StillLent stops = as_was
    stopped fault.NotOwned stops = as_was
    stopped fault.Overlap stops = as_was
    stopped fault.TableFull stops =
        absurd (omega (arith, (laws.number (args_view s (actor top) l) params (types_of l params) (arg_slots l args) fault.TableFull stops).1))
    stopped fault.EngineMemory stops = inl as_was

    passes : (e : Event) (new : State) → MayLeave top.purpose
        → PassesArguments s (actor top) func l args e new → Right ByCall e new
    passes e new may (inl y) = traps ByCall s (trap_of y.0) e new (stopped y.0 y.1) y.2
    passes e new may (inr (inl y)) = traps ByCall s trap.EngineMemory e new (inl as_was) y.1
    passes e new may (inr (inr y)) =
        let closes = with_call y.0 y.1 may y.2 y.3 y.4 in
        let st : State = after_lift_of_args s (actor top) func l args y.0 y.1 in
        want ByCall st e new (inr closes) y.5
        (λ z. goes ByCall st (length s.stack) l params (new_call (actor top) func l args) y.1 y.0 [] e new closes (inr closes)
        (inl (apart_before (asked_for l params y.1 y.0) [] no_answer))
        (slice_get (asked_for l params y.1 y.0) 0) z)

    calls : (e : Event) (new : State) → CallsLowered s top func l args e new → Right ByCall e new
    calls e new y =
        check ByCall s trap.CoreShape e new as_was y
        (λ of a. check ByCall s trap.MayNotLeave e new as_was a
        (λ may b. check ByCall s trap.CalleeClosed e new as_was b
        (λ opened c. check ByCall s trap.StackFull e new as_was c
        (λ room d. passes e new may d))))

  -- ---- a body returns

  module _ (call : Call) (l : Link) (values : List CoreValue) (pu : top.purpose ≡ purpose.Call call)
      (ph : call.phase ≡ phase.Body) (reach : Reaches plan call.caller call.func l) where
    c : IsBodyCall plan top.instance call (length fs) ds
    c = body_call plan top fs ds call pu ph m

    abbrev k : LoweredCall
    k = framed call.caller l c.x (top_place s)

    same : c.x ≡ k
    same = as_framed plan top.instance call (length fs) (top_place s) c.x l c.of reach (ap (λ (gs : List Frame). length (below_top gs)) is)

    mine : l.instance ≡ top.instance
    mine = sym (ap (λ (j : Link). j.instance) (same_link plan call.caller call.func c.x.link l c.of.link reach)) ∙ c.of.instance

    acts : actor top ≡ l.instance
    acts = ap (λ (p : Purpose). actor_of p top.instance) pu
        ∙ (ap (λ (p : Phase). actor_in p top.instance call.caller) ph ∙ sym mine)

    abbrev back_of : ℕ → BodyReturn
    back_of i = record { callee = i; values = values; state = s }

    abbrev back : BodyReturn
    back = back_of l.instance

    abbrev ByReturn : Closing
    ByReturn t new = ClosesByReturn s ds k back t new

    -- once its result was lifted
    with_return : (v : Val) (p : Passage)
        → Denotes (result_view s l) results (types_of l results) values v
        → Transferable (result_view s l) results (types_of l results) values v
        → IsScanned (result_view s l) l results values v p
        → ClosesWithReturn s ds k back (after_trap (after_lift_of_result s l call values v p))
    with_return v p denoted transferable scanned = (
      v,
      record { denoted = denoted; transferable = transferable },
      subst (λ (ls : List HandleLeaf). ClosesExactly s (map instance_of ds) l.instance (taken_of (met_at_return k back v)) (owned_in ls) (after_trap st)) scanned.carried.handles
          (subst (λ (ns : List ℕ). ClosesExactly s ns l.instance (taken_of (met_at_return k back v)) (owned_in p.leaves) (after_trap st)) frames
          (closes_lifted s st l.instance (top_place s) (met_at_return k back v) (owned_in p.leaves) refl refl refl refl
          (within (length s.closed) valid.closed) (within (length s.tables) valid.tables)
          (omega (arith, mine, stack.0, valid.tables)) (inl refl) handed made_all)),
    ) where
      st : State
      st = after_lift_of_result s l call values v p

      below : below_top s.stack ≡ fs
      below = ap below_top is

      frames : l.instance ∷ instances_of (below_top s.stack) ≡ map instance_of ds
      frames = ap (λ (n : ℕ). n ∷ instances_of (below_top s.stack)) mine
          ∙ (ap (λ (gs : List Frame). top.instance ∷ instances_of gs) below ∙ instances plan (top ∷ fs) ds m)

      within : (n : ℕ) → n ≡ length plan → (l.instance < n) × AreWithin n (below_top s.stack)
      within n e = (
        omega (arith, e, mine, stack.0),
        subst (λ (gs : List Frame). AreWithin n gs) (sym below) (within_plan plan fs n e stack.2),
      )

      handed : IsHanded (table_at s.tables l.instance) (met_at_return k back v) (after_met (table_at s.tables l.instance) (met_at_return k back v))
      handed = closing.hands (table_at s.tables l.instance) MAX_CONTENT (met_at_return k back v)
          (closing.stands (result_view s l) results (types_of l results) values v denoted)
          transferable (valid.sound l.instance)

      made_all : (h : HandleValue) → Contains (owned_in p.leaves) h → h.serial < length s.owners
      made_all h d = owned_made plan s valid l.instance (met_at_return k back v) (returned_leaves k v)
          (closing.there (result_view s l) results (types_of l results) values v denoted) h
          (subst (λ (ls : List HandleLeaf). Contains (owned_in ls) h) scanned.carried.handles d)

    -- where a lift stops no value was returned
    none_returned : (f : AbiFault) → LiftStops (result_view s l) results (types_of l results) values f
        → (v : Val) → WasReturned k back v → ⊥
    none_returned f stops v was =
        laws.beside (result_view s l) results (types_of l results) values f v stops was.denoted was.transferable

    halted : (f : AbiFault) → LiftStops (result_view s l) results (types_of l results) values f
        → ByReturn (trap_of f) (after_trap s)
    halted fault.Misaligned stops = inl (none_returned fault.Misaligned stops, as_was)
    halted fault.PointerBounds stops = inl (none_returned fault.PointerBounds stops, as_was)
    halted fault.BadChar stops = as_was
    halted fault.BadCase stops = as_was
    halted fault.TooLarge stops = as_was
    halted fault.BadText stops = as_was
    halted fault.NoHandle stops = as_was
    halted fault.WrongResource stops = as_was
    halted fault.StillLent stops = as_was
    halted fault.NotOwned stops = as_was
    halted fault.Overlap stops = as_was
    halted fault.TableFull stops =
        absurd (omega (arith, (laws.number (result_view s l) results (types_of l results) values fault.TableFull stops).1))
    halted fault.EngineMemory stops = inl as_was

    -- a wrong place for the result
    wrong : (row : Event → State → Type 0) (st : State) (e : Event) (new : State) (a b : Bool)
        → ClosesWithReturn s ds k back (after_trap st)
        → UnlessWrong st (if a then Some fault.Misaligned else (if b then Some fault.PointerBounds else None)) row e new
        → (row e new → Right ByReturn e new) → Right ByReturn e new
    wrong row st e new true b closes y go = traps ByReturn st trap.Misaligned e new (inr closes) y
    wrong row st e new false true closes y go = traps ByReturn st trap.PointerBounds e new (inr closes) y
    wrong row st e new false false closes y go = go y

    puts : (b : Bool) (v : Val) (p : Passage) (e : Event) (new : State)
        → ClosesWithReturn s ds k back (after_trap (after_lift_of_result s l call values v p))
        → PlacesResult b (after_lift_of_result s l call values v p) l call p v e new
        → Right ByReturn e new
    puts false v p e new closes y =
        goes ByReturn (after_lift_of_result s l call values v p) (top_place s) l results call p v [] e new closes (inr closes)
        (inl (apart_before (asked_for l results p v) [] no_answer)) (slice_get (asked_for l results p v) 0) y
    puts true v p e new closes y =
        wrong _ (after_lift_of_result s l call values v p) e new
        (not (call.result_at % y.0.align == 0)) (nat_lt (length (memory_at s.memories call.caller)) (call.result_at + y.0.size)) closes y.2
        (λ z. goes ByReturn (record (after_lift_of_result s l call values v p) { passage = Some z.0 }) (top_place s) l results call z.0 v
        (call.result_at ∷ []) e new closes (inr closes)
        (inl (apart_before (asked_for l results z.0 v) (call.result_at ∷ []) (one_answer call.result_at)))
        (slice_get (asked_for l results z.0 v) 1) z.2)

    results_back : (e : Event) (new : State) → ReturnsResult s l call values e new → Right ByReturn e new
    results_back e new (inl y) = traps ByReturn s (trap_of y.0) e new (halted y.0 y.1) y.2
    results_back e new (inr (inl y)) = traps ByReturn s trap.EngineMemory e new (inl as_was) y.1
    results_back e new (inr (inr y)) =
        let closes = with_return y.0 y.1 y.2 y.3 y.4 in
        want ByReturn (after_lift_of_result s l call values y.0 y.1) e new (inr closes) y.5
        (λ z. puts (is_spilled results (types_of l results)) y.0 y.1 e new closes z)

    returned : (e : Event) (new : State) → ReturnsIn phase.Body s l call values e new
        → Right (λ t n. ClosesAtReturn s ds (back_of (actor top)) t n) e new
    returned e new y t traps_so =
        subst (λ (es : List Doing). ClosesAtReturn s es (back_of (actor top)) t new) (sym c.is)
        (subst (λ (es : List Doing). ClosesByReturn s es c.x (back_of (actor top)) t new) c.is
        (subst (λ (i : ℕ). ClosesByReturn s ds c.x (back_of i) t new) (sym acts)
        (subst (λ (w : LoweredCall). ClosesByReturn s ds w back t new) (sym same)
        (check ByReturn s trap.CoreShape e new as_was y
        (λ of a. check ByReturn s trap.BorrowsLeft e new as_was a
        (λ none b. results_back e new b)) t traps_so))))

  -- ---- all moves

  returns_in : (p : Phase) (call : Call) (l : Link) (values : List CoreValue)
      → top.purpose ≡ purpose.Call call → call.phase ≡ p → Reaches plan call.caller call.func l
      → (e : Event) (new : State) → ReturnsIn p s l call values e new
      → Right (λ t n. ClosesAtReturn s ds (record { callee = actor top; values = values; state = s }) t n) e new
  returns_in phase.Arguments call l values pu ph reach e new y t traps_so =
      let c = placing_call plan top fs ds call pu ph m in
      subst (λ (es : List Doing). ClosesAtReturn s es (record { callee = actor top; values = values; state = s }) t new) (sym c.is)
      (subst (λ (es : List Doing). ClosesAsItWas s es new) c.is
      (check Was s trap.CoreShape e new as_was y (λ of a. answered params l call values e new a) t traps_so))
  returns_in phase.Body call l values pu ph reach e new y t traps_so =
      returned call l values pu ph reach e new y t traps_so
  returns_in phase.Results call l values pu ph reach e new y t traps_so =
      let c = handing_call plan top fs ds call pu ph m in
      subst (λ (es : List Doing). ClosesAtReturn s es (record { callee = actor top; values = values; state = s }) t new) (sym c.is)
      (subst (λ (es : List Doing). ClosesAsItWas s es new) c.is
      (check Was s trap.CoreShape e new as_was y (λ of a. answered results l call values e new a) t traps_so))
  returns_in (phase.PostReturn result) call l values pu ph reach e new y t traps_so =
      let c = tidying_call plan top fs ds call result pu ph m in
      subst (λ (es : List Doing). ClosesAtReturn s es (record { callee = actor top; values = values; state = s }) t new) (sym c.is)
      (subst (λ (es : List Doing). ClosesAsItWas s es new) c.is
      (check Was s trap.CoreShape e new as_was y
      (λ none a. silent Was e (event.Resume call.caller (as_values result)) new refl a.0) t traps_so))

  returns_by : (p : Purpose) (values : List CoreValue) → top.purpose ≡ p → (e : Event) (new : State)
      → Returns plan s p values e new
      → Right (λ t n. ClosesAtReturn s ds (record { callee = actor top; values = values; state = s }) t n) e new
  returns_by purpose.Root values pu e new y t traps_so =
      rooted plan top fs (record { callee = actor top; values = values; state = s }) s ds pu m t new
      (check Was s trap.CoreShape e new as_was y (λ none a. silent Was e event.Ended new refl a.0) t traps_so)
  returns_by (purpose.Call call) values pu e new y t traps_so =
      returns_in call.phase call y.0 values pu refl y.1 e new y.2 t traps_so
  returns_by (purpose.Destructor dropper) values pu e new y t traps_so =
      destroying plan top fs (record { callee = actor top; values = values; state = s }) s ds dropper pu m t new
      (check Was s trap.CoreShape e new as_was y
      (λ none a. silent Was e (event.Resume dropper []) new refl a.0) t traps_so)

  count : length ds ≡ length s.stack
  count = match_length plan (top ∷ fs) ds m ∙ sym (ap (λ (gs : List Frame). length gs) is)

  calls_by : (o : Option CoreFunc) (func : ℕ) (args : List CoreValue)
      → core_func_at plan (actor top) func ≡ o → (e : Event) (new : State)
      → Calls s top func o args e new → Right (λ t n. ClosesAtCall s ds (actor top) o args t n) e new
  calls_by None func args reach e new y = traps Was s trap.UnknownFunction e new as_was y
  calls_by (Some guest) func args reach e new y = traps Was s trap.UnknownFunction e new as_was y
  calls_by (Some (lowered l)) func args reach e new y =
      subst (λ (n : ℕ). Right (λ t st. ClosesByCall s ds (record { caller = actor top; link = l; args = args; state = s; place = n }) t st) e new) (sym count)
      (calls func l args reach e new y)
  calls_by (Some (makes r)) func args reach e new y = made r args e new y
  calls_by (Some (drops r d)) func args reach e new y = dropped r d args e new y
  calls_by (Some (represents r)) func args reach e new y = represented r args e new y

  -- what a trap closes, by the move
  pub closes_by : (mv : Move) (e : Event) (new : State) → Moves plan s top mv e new
      → Right (λ t n. ClosesWhatWentOn plan s ds (actor top) mv t n) e new
  closes_by (move.Write a bytes) e new y = writes (actor top) a bytes.items e new y
  closes_by (move.Grow pages) e new y = grows (actor top) pages e new y
  closes_by (move.Call func args) e new y =
      calls_by (core_func_at plan (actor top) func) func args.items refl e new y
  closes_by (move.Return values) e new y = returns_by top.purpose values.items refl e new y
  closes_by move.Unreachable e new y = traps Was s trap.Unreachable e new as_was y
