-- Why each step keeps sizes, sound tables, few frames and open instances, and what was made.
use Rattle.std.proofs.Common.{◌≡◌, ◌≢◌, ℕ, ◌+◌, ◌-◌, ◌*◌, ◌<◌, ◌≤◌, ◌⊎◌, inl, inr, Bool, true}
use Rattle.std.proofs.Common.{false, List, [], ◌∷◌, ◌++◌, length, Option, Some, None, refl, sym, ap}
use Rattle.std.proofs.Common.{subst, ◌∙◌, arith}
use Rattle.std.specs.Prelude.{drop, replicate, slice_get, slice_set, take, unwrap_or, Result, Ok}
use Rattle.std.specs.Prelude.{Err}
use Rattle.std.proofs.lemmas.List.{length-append, length-drop, length-map, length_push}
use Rattle.std.proofs.lemmas.List.{length-replicate, length-set, length-take-le}
use Rattle.cm_types.specs.declared.core_value.CoreValue.{CoreValue}
use Rattle.cm_types.specs.Values.{Val}
use Rattle.cm_handles.specs.Handles.{Handles, after_add, after_release, handle_at, if_not_lent}
use Rattle.cm_handles.specs.Handles.{indices_left, look_up, next_index}
use Rattle.cm_handles.specs.declared.fault.HandleFault.{HandleFault}
use Rattle.cm_handles.specs.declared.handle.Handle.{Handle}
use Rattle.cm_handles.specs.declared.handle.HandleKind.{HandleKind}
use Rattle.cm_handles.specs.declared.handle.HandleKind.TheVariants as handle
use Rattle.cm_abi_model.specs.Answering.{answer_fault}
use Rattle.cm_abi_model.specs.declared.fault.AbiFault.{AbiFault}
use Rattle.cm_abi_model.specs.declared.request.Request.{Request}
use Rattle.cm_abi_model.specs.Denotes.{Denotes}
use Rattle.cm_abi_model.specs.Numbers.{slot_at}
use Rattle.cm_abi_model.specs.Receives.{HandleLeaf, leaves_in, call_bytes}
use Rattle.cm_abi_model.specs.Requests.{is_spilled, tuple_of}
use Rattle.cm_abi_model.specs.Taken.{Met, Transferable, after_met, met}
use Rattle.cm_abi_model.specs.Views.{View, Way, params, results}
use Rattle.cm_abi_model.specs.Giving.{added_count, after_given, numbers_given}
use Rattle.cm_abi_model.specs.declared.receiver.Receiver.{Receiver}
use Rattle.cm_machine_model.specs.declared.event.Event.{Event}
use Rattle.cm_machine_model.specs.declared.event.Trap.{Trap}
use Rattle.cm_machine_model.specs.declared.event.Trap.TheVariants as trap
use Rattle.cm_abi_model.specs.Bytes.{AreBytes}
use Rattle.cm_abi_model.specs.HandleLeaves.{owned_in}
use Rattle.cm_abi_model.specs.Stores.{Holds}
use Rattle.cm_machine_model.specs.History.{WritesBytes}
use Rattle.cm_machine_model.specs.Step.{IsHanded, given_to, Traps, UnlessWrong, Asks, Answers}
use Rattle.cm_machine_model.specs.Step.{Calls, DropsFound, DropsHandle, DropsOwned, Finishes}
use Rattle.cm_machine_model.specs.Step.{GoesOn, GoesOnBy, IsReceived, Moves, PassesArguments}
use Rattle.cm_machine_model.specs.Step.{PlacesResult, Returns, ReturnsIn, ReturnsResult, Step}
use Rattle.cm_machine_model.specs.Step.{StepOn, TellsFound, after_handing, after_lift_of_args}
use Rattle.cm_machine_model.specs.Step.{after_lift_of_result, arg_slots, args_view, call_frame}
use Rattle.cm_machine_model.specs.Step.{new_call, receiver_of, result_view, top_place, trap_of}
use Rattle.cm_machine_model.specs.Step.{trap_of_handle}
use Rattle.cm_machine_model.specs.Plan.{receiver_side, types_of, Plan, CoreFunc, Link, core_func_at}
use Rattle.cm_machine_model.specs.Plan.{drops, guest, lowered, makes, represents}
use Rattle.cm_machine_laws.proofs.ByteMemories.{grown_bytes, stored_bytes, written_bytes}
use Rattle.cm_machine_laws.proofs.WrittenBytes.{call_written}
use Rattle.cm_machine_laws.proofs.PlainKeeps.{Plain, plain_end, plain_memory}
use Rattle.cm_machine_laws.proofs.PlainKeeps.{plain_pop, plain_push, plain_table, plain_trap}
use Rattle.cm_machine_laws.proofs.PlainKeeps.{plain_turn}
use Rattle.cm_machine_model.specs.declared.frame.Call.{Call}
use Rattle.cm_machine_model.specs.declared.frame.Frame.{Frame}
use Rattle.cm_machine_model.specs.declared.frame.Phase.{Phase}
use Rattle.cm_machine_model.specs.declared.frame.Phase.TheVariants as phase
use Rattle.cm_machine_model.specs.declared.frame.Purpose.{Purpose}
use Rattle.cm_machine_model.specs.declared.frame.Purpose.TheVariants as purpose
use Rattle.cm_machine_model.specs.declared.moves.Move.{Move}
use Rattle.cm_machine_model.specs.declared.moves.Move.TheVariants as move
use Rattle.cm_machine_model.specs.declared.limits.TheConstants.{MAX_MEMORY_SIZE, PAGE_SIZE}
use Rattle.cm_machine_model.specs.Memories.{after_growth, after_write, memory_at}
use Rattle.cm_machine_laws.proofs.OwningLaws.{AddingIsFine}
use Rattle.cm_machine_laws.specs.Taking.{AreTaken}
use Rattle.cm_machine_model.specs.Passages.{IsAnswered, as_args, asked_for}
use Rattle.cm_abi_model.specs.Answered.{last_answer}
use Rattle.cm_machine_model.specs.Stack.{actor, below_top}
use Rattle.cm_machine_model.specs.State.{Passage, State, after_trap, is_closed, place_after_trap}
use Rattle.cm_machine_model.specs.State.{table_at, tables_after_trap, with_places}
use Rattle.cm_machine_model.specs.Step as step
use Rattle.cm_machine_model.specs.Valid.{IsStack, StandsOn, AllMade}
use Rattle.cm_machine_model.specs.declared.frame.Place.TheVariants as place
use Rattle.cm_machine_laws.proofs.MadeKeeps.{Made, length_given, made_add, made_end}
use Rattle.cm_machine_laws.proofs.MadeKeeps.{made_given, made_leaves, made_met, made_more}
use Rattle.cm_machine_laws.proofs.MadeKeeps.{made_none, made_release, made_some, made_table}
use Rattle.cm_machine_laws.proofs.MadeKeeps.{made_trap}
use Rattle.cm_machine_laws.proofs.StepLends.{met_there}
use Rattle.cm_machine_laws.proofs.SoundTables.{sound_given, sound_met}
use Rattle.cm_machine_laws.proofs.LendKeeps.{call_of}
use Rattle.cm_machine_laws.specs.Taking.{AreThere}
use Rattle.cm_machine_laws.proofs.Takes.{lift_takes}
use Rattle.cm_machine_model.specs.Rows.{same_link}
use Rattle.cm_machine_model.proofs.StateLaws.{length_places}
use Rattle.cm_handles.proofs.HandlesLaws.{looked, not_lent}
use Rattle.cm_machine_model.proofs.MemoriesLaws.{memory_set}

abbrev pub H : Plan → State → Type 0
H plan s = Plain plan s.memories s.tables s.closed s.stack × Made s.tables (length s.owners) s.passage

-- ---- rows

at : (plan : Plan) (new st : State) → new ≡ st → H plan st → H plan new
at plan new st is h = subst (λ (x : State). H plan x) (sym is) h

by_trap : (plan : Plan) (s : State) (t : Trap) (e : Event) (new : State) → H plan s → Traps s t e new → H plan new
by_trap plan s t e new h x = at plan new (after_trap s) x.1 (plain_trap plan s.memories s.tables s.closed s.stack h.0, subst (λ n. Made (tables_after_trap s.stack s.tables) n None) (sym (length-map s.owners place_after_trap)) (made_trap s.stack s.tables (length s.owners) s.passage h.1))

by_check : {P R : Type 0} {t : Trap} (plan : Plan) (s : State) (e : Event) (new : State) → H plan s → ((P → ⊥) × Traps s t e new) ⊎ (P × R) → (P → R → H plan new) → H plan new
by_check {P} {R} {t} plan s e new h (inl x) go = by_trap plan s t e new h x.1
by_check {P} {R} {t} plan s e new h (inr x) go = go x.0 x.1

by_memory : {P R : Type 0} (plan : Plan) (s : State) (e : Event) (new : State) → H plan s → (P × Traps s trap.EngineMemory e new) ⊎ R → (R → H plan new) → H plan new
by_memory {P} {R} plan s e new h (inl x) go = by_trap plan s trap.EngineMemory e new h x.1
by_memory {P} {R} plan s e new h (inr x) go = go x

by_wrong : (plan : Plan) (row : Event → State → Type 0) (s : State) (o : Option AbiFault) (e : Event) (new : State) → H plan s → UnlessWrong s o row e new → (row e new → H plan new) → H plan new
by_wrong plan row s None e new h x go = go x
by_wrong plan row s (Some f) e new h x go = by_trap plan s (trap_of f) e new h x

-- an open instance is not closed
still_open : (s : State) (i : ℕ) → is_closed s i ≡ false → slice_get s.closed i ≢ Some true
still_open s i is e = not_both (sym (ap (λ (o : Option Bool). unwrap_or o false) e) ∙ is) where
  not_both : true ≡ false → ⊥
  not_both x = cc (x)

-- ---- frames

-- the call on top is in another phase; or it ends, or what is no call ends
turned_plain : (plan : Plan) (ph : Phase) (i : ℕ) (call : Call) (st : State) (f : Frame) (fs : List Frame) → Plain plan st.memories st.tables st.closed st.stack → st.stack ≡ f ∷ fs → f.instance ≡ i
    → Plain plan st.memories st.tables st.closed (call_of i (record call { phase = ph }) ∷ below_top st.stack)
turned_plain plan ph i call st f fs h is same =
    subst (λ (gs : List Frame). Plain plan st.memories st.tables st.closed (call_of i (record call { phase = ph }) ∷ gs)) (sym (ap below_top is))
    (plain_turn plan st.memories st.tables st.closed fs f (call_of i (record call { phase = ph })) same (subst (λ (gs : List Frame). Plain plan st.memories st.tables st.closed gs) is h))

turned : (plan : Plan) (ph : Phase) (i : ℕ) (call : Call) (st : State) (f : Frame) (fs : List Frame) → H plan st → st.stack ≡ f ∷ fs → f.instance ≡ i → H plan (step.in_phase ph i call st)
turned plan ph i call st f fs h is same = (turned_plain plan ph i call st f fs h.0 is same, h.1)

popped_plain : (plan : Plan) (st : State) (f : Frame) (fs : List Frame) → Plain plan st.memories st.tables st.closed st.stack → st.stack ≡ f ∷ fs → Plain plan st.memories st.tables st.closed (below_top st.stack)
popped_plain plan st f fs h is =
    subst (λ (gs : List Frame). Plain plan st.memories st.tables st.closed gs) (sym (ap below_top is))
    (plain_pop plan st.memories st.tables st.closed fs f (subst (λ (gs : List Frame). Plain plan st.memories st.tables st.closed gs) is h))

popped : (plan : Plan) (st : State) (f : Frame) (fs : List Frame) → H plan st → st.stack ≡ f ∷ fs → H plan (step.popped st)
popped plan st f fs h is = (popped_plain plan st f fs h.0 is, h.1)

ended : (plan : Plan) (place : ℕ) (st : State) (f : Frame) (fs : List Frame) → H plan st → st.stack ≡ f ∷ fs → H plan (step.after_call place st)
ended plan place st f fs h is = (plain_end plan st.memories place st.lends st.tables st.closed (below_top st.stack) (popped_plain plan st f fs h.0 is), made_end place st.lends st.tables (length st.owners) st.passage h.1)

-- ---- handing over

asked : (plan : Plan) (o : Option ℕ) (i : ℕ) (args : List CoreValue) (st : State) (e : Event) (new : State) → H plan st → Asks o i args st e new → H plan new
asked plan None i args st e new h x = absurd x
asked plan (Some f) i args st e new h x = at plan new st x.1 h

-- what is handed over is bytes
handed_bytes : (st : State) (l : Link) (way : Way) (to : Receiver) (p : Passage) (v : Val) (memory : List ℕ) (slots : List CoreValue) → AreBytes (memory_at st.memories to.instance) → IsHanded st l way to p v memory slots
    → to.instance < length st.memories → AreBytes memory
handed_bytes st l way to p v memory slots bytes is inside =
    stored_bytes (memory_at st.memories to.instance) memory (call_bytes (given_to st l way to p) way (types_of l way) v)
    (call_written (receiver_side l way).encoding (given_to st l way to p) way (types_of l way) v refl is.received.typed)
    (subst (λ (m : List ℕ). Holds m (call_bytes (given_to st l way to p) way (types_of l way) v)) (memory_set st.memories to.instance memory inside) is.received.bytes) is.framed bytes

handed : AddingIsFine → (plan : Plan) (st : State) (to : Receiver) (p : Passage) (memory : List ℕ) → H plan st → st.passage ≡ Some p → added_count to p.leaves ≤ indices_left (table_at st.tables to.instance) → length memory ≡ length (memory_at st.memories to.instance)
    → (to.instance < length st.memories → AreBytes memory) → H plan (after_handing st to p memory)
handed fine plan st to p memory h is room same bytes =
    let t : Handles = table_at st.tables to.instance in
    let new : Handles = after_given to t p.leaves in (
      plain_table plan (slice_set st.memories to.instance memory) st.tables st.closed st.stack to.instance new (sound_given fine to p.leaves t (h.0.sound to.instance) room)
          (plain_memory plan st.memories st.tables st.closed st.stack to.instance memory (omega (arith, same, h.0.small to.instance)) bytes h.0),
      subst (λ n. Made (slice_set st.tables to.instance new) n None) (sym (length_given to.instance p.leaves (numbers_given to t p.leaves) st.owners))
          (made_table st.tables (length st.owners) None to.instance new (made_given fine (length st.owners) to p.leaves t (h.1.leaves p is) (h.0.sound to.instance) (h.1.stand to.instance) room)
          (made_none st.tables (length st.owners) st.passage h.1)),
    )

finished : (plan : Plan) (o : Option ℕ) (place : ℕ) (l : Link) (call : Call) (p : Passage) (slots : List CoreValue) (h : State) (f : Frame) (fs : List Frame) (e : Event) (new : State)
    → H plan h → h.stack ≡ f ∷ fs → f.instance ≡ l.instance → Finishes o place l call p slots h e new → H plan new
finished plan None place l call p slots h f fs e new j is same x =
    at plan new (step.after_call place h) x.1 (ended plan place h f fs j is)
finished plan (Some g) place l call p slots h f fs e new j is same x =
    at plan new (step.in_phase (phase.PostReturn (step.first_value (step.flat_result l slots))) l.instance call h) x.1 (turned plan (phase.PostReturn (step.first_value (step.flat_result l slots))) l.instance call h f fs j is same)

goes_on : AddingIsFine → (way : Way) (plan : Plan) (st : State) (place : ℕ) (l : Link) (call : Call) (p : Passage) (v : Val) (answers : List ℕ) (f : Frame) (fs : List Frame) (e : Event) (new : State)
    → H plan st → st.passage ≡ Some p → st.stack ≡ f ∷ fs → f.instance ≡ l.instance → GoesOn st place l way call p v answers e new → H plan new
goes_on fine way plan st place l call p v answers f fs e new h is_p is same x = by_next (slice_get (asked_for l way p v) (length answers)) x where
  got : (way : Way) (memory : List ℕ) (slots : List CoreValue) → H plan (after_handing st (receiver_of way place l call) p memory) → IsReceived way place l call p slots (after_handing st (receiver_of way place l call) p memory) e new → H plan new
  got params memory slots j y = at plan new (step.in_phase phase.Body l.instance call (after_handing st (receiver_of params place l call) p memory)) y.1 (turned plan phase.Body l.instance call (after_handing st (receiver_of params place l call) p memory) f fs j is same)
  got results memory slots j y = finished plan l.post_return place l call p slots (after_handing st (receiver_of results place l call) p memory) f fs e new j is same y

  by_next : (o : Option Request) → GoesOnBy o st place l way call p v (asked_for l way p v) answers e new → H plan new
  by_next (Some r) y = asked plan (receiver_side l way).realloc (receiver_of way place l call).instance (as_args (last_answer answers) r) st e new h y
  by_next None y = by_check plan st e new h y (λ apart z. by_check plan st e new h z (λ room u. by_memory plan st e new h u (λ w.
      got way w.0 w.1 (handed fine plan st (receiver_of way place l call) p w.0 h is_p room w.2.framed.length_stays (handed_bytes st l way (receiver_of way place l call) p v w.0 w.1 (h.0.bytes (receiver_of way place l call).instance) w.2)) w.3)))

-- ---- lifting

met_taken : (w : View) (l : Link) (way : Way) (slots : List CoreValue) (v : Val) (p : Passage) (t : Handles) → w.table ≡ t → Denotes w way (types_of l way) slots v → Transferable w way (types_of l way) slots v
    → AreTaken t (met w way (types_of l way) slots v) (owned_in (leaves_in (tuple_of (types_of l way)) v))
met_taken w l way slots v p t table d go =
    subst (λ (u : Handles). AreTaken u (met w way (types_of l way) slots v) (owned_in (leaves_in (tuple_of (types_of l way)) v))) table (lift_takes w way (types_of l way) slots v d go)

lifted_made : (s : State) (i call : ℕ) (ms : List Met) (p : Passage) → Made s.tables (length s.owners) s.passage → AreThere (table_at s.tables i) ms p.leaves
    → Made (slice_set s.tables i (after_met (table_at s.tables i) ms)) (length (with_places (place.Travelling call) (owned_in p.leaves) s.owners)) (Some p)
lifted_made s i call ms p m there =
    subst (λ n. Made (slice_set s.tables i (after_met (table_at s.tables i) ms)) n (Some p)) (sym (length_places (place.Travelling call) (owned_in p.leaves) s.owners))
    (made_some (slice_set s.tables i (after_met (table_at s.tables i) ms)) (length s.owners) s.passage p (made_leaves (length s.owners) (table_at s.tables i) ms p.leaves (m.stand i) there)
    (made_table s.tables (length s.owners) s.passage i (after_met (table_at s.tables i) ms) (made_met (length s.owners) (table_at s.tables i) ms (m.stand i)) m))

passes_arguments : AddingIsFine → (plan : Plan) (s : State) (i func : ℕ) (l : Link) (args : List CoreValue) (e : Event) (new : State)
    → H plan s → step.HasRoom s → step.IsOpen s l.instance → PassesArguments s i func l args e new → H plan new
passes_arguments fine plan s i func l args e new h room opened (inl x) = by_trap plan s (trap_of x.0) e new h x.2
passes_arguments fine plan s i func l args e new h room opened (inr (inl x)) = by_trap plan s trap.EngineMemory e new h x.1
passes_arguments fine plan s i func l args e new h room opened (inr (inr x)) =
    by_memory plan st e new there x.5 (λ y. goes_on fine params plan st (length s.stack) l (new_call i func l args) x.1 x.0 [] (call_frame i func l args) s.stack e new there refl refl refl y) where
      ms : List Met
      ms = met (args_view s i l) params (types_of l params) (arg_slots l args) x.0

      st : State
      st = after_lift_of_args s i func l args x.0 x.1

      there : H plan st
      there = (
        plain_push plan s.memories (slice_set s.tables i (after_met (table_at s.tables i) ms)) s.closed s.stack (call_frame i func l args) room (still_open s l.instance opened)
            (plain_table plan s.memories s.tables s.closed s.stack i (after_met (table_at s.tables i) ms)
            (sound_met h.0.laws (table_at s.tables i) ms (owned_in (leaves_in (tuple_of (types_of l params)) x.0)) (met_taken (args_view s i l) l params (arg_slots l args) x.0 x.1 (table_at s.tables i) refl x.2 x.3) (h.0.sound i)) h.0),
        lifted_made s i (length s.stack) ms x.1 h.1 (met_there (args_view s i l) l params (arg_slots l args) x.0 x.1 (table_at s.tables i) refl x.2 x.4),
      )

-- ---- calls

-- what holds once a handle is gone
abbrev Gone : State → ℕ → ℕ → Plan → Type 0
Gone s i index plan =
    Plain plan s.memories (slice_set s.tables i (after_release (table_at s.tables i) index)) s.closed s.stack × Made (slice_set s.tables i (after_release (table_at s.tables i) index)) (length s.owners) s.passage

called : AddingIsFine → (plan : Plan) (s : State) (top : Frame) (func : ℕ) (o : Option CoreFunc) (args : List CoreValue) (e : Event) (new : State) → H plan s → Calls s top func o args e new → H plan new
called fine plan s top func None args e new h x = by_trap plan s trap.UnknownFunction e new h x
called fine plan s top func (Some guest) args e new h x = by_trap plan s trap.UnknownFunction e new h x
called fine plan s top func (Some (lowered l)) args e new h x =
    by_check plan s e new h x (λ shape y. by_check plan s e new h y (λ may z. by_check plan s e new h z (λ opened u. by_check plan s e new h u (λ room w.
    passes_arguments fine plan s (actor top) func l args e new h room opened w))))
called fine plan s top func (Some (makes r)) args e new h x =
    by_check plan s e new h x (λ shape y. by_check plan s e new h y (λ may z. by_check plan s e new h z (λ can u. by_memory plan s e new h u (λ w.
    at plan new (step.after_new s (actor top) r (slot_at args 0)) w.1
    (plain_table plan s.memories s.tables s.closed s.stack (actor top) (after_add (table_at s.tables (actor top)) one) (fine (table_at s.tables (actor top)) one (h.0.sound (actor top)) can.index).sound h.0, made_one can.index))))) where
      one : Handle
      one = record { resource = r; serial = length s.owners; lends = 0; rep = slot_at args 0; kind = handle.Owned }

      made_one : 0 < indices_left (table_at s.tables (actor top)) → Made (slice_set s.tables (actor top) (after_add (table_at s.tables (actor top)) one)) (length (s.owners ++ place.InTable (actor top) (next_index (table_at s.tables (actor top))) ∷ [])) s.passage
      made_one room =
          let m = made_more s.tables (length s.owners) s.passage h.1 in
          subst (λ n. Made (slice_set s.tables (actor top) (after_add (table_at s.tables (actor top)) one)) n s.passage) (sym (length_push s.owners (place.InTable (actor top) (next_index (table_at s.tables (actor top))))))
          (made_table s.tables (length s.owners + 1) s.passage (actor top) (after_add (table_at s.tables (actor top)) one)
          (made_add fine (length s.owners + 1) (table_at s.tables (actor top)) one (h.0.sound (actor top)) room (omega arith) (m.stand (actor top))) m)
called fine plan s top func (Some (drops r d)) args e new h x =
    by_check plan s e new h x (λ shape y. by_check plan s e new h y (λ may z. found (if_not_lent (look_up (table_at s.tables (actor top)) (slot_at args 0) r)) refl z)) where
      index : ℕ
      index = slot_at args 0

      gone : (g : Handle) → handle_at (table_at s.tables (actor top)) index ≡ Some g → Gone s (actor top) index plan
      gone g stands = (
        plain_table plan s.memories s.tables s.closed s.stack (actor top) (after_release (table_at s.tables (actor top)) index) (h.0.laws.release (table_at s.tables (actor top)) index g (h.0.sound (actor top)) stands).sound h.0,
        made_table s.tables (length s.owners) s.passage (actor top) (after_release (table_at s.tables (actor top)) index) (made_release (length s.owners) (table_at s.tables (actor top)) index (h.1.stand (actor top))) h.1,
      )

      dropped : (g : Handle) → Gone s (actor top) index plan → Made (slice_set s.tables (actor top) (after_release (table_at s.tables (actor top)) index)) (length (slice_set s.owners g.serial place.Dropped)) s.passage
      dropped g j = subst (λ n. Made (slice_set s.tables (actor top) (after_release (table_at s.tables (actor top)) index)) n s.passage) (sym (length-set s.owners g.serial place.Dropped)) j.1

      owned : (g : Handle) (k : Option ℕ) → Gone s (actor top) index plan → DropsOwned s (actor top) r k index g e new → H plan new
      owned g None j y = at plan new (step.after_drop s (actor top) index g) y.1 (j.0, dropped g j)
      owned g (Some f) j y =
          by_check plan s e new h y (λ opened z. by_check plan s e new h z (λ room w.
          at plan new (step.pushed (record { instance = r.component; purpose = purpose.Destructor (actor top) }) (step.after_drop s (actor top) index g)) w.1
          (plain_push plan s.memories (slice_set s.tables (actor top) (after_release (table_at s.tables (actor top)) index)) s.closed s.stack (record { instance = r.component; purpose = purpose.Destructor (actor top) }) room (still_open s r.component opened) j.0, dropped g j)))

      handled : (g : Handle) (k : HandleKind) → Gone s (actor top) index plan → DropsHandle k s (actor top) r d index g e new → H plan new
      handled g handle.Owned j y = owned g d j y
      handled g (handle.Borrowed c) j y = at plan new (step.without_handle s (actor top) index) y.1 j

      found : (q : Result Handle HandleFault) → if_not_lent (look_up (table_at s.tables (actor top)) index r) ≡ q → DropsFound q s (actor top) r d index e new → H plan new
      found (Err f) eq y = by_trap plan s (trap_of_handle f) e new h y
      found (Ok g) eq y = handled g g.kind (gone g (looked (handle_at (table_at s.tables (actor top)) index) r g (not_lent (look_up (table_at s.tables (actor top)) index r) g eq))) y
called fine plan s top func (Some (represents r)) args e new h x =
    by_check plan s e new h x (λ shape y. found (look_up (table_at s.tables (actor top)) (slot_at args 0) r) y) where
      found : (q : Result Handle HandleFault) → TellsFound q s (actor top) e new → H plan new
      found (Err f) y = by_trap plan s (trap_of_handle f) e new h y
      found (Ok g) y = at plan new s y.1 h

-- ---- returns

-- the same handles are on their way
passed : (plan : Plan) (s : State) (p q : Passage) → H plan s → s.passage ≡ Some p → q.leaves ≡ p.leaves → H plan (record s { passage = Some q })
passed plan s p q h is same = (h.0, made_some s.tables (length s.owners) s.passage q (subst (λ (ls : List HandleLeaf). AllMade (length s.owners) ls) (sym same) (h.1.leaves p is)) h.1)

answered : AddingIsFine → (way : Way) (plan : Plan) (s : State) (l : Link) (call : Call) (values : List CoreValue) (f : Frame) (fs : List Frame) (e : Event) (new : State)
    → H plan s → s.stack ≡ f ∷ fs → f.instance ≡ l.instance → Answers s l way call values e new → H plan new
answered fine way plan s l call values f fs e new h is same y =
    by_wrong plan
    (λ e new. (q : Passage) × IsAnswered (asked_for l way y.0 y.1) y.0 (slot_at values 0) q × GoesOn (record s { passage = Some q }) (top_place s) l way call q y.1 (y.2 ++ slot_at values 0 ∷ []) e new)
    s (answer_fault (length (memory_at s.memories (receiver_of way (top_place s) l call).instance)) y.3 (slot_at values 0)) e new h y.8
    (λ z. goes_on fine way plan (record s { passage = Some z.0 }) (top_place s) l call z.0 y.1 (y.2 ++ slot_at values 0 ∷ []) f fs e new (passed plan s y.0 z.0 h y.4 z.1.leaves) refl is same z.2)

placed : AddingIsFine → (b : Bool) (plan : Plan) (st : State) (l : Link) (call : Call) (p : Passage) (v : Val) (f : Frame) (fs : List Frame) (e : Event) (new : State)
    → H plan st → st.passage ≡ Some p → st.stack ≡ f ∷ fs → f.instance ≡ l.instance → PlacesResult b st l call p v e new → H plan new
placed fine false plan st l call p v f fs e new h is_p is same y = goes_on fine results plan st (top_place st) l call p v [] f fs e new h is_p is same y
placed fine true plan st l call p v f fs e new h is_p is same y =
    by_wrong plan
    (λ e new. (q : Passage) × IsAnswered (asked_for l results p v) p call.result_at q × GoesOn (record st { passage = Some q }) (top_place st) l results call q v (call.result_at ∷ []) e new)
    st (answer_fault (length (memory_at st.memories call.caller)) y.0 call.result_at) e new h y.2
    (λ z. goes_on fine results plan (record st { passage = Some z.0 }) (top_place st) l call z.0 v (call.result_at ∷ []) f fs e new (passed plan st p z.0 h is_p z.1.leaves) refl is same z.2)

returned : AddingIsFine → (plan : Plan) (s : State) (l : Link) (call : Call) (values : List CoreValue) (f : Frame) (fs : List Frame) (e : Event) (new : State)
    → H plan s → s.stack ≡ f ∷ fs → f.instance ≡ l.instance → ReturnsResult s l call values e new → H plan new
returned fine plan s l call values f fs e new h is same (inl y) = by_trap plan s (trap_of y.0) e new h y.2
returned fine plan s l call values f fs e new h is same (inr (inl y)) = by_trap plan s trap.EngineMemory e new h y.1
returned fine plan s l call values f fs e new h is same (inr (inr y)) =
    by_memory plan st e new there y.5 (λ z.
    placed fine (is_spilled results (types_of l results)) plan st l call y.1 y.0 (call_of l.instance (record call { phase = phase.Results })) (below_top s.stack) e new there refl refl refl z) where
      ms : List Met
      ms = met (result_view s l) results (types_of l results) values y.0

      st : State
      st = after_lift_of_result s l call values y.0 y.1

      there : H plan st
      there = turned plan phase.Results l.instance call (step.after_lift s l.instance (top_place s) ms y.1) f fs (
        plain_table plan s.memories s.tables s.closed s.stack l.instance (after_met (table_at s.tables l.instance) ms)
            (sound_met h.0.laws (table_at s.tables l.instance) ms (owned_in (leaves_in (tuple_of (types_of l results)) y.0)) (met_taken (result_view s l) l results values y.0 y.1 (table_at s.tables l.instance) refl y.2 y.3) (h.0.sound l.instance)) h.0,
        lifted_made s l.instance (top_place s) ms y.1 h.1 (met_there (result_view s l) l results values y.0 y.1 (table_at s.tables l.instance) refl y.2 y.4),
      ) is same

in_phases : AddingIsFine → (ph : Phase) (plan : Plan) (s : State) (l : Link) (call : Call) (values : List CoreValue) (f : Frame) (fs : List Frame) (e : Event) (new : State)
    → H plan s → s.stack ≡ f ∷ fs → f.instance ≡ l.instance → ReturnsIn ph s l call values e new → H plan new
in_phases fine phase.Arguments plan s l call values f fs e new h is same x = by_check plan s e new h x (λ shape y. answered fine params plan s l call values f fs e new h is same y)
in_phases fine phase.Body plan s l call values f fs e new h is same x = by_check plan s e new h x (λ shape y. by_check plan s e new h y (λ borrows z. returned fine plan s l call values f fs e new h is same z))
in_phases fine phase.Results plan s l call values f fs e new h is same x = by_check plan s e new h x (λ shape y. answered fine results plan s l call values f fs e new h is same y)
in_phases fine (phase.PostReturn r) plan s l call values f fs e new h is same x = by_check plan s e new h x (λ shape y. at plan new (step.after_call (top_place s) s) y.1 (ended plan (top_place s) s f fs h is))

returns : AddingIsFine → (plan : Plan) (s : State) (pu : Purpose) (i : ℕ) (fs : List Frame) (values : List CoreValue) (e : Event) (new : State)
    → s.stack ≡ record { instance = i; purpose = pu } ∷ fs → H plan s → StandsOn plan pu i fs → Returns plan s pu values e new → H plan new
returns fine plan s purpose.Root i fs values e new is h on x = by_check plan s e new h x (λ shape y. at plan new (step.popped s) y.1 (popped plan s (record { instance = i; purpose = purpose.Root }) fs h is))
returns fine plan s (purpose.Call call) i fs values e new is h on x =
    let same : i ≡ x.0.instance = sym (ap (λ (k : Link). k.instance) (same_link plan call.caller call.func x.0 on.0.0 x.1 on.0.1) ∙ on.0.2) in
    in_phases fine call.phase plan s x.0 call values (call_of i call) fs e new h is same x.2
returns fine plan s (purpose.Destructor d) i fs values e new is h on x = by_check plan s e new h x (λ shape y. at plan new (step.popped s) y.1 (popped plan s (record { instance = i; purpose = purpose.Destructor d }) fs h is))

-- ---- a step

written : (m bytes : List ℕ) (a : ℕ) → a + length bytes ≤ length m → length m ≤ MAX_MEMORY_SIZE → length (after_write m a bytes) ≤ MAX_MEMORY_SIZE
written m bytes a inside small = subst (λ n. n ≤ MAX_MEMORY_SIZE) (sym sizes) (omega (arith, small, inside)) where
  sizes : length (after_write m a bytes) ≡ a + (length bytes + (length m - (a + length bytes)))
  sizes = length-append (take a m ++ bytes) (drop (a + length bytes) m) ∙ omega (
    arith,
    length-append (take a m) bytes,
    length-take-le a m (omega (arith, inside)),
    length-drop (a + length bytes) m,
  )

grown : (m : List ℕ) (pages : ℕ) → length m + pages * PAGE_SIZE ≤ MAX_MEMORY_SIZE → length (after_growth m pages) ≤ MAX_MEMORY_SIZE
grown m pages fits = omega (arith, fits, sizes) where
  sizes : length (after_growth m pages) ≡ length m + pages * PAGE_SIZE
  sizes = length-append m (replicate (pages * PAGE_SIZE) 0) ∙ ap (λ n. length m + n) (length-replicate {A = ℕ} (pages * PAGE_SIZE) 0)

moved : AddingIsFine → (plan : Plan) (s : State) (top : Frame) (fs : List Frame) (m : Move) (e : Event) (new : State) → s.stack ≡ top ∷ fs → H plan s → IsStack plan (top ∷ fs) → WritesBytes m → Moves plan s top m e new → H plan new
moved fine plan s top fs (move.Write a bytes) e new is h stack byte x = by_check plan s e new h x (λ inside y.
    at plan new (step.with_memory s (actor top) (after_write (memory_at s.memories (actor top)) a bytes.items)) y.1
    (plain_memory plan s.memories s.tables s.closed s.stack (actor top) (after_write (memory_at s.memories (actor top)) a bytes.items) (written (memory_at s.memories (actor top)) bytes.items a inside (h.0.small (actor top))) (λ lt. written_bytes (memory_at s.memories (actor top)) bytes.items a (h.0.bytes (actor top)) byte) h.0, h.1))
moved fine plan s top fs (move.Grow pages) e new is h stack byte (inl x) = at plan new s x.2 h
moved fine plan s top fs (move.Grow pages) e new is h stack byte (inr (inl x)) =
    at plan new (step.with_memory s (actor top) (after_growth (memory_at s.memories (actor top)) pages)) x.2
    (plain_memory plan s.memories s.tables s.closed s.stack (actor top) (after_growth (memory_at s.memories (actor top)) pages) (grown (memory_at s.memories (actor top)) pages x.0) (λ lt. grown_bytes (memory_at s.memories (actor top)) pages (h.0.bytes (actor top))) h.0, h.1)
moved fine plan s top fs (move.Grow pages) e new is h stack byte (inr (inr x)) = by_trap plan s trap.EngineMemory e new h x.2
moved fine plan s top fs (move.Call func args) e new is h stack byte x = called fine plan s top func (core_func_at plan (actor top) func) args.items e new h x
moved fine plan s top fs (move.Return values) e new is h stack byte x = returns fine plan s top.purpose top.instance fs values.items e new is h stack.1 x
moved fine plan s top fs move.Unreachable e new is h stack byte x = by_trap plan s trap.Unreachable e new h x

stepped : AddingIsFine → (plan : Plan) (s : State) (fs : List Frame) (m : Move) (e : Event) (new : State) → IsStack plan s.stack → H plan s → s.stack ≡ fs → WritesBytes m → StepOn plan fs s m e new → H plan new
stepped fine plan s [] m e new stack h is byte x = absurd x
stepped fine plan s (top ∷ fs) m e new stack h is byte x = moved fine plan s top fs m e new is h (subst (λ (st : List Frame). IsStack plan st) is stack) byte x

pub steps_plain : AddingIsFine → (plan : Plan) (s : State) (m : Move) (e : Event) (new : State) → IsStack plan s.stack → H plan s → WritesBytes m → Step plan s m e new → H plan new
steps_plain fine plan s m e new stack h byte x = stepped fine plan s s.stack m e new stack h refl byte x
