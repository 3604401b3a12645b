-- Why each step keeps each resource in one place.
use Rattle.std.proofs.Common.{◌≡◌, ◌≢◌, ℕ, ◌<◌, ◌⊎◌, inl, inr, Bool, true, false, List, [], ◌∷◌}
use Rattle.std.proofs.Common.{◌++◌, length, Option, Some, None, refl, sym, ap, subst, ◌∙◌, arith}
use Rattle.std.specs.Prelude.{slice_get, take, Result, Ok, Err}
use Rattle.std.proofs.lemmas.Option.{none-some, same_Some}
use Rattle.std.proofs.lemmas.List.{get_or-set_other, length-set}
use Rattle.cm_types.specs.declared.core_value.CoreValue.{CoreValue}
use Rattle.cm_types.specs.declared.resource.ResourceId.{ResourceId}
use Rattle.cm_types.specs.Values.{Val}
use Rattle.cm_handles.specs.Handles.{Handles, IsSoundHandles, after_release, handle_at, if_not_lent}
use Rattle.cm_handles.specs.Handles.{look_up}
use Rattle.cm_abi_model.specs.Answering.{answer_fault}
use Rattle.cm_machine_model.specs.Memories.{memory_at}
use Rattle.std.proofs.lemmas.Bool.{cases_eq}
use Rattle.cm_handles.specs.declared.handle.Handle.{Handle}
use Rattle.cm_handles.specs.declared.handle.HandleKind.{HandleKind}
use Rattle.cm_handles.specs.declared.handle.HandleKind.TheVariants as handle
use Rattle.cm_handles.specs.declared.fault.HandleFault.{HandleFault}
use Rattle.cm_abi_model.specs.declared.fault.AbiFault.{AbiFault}
use Rattle.cm_abi_model.specs.declared.request.Request.{Request}
use Rattle.cm_abi_model.specs.Denotes.{Denotes}
use Rattle.cm_abi_model.specs.Numbers.{slot_at}
use Rattle.cm_abi_model.specs.Taken.{Transferable, after_met, Met, met}
use Rattle.cm_abi_model.specs.Receives.{HandleLeaf}
use Rattle.cm_abi_model.specs.Requests.{is_spilled}
use Rattle.cm_abi_model.specs.Views.{View, Way, params, results}
use Rattle.cm_machine_model.specs.declared.event.Event.{Event}
use Rattle.cm_machine_model.specs.declared.event.Trap.{Trap}
use Rattle.cm_machine_model.specs.declared.event.Trap.TheVariants as trap
use Rattle.cm_machine_model.specs.declared.frame.Call.{Call}
use Rattle.cm_machine_model.specs.declared.frame.Frame.{Frame}
use Rattle.cm_machine_model.specs.declared.frame.Phase.{Phase}
use Rattle.cm_machine_model.specs.declared.frame.Phase.TheVariants as phase
use Rattle.cm_machine_model.specs.declared.frame.Purpose.{Purpose}
use Rattle.cm_machine_model.specs.declared.frame.Purpose.TheVariants as purpose
use Rattle.cm_machine_model.specs.declared.moves.Move.{Move}
use Rattle.cm_machine_model.specs.declared.moves.Move.TheVariants as move
use Rattle.cm_machine_model.specs.Owning.{HaveOnePlace, OnePlace, StandsIn, owners_of, serials}
use Rattle.cm_machine_model.specs.Owning.{standing, travelling}
use Rattle.cm_machine_laws.proofs.OwningLaws.{AddingIsFine, LiftTakes}
use Rattle.cm_machine_laws.specs.Taking.{AreTaken}
use Rattle.cm_machine_model.specs.Passages.{IsAnswered, IsScanned, as_args, asked_for}
use Rattle.cm_abi_model.specs.Answered.{last_answer}
use Rattle.cm_abi_model.specs.HandleLeaves.{owned_in}
use Rattle.cm_machine_model.specs.Plan.{Plan, CoreFunc, Link, Reaches, core_func_at, drops}
use Rattle.cm_machine_model.specs.Plan.{entered_kinds, guest, lowered, makes, represents}
use Rattle.cm_machine_model.specs.Plan.{receiver_side, types_of}
use Rattle.cm_machine_model.specs.Plans.{IsLink}
use Rattle.cm_machine_model.specs.Stack.{actor, below_top}
use Rattle.cm_machine_model.specs.State.{Passage, State, table_at, view_of}
use Rattle.cm_machine_model.specs.Step.{Traps, UnlessWrong, after_handing, after_lift, call_frame}
use Rattle.cm_machine_model.specs.Step.{in_phase, pushed, MayLeave, MayLeaveIn, GoesOn, GoesOnBy}
use Rattle.cm_machine_model.specs.Step.{IsReceived, Finishes, Asks, receiver_of, result_place}
use Rattle.cm_machine_model.specs.Step.{PassesArguments, CallsLowered, Makes, Drops, DropsFound}
use Rattle.cm_machine_model.specs.Step.{DropsHandle, DropsOwned, Represents, TellsFound, Calls}
use Rattle.cm_machine_model.specs.Step.{Answers, PlacesResult, ReturnsResult, ReturnsIn, Returns}
use Rattle.cm_machine_model.specs.Step.{Moves, StepOn, Step, popped, after_drop, top_place, trap_of}
use Rattle.cm_machine_model.specs.Step.{trap_of_handle}
use Rattle.cm_machine_model.specs.Valid.{IsStack, IsValidState, PassesAtTop, PassesFor, PassesIn}
use Rattle.cm_machine_model.specs.Valid.{StandsOn}
use Rattle.cm_machine_laws.proofs.LiftPlaces.{lifting, released}
use Rattle.cm_machine_laws.proofs.GivePlaces.{giving_all}
use Rattle.cm_machine_laws.proofs.KeepPlaces.{OwnSame, any_frame, drop_keeps, end_keeps, new_keeps}
use Rattle.cm_machine_laws.proofs.KeepPlaces.{replaced, trap_keeps}
use Rattle.cm_machine_model.proofs.StackLaws.{acts_for}
use Rattle.cm_handles.proofs.HandlesLaws.{looked, not_lent}
use Rattle.cm_machine_model.proofs.StateLaws.{table_other}

-- ---- rows

by_trap : (s : State) (t : Trap) (e : Event) (new : State) → OnePlace s → Traps s t e new → OnePlace new
by_trap s t e new p x = subst OnePlace (sym x.1) (trap_keeps s p)

by_check : {P R : Type 0} {t : Trap} (s : State) (e : Event) (new : State) → OnePlace s → ((P → ⊥) × Traps s t e new) ⊎ (P × R) → (P → R → OnePlace new) → OnePlace new
by_check {P} {R} {t} s e new p (inl x) go = by_trap s t e new p x.1
by_check {P} {R} {t} s e new p (inr x) go = go x.0 x.1

by_memory : {P R : Type 0} (s : State) (e : Event) (new : State) → OnePlace s → (P × Traps s trap.EngineMemory e new) ⊎ R → (R → OnePlace new) → OnePlace new
by_memory {P} {R} s e new p (inl x) go = by_trap s trap.EngineMemory e new p x.1
by_memory {P} {R} s e new p (inr x) go = go x

by_wrong : (row : Event → State → Type 0) (s : State) (o : Option AbiFault) (e : Event) (new : State) → OnePlace s → UnlessWrong s o row e new → (row e new → OnePlace new) → OnePlace new
by_wrong row s None e new p x go = go x
by_wrong row s (Some f) e new p x go = by_trap s (trap_of f) e new p x

-- ---- handing over

finished : (o : Option ℕ) (place : ℕ) (l : Link) (call : Call) (p : Passage) (slots : List CoreValue) (h : State) (e : Event) (new : State) → h.passage ≡ None → OnePlace h → Finishes o place l call p slots h e new → OnePlace new
finished None place l call p slots h e new none one x = subst OnePlace (sym x.1) (end_keeps h place none one)
finished (Some f) place l call p slots h e new none one x = subst OnePlace (sym x.1) one

received : (way : Way) (place : ℕ) (l : Link) (call : Call) (p : Passage) (slots : List CoreValue) (h : State) (e : Event) (new : State) → h.passage ≡ None → OnePlace h → IsReceived way place l call p slots h e new → OnePlace new
received params place l call p slots h e new none one x = subst OnePlace (sym x.1) one
received results place l call p slots h e new none one x = finished l.post_return place l call p slots h e new none one x

asked : (o : Option ℕ) (i : ℕ) (args : List CoreValue) (st : State) (e : Event) (new : State) → OnePlace st → Asks o i args st e new → OnePlace new
asked None i args st e new one x = absurd x
asked (Some f) i args st e new one x = subst OnePlace (sym x.1) one

goes_on_by : AddingIsFine → (o : Option Request) (st : State) (place : ℕ) (l : Link) (way : Way) (call : Call) (p : Passage) (v : Val) (rs : List Request) (answers : List ℕ) (e : Event) (new : State)
    → OnePlace st → st.passage ≡ Some p → (receiver_of way place l call).instance < length st.tables → IsSoundHandles (table_at st.tables (receiver_of way place l call).instance)
    → GoesOnBy o st place l way call p v rs answers e new → OnePlace new
goes_on_by fine (Some r) st place l way call p v rs answers e new one is lt sound x = asked (receiver_side l way).realloc (receiver_of way place l call).instance (as_args (last_answer answers) r) st e new one x
goes_on_by fine None st place l way call p v rs answers e new one is lt sound x =
    by_check st e new one x (λ apart y.
    by_check st e new one y (λ room z.
    by_memory st e new one z (λ w.
    received way place l call p w.1 (after_handing st (receiver_of way place l call) p w.0) e new refl
    (giving_all fine st.tables st.owners (length (below_top st.stack)) (receiver_of way place l call) p.leaves
    (subst (λ (o : Option Passage). HaveOnePlace (standing st.tables) (owners_of st.owners) (length (below_top st.stack)) (travelling o)) is one) lt sound room)
    w.3)))

goes_on : AddingIsFine → (st : State) (place : ℕ) (l : Link) (way : Way) (call : Call) (p : Passage) (v : Val) (answers : List ℕ) (e : Event) (new : State)
    → OnePlace st → st.passage ≡ Some p → (receiver_of way place l call).instance < length st.tables → IsSoundHandles (table_at st.tables (receiver_of way place l call).instance)
    → GoesOn st place l way call p v answers e new → OnePlace new
goes_on fine st place l way call p v answers e new one is lt sound x =
    goes_on_by fine (slice_get (asked_for l way p v) (length answers)) st place l way call p v (asked_for l way p v) answers e new one is lt sound x

-- ---- frames

none_in : (ph : Phase) (s : State) (l : Link) (call : Call) (o : Option Passage) → PassesIn ph s l call o → MayLeaveIn ph → o ≡ None
none_in phase.Arguments s l call o x may = absurd may
none_in phase.Body s l call o x may = x
none_in phase.Results s l call o x may = absurd may
none_in (phase.PostReturn r) s l call o x may = absurd may

pub none_for : (plan : Plan) (s : State) (pu : Purpose) (i : ℕ) (fs : List Frame) → StandsOn plan pu i fs → PassesFor plan s pu → MayLeave pu → s.passage ≡ None
none_for plan s purpose.Root i fs st x may = x
none_for plan s (purpose.Call call) i fs st x may = none_in call.phase s st.0.0 call s.passage (x st.0.0 st.0.1) may
none_for plan s (purpose.Destructor d) i fs st x may = x

pub actor_there : (plan : Plan) (fs : List Frame) (top : Frame) → IsStack plan (top ∷ fs) → actor top < length plan
actor_there plan [] top st = acts_for plan top.purpose top.instance [] st.0 st.1 (λ g e. absurd (none-some g e))
actor_there plan (f ∷ fs) top st =
    acts_for plan top.purpose top.instance (f ∷ fs) st.0 st.1 (λ g e. subst (λ (x : Frame). actor x < length plan) (same_Some f g e) (actor_there plan fs f st.2))

pub caller_there : (plan : Plan) (fs : List Frame) (call : Call) (i : ℕ) → StandsOn plan (purpose.Call call) i fs → IsStack plan fs → call.caller < length plan
caller_there plan [] call i st below = absurd (none-some st.1.0 st.1.1)
caller_there plan (f ∷ fs) call i st below =
    subst (λ (n : ℕ). n < length plan) st.1.2 (subst (λ (x : Frame). actor x < length plan) (same_Some f st.1.0 st.1.1) (actor_there plan fs f below))

-- ---- lifting

-- the state after a lift, whatever its stack below the frame on top
lifted_one : LiftTakes → (s : State) (st : List Frame) (i call : ℕ) (l : Link) (way : Way) (w : View) (slots : List CoreValue) (v : Val) (p : Passage)
    → w.table ≡ table_at s.tables i → i < length s.tables → HaveOnePlace (standing s.tables) (owners_of s.owners) call []
    → Denotes w way (types_of l way) slots v → Transferable w way (types_of l way) slots v → IsScanned w l way slots v p
    → HaveOnePlace (standing (after_lift s i call (met w way (types_of l way) slots v) p).tables) (owners_of (after_lift s i call (met w way (types_of l way) slots v) p).owners) call (serials (owned_in p.leaves))
lifted_one takes s st i call l way w slots v p table lt one denoted fine kept =
    let taken : AreTaken w.table (met w way (types_of l way) slots v) (owned_in p.leaves) =
    subst (λ (ls : List HandleLeaf). AreTaken w.table (met w way (types_of l way) slots v) (owned_in ls)) (sym kept.carried.handles) (takes w way (types_of l way) slots v denoted fine) in
    lifting s.tables s.owners call [] i (met w way (types_of l way) slots v) (owned_in p.leaves) one lt
    (subst (λ (t : Handles). AreTaken t (met w way (types_of l way) slots v) (owned_in p.leaves)) table taken)

-- nothing is on its way
none_away : (s : State) (g : ℕ) → s.passage ≡ None → OnePlace s → HaveOnePlace (standing s.tables) (owners_of s.owners) g []
none_away s g none one =
    any_frame (standing s.tables) (owners_of s.owners) (length (below_top s.stack)) g
    (subst (λ (o : Option Passage). HaveOnePlace (standing s.tables) (owners_of s.owners) (length (below_top s.stack)) (travelling o)) none one)

passes_arguments : LiftTakes → AddingIsFine → (s : State) (i func : ℕ) (l : Link) (args : List CoreValue) (e : Event) (new : State)
    → OnePlace s → s.passage ≡ None → i < length s.tables → l.instance < length s.tables → l.instance ≢ i → IsSoundHandles (table_at s.tables l.instance)
    → PassesArguments s i func l args e new → OnePlace new
passes_arguments takes fine s i func l args e new one none lt lt_callee apart sound (inl x) = by_trap s (trap_of x.0) e new one x.2
passes_arguments takes fine s i func l args e new one none lt lt_callee apart sound (inr (inl x)) = by_trap s trap.EngineMemory e new one x.1
passes_arguments takes fine s i func l args e new one none lt lt_callee apart sound (inr (inr x)) =
    let w : View = view_of s i l.caller.encoding (length s.stack) in
    let slots : List CoreValue = take (length (entered_kinds l)) args in
    let ms : List Met = met w params (types_of l params) slots x.0 in
    let st : State = pushed (call_frame i func l args) (after_lift s i (length s.stack) ms x.1) in
    let there : OnePlace st = lifted_one takes s s.stack i (length s.stack) l params w slots x.0 x.1 refl lt (none_away s (length s.stack) none one) x.2 x.3 x.4 in
    by_memory st e new there x.5 (λ y.
    goes_on fine st (length s.stack) l params (record { caller = i; func = func; result_at = result_place l args; phase = phase.Arguments }) x.1 x.0 [] e new there refl
    (subst (λ (n : ℕ). l.instance < n) (sym (length-set s.tables i (after_met (table_at s.tables i) ms))) lt_callee)
    (subst (λ (t : Handles). IsSoundHandles t) (sym (table_other s.tables i l.instance (after_met (table_at s.tables i) ms) apart)) sound) y)

calls_lowered : LiftTakes → AddingIsFine → (s : State) (top : Frame) (func : ℕ) (l : Link) (args : List CoreValue) (e : Event) (new : State)
    → OnePlace s → (MayLeave top.purpose → s.passage ≡ None) → actor top < length s.tables → l.instance < length s.tables → l.instance ≢ actor top → IsSoundHandles (table_at s.tables l.instance)
    → CallsLowered s top func l args e new → OnePlace new
calls_lowered takes fine s top func l args e new one none lt lt_callee apart sound x =
    by_check s e new one x (λ shape y.
    by_check s e new one y (λ may z.
    by_check s e new one z (λ opened u.
    by_check s e new one u (λ room w.
    passes_arguments takes fine s (actor top) func l args e new one (none may) lt lt_callee apart sound w))))

-- ---- resources

calls_make : AddingIsFine → (s : State) (top : Frame) (r : ResourceId) (args : List CoreValue) (e : Event) (new : State)
    → OnePlace s → (MayLeave top.purpose → s.passage ≡ None) → actor top < length s.tables → IsSoundHandles (table_at s.tables (actor top))
    → Makes s top r args e new → OnePlace new
calls_make fine s top r args e new one none lt sound x =
    by_check s e new one x (λ shape y.
    by_check s e new one y (λ may z.
    by_check s e new one z (λ can u.
    by_memory s e new one u (λ w.
    subst OnePlace (sym w.1) (new_keeps fine s (actor top) r (slot_at args 0) (none may) one lt sound can)))))

told : (o : Result Handle HandleFault) (s : State) (i : ℕ) (e : Event) (new : State) → OnePlace s → TellsFound o s i e new → OnePlace new
told (Err f) s i e new one x = by_trap s (trap_of_handle f) e new one x
told (Ok h) s i e new one x = subst OnePlace (sym x.1) one

pub drops_owned : (s : State) (i : ℕ) (r : ResourceId) (d : Option ℕ) (index : ℕ) (h : Handle) (e : Event) (new : State)
    → OnePlace s → s.passage ≡ None → i < length s.tables → StandsIn s i index h → h.kind ≡ handle.Owned → DropsOwned s i r d index h e new → OnePlace new
drops_owned s i r None index h e new one none lt stands owned x = subst OnePlace (sym x.1) (drop_keeps s i index h none one lt stands owned)
drops_owned s i r (Some f) index h e new one none lt stands owned x =
    by_check s e new one x (λ opened y.
    by_check s e new one y (λ room z.
    subst OnePlace (sym z.1)
    (subst (λ (o : Option Passage). HaveOnePlace (standing (after_drop s i index h).tables) (owners_of (after_drop s i index h).owners) (length s.stack) (travelling o)) (sym none)
    (any_frame (standing (after_drop s i index h).tables) (owners_of (after_drop s i index h).owners) (length (below_top s.stack)) (length s.stack)
    (subst (λ (o : Option Passage). HaveOnePlace (standing (after_drop s i index h).tables) (owners_of (after_drop s i index h).owners) (length (below_top s.stack)) (travelling o)) none
    (drop_keeps s i index h none one lt stands owned))))))

-- a handle that was borrowed goes
unborrowed : (t : Handles) (index call : ℕ) (b : Handle) → handle_at t index ≡ Some b → b.kind ≡ handle.Borrowed call → OwnSame t (after_release t index)
unborrowed t index call b stands kind = record {
  there = λ k h st owned. elim (cases_eq k index) as (λ r. (e : Handle) × (handle_at (after_release t index) k ≡ Some e) × (e.kind ≡ handle.Owned) × (e.serial ≡ h.serial)) [
    | inl same ↦ absurd (owned_is_no_borrow call (sym owned ∙ (ap (λ (x : Handle). x.kind) (same_Some h b (sym st ∙ (ap (λ x. handle_at t x) same ∙ stands))) ∙ kind)))
    | inr ne ↦ (h, get_or-set_other t.slots index k None None ne ∙ st, owned, refl)
  ];
  back = λ k h st owned. elim (cases_eq k index) as (λ r. (e : Handle) × (handle_at t k ≡ Some e) × (e.kind ≡ handle.Owned) × (e.serial ≡ h.serial)) [
    | inl same ↦ absurd (none-some h (sym (released t index b stands) ∙ (ap (λ x. handle_at (after_release t index) x) (sym same) ∙ st)))
    | inr ne ↦ (h, sym (get_or-set_other t.slots index k None None ne) ∙ st, owned, refl)
  ];
} where
  owned_is_no_borrow : (c : ℕ) → handle.Owned ≡ handle.Borrowed c → ⊥
  owned_is_no_borrow c e = cc (e)

drops_handle : (kind : HandleKind) (s : State) (i : ℕ) (r : ResourceId) (d : Option ℕ) (index : ℕ) (h : Handle) (e : Event) (new : State)
    → h.kind ≡ kind → OnePlace s → s.passage ≡ None → i < length s.tables → StandsIn s i index h → DropsHandle kind s i r d index h e new → OnePlace new
drops_handle handle.Owned s i r d index h e new is one none lt stands x = drops_owned s i r d index h e new one none lt stands is x
drops_handle (handle.Borrowed call) s i r d index h e new is one none lt stands x =
    subst OnePlace (sym x.1)
    (replaced s.tables i (after_release (table_at s.tables i) index) (owners_of s.owners) (length (below_top s.stack)) (travelling s.passage)
    (unborrowed (table_at s.tables i) index call h stands is) one)

drops_found : (o : Result Handle HandleFault) (s : State) (i : ℕ) (r : ResourceId) (d : Option ℕ) (index : ℕ) (e : Event) (new : State)
    → if_not_lent (look_up (table_at s.tables i) index r) ≡ o → OnePlace s → s.passage ≡ None → i < length s.tables → DropsFound o s i r d index e new → OnePlace new
drops_found (Err f) s i r d index e new is one none lt x = by_trap s (trap_of_handle f) e new one x
drops_found (Ok h) s i r d index e new is one none lt x =
    drops_handle h.kind s i r d index h e new refl one none lt
    (looked (handle_at (table_at s.tables i) index) r h (not_lent (look_up (table_at s.tables i) index r) h is)) x

calls_drop : (s : State) (top : Frame) (r : ResourceId) (d : Option ℕ) (args : List CoreValue) (e : Event) (new : State)
    → OnePlace s → (MayLeave top.purpose → s.passage ≡ None) → actor top < length s.tables → Drops s top r d args e new → OnePlace new
calls_drop s top r d args e new one none lt x =
    by_check s e new one x (λ shape y.
    by_check s e new one y (λ may z.
    drops_found (if_not_lent (look_up (table_at s.tables (actor top)) (slot_at args 0) r)) s (actor top) r d (slot_at args 0) e new refl one (none may) lt z))

calls_tell : (s : State) (top : Frame) (r : ResourceId) (args : List CoreValue) (e : Event) (new : State) → OnePlace s → Represents s top r args e new → OnePlace new
calls_tell s top r args e new one x =
    by_check s e new one x (λ shape y. told (look_up (table_at s.tables (actor top)) (slot_at args 0) r) s (actor top) e new one y)

-- what is known of a core function that is called
pub record KnowsCallee (s : State) (i : ℕ) (l : Link) : Type 0 where
  pub there : l.instance < length s.tables
  pub apart : l.instance ≢ i
  pub sound : IsSoundHandles (table_at s.tables l.instance)

calls : LiftTakes → AddingIsFine → (s : State) (top : Frame) (func : ℕ) (o : Option CoreFunc) (args : List CoreValue) (e : Event) (new : State)
    → OnePlace s → (MayLeave top.purpose → s.passage ≡ None) → actor top < length s.tables → IsSoundHandles (table_at s.tables (actor top))
    → ((l : Link) → o ≡ Some (lowered l) → KnowsCallee s (actor top) l) → Calls s top func o args e new → OnePlace new
calls takes fine s top func None args e new one none lt sound knows x = by_trap s trap.UnknownFunction e new one x
calls takes fine s top func (Some guest) args e new one none lt sound knows x = by_trap s trap.UnknownFunction e new one x
calls takes fine s top func (Some (lowered l)) args e new one none lt sound knows x =
    let k = knows l refl in calls_lowered takes fine s top func l args e new one none lt k.there k.apart k.sound x
calls takes fine s top func (Some (makes r)) args e new one none lt sound knows x = calls_make fine s top r args e new one none lt sound x
calls takes fine s top func (Some (drops r d)) args e new one none lt sound knows x = calls_drop s top r d args e new one none lt x
calls takes fine s top func (Some (represents r)) args e new one none lt sound knows x = calls_tell s top r args e new one x

-- ---- returns

pub answers : AddingIsFine → (s : State) (l : Link) (way : Way) (call : Call) (values : List CoreValue) (e : Event) (new : State)
    → OnePlace s → (receiver_of way (top_place s) l call).instance < length s.tables → IsSoundHandles (table_at s.tables (receiver_of way (top_place s) l call).instance)
    → Answers s l way call values e new → OnePlace new
answers fine s l way call values e new one lt sound x =
    by_wrong_answer x.8 where
      with_passage : (q : Passage) → q.leaves ≡ x.0.leaves → OnePlace (record s { passage = Some q })
      with_passage q same =
          subst (λ (ls : List HandleLeaf). HaveOnePlace (standing s.tables) (owners_of s.owners) (length (below_top s.stack)) (serials (owned_in ls))) (sym same)
          (subst (λ (o : Option Passage). HaveOnePlace (standing s.tables) (owners_of s.owners) (length (below_top s.stack)) (travelling o)) x.4 one)

      by_wrong_answer : UnlessWrong s
          (answer_fault (length (memory_at s.memories (receiver_of way (top_place s) l call).instance)) x.3 (slot_at values 0))
          (λ e new. (q : Passage) × IsAnswered (asked_for l way x.0 x.1) x.0 (slot_at values 0) q
          × GoesOn (record s { passage = Some q }) (top_place s) l way call q x.1 (x.2 ++ slot_at values 0 ∷ []) e new)
          e new → OnePlace new
      by_wrong_answer y =
          by_wrong (λ e new. (q : Passage) × IsAnswered (asked_for l way x.0 x.1) x.0 (slot_at values 0) q
          × GoesOn (record s { passage = Some q }) (top_place s) l way call q x.1 (x.2 ++ slot_at values 0 ∷ []) e new)
          s (answer_fault (length (memory_at s.memories (receiver_of way (top_place s) l call).instance)) x.3 (slot_at values 0)) e new one y
          (λ z. goes_on fine (record s { passage = Some z.0 }) (top_place s) l way call z.0 x.1 (x.2 ++ slot_at values 0 ∷ []) e new (with_passage z.0 z.1.leaves) refl lt sound z.2)

places_result : AddingIsFine → (b : Bool) (s : State) (l : Link) (call : Call) (p : Passage) (v : Val) (e : Event) (new : State)
    → OnePlace s → s.passage ≡ Some p → call.caller < length s.tables → IsSoundHandles (table_at s.tables call.caller)
    → PlacesResult b s l call p v e new → OnePlace new
places_result fine false s l call p v e new one is lt sound x = goes_on fine s (top_place s) l results call p v [] e new one is lt sound x
places_result fine true s l call p v e new one is lt sound x = wrong x.2 where
  with_passage : (q : Passage) → q.leaves ≡ p.leaves → OnePlace (record s { passage = Some q })
  with_passage q same =
      subst (λ (ls : List HandleLeaf). HaveOnePlace (standing s.tables) (owners_of s.owners) (length (below_top s.stack)) (serials (owned_in ls))) (sym same)
      (subst (λ (o : Option Passage). HaveOnePlace (standing s.tables) (owners_of s.owners) (length (below_top s.stack)) (travelling o)) is one)

  wrong : UnlessWrong s (answer_fault (length (memory_at s.memories call.caller)) x.0 call.result_at)
      (λ e new. (q : Passage) × IsAnswered (asked_for l results p v) p call.result_at q
      × GoesOn (record s { passage = Some q }) (top_place s) l results call q v (call.result_at ∷ []) e new)
      e new → OnePlace new
  wrong y =
      by_wrong (λ e new. (q : Passage) × IsAnswered (asked_for l results p v) p call.result_at q
      × GoesOn (record s { passage = Some q }) (top_place s) l results call q v (call.result_at ∷ []) e new)
      s (answer_fault (length (memory_at s.memories call.caller)) x.0 call.result_at) e new one y
      (λ z. goes_on fine (record s { passage = Some z.0 }) (top_place s) l results call z.0 v (call.result_at ∷ []) e new (with_passage z.0 z.1.leaves) refl lt sound z.2)

returns_result : LiftTakes → AddingIsFine → (s : State) (l : Link) (call : Call) (values : List CoreValue) (e : Event) (new : State)
    → OnePlace s → s.passage ≡ None → l.instance < length s.tables → call.caller < length s.tables → call.caller ≢ l.instance → IsSoundHandles (table_at s.tables call.caller)
    → ReturnsResult s l call values e new → OnePlace new
returns_result takes fine s l call values e new one none lt lt_caller apart sound (inl x) = by_trap s (trap_of x.0) e new one x.2
returns_result takes fine s l call values e new one none lt lt_caller apart sound (inr (inl x)) = by_trap s trap.EngineMemory e new one x.1
returns_result takes fine s l call values e new one none lt lt_caller apart sound (inr (inr x)) =
    let w : View = view_of s l.instance l.callee.encoding (top_place s) in
    let ms : List Met = met w results (types_of l results) values x.0 in
    let st : State = in_phase phase.Results l.instance call (after_lift s l.instance (top_place s) ms x.1) in
    let there : OnePlace st = lifted_one takes s s.stack l.instance (top_place s) l results w values x.0 x.1 refl lt (none_away s (top_place s) none one) x.2 x.3 x.4 in
    by_memory st e new there x.5 (λ y.
    places_result fine (is_spilled results (types_of l results)) st l call x.1 x.0 e new there refl
    (subst (λ (n : ℕ). call.caller < n) (sym (length-set s.tables l.instance (after_met (table_at s.tables l.instance) ms))) lt_caller)
    (subst (λ (t : Handles). IsSoundHandles t) (sym (table_other s.tables l.instance call.caller (after_met (table_at s.tables l.instance) ms) apart)) sound) y)

returns_in : LiftTakes → AddingIsFine → (ph : Phase) (s : State) (l : Link) (call : Call) (values : List CoreValue) (e : Event) (new : State)
    → OnePlace s → PassesIn ph s l call s.passage → l.instance < length s.tables → call.caller < length s.tables → call.caller ≢ l.instance
    → IsSoundHandles (table_at s.tables call.caller) → IsSoundHandles (table_at s.tables l.instance) → ReturnsIn ph s l call values e new → OnePlace new
returns_in takes fine phase.Arguments s l call values e new one passes lt lt_caller apart sound sound_callee x =
    by_check s e new one x (λ shape y. answers fine s l params call values e new one lt sound_callee y)
returns_in takes fine phase.Body s l call values e new one passes lt lt_caller apart sound sound_callee x =
    by_check s e new one x (λ shape y. by_check s e new one y (λ borrows z. returns_result takes fine s l call values e new one passes lt lt_caller apart sound z))
returns_in takes fine phase.Results s l call values e new one passes lt lt_caller apart sound sound_callee x =
    by_check s e new one x (λ shape y. answers fine s l results call values e new one lt_caller sound y)
returns_in takes fine (phase.PostReturn r) s l call values e new one passes lt lt_caller apart sound sound_callee x =
    by_check s e new one x (λ shape y. subst OnePlace (sym y.1) (end_keeps s (top_place s) passes one))

popped_one : (s : State) → s.passage ≡ None → OnePlace s → OnePlace (popped s)
popped_one s none one =
    subst (λ (o : Option Passage). HaveOnePlace (standing s.tables) (owners_of s.owners) (length (below_top (below_top s.stack))) (travelling o)) (sym none)
    (none_away s (length (below_top (below_top s.stack))) none one)

-- what is known of a call that stands
pub record KnowsCall (s : State) (l : Link) (call : Call) : Type 0 where
  pub callee : l.instance < length s.tables
  pub caller : call.caller < length s.tables
  pub apart : call.caller ≢ l.instance
  pub sound_caller : IsSoundHandles (table_at s.tables call.caller)
  pub sound_callee : IsSoundHandles (table_at s.tables l.instance)

returns : LiftTakes → AddingIsFine → (plan : Plan) (s : State) (pu : Purpose) (values : List CoreValue) (e : Event) (new : State)
    → OnePlace s → PassesFor plan s pu → ((call : Call) (l : Link) → pu ≡ purpose.Call call → Reaches plan call.caller call.func l → KnowsCall s l call) → Returns plan s pu values e new → OnePlace new
returns takes fine plan s purpose.Root values e new one passes knows x = by_check s e new one x (λ shape y. subst OnePlace (sym y.1) (popped_one s passes one))
returns takes fine plan s (purpose.Call call) values e new one passes knows x =
    let k = knows call x.0 refl x.1 in
    returns_in takes fine call.phase s x.0 call values e new one (passes x.0 x.1) k.callee k.caller k.apart k.sound_caller k.sound_callee x.2
returns takes fine plan s (purpose.Destructor d) values e new one passes knows x = by_check s e new one x (λ shape y. subst OnePlace (sym y.1) (popped_one s passes one))

-- ---- a step

pub call_stands : (plan : Plan) (s : State) (i : ℕ) (fs : List Frame) (pu : Purpose) (call : Call) (l : Link) → IsValidState plan s → StandsOn plan pu i fs → IsStack plan fs
    → pu ≡ purpose.Call call → Reaches plan call.caller call.func l → KnowsCall s l call
call_stands plan s i fs pu call l valid stands below is reach =
    let caller_in : call.caller < length plan = caller_there plan fs call i (subst (λ (p : Purpose). StandsOn plan p i fs) is stands) below in
    let link : IsLink plan call.caller l = valid.linked.core_funcs call.caller call.func (lowered l) reach in
    record {
      callee = omega (arith, link.earlier, caller_in, valid.tables);
      caller = omega (arith, caller_in, valid.tables);
      apart = λ same. omega (arith, same, link.earlier);
      sound_caller = valid.sound call.caller;
      sound_callee = valid.sound l.instance;
    }

moved : LiftTakes → AddingIsFine → (plan : Plan) (s : State) (top : Frame) (fs : List Frame) (m : Move) (e : Event) (new : State)
    → IsValidState plan s → IsStack plan (top ∷ fs) → PassesFor plan s top.purpose → Moves plan s top m e new → OnePlace new
moved takes fine plan s top fs (move.Write at bytes) e new valid stack passes x =
    by_check s e new valid.one_place x (λ inside y. subst OnePlace (sym y.1) valid.one_place)
moved takes fine plan s top fs (move.Grow pages) e new valid stack passes (inl x) = subst OnePlace (sym x.2) valid.one_place
moved takes fine plan s top fs (move.Grow pages) e new valid stack passes (inr (inl x)) = subst OnePlace (sym x.2) valid.one_place
moved takes fine plan s top fs (move.Grow pages) e new valid stack passes (inr (inr x)) = by_trap s trap.EngineMemory e new valid.one_place x.2
moved takes fine plan s top fs (move.Call func args) e new valid stack passes x =
    let lt : actor top < length s.tables = omega (arith, actor_there plan fs top stack, valid.tables) in
    calls takes fine s top func (core_func_at plan (actor top) func) args.items e new valid.one_place
    (λ may. none_for plan s top.purpose top.instance fs stack.1 passes may) lt (valid.sound (actor top))
    (λ l is.
    let link : IsLink plan (actor top) l = valid.linked.core_funcs (actor top) func (lowered l) is in
    record { there = omega (arith, link.earlier, lt); apart = λ same. omega (arith, same, link.earlier); sound = valid.sound l.instance }) x
moved takes fine plan s top fs (move.Return values) e new valid stack passes x =
    returns takes fine plan s top.purpose values.items e new valid.one_place passes
    (λ call l is reach. call_stands plan s top.instance fs top.purpose call l valid stack.1 stack.2 is reach) x
moved takes fine plan s top fs move.Unreachable e new valid stack passes x = by_trap s trap.Unreachable e new valid.one_place x

stepped : LiftTakes → AddingIsFine → (plan : Plan) (s : State) (fs : List Frame) (m : Move) (e : Event) (new : State)
    → IsValidState plan s → s.stack ≡ fs → StepOn plan fs s m e new → OnePlace new
stepped takes fine plan s [] m e new valid is x = absurd x
stepped takes fine plan s (top ∷ fs) m e new valid is x =
    moved takes fine plan s top fs m e new valid (subst (λ (st : List Frame). IsStack plan st) is valid.stack) (subst (λ (st : List Frame). PassesAtTop plan s st) is valid.passes) x

pub steps_keep : LiftTakes → AddingIsFine → (plan : Plan) (s : State) (m : Move) (e : Event) (new : State) → IsValidState plan s → Step plan s m e new → OnePlace new
steps_keep takes fine plan s m e new valid x = stepped takes fine plan s s.stack m e new valid refl x
