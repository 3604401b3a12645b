-- A call once its arguments were lifted and its frame stands.
use Rattle.std.proofs.Common.{◌≡◌, ℕ, ◌<◌, ◌≤◌, inl, inr, List, [], ◌∷◌, length, Some, true, refl, sym, ap, subst, ◌∙◌, arith}
use Rattle.std.specs.Prelude.{Contains, slice_set}
use Rattle.std.proofs.lemmas.List.{length-set}
use Rattle.cm_types.specs.declared.core_value.CoreValue.{CoreValue}
use Rattle.cm_types.specs.Values.{Val}
use Rattle.cm_handles.specs.Borrows.{borrows_of}
use Rattle.cm_handles.specs.Handles.{Handles, IsSoundHandles}
use Rattle.cm_abi_model.specs.Bytes.{AreBytes}
use Rattle.cm_abi_model.specs.Requests.{parts_of}
use Rattle.cm_abi_model.specs.Taken.{Met, after_met, met}
use Rattle.cm_abi_model.specs.Views.{params}
use Rattle.cm_machine_model.specs.Memories.{memory_at}
use Rattle.cm_machine_model.specs.declared.event.Event.{Event}
use Rattle.cm_machine_model.specs.declared.event.Event.TheVariants as event
use Rattle.cm_machine_model.specs.declared.event.Trap.{Trap}
use Rattle.cm_machine_model.specs.declared.event.Trap.TheVariants as trap
use Rattle.cm_machine_model.specs.declared.limits.TheConstants.{MAX_FRAMES}
use Rattle.cm_machine_model.specs.declared.frame.Call.{Call}
use Rattle.cm_machine_model.specs.declared.frame.Frame.{Frame}
use Rattle.cm_machine_model.specs.declared.frame.Lend.{Lend}
use Rattle.cm_machine_model.specs.declared.frame.Phase.TheVariants as phase
use Rattle.cm_machine_model.specs.declared.frame.Purpose.TheVariants as purpose
use Rattle.cm_machine_model.specs.Passages.{Carries, IsScanned, asked_for}
use Rattle.cm_machine_model.specs.Plan.{Link, Plan, Reaches, types_of}
use Rattle.cm_machine_model.specs.Stack.{actor, below_top, top_of}
use Rattle.cm_machine_model.specs.State.{Passage, State, after_trap, table_at}
use Rattle.cm_machine_model.specs.Step.{GoesOn, HasRoom, MayLeave, PassesArguments, UnlessNoMemory, after_lift, after_lift_of_args, arg_slots, args_view, call_frame, new_call, pushed, result_place, top_place}
use Rattle.cm_machine_model.specs.Valid.{IsStack}
use Rattle.cm_machine_parts.specs.Kept.{AreBorrowsCounted, IsEncoded, Runs}
use Rattle.cm_machine_parts.specs.Lends.{NoneAbove}
use Rattle.cm_machine_parts.specs.States.{state_of}
use Rattle.cm_machine_parts.specs.declared.state.State.{State as CodedState}
use Rattle.cm_machine_calls.specs.Calling.{HasArguments}
use Rattle.cm_machine_calls.specs.Going.{IsUnderWay, passage_now}
use Rattle.cm_machine_calls.specs.Lifting.{IsLifted, StopsLift}
use Rattle.cm_machine_calls.proofs.Lifted.{counted_call, lift_stops, none_answered, sound_lifted}
use Rattle.cm_machine_calls.proofs.Standing.{has_funcs, link_of, top_parts}
use Rattle.cm_machine_parts.proofs.Tables.{length_handles}
use Rattle.cm_abi_model.proofs.AnsweringLaws.{no_fault}

-- ---- the state

-- the frame that is pushed is the call's
pub frame_is : (caller func at i : ℕ) (l : Link) (args : List CoreValue) → i ≡ l.instance → at ≡ result_place l args
    → ◌≡◌ {A = Frame} (record { instance = i; purpose = purpose.Call (record { caller = caller; func = func; result_at = at; phase = phase.Arguments }) }) (call_frame caller func l args)
frame_is caller func at i l args instance place =
    ap {B = Frame} (λ (n : ℕ). record { instance = n; purpose = purpose.Call (record { caller = caller; func = func; result_at = at; phase = phase.Arguments }) }) instance
    ∙ ap {B = Frame} (λ (n : ℕ). record { instance = l.instance; purpose = purpose.Call (record { caller = caller; func = func; result_at = n; phase = phase.Arguments }) }) place

pub call_is : (caller func at : ℕ) (l : Link) (args : List CoreValue) → at ≡ result_place l args
    → ◌≡◌ {A = Call} (record { caller = caller; func = func; result_at = at; phase = phase.Arguments }) (new_call caller func l args)
call_is caller func at l args place = ap {B = Call} (λ (n : ℕ). record { caller = caller; func = func; result_at = n; phase = phase.Arguments }) place

-- the state after the lift with a frame and lends put on
pub with_call : (s mid : State) (caller place : ℕ) (ms : List Met) (p : Passage) (f : Frame) (fs : List Frame) (ls more : List Lend) → mid ≡ record (after_lift s caller place ms p) { lends = s.lends }
    → fs ≡ f ∷ s.stack → ls ≡ more
    → ◌≡◌ {A = State} (record mid { stack = fs; lends = ls }) (record (pushed f (after_lift s caller place ms p)) { lends = more })
with_call s mid caller place ms p f fs ls more is frames lends =
    ap {B = State} (λ (x : State). record x { stack = fs; lends = ls }) is
    ∙ ap {B = State} (λ (x : List Frame). record (after_lift s caller place ms p) { stack = x; lends = ls }) frames
    ∙ ap {B = State} (λ (x : List Lend). record (after_lift s caller place ms p) { stack = f ∷ s.stack; lends = x }) lends

-- ---- what is under way

module _ (plan : Plan) (s new : CodedState) (i func : ℕ) (l : Link) (args : List CoreValue) (v : Val) (top : Frame)
    (runs : Runs plan s) (on_top : top_of s.stack.frames ≡ Some top) (acts : actor top ≡ i) (leaves : MayLeave top.purpose) (room : HasRoom (state_of s))
    (reaches : Reaches plan i func l) (there : i < length (state_of s).tables)
    (is : state_of new ≡ after_lift_of_args (state_of s) i func l args v (passage_now new))
    (scanned : IsScanned (args_view (state_of s) i l) l params (arg_slots l args) v (passage_now new)) where
  abbrev ms : List Met
  ms = met (args_view (state_of s) i l) params (types_of l params) (arg_slots l args) v

  abbrev after : Handles
  after = after_met (table_at (state_of s).tables i) ms

  memories_are : new.memories ≡ s.memories
  memories_are = ap (λ (x : State). x.memories) is

  tables_are : (state_of new).tables ≡ slice_set (state_of s).tables i after
  tables_are = ap (λ (x : State). x.tables) is

  frames_are : new.stack.frames ≡ call_frame i func l args ∷ s.stack.frames
  frames_are = ap (λ (x : State). x.stack) is

  stands_are : IsStack plan (call_frame i func l args ∷ s.stack.frames)
  stands_are =
      let link = link_of plan i func l runs.valid.linked reaches in
      (omega (arith, link.earlier, has_funcs plan i func l reaches), ((l, reaches, refl), (top, on_top, acts, leaves)), runs.valid.stack)

  pub args_under : new.passing.scan.has_value ≡ true → IsEncoded l params new.passing → IsSoundHandles (table_at (state_of new).tables i)
      → length s.stack.borrows ≡ MAX_FRAMES → new.stack.borrows ≡ slice_set s.stack.borrows (length s.stack.frames) 0 → borrows_of (length s.stack.frames) (table_at (state_of s).tables l.instance) ≡ 0
      → ((call : ℕ) → borrows_of call after ≡ borrows_of call (table_at (state_of s).tables i)) → IsUnderWay plan new l params (new_call i func l args) v []
  args_under passes encoded sound places borrows none same = record {
    link = link_of plan i func l runs.valid.linked reaches;
    reaches = reaches;
    phase = refl;
    caller = has_funcs plan i func l reaches;
    below = s.stack.frames;
    stack = frames_are;
    few = omega (arith, ap (λ (x : List Frame). length x) frames_are, room);
    places = ap (λ (x : List ℕ). length x) borrows ∙ length-set s.stack.borrows (length s.stack.frames) 0 ∙ places;
    passes = passes;
    encoded = encoded;
    bytes = subst (λ (m : List (List ℕ)). AreBytes (memory_at m i)) (sym memories_are) (runs.valid.bytes i);
    carried = subst (λ (m : List (List ℕ)). Carries (memory_at m i) l params (passage_now new) v) (sym memories_are) scanned.carried;
    some = omega arith;
    answered = none_answered (args_view (state_of s) i l) l params (arg_slots l args) v (passage_now new) scanned;
    fine = no_fault (length (memory_at new.memories l.instance)) (asked_for l params (passage_now new) v);
    memories = ap (λ (m : List (List ℕ)). length m) memories_are ∙ runs.valid.memories;
    tables = sym (length_handles new.tables.items) ∙ ap (λ (t : List Handles). length t) tables_are ∙ length-set (state_of s).tables i after ∙ runs.valid.tables;
    sound = sound_lifted (state_of s).tables (state_of new).tables i after tables_are runs.valid.sound sound;
    counted =
        subst (λ (t : List Handles). AreBorrowsCounted new.stack.borrows new.stack.frames t) (sym tables_are)
        (subst (λ (fs : List Frame). AreBorrowsCounted new.stack.borrows fs (slice_set (state_of s).tables i after)) (sym frames_are)
        (counted_call s.stack.borrows new.stack.borrows (call_frame i func l args) s.stack.frames (state_of s).tables i after there (omega (arith, places, room)) borrows none same runs.kept.counted));
    stands = subst (λ (fs : List Frame). IsStack plan fs) (sym frames_are) stands_are;
    ends = λ e. absurd (cc (e));
  }

-- ---- rows

-- no memory for the lends
pub lends_refused : (s mid : State) (i func : ℕ) (l : Link) (args : List CoreValue) (p : Passage) (lends : List ℕ) (fs : List Frame) (t : Trap)
    → (x : IsLifted s mid (args_view s i l) l params i (length s.stack) (arg_slots l args) p lends) → fs ≡ call_frame i func l args ∷ s.stack → 0 < length lends → t ≡ trap.EngineMemory
    → (new : State) → new ≡ record mid { stack = fs } → PassesArguments s i func l args (event.Trapped t) (after_trap new)
lends_refused s mid i func l args p lends fs t x frames some none new is =
    let ms = met (args_view s i l) params (types_of l params) (arg_slots l args) x.v in
    let here : ◌≡◌ {A = State} (record mid { stack = fs }) (record (pushed (call_frame i func l args) (after_lift s i (length s.stack) ms p)) { lends = s.lends }) =
    ap {B = State} (λ (y : State). record y { stack = fs }) x.is ∙ ap {B = State} (λ (y : List Frame). record (after_lift s i (length s.stack) ms p) { stack = y; lends = s.lends }) frames in
    inr (inr (x.v, p, x.denoted, x.transferable, x.scanned, inl (x.some some, (ap (λ (y : Trap). event.Trapped y) none, ap after_trap (is ∙ here)))))

-- the arguments are passed as the call goes on
pub passes_on : (plan : Plan) (old new : CodedState) (i func : ℕ) (l : Link) (args : List CoreValue) (call : Call) (e : Event) (st : State) (h : HasArguments plan old new i func l args call)
    → GoesOn (state_of new) (top_place (state_of new)) l params call (passage_now new) h.v [] e st → PassesArguments (state_of old) i func l args e st
passes_on plan old new i func l args call e st h goes =
    let s = state_of old in
    let p = passage_now new in
    let at : GoesOn (state_of new) (top_place (state_of new)) l params (new_call i func l args) p h.v [] e st =
    subst (λ (c : Call). GoesOn (state_of new) (top_place (state_of new)) l params c p h.v [] e st) h.call_is goes in
    inr (inr (
      h.v,
      p,
      h.denoted,
      h.transferable,
      h.scanned,
      inr (subst (λ (y : State). GoesOn y (top_place y) l params (new_call i func l args) p h.v [] e st) h.is at),
    ))

-- what a lift for a call has lifted, at the arguments and the place of the call
pub lifted_at : (s mid : State) (i place : ℕ) (l : Link) (args xs : List CoreValue) (p : Passage) (lends : List ℕ) → xs ≡ arg_slots l args → place ≡ length s.stack
    → IsLifted s mid (args_view s i l) l params i place xs p lends → IsLifted s mid (args_view s i l) l params i (length s.stack) (arg_slots l args) p lends
lifted_at s mid i place l args xs p lends slots at x =
    subst (λ (n : ℕ). IsLifted s mid (args_view s i l) l params i n (arg_slots l args) p lends) at
    (subst (λ (ys : List CoreValue). IsLifted s mid (args_view s i l) l params i place ys p lends) slots x)

-- no lend is to a call at a place that is to come
pub none_to_come : (s : CodedState) (top : Frame) (ls : List Lend) → top_of s.stack.frames ≡ Some top → ls ≡ s.lends → NoneAbove (length (below_top s.stack.frames)) s.lends → NoneAbove (length s.stack.frames) ls
none_to_come s top ls on_top same above l among =
    let less : l.frame ≤ length (below_top s.stack.frames) = above l (subst (λ (x : List Lend). Contains x l) same among) in
    omega (arith, less, ap (λ (x : List Frame). length x) (top_parts s.stack.frames top on_top))

-- the lift of the arguments stops
pub args_stop : (s new : State) (i func : ℕ) (l : Link) (args : List CoreValue) (t : Trap) → StopsLift (args_view s i l) l params (arg_slots l args) t → new ≡ s
    → PassesArguments s i func l args (event.Trapped t) (after_trap new)
args_stop s new i func l args t stops same =
    lift_stops s new (args_view s i l) l params (arg_slots l args)
    (λ v p. UnlessNoMemory (after_lift_of_args s i func l args v p) (0 < parts_of params (types_of l params) v)
    (GoesOn (after_lift_of_args s i func l args v p) (length s.stack) l params (new_call i func l args) p v [])) t stops same
