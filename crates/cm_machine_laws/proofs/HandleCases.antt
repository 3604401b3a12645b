-- What each case of a step changes of handles.
use Rattle.std.proofs.Common.{◌≡◌, ℕ, ◌<◌, ◌≤◌, List, [], ◌∷◌, ◌++◌, length, Option, Some}
use Rattle.std.proofs.Common.{None, refl, sym, ap, subst, ◌∙◌, arith, length-append}
use Rattle.std.specs.Prelude.{slice_get, slice_set, ◌≢◌, Ok}
use Rattle.std.specs.declared.alloc.Global.{Global}
use Rattle.std.specs.declared.vec.Vec.{Vec}
use Rattle.cm_types.specs.declared.core_value.CoreValue.{CoreValue}
use Rattle.cm_types.specs.declared.core_value.CoreValue.TheVariants as core_value
use Rattle.cm_types.specs.declared.resource.ResourceId.{ResourceId}
use Rattle.cm_types.specs.Values.{Val}
use Rattle.cm_handles.specs.Handles.{Handles, IsSoundHandles, after_add, after_release, handle_at}
use Rattle.cm_handles.specs.Handles.{indices_left, look_up, next_index}
use Rattle.cm_handles.specs.Changes.{AddsTo, ReleasesFrom}
use Rattle.cm_handles.specs.declared.handle.Handle.{Handle}
use Rattle.cm_handles.specs.declared.handle.HandleKind.{HandleKind}
use Rattle.cm_handles.specs.declared.handle.HandleKind.TheVariants as handle
use Rattle.cm_abi_model.specs.declared.receiver.Receiver.{Receiver}
use Rattle.cm_abi_model.specs.Giving.{added_count, after_given}
use Rattle.cm_abi_model.specs.Handed.{IsHanded}
use Rattle.cm_abi_model.specs.Numbers.{slot_at}
use Rattle.cm_abi_model.specs.Receives.{HandleLeaf}
use Rattle.cm_abi_model.specs.Taken.{MAX_CONTENT, Met, after_met, taken_of}
use Rattle.cm_abi_model.specs.Views.{params, results}
use Rattle.cm_machine_model.specs.declared.event.Event.{Event}
use Rattle.cm_machine_model.specs.declared.event.Event.TheVariants as event
use Rattle.cm_machine_model.specs.declared.moves.Move.{Move}
use Rattle.cm_machine_model.specs.declared.moves.Move.TheVariants as move
use Rattle.cm_machine_model.specs.declared.frame.Call.{Call}
use Rattle.cm_machine_model.specs.declared.frame.Frame.{Frame}
use Rattle.cm_machine_model.specs.declared.frame.Phase.{Phase}
use Rattle.cm_machine_model.specs.declared.frame.Place.{Place}
use Rattle.cm_machine_model.specs.declared.frame.Place.TheVariants as place
use Rattle.cm_machine_model.specs.declared.frame.Purpose.{Purpose}
use Rattle.cm_machine_model.specs.declared.frame.Purpose.TheVariants as purpose
use Rattle.cm_machine_model.specs.Cases.{Cases, HasPlace, IsCalled, IsFound, IsGiven, IsPlaced}
use Rattle.cm_machine_model.specs.Cases.{IsReturned, answer_asks, answer_ends, answer_enters}
use Rattle.cm_machine_model.specs.Cases.{answer_tidies, call_asks, call_enters, destroyed}
use Rattle.cm_machine_model.specs.Cases.{destructor_ended, dropped, given_back, grew, made}
use Rattle.cm_machine_model.specs.Cases.{place_changes, place_leaves, represented, return_asks}
use Rattle.cm_machine_model.specs.Cases.{return_ends, return_tidies, root_ended, stayed, tidied}
use Rattle.cm_machine_model.specs.Cases.{trapped, wrote}
use Rattle.cm_machine_model.specs.Plan.{CoreFunc, Link, Plan, core_func_at, makes, represents}
use Rattle.cm_machine_model.specs.Plan.{types_of}
use Rattle.cm_machine_model.specs.Stack.{actor, actor_in, actor_of, below_top}
use Rattle.cm_machine_model.specs.State.{Passage, State, table_at, tables_after_call}
use Rattle.cm_machine_model.specs.Step.{CanMake, after_call}
use Rattle.cm_machine_model.specs.Step.{after_lift_of_args, after_lift_of_result, after_new}
use Rattle.cm_machine_model.specs.Step.{new_call, popped, receiver_of, top_place, without_handle, as_values}
use Rattle.cm_machine_model.specs.Valid.{IsStack, IsValidState}
use Rattle.cm_machine_laws.specs.Answers.{Traps}
use Rattle.cm_machine_laws.specs.CallsOn.{IsBodyCall, IsHandingCall, IsPlacingCall, body_call}
use Rattle.cm_machine_laws.specs.CallsOn.{handing_call, placing_call, tidying_call}
use Rattle.cm_machine_laws.specs.Doing.{BodyReturn, Doing, LoweredCall, destroys, root}
use Rattle.cm_machine_laws.specs.Frames.{actor_stands, frame_there, match_length}
use Rattle.cm_machine_laws.specs.HandleChanges.{AreGone, DropsAs, HandlesAtCall, HandlesAtReturn}
use Rattle.cm_machine_laws.specs.HandleChanges.{HandlesByCall, HandlesByMove, HandlesByReturn}
use Rattle.cm_machine_laws.specs.HandleChanges.{HandlesStay, StayBut, indices_given, DtorOf}
use Rattle.cm_machine_laws.specs.HandleChanges.{AreAdded, GetsArgs, GetsHandles, GetsResult}
use Rattle.cm_machine_laws.specs.HandleChanges.{OtherHandlesStay}
use Rattle.cm_machine_laws.specs.Matching.{AllMatch, MatchOne}
use Rattle.cm_machine_laws.specs.Told.{WasReturned, WasSent, args_receiver, met_at_call, met_at_return}
use Rattle.cm_machine_laws.specs.Told.{returner_view, sender_view, sent_slots, result_receiver, returned_leaves}
use Rattle.cm_machine_laws.specs.Following.{AreFollowed, IsHanding, IsPlacing}
use Rattle.cm_machine_laws.proofs.Calls.{IsTurn, Laws, turn}
use Rattle.cm_machine_laws.specs.CallsOn.{as_framed, callee_apart, callee_there, caller_there, framed}
use Rattle.cm_machine_laws.proofs.Found.{Stands, looked}
use Rattle.cm_machine_laws.proofs.Tables.{added_stays, given_added}
use Rattle.cm_machine_laws.proofs.Tables.{Adds, call_ends, changes_one, given_stays}
use Rattle.cm_machine_laws.proofs.Tables.{gone_stays, met_gone, met_stays, stays_as}
use Rattle.cm_machine_laws.proofs.Tables.{set_length, stays_both, stays_but, table_other}
use Rattle.cm_handles.proofs.HandlesLaws.{free}
use Rattle.cm_lemmas.proofs.Lists.{get_set_same}
use Rattle.cm_machine_model.proofs.StateLaws.{table_same}

-- ---- one table of some

-- the handles of an instance are changed at these indices, and no other's
pub record OneChanges (ts us : List Handles) (i : ℕ) (is : List ℕ) : Type 0 where
  pub here : StayBut (table_at ts i) (table_at us i) is
  pub others : (j : ℕ) → (j ≡ i → ⊥) → StayBut (table_at ts j) (table_at us j) []

one_table : (ts us : List Handles) (i : ℕ) (new : Handles) (is : List ℕ) → i < length ts
    → us ≡ slice_set ts i new → StayBut (table_at ts i) new is → OneChanges ts us i is
one_table ts us i new is lt set changes =
    subst (λ (xs : List Handles). OneChanges ts xs i is) (sym set) (record {
      here = subst (λ (t : Handles). StayBut (table_at ts i) t is) (sym (table_same ts i new lt)) changes;
      others = λ j ne. stays_as (table_at ts j) (table_at (slice_set ts i new) j) (table_other ts i j new ne);
    })

-- ---- what was lifted

pub record IsLifted (ts us : List Handles) (i : ℕ) (ms : List Met) : Type 0 where
  pub changes : OneChanges ts us i (taken_of ms)
  pub gone : AreGone (table_at us i) (taken_of ms)
  pub same : (j : ℕ) → (j ≡ i → ⊥) → table_at us j ≡ table_at ts j

lifted : (ts us : List Handles) (i : ℕ) (ms : List Met) → i < length ts
    → us ≡ slice_set ts i (after_met (table_at ts i) ms)
    → IsHanded (table_at ts i) ms (after_met (table_at ts i) ms) → IsLifted ts us i ms
lifted ts us i ms lt set handed = record {
  changes = one_table ts us i (after_met (table_at ts i) ms) (taken_of ms) lt set (met_stays (table_at ts i) ms handed);
  gone = subst (λ (t : Handles). AreGone t (taken_of ms))
      (sym (ap (λ (xs : List Handles). table_at xs i) set ∙ table_same ts i (after_met (table_at ts i) ms) lt))
      (met_gone (table_at ts i) ms handed);
  same = λ j ne. ap (λ (xs : List Handles). table_at xs j) set ∙ table_other ts i j (after_met (table_at ts i) ms) ne;
}

-- ---- what is handed over

-- a receiver's table gets handles, and nobody else's changes
pub record IsGivenTo (ts us : List Handles) (to : Receiver) (leaves : List HandleLeaf) : Type 0
  where
    pub gets : GetsHandles to (table_at ts to.instance) leaves (table_at us to.instance)
    pub others : (j : ℕ) → (j ≡ to.instance → ⊥) → StayBut (table_at ts j) (table_at us j) []

given : Adds → (ts us : List Handles) (to : Receiver) (leaves : List HandleLeaf)
    → to.instance < length ts → IsSoundHandles (table_at ts to.instance)
    → added_count to leaves ≤ indices_left (table_at ts to.instance)
    → ((j : ℕ) → StayBut
    (table_at (slice_set ts to.instance (after_given to (table_at ts to.instance) leaves)) j)
    (table_at us j) [])
    → IsGivenTo ts us to leaves
given adds ts us to leaves lt sound room ends = record {
  gets = record {
    added = added_stays to leaves t (table_at mid to.instance) (table_at us to.instance) (ends to.instance)
        (subst (λ (u : Handles). AreAdded to t leaves u) (sym (table_same ts to.instance (after_given to t leaves) lt))
        (given_added adds to leaves t sound room));
    others = stays_both t (table_at mid to.instance) (table_at us to.instance) is first.here
        (stays_but (table_at mid to.instance) (table_at us to.instance) is (ends to.instance));
  };
  others = λ j ne.
      stays_both (table_at ts j) (table_at mid j) (table_at us j) [] (first.others j ne) (ends j);
} where
  t : Handles
  t = table_at ts to.instance

  is : List ℕ
  is = indices_given to t leaves

  mid : List Handles
  mid = slice_set ts to.instance (after_given to t leaves)

  first : OneChanges ts mid to.instance is
  first = one_table ts mid to.instance (after_given to t leaves) is lt refl
      (given_stays adds to leaves t sound room)

-- ---- what goes on where a root or a destructor ends

pub rooted : (plan : Plan) (top : Frame) (fs : List Frame) (ds : List Doing) → top.purpose ≡ purpose.Root
    → AllMatch plan (top ∷ fs) ds → (j : ℕ) × (rest : List Doing) × (ds ≡ root j ∷ rest)
rooted plan top fs [] pu m = absurd m
rooted plan top fs (d ∷ rest) pu m =
    by d (subst (λ (p : Purpose). MatchOne p plan top.instance (length fs) d) pu m.0) where
      by : (d : Doing) → MatchOne purpose.Root plan top.instance (length fs) d
          → (j : ℕ) × (others : List Doing) × (d ∷ rest ≡ root j ∷ others)
      by (root j) x = (j, rest, refl)
      by d x = absurd x

pub destroying : (plan : Plan) (top : Frame) (fs : List Frame) (ds : List Doing) (dropper : ℕ)
    → top.purpose ≡ purpose.Destructor dropper → AllMatch plan (top ∷ fs) ds
    → (who : ℕ) × (j : ℕ) × (rest : List Doing) × (ds ≡ destroys who j ∷ rest)
destroying plan top fs [] dropper pu m = absurd m
destroying plan top fs (d ∷ rest) dropper pu m =
    by d (subst (λ (p : Purpose). MatchOne p plan top.instance (length fs) d) pu m.0) where
      by : (d : Doing) → MatchOne (purpose.Destructor dropper) plan top.instance (length fs) d
          → (who : ℕ) × (j : ℕ) × (others : List Doing) × (d ∷ rest ≡ destroys who j ∷ others)
      by (destroys who j) x = (who, j, rest, refl)
      by d x = absurd x

pub all_stay : (s new : State) → new.tables ≡ s.tables → HandlesStay s new
all_stay s new is j =
    stays_as (table_at s.tables j) (table_at new.tables j) (ap (λ (ts : List Handles). table_at ts j) is)

-- what becomes of handles by a move with this event, unless it traps
abbrev pub Res : Plan → State → Frame → List Doing → Move → Event → State → Type 0
Res plan s top ds m e new = (Traps e → ⊥) → HandlesByMove plan ds s (actor top) m e new

module _ (laws : Laws) (plan : Plan) (s : State) (top : Frame) (fs : List Frame) (ds : List Doing)
    (is : s.stack ≡ top ∷ fs) (valid : IsValidState plan s) (m : AllMatch plan (top ∷ fs) ds)
    (f : AreFollowed s ds) where
  -- how much goes on
  count : length ds ≡ length s.stack
  count = match_length plan (top ∷ fs) ds m ∙ sym (ap (λ (gs : List Frame). length gs) is)

  place_is : top_place s ≡ length fs
  place_is = ap (λ (gs : List Frame). length (below_top gs)) is

  -- the table of the instance that acts is there
  acts_there : actor top < length s.tables
  acts_there =
      let st : IsStack plan (top ∷ fs) = subst (λ (gs : List Frame). IsStack plan gs) is valid.stack in
      let a = actor_stands plan top fs st in
      omega (arith, a.instance_is, frame_there plan (top ∷ fs) a.frame st a.among, valid.tables)

  -- ---- resources

  abbrev t : Handles
  t = table_at s.tables (actor top)

  made_case : (func : ℕ) (args : Vec CoreValue Global) (r : ResourceId)
      → core_func_at plan (actor top) func ≡ Some (makes r) → CanMake s (actor top)
      → HandlesByMove plan ds s (actor top) (move.Call func args)
      (event.Resume (actor top) (core_value.I32 (next_index t) ∷ []))
      (after_new s (actor top) r (slot_at args.items 0))
  made_case func args r reach can =
      subst (λ (o : Option CoreFunc). HandlesByCall s ds (actor top) o args.items (event.Resume (actor top) (core_value.I32 (next_index t) ∷ [])) new) (sym reach)
      (record {
        answer = refl;
        stands = ap (λ (u : Handles). handle_at u (next_index t)) (table_same s.tables (actor top) (after_add t h) acts_there) ∙ adds.changes.here;
        one_more = length-append s.owners (place.InTable (actor top) (next_index t) ∷ []);
        others = (changed.here, changed.others);
      }) where
        new : State
        new = after_new s (actor top) r (slot_at args.items 0)

        h : Handle
        h = record { resource = r; serial = length s.owners; lends = 0; rep = slot_at args.items 0; kind = handle.Owned }

        adds : AddsTo t h
        adds = laws.adds t h (valid.sound (actor top)) can.index

        changed : OneChanges s.tables new.tables (actor top) (next_index t ∷ [])
        changed = one_table s.tables new.tables (actor top) (after_add t h) (next_index t ∷ []) acts_there refl
            (changes_one t (after_add t h) (next_index t) adds.changes.others)

  told_case : (func : ℕ) (args : Vec CoreValue Global) (r : ResourceId) (h : Handle)
      → core_func_at plan (actor top) func ≡ Some (represents r)
      → look_up t (slot_at args.items 0) r ≡ Ok h
      → HandlesByMove plan ds s (actor top) (move.Call func args)
      (event.Resume (actor top) (core_value.I32 h.rep ∷ [])) s
  told_case func args r h reach found =
      subst (λ (o : Option CoreFunc). HandlesByCall s ds (actor top) o args.items (event.Resume (actor top) (core_value.I32 h.rep ∷ [])) s) (sym reach)
      (record {
        entry = h;
        stood = (looked t (slot_at args.items 0) r h found).stood;
        of_resource = (looked t (slot_at args.items 0) r h found).of_resource;
        answer = refl;
        others = all_stay s s refl;
      })

  drop_case : (func : ℕ) (args : Vec CoreValue Global) (r : ResourceId) (d : Option ℕ) (h : Handle)
      → IsFound plan s top func args.items r d h → (e : Event) (new : State)
      → new.tables ≡ slice_set s.tables (actor top) (after_release t (slot_at args.items 0))
      → DropsAs h.kind d r (actor top) h e new
      → HandlesByMove plan ds s (actor top) (move.Call func args) e new
  drop_case func args r d h found e new tables goes =
      subst (λ (o : Option CoreFunc). HandlesByCall s ds (actor top) o args.items e new) (sym found.reach)
      (record {
        entry = h;
        stood = there.stood;
        of_resource = there.of_resource;
        not_lent = is_free.1;
        gone = ap (λ (ts : List Handles). handle_at (table_at ts (actor top)) index) tables
            ∙ (ap (λ (u : Handles). handle_at u index) (table_same s.tables (actor top) (after_release t index) acts_there)
            ∙ released.changes.here);
        dropped = goes;
        others = (changed.here, changed.others);
      }) where
        index : ℕ
        index = slot_at args.items 0

        is_free : (look_up t index r ≡ Ok h) × (h.lends ≡ 0)
        is_free = free (look_up t index r) h found.found

        there : Stands t index r h
        there = looked t index r h is_free.0

        released : ReleasesFrom t index
        released = laws.releases t index h (valid.sound (actor top)) there.stood

        changed : OneChanges s.tables new.tables (actor top) (index ∷ [])
        changed = one_table s.tables new.tables (actor top) (after_release t index) (index ∷ []) acts_there tables
            (changes_one t (after_release t index) index released.changes.others)

  -- an owned handle's resource is dropped with it
  drops_owned : (func : ℕ) (args : Vec CoreValue Global) (r : ResourceId) (d : Option ℕ) (h : Handle)
      → IsFound plan s top func args.items r d h → h.kind ≡ handle.Owned → (new : State)
      → new.owners ≡ slice_set s.owners h.serial place.Dropped
      → DropsAs h.kind d r (actor top) h (DtorOf d r (actor top) h.rep) new
  drops_owned func args r d h found owned new owners =
      subst (λ (k : HandleKind). DropsAs k d r (actor top) h (DtorOf d r (actor top) h.rep) new) (sym owned) (
        ap (λ (os : List Place). slice_get os h.serial) owners
            ∙ get_set_same s.owners h.serial place.Dropped
            (valid.made (actor top) (slot_at args.items 0) h
            (looked t (slot_at args.items 0) r h (free (look_up t (slot_at args.items 0) r) h found.found).0).stood),
        refl,
      )

  -- ---- calls

  module _ (func : ℕ) (args : Vec CoreValue Global) (l : Link) (v : Val) (p : Passage)
      (is_called : IsCalled plan s top func args.items l v p) where
    abbrev call_at : ℕ → LoweredCall
    call_at n =
        record { caller = actor top; link = l; args = args.items; state = s; place = n }

    abbrev x : LoweredCall
    x = call_at (length s.stack)

    abbrev st : State
    st = after_lift_of_args s (actor top) func l args.items v p

    sent : WasSent x v
    sent = record { denoted = is_called.denoted; transferable = is_called.transferable }

    taken : IsLifted s.tables st.tables (actor top) (met_at_call x v)
    taken = lifted s.tables st.tables (actor top) (met_at_call x v) acts_there refl
        (laws.hands t MAX_CONTENT (met_at_call x v)
        (laws.there (sender_view x) params (types_of l params) (sent_slots x) v sent.denoted)
        sent.transferable (valid.sound (actor top)))

    told_call : (e : Event) (new : State) → HandlesAtCall x e s new
        → HandlesByMove plan ds s (actor top) (move.Call func args) e new
    told_call e new told =
        subst (λ (o : Option CoreFunc). HandlesByCall s ds (actor top) o args.items e new) (sym is_called.reach)
        (subst (λ (n : ℕ). HandlesAtCall (call_at n) e s new) (sym count) told)

    asks_call : (fn : ℕ) (request : List CoreValue)
        → HandlesByMove plan ds s (actor top) (move.Call func args) (event.Realloc l.instance fn request) st
    asks_call fn request =
        told_call (event.Realloc l.instance fn request) st
        (v, sent, (taken.changes.here, taken.changes.others), taken.gone)

    enters_call : (memory : List ℕ) (slots : List CoreValue) (new : State)
        → IsGiven st l params (receiver_of params (length s.stack) l (new_call (actor top) func l args.items)) p v []
        memory slots
        → new.tables ≡ slice_set st.tables l.instance (after_given (args_receiver x) (table_at st.tables l.instance) p.leaves)
        → HandlesByMove plan ds s (actor top) (move.Call func args) (event.Enter l.instance l.func slots) new
    enters_call memory slots new is_given tables =
        told_call (event.Enter l.instance l.func slots) new (
          v,
          sent,
          stays_both t (table_at st.tables (actor top)) (table_at new.tables (actor top)) (taken_of (met_at_call x v)) taken.changes.here
              (stays_but (table_at st.tables (actor top)) (table_at new.tables (actor top)) (taken_of (met_at_call x v)) caller_stays),
          gone_stays (table_at st.tables (actor top)) (table_at new.tables (actor top)) (taken_of (met_at_call x v)) caller_stays taken.gone,
          subst (λ (ls : List HandleLeaf). GetsHandles (args_receiver x) (table_at s.tables l.instance) ls (table_at new.tables l.instance))
              is_called.scanned.carried.handles
              (subst (λ (u : Handles). GetsHandles (args_receiver x) u p.leaves (table_at new.tables l.instance)) callee_same gives.gets),
          (λ j ne nl. stays_both (table_at s.tables j) (table_at st.tables j) (table_at new.tables j) [] (taken.changes.others j ne) (gives.others j nl)),
        ) where
          apart : l.instance ≡ actor top → ⊥
          apart = callee_apart plan valid.linked (actor top) func l is_called.reach

          callee_same : table_at st.tables l.instance ≡ table_at s.tables l.instance
          callee_same = taken.same l.instance apart

          gives : IsGivenTo st.tables new.tables (args_receiver x) p.leaves
          gives = given laws.adds st.tables new.tables (args_receiver x) p.leaves
              (omega (arith, callee_there plan valid.linked (actor top) func l is_called.reach, valid.tables, set_length s.tables (actor top) (after_met t (met_at_call x v))))
              (subst IsSoundHandles (sym callee_same) (valid.sound l.instance)) is_given.room
              (λ j. stays_as (table_at _ j) (table_at new.tables j) (ap (λ (ts : List Handles). table_at ts j) tables))

          caller_stays : StayBut (table_at st.tables (actor top)) (table_at new.tables (actor top)) []
          caller_stays = gives.others (actor top) (λ e. apart (sym e))

  -- ---- an allocator answers while arguments are placed

  module _ (values : Vec CoreValue Global) (call : Call) (l : Link) (p : Passage) (v : Val)
      (answers : List ℕ) (q : Passage)
      (pl : IsPlaced plan s top values.items params call l p v answers q) where
    c : IsPlacingCall plan top.instance call (length fs) ds
    c = placing_call plan top fs ds call pl.purpose_is pl.phase_is m

    abbrev y : LoweredCall
    y = framed call.caller l c.x (top_place s)

    same : c.x ≡ y
    same = as_framed plan top.instance call (length fs) (top_place s) c.x l c.of pl.reach place_is

    g : IsPlacing s y c.asked
    g = subst (λ (z : LoweredCall). IsPlacing s z c.asked) same
        (subst (λ (es : List Doing). AreFollowed s es) c.is f).0

    turned : IsTurn l params q v g.v
    turned = turn laws.carried plan s top values.items params call l p v answers q pl g.passage
        g.passage_is g.v g.carried

    asks_placed : (fn : ℕ) (request : List CoreValue)
        → HandlesByMove plan ds s (actor top) (move.Return values) (event.Realloc l.instance fn request)
        (record s { passage = Some q })
    asks_placed fn request =
        subst (λ (es : List Doing). HandlesByReturn es (record { callee = actor top; values = values.items; state = s }) (event.Realloc l.instance fn request) s (record s { passage = Some q })) (sym c.is)
        (all_stay s (record s { passage = Some q }) refl)

    enters_placed : (memory : List ℕ) (slots : List CoreValue) (new : State)
        → IsGiven (record s { passage = Some q }) l params (receiver_of params (top_place s) l call) q v
        (answers ++ slot_at values.items 0 ∷ []) memory slots
        → new.tables ≡ slice_set s.tables l.instance (after_given (args_receiver y) (table_at s.tables l.instance) q.leaves)
        → HandlesByMove plan ds s (actor top) (move.Return values) (event.Enter l.instance l.func slots) new
    enters_placed memory slots new is_given tables =
        subst (λ (es : List Doing). HandlesByReturn es (record { callee = actor top; values = values.items; state = s }) (event.Enter l.instance l.func slots) s new) (sym c.is)
        (subst (λ (z : LoweredCall). (u : Val) × WasSent z u × GetsArgs s z u new × OtherHandlesStay s z.link.instance new) (sym same) (
          g.v,
          g.sent,
          subst (λ (ls : List HandleLeaf). GetsHandles (args_receiver y) (table_at s.tables l.instance) ls (table_at new.tables l.instance)) turned.leaves gives.gets,
          gives.others,
        )) where
          gives : IsGivenTo s.tables new.tables (args_receiver y) q.leaves
          gives = given laws.adds s.tables new.tables (args_receiver y) q.leaves
              (omega (arith, callee_there plan valid.linked call.caller call.func l pl.reach, valid.tables))
              (valid.sound l.instance) is_given.room
              (λ j. stays_as (table_at _ j) (table_at new.tables j) (ap (λ (ts : List Handles). table_at ts j) tables))

  -- ---- an allocator answers while a result is placed

  module _ (values : Vec CoreValue Global) (call : Call) (l : Link) (p : Passage) (v : Val)
      (answers : List ℕ) (q : Passage)
      (pl : IsPlaced plan s top values.items results call l p v answers q) where
    d : IsHandingCall plan top.instance call (length fs) ds
    d = handing_call plan top fs ds call pl.purpose_is pl.phase_is m

    abbrev z : LoweredCall
    z = framed call.caller l d.x (top_place s)

    same_call : d.x ≡ z
    same_call = as_framed plan top.instance call (length fs) (top_place s) d.x l d.of pl.reach place_is

    j : IsHanding s z d.back d.more
    j = subst (λ (w : LoweredCall). IsHanding s w d.back d.more) same_call
        (subst (λ (es : List Doing). AreFollowed s es) d.is f).0.1

    turned_back : IsTurn l results q v j.v
    turned_back = turn laws.carried plan s top values.items results call l p v answers q pl j.passage
        j.passage_is j.v j.carried

    abbrev returns : BodyReturn
    returns = record { callee = actor top; values = values.items; state = s }

    asks_handing : (fn : ℕ) (request : List CoreValue)
        → HandlesByMove plan ds s (actor top) (move.Return values) (event.Realloc call.caller fn request)
        (record s { passage = Some q })
    asks_handing fn request =
        subst (λ (es : List Doing). HandlesByReturn es returns (event.Realloc call.caller fn request) s (record s { passage = Some q })) (sym d.is)
        (all_stay s (record s { passage = Some q }) refl)

    handed : (memory : List ℕ) (slots : List CoreValue) (new : State)
        → IsGiven (record s { passage = Some q }) l results (receiver_of results (top_place s) l call) q v
        (answers ++ slot_at values.items 0 ∷ []) memory slots
        → ((i : ℕ) → StayBut (table_at (slice_set s.tables call.caller (after_given (result_receiver z) (table_at s.tables call.caller) q.leaves)) i) (table_at new.tables i) [])
        → (u : Val) × WasReturned d.x d.back u × GetsResult s d.x u new × OtherHandlesStay s d.x.caller new
    handed memory slots new is_given ends =
        subst (λ (w : LoweredCall). (u : Val) × WasReturned w d.back u × GetsResult s w u new × OtherHandlesStay s w.caller new) (sym same_call) (
          j.v,
          j.returned,
          subst (λ (ls : List HandleLeaf). GetsHandles (result_receiver z) (table_at s.tables call.caller) ls (table_at new.tables call.caller)) turned_back.leaves gives.gets,
          gives.others,
        ) where
          gives : IsGivenTo s.tables new.tables (result_receiver z) q.leaves
          gives = given laws.adds s.tables new.tables (result_receiver z) q.leaves
              (omega (arith, caller_there plan call.caller call.func l pl.reach, valid.tables))
              (valid.sound call.caller) is_given.room ends

    tidies_handing : (memory : List ℕ) (slots args : List CoreValue) (fn : ℕ) (new : State)
        → IsGiven (record s { passage = Some q }) l results (receiver_of results (top_place s) l call) q v
        (answers ++ slot_at values.items 0 ∷ []) memory slots
        → new.tables ≡ slice_set s.tables call.caller (after_given (result_receiver z) (table_at s.tables call.caller) q.leaves)
        → HandlesByMove plan ds s (actor top) (move.Return values) (event.PostReturn l.instance fn args) new
    tidies_handing memory slots args fn new is_given tables =
        subst (λ (es : List Doing). HandlesByReturn es returns (event.PostReturn l.instance fn args) s new) (sym d.is)
        (handed memory slots new is_given
        (λ i. stays_as (table_at _ i) (table_at new.tables i) (ap (λ (ts : List Handles). table_at ts i) tables)))

    ends_handing : (memory : List ℕ) (slots back : List CoreValue) (new : State)
        → IsGiven (record s { passage = Some q }) l results (receiver_of results (top_place s) l call) q v
        (answers ++ slot_at values.items 0 ∷ []) memory slots
        → new.tables ≡ tables_after_call (top_place s) s.lends (slice_set s.tables call.caller (after_given (result_receiver z) (table_at s.tables call.caller) q.leaves))
        → HandlesByMove plan ds s (actor top) (move.Return values) (event.Resume call.caller back) new
    ends_handing memory slots back new is_given tables =
        subst (λ (es : List Doing). HandlesByReturn es returns (event.Resume call.caller back) s new) (sym d.is)
        (handed memory slots new is_given
        (λ i. subst (λ (ts : List Handles). StayBut (table_at (slice_set s.tables call.caller (after_given (result_receiver z) (table_at s.tables call.caller) q.leaves)) i) (table_at ts i) []) (sym tables)
        (call_ends (top_place s) s.lends (slice_set s.tables call.caller (after_given (result_receiver z) (table_at s.tables call.caller) q.leaves)) i)))

  -- ---- a body returns

  module _ (values : Vec CoreValue Global) (call : Call) (l : Link) (v : Val) (p q : Passage)
      (answers : List ℕ) (st : State) (ret : IsReturned plan s top values.items call l v p)
      (put : HasPlace (after_lift_of_result s l call values.items v p) l call p v q answers st)
    where
      e : IsBodyCall plan top.instance call (length fs) ds
      e = body_call plan top fs ds call ret.purpose_is ret.phase_is m

      abbrev k : LoweredCall
      k = framed call.caller l e.x (top_place s)

      same_body : e.x ≡ k
      same_body = as_framed plan top.instance call (length fs) (top_place s) e.x l e.of ret.reach place_is

      acts : actor top ≡ l.instance
      acts = ap (λ (pu : Purpose). actor_of pu top.instance) ret.purpose_is
          ∙ (ap (λ (ph : Phase). actor_in ph top.instance call.caller) ret.phase_is
          ∙ (sym e.of.instance ∙ ap (λ (w : LoweredCall). w.link.instance) same_body))

      abbrev back_of : ℕ → BodyReturn
      back_of i = record { callee = i; values = values.items; state = s }

      abbrev back : BodyReturn
      back = back_of l.instance

      returned : WasReturned k back v
      returned = record { denoted = ret.denoted; transferable = ret.transferable }

      abbrev ms : List Met
      ms = met_at_return k back v

      apart : l.instance ≡ call.caller → ⊥
      apart = callee_apart plan valid.linked call.caller call.func l ret.reach

      lift_tables : st.tables ≡ slice_set s.tables l.instance (after_met (table_at s.tables l.instance) ms)
      lift_tables = ap (λ (n : State). n.tables)
          (place_changes (after_lift_of_result s l call values.items v p) l call p v q answers st put).1

      taken_back : IsLifted s.tables st.tables l.instance ms
      taken_back = lifted s.tables st.tables l.instance ms
          (omega (arith, callee_there plan valid.linked call.caller call.func l ret.reach, valid.tables)) lift_tables
          (laws.hands (table_at s.tables l.instance) MAX_CONTENT ms
          (laws.there (returner_view k back) results (types_of l results) values.items v returned.denoted)
          returned.transferable (valid.sound l.instance))

      -- in the words of what goes on
      told_body : (ev : Event) (new : State) → HandlesAtReturn k back ev s new
          → HandlesByMove plan ds s (actor top) (move.Return values) ev new
      told_body ev new told =
          subst (λ (es : List Doing). HandlesByReturn es (back_of (actor top)) ev s new) (sym e.is)
          (subst (λ (i : ℕ). HandlesAtReturn e.x (back_of i) ev s new) (sym acts)
          (subst (λ (x : LoweredCall). HandlesAtReturn x back ev s new) (sym same_body) told))

      asks_body : (fn : ℕ) (request : List CoreValue)
          → HandlesByMove plan ds s (actor top) (move.Return values) (event.Realloc call.caller fn request) st
      asks_body fn request =
          told_body (event.Realloc call.caller fn request) st
          (v, returned, (taken_back.changes.here, taken_back.changes.others), taken_back.gone)

      abbrev to : Receiver
      to = receiver_of results (top_place st) l call

      to_is : to ≡ result_receiver k
      to_is = ap (λ (n : State). receiver_of results (top_place n) l call)
          (place_changes (after_lift_of_result s l call values.items v p) l call p v q answers st put).1

      abbrev given_tables : List Handles
      given_tables = slice_set st.tables call.caller (after_given to (table_at st.tables call.caller) q.leaves)

      -- what a return leaves of handles that is answered otherwise
      record Left (new : State) : Type 0 where
        callee : StayBut (table_at s.tables l.instance) (table_at new.tables l.instance) (taken_of ms)
        gone : AreGone (table_at new.tables l.instance) (taken_of ms)
        caller : GetsResult s k v new
        others : (i : ℕ) → i ≢ call.caller → i ≢ l.instance → StayBut (table_at s.tables i) (table_at new.tables i) []

      left : (memory : List ℕ) (slots : List CoreValue) (new : State)
          → IsGiven st l results to q v answers memory slots
          → ((i : ℕ) → StayBut (table_at given_tables i) (table_at new.tables i) []) → Left new
      left memory slots new is_given ends = record {
        callee = stays_both (table_at s.tables l.instance) (table_at st.tables l.instance) (table_at new.tables l.instance) (taken_of ms) taken_back.changes.here
            (stays_but (table_at st.tables l.instance) (table_at new.tables l.instance) (taken_of ms) (gives.others l.instance apart));
        gone = gone_stays (table_at st.tables l.instance) (table_at new.tables l.instance) (taken_of ms) (gives.others l.instance apart) taken_back.gone;
        caller = subst (λ (w : Receiver). GetsHandles w (table_at s.tables call.caller) (returned_leaves k v) (table_at new.tables call.caller)) to_is
            (subst (λ (ls : List HandleLeaf). GetsHandles to (table_at s.tables call.caller) ls (table_at new.tables call.caller)) leaves_are
            (subst (λ (u : Handles). GetsHandles to u q.leaves (table_at new.tables call.caller)) caller_same gives.gets));
        others = λ i nc nl.
            stays_both (table_at s.tables i) (table_at st.tables i) (table_at new.tables i) [] (taken_back.changes.others i nl) (gives.others i nc);
      } where
        caller_same : table_at st.tables call.caller ≡ table_at s.tables call.caller
        caller_same = taken_back.same call.caller (λ e. apart (sym e))

        leaves_are : q.leaves ≡ returned_leaves k v
        leaves_are = place_leaves (after_lift_of_result s l call values.items v p) l call p v q answers st put
            ∙ ret.scanned.carried.handles

        gives : IsGivenTo st.tables new.tables to q.leaves
        gives = given laws.adds st.tables new.tables to q.leaves
            (omega (arith, caller_there plan call.caller call.func l ret.reach, valid.tables, ap (λ (ts : List Handles). length ts) lift_tables, set_length s.tables l.instance (after_met (table_at s.tables l.instance) ms)))
            (subst IsSoundHandles (sym caller_same) (valid.sound call.caller)) is_given.room ends

      tidies_body : (memory : List ℕ) (slots args : List CoreValue) (fn : ℕ) (new : State)
          → IsGiven st l results to q v answers memory slots → new.tables ≡ given_tables
          → HandlesByMove plan ds s (actor top) (move.Return values) (event.PostReturn l.instance fn args) new
      tidies_body memory slots args fn new is_given tables =
          let o : Left new = left memory slots new is_given (λ i. stays_as (table_at given_tables i) (table_at new.tables i) (ap (λ (ts : List Handles). table_at ts i) tables)) in
          told_body (event.PostReturn l.instance fn args) new (v, returned, o.callee, o.gone, o.caller, o.others)

      ends_body : (memory : List ℕ) (slots again : List CoreValue) (new : State)
          → IsGiven st l results to q v answers memory slots
          → new.tables ≡ tables_after_call (top_place st) st.lends given_tables
          → HandlesByMove plan ds s (actor top) (move.Return values) (event.Resume call.caller again) new
      ends_body memory slots again new is_given tables =
          let o : Left new = left memory slots new is_given
          (λ i. subst (λ (ts : List Handles). StayBut (table_at given_tables i) (table_at ts i) []) (sym tables) (call_ends (top_place st) st.lends given_tables i)) in
          told_body (event.Resume call.caller again) new (v, returned, o.callee, o.gone, o.caller, o.others)

  -- ---- all cases

  pub handle_case : (mv : Move) (ev : Event) (new : State) → Cases plan s top mv ev new
      → Res plan s top ds mv ev new
  handle_case _ _ _ (trapped mv tr start from) fine = absurd (fine (tr, refl))
  handle_case _ _ _ (wrote at bytes inside) fine = all_stay s s refl
  handle_case _ _ _ (stayed pages no_room) fine = all_stay s s refl
  handle_case _ _ _ (grew pages fits) fine = all_stay s s refl
  handle_case _ _ _ (made func args r reach kinds may can) fine = made_case func args r reach can
  handle_case _ _ _ (represented func args r h reach kinds found) fine = told_case func args r h reach found
  handle_case _ _ _ (dropped func args r h found owned) fine = drop_case func args r None h found _ _ refl (drops_owned func args r None h found owned _ refl)
  handle_case _ _ _ (destroyed func args r fn h found owned opened room) fine = drop_case func args r (Some fn) h found _ _ refl (drops_owned func args r (Some fn) h found owned _ refl)
  handle_case _ _ _ (given_back func args r dtor h call found kind) fine =
      drop_case func args r dtor h found _ _ refl
      (subst (λ (b : HandleKind). DropsAs b dtor r (actor top) h (event.Resume (actor top) []) (without_handle s (actor top) (slot_at args.items 0))) (sym kind) refl)
  handle_case _ _ _ (call_asks func args l v p fn request is_called next) fine = asks_call func args l v p is_called fn request
  handle_case _ _ _ (call_enters func args l v p memory slots is_called is_given) fine = enters_call func args l v p is_called memory slots _ is_given refl
  handle_case _ _ _ (answer_asks values params call l p v answers q fn request pl next) fine = asks_placed values call l p v answers q pl fn request
  handle_case _ _ _ (answer_asks values results call l p v answers q fn request pl next) fine = asks_handing values call l p v answers q pl fn request
  handle_case _ _ _ (answer_enters values call l p v answers q memory slots pl is_given) fine = enters_placed values call l p v answers q pl memory slots _ is_given refl
  handle_case _ _ _ (answer_tidies values call l p v answers q memory slots fn pl is_given post) fine = tidies_handing values call l p v answers q pl memory slots q.slots fn _ is_given refl
  handle_case _ _ _ (answer_ends values call l p v answers q memory slots pl is_given post) fine = ends_handing values call l p v answers q pl memory slots _ _ is_given refl
  handle_case _ _ _ (return_asks values call l v p q answers st fn request ret put next) fine = asks_body values call l v p q answers st ret put fn request
  handle_case _ _ _ (return_tidies values call l v p q answers st memory slots fn ret put is_given post) fine = tidies_body values call l v p q answers st ret put memory slots q.slots fn _ is_given refl
  handle_case _ _ _ (return_ends values call l v p q answers st memory slots ret put is_given post) fine = ends_body values call l v p q answers st ret put memory slots _ _ is_given refl
  handle_case _ _ _ (tidied values call l result pu ph reach nothing) fine =
      let c = tidying_call plan top fs ds call result pu ph m in
      subst (λ (es : List Doing). HandlesByReturn es (record { callee = actor top; values = values.items; state = s }) (event.Resume call.caller (as_values result)) s (after_call (top_place s) s)) (sym c.is)
      (λ i. call_ends (top_place s) s.lends s.tables i)
  handle_case _ _ _ (root_ended values pu nothing) fine =
      let c = rooted plan top fs ds pu m in
      subst (λ (es : List Doing). HandlesByReturn es (record { callee = actor top; values = values.items; state = s }) event.Ended s (popped s)) (sym c.2)
      (all_stay s (popped s) refl)
  handle_case _ _ _ (destructor_ended values dropper pu nothing) fine =
      let c = destroying plan top fs ds dropper pu m in
      subst (λ (es : List Doing). HandlesByReturn es (record { callee = actor top; values = values.items; state = s }) (event.Resume dropper []) s (popped s)) (sym c.3)
      (all_stay s (popped s) refl)
