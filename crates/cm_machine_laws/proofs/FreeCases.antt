-- What each case of a step does to the free indices of each instance.
use Rattle.std.proofs.Common.{◌≡◌, ℕ, ◌<◌, inl, inr, Bool, true, List, [], ◌∷◌, ◌++◌, length}
use Rattle.std.proofs.Common.{Option, Some, None, refl, sym, ap, subst, ◌∙◌, arith}
use Rattle.std.specs.Prelude.{slice_get, slice_set, Ok}
use Rattle.std.specs.declared.alloc.Global.{Global}
use Rattle.std.specs.declared.vec.Vec.{Vec}
use Rattle.cm_types.specs.declared.core_value.CoreValue.{CoreValue}
use Rattle.cm_types.specs.declared.core_value.CoreValue.TheVariants as core_value
use Rattle.cm_types.specs.declared.resource.ResourceId.{ResourceId}
use Rattle.cm_types.specs.Values.{Val}
use Rattle.cm_handles.specs.Handles.{Handles, after_add, after_release, look_up, next_index}
use Rattle.cm_handles.specs.declared.handle.Handle.{Handle}
use Rattle.cm_abi_model.specs.declared.receiver.Receiver.{Receiver}
use Rattle.cm_abi_model.specs.Giving.{added_count, after_given}
use Rattle.cm_abi_model.specs.Numbers.{slot_at}
use Rattle.cm_abi_model.specs.Receives.{HandleLeaf}
use Rattle.cm_abi_model.specs.Taken.{Met, after_met, taken_of}
use Rattle.cm_abi_model.specs.Views.{params, results}
use Rattle.cm_machine_model.specs.declared.event.Event.{Event}
use Rattle.cm_machine_model.specs.declared.event.Event.TheVariants as event
use Rattle.cm_machine_model.specs.declared.event.Trap.{Trap}
use Rattle.cm_machine_model.specs.declared.moves.Move.{Move}
use Rattle.cm_machine_model.specs.declared.moves.Move.TheVariants as move
use Rattle.cm_machine_model.specs.declared.frame.Call.{Call}
use Rattle.cm_machine_model.specs.declared.frame.Frame.{Frame}
use Rattle.cm_machine_model.specs.declared.frame.Phase.{Phase}
use Rattle.cm_machine_model.specs.declared.frame.Purpose.{Purpose}
use Rattle.cm_machine_model.specs.declared.frame.Purpose.TheVariants as purpose
use Rattle.cm_machine_model.specs.Cases.{Cases, HasPlace, IsCalled, IsFound, IsPlaced}
use Rattle.cm_machine_model.specs.Cases.{IsReturned, TrapsFrom, answer_asks, answer_ends}
use Rattle.cm_machine_model.specs.Cases.{answer_enters, answer_tidies, as_it_was, call_asks}
use Rattle.cm_machine_model.specs.Cases.{call_enters, called, destroyed, destructor_ended, dropped}
use Rattle.cm_machine_model.specs.Cases.{given_back, grew, made, place_changes, place_leaves, placed}
use Rattle.cm_machine_model.specs.Cases.{represented, result_placed, return_asks, return_ends}
use Rattle.cm_machine_model.specs.Cases.{return_tidies, returned, root_ended, stayed, tidied}
use Rattle.cm_machine_model.specs.Cases.{trapped, wrote}
use Rattle.cm_machine_model.specs.History.{moves}
use Rattle.cm_machine_model.specs.Owning.{IsAmong}
use Rattle.cm_machine_model.specs.Plan.{CoreFunc, Link, Plan, core_func_at, makes, represents}
use Rattle.cm_machine_model.specs.Stack.{actor, actor_in, actor_of, below_top}
use Rattle.cm_machine_model.specs.State.{Passage, State, after_trap, closed_after_trap, table_at}
use Rattle.cm_machine_model.specs.State.{tables_after_call}
use Rattle.cm_machine_model.specs.Step.{after_lift_of_args, after_lift_of_result, as_values}
use Rattle.cm_machine_model.specs.Step.{after_call, new_call, popped, receiver_of, top_place}
use Rattle.cm_machine_model.specs.Valid.{IsStack, IsValidState}
use Rattle.cm_machine_laws.specs.CallsOn.{IsBodyCall, IsHandingCall, IsPlacingCall, as_framed}
use Rattle.cm_machine_laws.specs.CallsOn.{body_call, callee_apart, callee_there, caller_there}
use Rattle.cm_machine_laws.specs.CallsOn.{framed, handing_call, placing_call, tidying_call}
use Rattle.cm_machine_laws.specs.Doing.{BodyReturn, Doing, LoweredCall}
use Rattle.cm_machine_laws.specs.Frames.{actor_stands, frame_there, leaver_acts, match_length}
use Rattle.cm_machine_laws.specs.FreeIndices.{Adds, Frees, FreesAndAdds, Use, UsesAtCall}
use Rattle.cm_machine_laws.specs.FreeIndices.{UsesAtReturn, UsesBy, UsesByCall, UsesByMove}
use Rattle.cm_machine_laws.specs.FreeIndices.{UsesByReturn, UsesNone, after_freeing, after_use}
use Rattle.cm_machine_laws.specs.FreeIndices.{count_for, free_in, indices_of}
use Rattle.cm_machine_laws.specs.Matching.{AllMatch}
use Rattle.cm_machine_laws.specs.Told.{WasReturned, WasSent, args_receiver, met_at_call, met_at_return}
use Rattle.cm_machine_laws.specs.Told.{result_receiver, returned_leaves, sent_leaves}
use Rattle.cm_machine_laws.specs.Following.{AreFollowed, IsHanding, IsPlacing}
use Rattle.cm_machine_laws.proofs.Calls.{IsTurn, Laws, turn}
use Rattle.cm_machine_laws.proofs.ClosedTables.{AreWithin, flags_closed, instances_of, tables_open}
use Rattle.cm_machine_laws.proofs.ClosedTables.{within_plan}
use Rattle.cm_machine_laws.proofs.FreeTables.{added_free, call_ends_free, closed_stays, given_free}
use Rattle.cm_machine_laws.proofs.FreeTables.{met_free, released_free, set_adds, set_both, set_frees}
use Rattle.cm_machine_laws.proofs.HandleCases.{destroying, rooted}
use Rattle.cm_machine_laws.proofs.Tables.{set_length, table_other}

-- from one state to the next these uses are made of the free indices
abbrev AreMade : State → State → (ℕ → Use) → Type 0
AreMade s new uses = (j : ℕ)
    → free_in (table_at new.tables j) ≡ after_use (uses j) (free_in (table_at s.tables j))

-- what a move does that does not trap
record IsUsed (plan : Plan) (s : State) (top : Frame) (ds : List Doing) (m : Move) (e : Event)
    (new : State) : Type 0 where
  uses : ℕ → Use
  told : UsesByMove plan ds s (actor top) m e uses
  left : AreMade s new uses

-- what a step does: the indices of an instance that it does not close are used as told, and none
-- opens again
pub record IsStepped (plan : Plan) (s : State) (top : Frame) (ds : List Doing) (m : Move) (e : Event)
    (new : State) : Type 0 where
  pub uses : ℕ → Use
  pub told : UsesBy plan ds s (Some (actor top)) (moves m) e uses
  pub left : (j : ℕ) → (slice_get new.closed j ≡ Some true → ⊥)
      → free_in (table_at new.tables j) ≡ after_use (uses j) (free_in (table_at s.tables j))
  pub closed : (j : ℕ) → slice_get s.closed j ≡ Some true → slice_get new.closed j ≡ Some true

abbrev no_use : ℕ → Use
no_use j = record { frees = []; adds = 0 }

module _ (laws : Laws) (plan : Plan) (s : State) (top : Frame) (fs : List Frame) (ds : List Doing)
    (is : s.stack ≡ top ∷ fs) (valid : IsValidState plan s) (m : AllMatch plan (top ∷ fs) ds)
    (f : AreFollowed s ds) where
  count : length ds ≡ length s.stack
  count = match_length plan (top ∷ fs) ds m ∙ sym (ap (λ (gs : List Frame). length gs) is)

  place_is : top_place s ≡ length fs
  place_is = ap (λ (gs : List Frame). length (below_top gs)) is

  stands : IsStack plan (top ∷ fs)
  stands = subst (λ (gs : List Frame). IsStack plan gs) is valid.stack

  -- the table of the instance that acts is there
  acts_there : actor top < length s.tables
  acts_there =
      let a = actor_stands plan top fs stands in
      omega (arith, a.instance_is, frame_there plan (top ∷ fs) a.frame stands a.among, valid.tables)

  abbrev Used : Move → Event → State → Type 0
  Used mv e new = IsUsed plan s top ds mv e new

  abbrev Stepped : Move → Event → State → Type 0
  Stepped mv e new = IsStepped plan s top ds mv e new

  -- a step that closes nothing
  pack : (mv : Move) (e : Event) (new : State) → Used mv e new
      → ((uses : ℕ → Use) → UsesByMove plan ds s (actor top) mv e uses
      → UsesBy plan ds s (Some (actor top)) (moves mv) e uses)
      → new.closed ≡ s.closed → Stepped mv e new
  pack mv e new u spelled closed = record {
    uses = u.uses;
    told = spelled u.uses u.told;
    left = λ j still_open. u.left j;
    closed = λ j c. ap (λ (cs : List Bool). slice_get cs j) closed ∙ c;
  }

  -- a step that leaves the free indices alone
  nothing : (mv : Move) (e : Event) (new : State)
      → ((j : ℕ) → free_in (table_at new.tables j) ≡ free_in (table_at s.tables j))
      → UsesByMove plan ds s (actor top) mv e no_use → Used mv e new
  nothing mv e new same told = record { uses = no_use; told = told; left = same }

  rests : (new : State) → new.tables ≡ s.tables
      → (j : ℕ) → free_in (table_at new.tables j) ≡ free_in (table_at s.tables j)
  rests new tables j = ap (λ (ts : List Handles). free_in (table_at ts j)) tables

  -- ---- resources

  abbrev t : Handles
  t = table_at s.tables (actor top)

  made_case : (func : ℕ) (args : Vec CoreValue Global) (r : ResourceId) (e : Event) (new : State)
      (h : Handle) → core_func_at plan (actor top) func ≡ Some (makes r)
      → new.tables ≡ slice_set s.tables (actor top) (after_add t h)
      → Used (move.Call func args) e new
  made_case func args r e new h reach tables = record {
    uses = λ j. record { frees = []; adds = count_for (actor top) 1 j };
    told = subst (λ (o : Option CoreFunc). UsesByCall s ds (actor top) o args.items e (λ j. record { frees = []; adds = count_for (actor top) 1 j })) (sym reach) (λ j. refl);
    left = set_adds s.tables new.tables (actor top) (after_add t h) 1 acts_there tables (added_free t h);
  }

  drop_case : (func : ℕ) (args : Vec CoreValue Global) (r : ResourceId) (d : Option ℕ) (h : Handle)
      → IsFound plan s top func args.items r d h → (e : Event) (new : State)
      → new.tables ≡ slice_set s.tables (actor top) (after_release t (slot_at args.items 0))
      → Used (move.Call func args) e new
  drop_case func args r d h found e new tables = record {
    uses = λ j. record { frees = indices_of (actor top) (slot_at args.items 0 ∷ []) j; adds = 0 };
    told = subst (λ (o : Option CoreFunc). UsesByCall s ds (actor top) o args.items e (λ j. record { frees = indices_of (actor top) (slot_at args.items 0 ∷ []) j; adds = 0 })) (sym found.reach) (λ j. refl);
    left = set_frees s.tables new.tables (actor top) (after_release t (slot_at args.items 0)) (slot_at args.items 0 ∷ []) acts_there tables (released_free t (slot_at args.items 0));
  }

  -- ---- calls

  module _ (func : ℕ) (args : Vec CoreValue Global) (l : Link) (v : Val) (p : Passage)
      (is_called : IsCalled plan s top func args.items l v p) where
    abbrev call_at : ℕ → LoweredCall
    call_at n =
        record { caller = actor top; link = l; args = args.items; state = s; place = n }

    abbrev x : LoweredCall
    x = call_at (length s.stack)

    abbrev st : State
    st = after_lift_of_args s (actor top) func l args.items v p

    sent : WasSent x v
    sent = record { denoted = is_called.denoted; transferable = is_called.transferable }

    abbrev taken_now : List ℕ
    taken_now = taken_of (met_at_call x v)

    takes : AreMade s st (λ j. record { frees = indices_of (actor top) taken_now j; adds = 0 })
    takes = set_frees s.tables st.tables (actor top) (after_met t (met_at_call x v)) taken_now acts_there refl
        (met_free t (met_at_call x v))

    told_call : (e : Event) (uses : ℕ → Use) → UsesAtCall x e uses
        → UsesByMove plan ds s (actor top) (move.Call func args) e uses
    told_call e uses told =
        subst (λ (o : Option CoreFunc). UsesByCall s ds (actor top) o args.items e uses) (sym is_called.reach)
        (subst (λ (n : ℕ). UsesAtCall (call_at n) e uses) (sym count) told)

    asks_call : (fn : ℕ) (request : List CoreValue)
        → Used (move.Call func args) (event.Realloc l.instance fn request) st
    asks_call fn request = record {
      uses = λ j. record { frees = indices_of (actor top) taken_now j; adds = 0 };
      told = told_call (event.Realloc l.instance fn request) (λ j. record { frees = indices_of (actor top) taken_now j; adds = 0 }) (v, sent, (λ j. refl));
      left = takes;
    }

    enters_call : (slots : List CoreValue) (new : State)
        → new.tables ≡ slice_set st.tables l.instance (after_given (args_receiver x) (table_at st.tables l.instance) p.leaves)
        → Used (move.Call func args) (event.Enter l.instance l.func slots) new
    enters_call slots new tables = record {
      uses = λ j. record { frees = indices_of (actor top) taken_now j; adds = count_for l.instance more j };
      told = told_call (event.Enter l.instance l.func slots) (λ j. record { frees = indices_of (actor top) taken_now j; adds = count_for l.instance more j }) (
        v,
        sent,
        (λ j. ap (λ (ls : List HandleLeaf). record { frees = indices_of (actor top) taken_now j; adds = count_for l.instance (added_count (args_receiver x) ls) j }) is_called.scanned.carried.handles),
      );
      left = set_both s.tables st.tables new.tables (actor top) l.instance taken_now more takes
          (set_adds st.tables new.tables l.instance (after_given (args_receiver x) (table_at st.tables l.instance) p.leaves) more
          (omega (arith, callee_there plan valid.linked (actor top) func l is_called.reach, valid.tables, set_length s.tables (actor top) (after_met t (met_at_call x v))))
          tables (given_free (args_receiver x) p.leaves (table_at st.tables l.instance)));
    } where
      more : ℕ
      more = added_count (args_receiver x) p.leaves

  -- ---- an allocator answers while arguments are placed

  module _ (values : Vec CoreValue Global) (call : Call) (l : Link) (p : Passage) (v : Val)
      (answers : List ℕ) (q : Passage)
      (pl : IsPlaced plan s top values.items params call l p v answers q) where
    c : IsPlacingCall plan top.instance call (length fs) ds
    c = placing_call plan top fs ds call pl.purpose_is pl.phase_is m

    abbrev y : LoweredCall
    y = framed call.caller l c.x (top_place s)

    same : c.x ≡ y
    same = as_framed plan top.instance call (length fs) (top_place s) c.x l c.of pl.reach place_is

    g : IsPlacing s y c.asked
    g = subst (λ (z : LoweredCall). IsPlacing s z c.asked) same
        (subst (λ (es : List Doing). AreFollowed s es) c.is f).0

    turned : IsTurn l params q v g.v
    turned = turn laws.carried plan s top values.items params call l p v answers q pl g.passage
        g.passage_is g.v g.carried

    abbrev by_me : BodyReturn
    by_me = record { callee = actor top; values = values.items; state = s }

    asks_placed : (fn : ℕ) (request : List CoreValue)
        → Used (move.Return values) (event.Realloc l.instance fn request) (record s { passage = Some q })
    asks_placed fn request =
        nothing (move.Return values) (event.Realloc l.instance fn request) (record s { passage = Some q }) (λ j. refl)
        (subst (λ (es : List Doing). UsesByReturn es by_me (event.Realloc l.instance fn request) no_use) (sym c.is) (λ j. refl))

    enters_placed : (slots : List CoreValue) (new : State)
        → new.tables ≡ slice_set s.tables l.instance (after_given (args_receiver y) (table_at s.tables l.instance) q.leaves)
        → Used (move.Return values) (event.Enter l.instance l.func slots) new
    enters_placed slots new tables = record {
      uses = uses;
      told = subst (λ (es : List Doing). UsesByReturn es by_me (event.Enter l.instance l.func slots) uses) (sym c.is)
          (subst (λ (z : LoweredCall). (u : Val) × WasSent z u × Adds z.link.instance (added_count (args_receiver z) (sent_leaves z u)) uses) (sym same) (
            g.v,
            g.sent,
            (λ j. ap (λ (ls : List HandleLeaf). record { frees = []; adds = count_for l.instance (added_count (args_receiver y) ls) j }) turned.leaves),
          ));
      left = set_adds s.tables new.tables l.instance (after_given (args_receiver y) (table_at s.tables l.instance) q.leaves) more
          (omega (arith, callee_there plan valid.linked call.caller call.func l pl.reach, valid.tables))
          tables (given_free (args_receiver y) q.leaves (table_at s.tables l.instance));
    } where
      more : ℕ
      more = added_count (args_receiver y) q.leaves

      uses : ℕ → Use
      uses j = record { frees = []; adds = count_for l.instance more j }

  -- ---- an allocator answers while a result is placed

  module _ (values : Vec CoreValue Global) (call : Call) (l : Link) (p : Passage) (v : Val)
      (answers : List ℕ) (q : Passage)
      (pl : IsPlaced plan s top values.items results call l p v answers q) where
    d : IsHandingCall plan top.instance call (length fs) ds
    d = handing_call plan top fs ds call pl.purpose_is pl.phase_is m

    abbrev z : LoweredCall
    z = framed call.caller l d.x (top_place s)

    same_call : d.x ≡ z
    same_call = as_framed plan top.instance call (length fs) (top_place s) d.x l d.of pl.reach place_is

    i : IsHanding s z d.back d.more
    i = subst (λ (w : LoweredCall). IsHanding s w d.back d.more) same_call
        (subst (λ (es : List Doing). AreFollowed s es) d.is f).0.1

    turned_back : IsTurn l results q v i.v
    turned_back = turn laws.carried plan s top values.items results call l p v answers q pl i.passage
        i.passage_is i.v i.carried

    abbrev returns : BodyReturn
    returns = record { callee = actor top; values = values.items; state = s }

    asks_handing : (fn : ℕ) (request : List CoreValue)
        → Used (move.Return values) (event.Realloc call.caller fn request) (record s { passage = Some q })
    asks_handing fn request =
        nothing (move.Return values) (event.Realloc call.caller fn request) (record s { passage = Some q }) (λ j. refl)
        (subst (λ (es : List Doing). UsesByReturn es returns (event.Realloc call.caller fn request) no_use) (sym d.is) (λ j. refl))

    abbrev given_back_tables : List Handles
    given_back_tables =
        slice_set s.tables call.caller (after_given (result_receiver z) (table_at s.tables call.caller) q.leaves)

    abbrev more_back : ℕ
    more_back = added_count (result_receiver z) q.leaves

    abbrev uses_back : ℕ → Use
    uses_back j = record { frees = []; adds = count_for call.caller more_back j }

    abbrev HandsBack : Type 0
    HandsBack = (u : Val) × WasReturned d.x d.back u
        × Adds d.x.caller (added_count (result_receiver d.x) (returned_leaves d.x u)) uses_back

    hands_back : HandsBack
    hands_back =
        subst (λ (w : LoweredCall). (u : Val) × WasReturned w d.back u × Adds w.caller (added_count (result_receiver w) (returned_leaves w u)) uses_back) (sym same_call) (
          i.v,
          i.returned,
          (λ j. ap (λ (ls : List HandleLeaf). record { frees = []; adds = count_for call.caller (added_count (result_receiver z) ls) j }) turned_back.leaves),
        )

    left_back : (new : State) → ((j : ℕ) → free_in (table_at new.tables j) ≡ free_in (table_at given_back_tables j))
        → AreMade s new uses_back
    left_back new ends j =
        ends j ∙ set_adds s.tables given_back_tables call.caller (after_given (result_receiver z) (table_at s.tables call.caller) q.leaves) more_back
        (omega (arith, caller_there plan call.caller call.func l pl.reach, valid.tables)) refl
        (given_free (result_receiver z) q.leaves (table_at s.tables call.caller)) j

    tidies_handing : (fn : ℕ) (args : List CoreValue) (new : State) → new.tables ≡ given_back_tables
        → Used (move.Return values) (event.PostReturn l.instance fn args) new
    tidies_handing fn args new tables = record {
      uses = uses_back;
      told = subst (λ (es : List Doing). UsesByReturn es returns (event.PostReturn l.instance fn args) uses_back) (sym d.is) hands_back;
      left = left_back new (λ j. ap (λ (ts : List Handles). free_in (table_at ts j)) tables);
    }

    ends_handing : (back : List CoreValue) (new : State)
        → new.tables ≡ tables_after_call (top_place s) s.lends given_back_tables
        → Used (move.Return values) (event.Resume call.caller back) new
    ends_handing back new tables = record {
      uses = uses_back;
      told = subst (λ (es : List Doing). UsesByReturn es returns (event.Resume call.caller back) uses_back) (sym d.is) hands_back;
      left = left_back new (λ j. ap (λ (ts : List Handles). free_in (table_at ts j)) tables ∙ call_ends_free (top_place s) s.lends given_back_tables j);
    }

  -- ---- a body returns

  module _ (values : Vec CoreValue Global) (call : Call) (l : Link) (v : Val) (p q : Passage)
      (answers : List ℕ) (st : State) (ret : IsReturned plan s top values.items call l v p)
      (put : HasPlace (after_lift_of_result s l call values.items v p) l call p v q answers st)
    where
      e : IsBodyCall plan top.instance call (length fs) ds
      e = body_call plan top fs ds call ret.purpose_is ret.phase_is m

      abbrev k : LoweredCall
      k = framed call.caller l e.x (top_place s)

      same_body : e.x ≡ k
      same_body = as_framed plan top.instance call (length fs) (top_place s) e.x l e.of ret.reach place_is

      abbrev back_of : ℕ → BodyReturn
      back_of n = record { callee = n; values = values.items; state = s }

      acts : actor top ≡ l.instance
      acts = ap (λ (pu : Purpose). actor_of pu top.instance) ret.purpose_is
          ∙ (ap (λ (ph : Phase). actor_in ph top.instance call.caller) ret.phase_is
          ∙ (sym e.of.instance ∙ ap (λ (w : LoweredCall). w.link.instance) same_body))

      returned_v : WasReturned k (back_of l.instance) v
      returned_v = record { denoted = ret.denoted; transferable = ret.transferable }

      abbrev ms : List Met
      ms = met_at_return k (back_of l.instance) v

      lift_tables : st.tables ≡ slice_set s.tables l.instance (after_met (table_at s.tables l.instance) ms)
      lift_tables = ap (λ (n : State). n.tables)
          (place_changes (after_lift_of_result s l call values.items v p) l call p v q answers st put).1

      lift_closed : st.closed ≡ s.closed
      lift_closed = ap (λ (n : State). n.closed)
          (place_changes (after_lift_of_result s l call values.items v p) l call p v q answers st put).1

      frees_back : AreMade s st (λ j. record { frees = indices_of l.instance (taken_of ms) j; adds = 0 })
      frees_back = set_frees s.tables st.tables l.instance (after_met (table_at s.tables l.instance) ms) (taken_of ms)
          (omega (arith, callee_there plan valid.linked call.caller call.func l ret.reach, valid.tables)) lift_tables
          (met_free (table_at s.tables l.instance) ms)

      -- in the words of what goes on
      told_body : (ev : Event) (uses : ℕ → Use) → UsesAtReturn k (back_of l.instance) ev uses
          → UsesByMove plan ds s (actor top) (move.Return values) ev uses
      told_body ev uses told =
          subst (λ (es : List Doing). UsesByReturn es (back_of (actor top)) ev uses) (sym e.is)
          (subst (λ (n : ℕ). UsesAtReturn e.x (back_of n) ev uses) (sym acts)
          (subst (λ (w : LoweredCall). UsesAtReturn w (back_of l.instance) ev uses) (sym same_body) told))

      asks_body : (fn : ℕ) (request : List CoreValue)
          → Used (move.Return values) (event.Realloc call.caller fn request) st
      asks_body fn request = record {
        uses = λ j. record { frees = indices_of l.instance (taken_of ms) j; adds = 0 };
        told = told_body (event.Realloc call.caller fn request) (λ j. record { frees = indices_of l.instance (taken_of ms) j; adds = 0 }) (v, returned_v, (λ j. refl));
        left = frees_back;
      }

      abbrev to : Receiver
      to = receiver_of results (top_place st) l call

      to_is : to ≡ result_receiver k
      to_is = ap (λ (n : State). receiver_of results (top_place n) l call)
          (place_changes (after_lift_of_result s l call values.items v p) l call p v q answers st put).1

      leaves_are : q.leaves ≡ returned_leaves k v
      leaves_are = place_leaves (after_lift_of_result s l call values.items v p) l call p v q answers st put
          ∙ ret.scanned.carried.handles

      abbrev given_tables : List Handles
      given_tables = slice_set st.tables call.caller (after_given to (table_at st.tables call.caller) q.leaves)

      abbrev gets : ℕ
      gets = added_count to q.leaves

      abbrev uses_all : ℕ → Use
      uses_all j = record { frees = indices_of l.instance (taken_of ms) j; adds = count_for call.caller gets j }

      told_all : (v : Val) × WasReturned k (back_of l.instance) v
          × FreesAndAdds l.instance (taken_of (met_at_return k (back_of l.instance) v)) call.caller
          (added_count (result_receiver k) (returned_leaves k v)) uses_all
      told_all = (
        v,
        returned_v,
        (λ j. ap (λ (n : ℕ). record { frees = indices_of l.instance (taken_of ms) j; adds = count_for call.caller n j })
            (ap (λ (w : Receiver). added_count w q.leaves) to_is
            ∙ ap (λ (ls : List HandleLeaf). added_count (result_receiver k) ls) leaves_are)),
      )

      left_all : (new : State) → ((j : ℕ) → free_in (table_at new.tables j) ≡ free_in (table_at given_tables j))
          → AreMade s new uses_all
      left_all new ends j =
          ends j ∙ set_both s.tables st.tables given_tables l.instance call.caller (taken_of ms) gets frees_back
          (set_adds st.tables given_tables call.caller (after_given to (table_at st.tables call.caller) q.leaves) gets
          (omega (arith, caller_there plan call.caller call.func l ret.reach, valid.tables, ap (λ (ts : List Handles). length ts) lift_tables, set_length s.tables l.instance (after_met (table_at s.tables l.instance) ms)))
          refl (given_free to q.leaves (table_at st.tables call.caller))) j

      tidies_body : (fn : ℕ) (args : List CoreValue) (new : State) → new.tables ≡ given_tables
          → Used (move.Return values) (event.PostReturn l.instance fn args) new
      tidies_body fn args new tables = record {
        uses = uses_all;
        told = told_body (event.PostReturn l.instance fn args) uses_all told_all;
        left = left_all new (λ j. ap (λ (ts : List Handles). free_in (table_at ts j)) tables);
      }

      ends_body : (back : List CoreValue) (new : State)
          → new.tables ≡ tables_after_call (top_place st) st.lends given_tables
          → Used (move.Return values) (event.Resume call.caller back) new
      ends_body back new tables = record {
        uses = uses_all;
        told = told_body (event.Resume call.caller back) uses_all told_all;
        left = left_all new (λ j. ap (λ (ts : List Handles). free_in (table_at ts j)) tables ∙ call_ends_free (top_place st) st.lends given_tables j);
      }

  -- ---- a trap

  -- what the state from which a trap comes has kept
  record IsHeld (st : State) : Type 0 where
    closed : st.closed ≡ s.closed
    within : AreWithin (length s.closed) st.stack
    tables : (j : ℕ) → (IsAmong (instances_of st.stack) j → ⊥)
        → table_at st.tables j ≡ table_at s.tables j

  within_all : AreWithin (length s.closed) s.stack
  within_all = within_plan plan s.stack (length s.closed) valid.closed valid.stack

  held_at_call : (func : ℕ) (args : List CoreValue) (l : Link) (v : Val) (p : Passage)
      → IsCalled plan s top func args l v p → IsHeld (after_lift_of_args s (actor top) func l args v p)
  held_at_call func args l v p c = record {
    closed = refl;
    within = (omega (arith, callee_there plan valid.linked (actor top) func l c.reach, valid.closed), within_all);
    tables = λ j not.
        table_other s.tables (actor top) j _
        (λ e. not (inr (subst (λ (n : ℕ). IsAmong (instances_of s.stack) n) (sym e) among)));
  } where
    among : IsAmong (instances_of s.stack) (actor top)
    among = subst (λ (gs : List Frame). IsAmong (instances_of gs) (actor top)) (sym is)
        (inl (sym (leaver_acts top.purpose top.instance c.may)))

  held_at_return : (values : List CoreValue) (call : Call) (l : Link) (v : Val) (p : Passage)
      → IsReturned plan s top values call l v p → (o : Option Passage)
      → IsHeld (record (after_lift_of_result s l call values v p) { passage = o })
  held_at_return values call l v p ret o = record {
    closed = refl;
    within = (
      omega (arith, callee_there plan valid.linked call.caller call.func l ret.reach, valid.closed),
      below s.stack within_all,
    );
    tables = λ j not. table_other s.tables l.instance j _ (λ e. not (inl (sym e)));
  } where
    below : (gs : List Frame) → AreWithin (length s.closed) gs → AreWithin (length s.closed) (below_top gs)
    below [] w = w
    below (g ∷ gs) w = w.1

  held : (mv : Move) (st : State) → TrapsFrom plan s top mv st → IsHeld st
  held _ _ (as_it_was mv) = record { closed = refl; within = within_all; tables = λ j not. refl }
  held _ _ (called func args l v p is_called) = held_at_call func args.items l v p is_called
  held _ _ (placed values way call l p v answers q pl) =
      record { closed = refl; within = within_all; tables = λ j not. refl }
  held _ _ (returned values call l v p ret) =
      held_at_return values.items call l v p ret (after_lift_of_result s l call values.items v p).passage
  held _ _ (result_placed values call l v p q answers st ret put) =
      let changes = place_changes (after_lift_of_result s l call values.items v p) l call p v q answers st put in
      subst (λ (n : State). IsHeld n) (sym changes.1) (held_at_return values.items call l v p ret changes.0)

  trap_case : (mv : Move) (tr : Trap) (st : State) → TrapsFrom plan s top mv st
      → Stepped mv (event.Trapped tr) (after_trap st)
  trap_case mv tr st from = record {
    uses = no_use;
    told = λ j. refl;
    left = λ j still_open.
        ap (λ (u : Handles). free_in u)
        (tables_open st.stack st.tables j (none_among j still_open) ∙ kept.tables j (none_among j still_open));
    closed = λ j c. closed_stays st.stack st.closed j (ap (λ (cs : List Bool). slice_get cs j) kept.closed ∙ c);
  } where
    kept : IsHeld st
    kept = held mv st from

    none_among : (j : ℕ) → (slice_get (closed_after_trap st.stack st.closed) j ≡ Some true → ⊥)
        → IsAmong (instances_of st.stack) j → ⊥
    none_among j still_open among =
        still_open ((flags_closed st.stack st.closed (subst (λ (cs : List Bool). AreWithin (length cs) st.stack) (sym kept.closed) kept.within) j).1 (inr among))

  -- ---- all cases

  pub free_case : (mv : Move) (ev : Event) (new : State) → Cases plan s top mv ev new
      → Stepped mv ev new
  free_case _ _ _ (trapped mv tr st from) = trap_case mv tr st from
  free_case _ _ _ (wrote at bytes inside) =
      pack _ _ _ (nothing _ _ _ (λ j. refl) (λ j. refl)) (λ uses told. (actor top, refl, told)) refl
  free_case _ _ _ (stayed pages no_room) =
      pack _ _ _ (nothing _ _ _ (λ j. refl) (λ j. refl)) (λ uses told. (actor top, refl, told)) refl
  free_case _ _ _ (grew pages fits) =
      pack _ _ _ (nothing _ _ _ (λ j. refl) (λ j. refl)) (λ uses told. (actor top, refl, told)) refl
  free_case _ _ _ (made func args r reach kinds may can) =
      pack _ _ _ (made_case func args r _ _ _ reach refl) (λ uses told. (actor top, refl, told)) refl
  free_case _ _ _ (represented func args r h reach kinds found) =
      pack _ _ _ (nothing (move.Call func args) (event.Resume (actor top) (core_value.I32 h.rep ∷ [])) s (rests s refl)
      (subst (λ (o : Option CoreFunc). UsesByCall s ds (actor top) o args.items (event.Resume (actor top) (core_value.I32 h.rep ∷ [])) no_use) (sym reach) (λ j. refl)))
      (λ uses told. (actor top, refl, told)) refl
  free_case _ _ _ (dropped func args r h found owned) =
      pack _ _ _ (drop_case func args r None h found _ _ refl) (λ uses told. (actor top, refl, told)) refl
  free_case _ _ _ (destroyed func args r fn h found owned opened room) =
      pack _ _ _ (drop_case func args r (Some fn) h found _ _ refl) (λ uses told. (actor top, refl, told)) refl
  free_case _ _ _ (given_back func args r dtor h call found kind) =
      pack _ _ _ (drop_case func args r dtor h found _ _ refl) (λ uses told. (actor top, refl, told)) refl
  free_case _ _ _ (call_asks func args l v p fn request is_called next) =
      pack _ _ _ (asks_call func args l v p is_called fn request) (λ uses told. (actor top, refl, told)) refl
  free_case _ _ _ (call_enters func args l v p memory slots is_called is_given) =
      pack _ _ _ (enters_call func args l v p is_called slots _ refl) (λ uses told. (actor top, refl, told)) refl
  free_case _ _ _ (answer_asks values params call l p v answers q fn request pl next) =
      pack _ _ _ (asks_placed values call l p v answers q pl fn request) (λ uses told. (actor top, refl, told)) refl
  free_case _ _ _ (answer_asks values results call l p v answers q fn request pl next) =
      pack _ _ _ (asks_handing values call l p v answers q pl fn request) (λ uses told. (actor top, refl, told)) refl
  free_case _ _ _ (answer_enters values call l p v answers q memory slots pl is_given) =
      pack _ _ _ (enters_placed values call l p v answers q pl slots _ refl) (λ uses told. (actor top, refl, told)) refl
  free_case _ _ _ (answer_tidies values call l p v answers q memory slots fn pl is_given post) =
      pack _ _ _ (tidies_handing values call l p v answers q pl fn q.slots _ refl) (λ uses told. (actor top, refl, told)) refl
  free_case _ _ _ (answer_ends values call l p v answers q memory slots pl is_given post) =
      pack _ _ _ (ends_handing values call l p v answers q pl _ _ refl) (λ uses told. (actor top, refl, told)) refl
  free_case _ _ _ (return_asks values call l v p q answers st fn request ret put next) =
      pack _ _ _ (asks_body values call l v p q answers st ret put fn request) (λ uses told. (actor top, refl, told))
      (lift_closed values call l v p q answers st ret put)
  free_case _ _ _ (return_tidies values call l v p q answers st memory slots fn ret put is_given post) =
      pack _ _ _ (tidies_body values call l v p q answers st ret put fn q.slots _ refl) (λ uses told. (actor top, refl, told))
      (lift_closed values call l v p q answers st ret put)
  free_case _ _ _ (return_ends values call l v p q answers st memory slots ret put is_given post) =
      pack _ _ _ (ends_body values call l v p q answers st ret put _ _ refl) (λ uses told. (actor top, refl, told))
      (lift_closed values call l v p q answers st ret put)
  free_case _ _ _ (tidied values call l result pu ph reach no_values) =
      let c = tidying_call plan top fs ds call result pu ph m in
      pack _ _ _ (nothing (move.Return values) (event.Resume call.caller (as_values result)) (after_call (top_place s) s) (λ j. call_ends_free (top_place s) s.lends s.tables j)
      (subst (λ (es : List Doing). UsesByReturn es (record { callee = actor top; values = values.items; state = s }) (event.Resume call.caller (as_values result)) no_use) (sym c.is) (λ j. refl)))
      (λ uses told. (actor top, refl, told)) refl
  free_case _ _ _ (root_ended values pu no_values) =
      let c = rooted plan top fs ds pu m in
      pack _ _ _ (nothing (move.Return values) event.Ended (popped s) (rests (popped s) refl)
      (subst (λ (es : List Doing). UsesByReturn es (record { callee = actor top; values = values.items; state = s }) event.Ended no_use) (sym c.2) (λ j. refl)))
      (λ uses told. (actor top, refl, told)) refl
  free_case _ _ _ (destructor_ended values dropper pu no_values) =
      let c = destroying plan top fs ds dropper pu m in
      pack _ _ _ (nothing (move.Return values) (event.Resume dropper []) (popped s) (rests (popped s) refl)
      (subst (λ (es : List Doing). UsesByReturn es (record { callee = actor top; values = values.items; state = s }) (event.Resume dropper []) no_use) (sym c.3) (λ j. refl)))
      (λ uses told. (actor top, refl, told)) refl
