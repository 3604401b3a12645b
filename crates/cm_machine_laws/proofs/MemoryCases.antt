-- What each case of a step changes of memories.
use Rattle.std.proofs.Common.{◌≡◌, ℕ, ◌<◌, ◌≤◌, List, [], ◌∷◌, ◌++◌, length, Option, Some}
use Rattle.std.proofs.Common.{None, refl, sym, ap, subst, ◌∙◌, arith, append-nil, append_assoc}
use Rattle.std.specs.Prelude.{slice_get, slice_set}
use Rattle.std.specs.declared.alloc.Global.{Global}
use Rattle.std.specs.declared.vec.Vec.{Vec}
use Rattle.cm_types.specs.declared.core_value.CoreValue.{CoreValue}
use Rattle.cm_types.specs.Values.{Val}
use Rattle.cm_abi_model.specs.declared.request.Request.{Request}
use Rattle.cm_abi_model.specs.Answering.{places_of}
use Rattle.cm_abi_model.specs.Numbers.{slot_at}
use Rattle.cm_abi_model.specs.Views.{params, results}
use Rattle.cm_machine_model.specs.declared.event.Event.{Event}
use Rattle.cm_machine_model.specs.declared.event.Event.TheVariants as event
use Rattle.cm_machine_model.specs.declared.event.Trap.{Trap}
use Rattle.cm_machine_model.specs.declared.moves.Move.{Move}
use Rattle.cm_machine_model.specs.declared.moves.Move.TheVariants as move
use Rattle.cm_machine_model.specs.Memories.{after_growth, after_write, memory_at}
use Rattle.cm_machine_model.specs.declared.frame.Call.{Call}
use Rattle.cm_machine_model.specs.declared.frame.Frame.{Frame}
use Rattle.cm_machine_model.specs.declared.frame.Phase.{Phase}
use Rattle.cm_machine_model.specs.declared.frame.Purpose.{Purpose}
use Rattle.cm_machine_model.specs.declared.frame.Purpose.TheVariants as purpose
use Rattle.cm_machine_model.specs.Cases.{Cases, HasPlace, IsCalled, IsGiven, IsPlaced, IsReturned}
use Rattle.cm_machine_model.specs.Cases.{TrapsFrom, answer_asks, answer_ends, answer_enters}
use Rattle.cm_machine_model.specs.Cases.{answer_tidies, as_it_was, call_asks, call_enters, called}
use Rattle.cm_machine_model.specs.Cases.{destroyed, destructor_ended, dropped, given_back, grew}
use Rattle.cm_machine_model.specs.Cases.{made, place_changes, placed, represented, result_placed}
use Rattle.cm_machine_model.specs.Cases.{return_asks, return_ends, return_tidies, returned}
use Rattle.cm_machine_model.specs.Cases.{root_ended, stayed, tidied, trapped, wrote}
use Rattle.cm_machine_model.specs.Passages.{HasAnswers, asked_for}
use Rattle.cm_machine_model.specs.Plan.{CoreFunc, Link, Plan, core_func_at, types_of}
use Rattle.cm_machine_model.specs.Stack.{actor, actor_in, actor_of, below_top}
use Rattle.cm_machine_model.specs.State.{Passage, State, after_trap}
use Rattle.cm_machine_model.specs.Step.{IsHanded, after_lift_of_args, after_lift_of_result, new_call}
use Rattle.cm_machine_model.specs.Step.{after_call, popped, receiver_of, result_place, top_place, with_memory}
use Rattle.cm_machine_model.specs.Valid.{IsStack, IsValidState}
use Rattle.cm_machine_laws.specs.CallsOn.{IsBodyCall, IsHandingCall, IsPlacingCall, body_call}
use Rattle.cm_machine_laws.specs.CallsOn.{handing_call, placing_call, tidying_call}
use Rattle.cm_machine_laws.specs.Doing.{BodyReturn, Doing, LoweredCall, after_move, body}
use Rattle.cm_machine_laws.specs.Doing.{destroys, lowered_call}
use Rattle.cm_machine_laws.specs.Doing.{with_answer, with_body}
use Rattle.cm_machine_laws.specs.Entries.{answered_by}
use Rattle.cm_machine_laws.specs.Frames.{actor_stands, frame_there, match_length}
use Rattle.cm_machine_laws.specs.Matching.{AllMatch, MatchOne}
use Rattle.cm_machine_laws.specs.MemoryChanges.{ChangesAsTold, ChangesAtEnd, ChangesAtEntry}
use Rattle.cm_machine_laws.specs.MemoryChanges.{ChangesBytes, ChangesInside, HandsArgs, HandsResult}
use Rattle.cm_machine_laws.specs.MemoryChanges.{WritesExactly, GrowsExactly}
use Rattle.cm_machine_laws.specs.Told.{WasSent, answered_before, answers_back, answers_in}
use Rattle.cm_machine_laws.specs.Told.{returned_requests, returner_view, sender_view, sent_requests}
use Rattle.cm_machine_laws.specs.Told.{sent_slots}
use Rattle.cm_machine_laws.specs.Following.{AreFollowed, IsHanding, IsPlacing}
use Rattle.cm_machine_laws.proofs.Bytes.{grows_exactly, has_pages, memory_is, others_stay}
use Rattle.cm_machine_laws.proofs.Bytes.{past_most, writes_exactly}
use Rattle.cm_machine_laws.specs.CallsOn.{as_framed, callee_there, caller_there, framed}
use Rattle.cm_machine_laws.proofs.MemoryTurns.{answers_by, answers_with, changed, no_places, past_end, settled, turn, IsChanged, IsSettled, IsTurn, Laws}

-- what becomes of memories by a move with this event
abbrev pub Res : Plan → State → Frame → List Doing → Move → Event → State → Type 0
Res plan s top ds m e new =
    ChangesAsTold ds (after_move plan (Some (actor top)) s m e ds) s (actor top) m e new

-- ---- traps

from_memories : (plan : Plan) (s : State) (top : Frame) (m : Move) (st : State)
    → TrapsFrom plan s top m st → st.memories ≡ s.memories
from_memories plan s top _ _ (as_it_was m) = refl
from_memories plan s top _ _ (called func args l v p is) = refl
from_memories plan s top _ _ (placed values way call l p v answers q is) = refl
from_memories plan s top _ _ (returned values call l v p is) = refl
from_memories plan s top _ _ (result_placed values call l v p q answers st is put) =
    ap (λ (n : State). n.memories)
    (place_changes (after_lift_of_result s l call values.items v p) l call p v q answers st put).1

traps_stay : (plan : Plan) (s : State) (top : Frame) (ds : List Doing) (m : Move) (t : Trap) (st : State)
    → st.memories ≡ s.memories → Res plan s top ds m (event.Trapped t) (after_trap st)
traps_stay plan s top ds (move.Write at bytes) t st e = e
traps_stay plan s top ds (move.Grow pages) t st e = e
traps_stay plan s top ds (move.Call func args) t st e = e
traps_stay plan s top ds (move.Return values) t st e = e
traps_stay plan s top ds move.Unreachable t st e = e

-- ---- a destructor ends

destroying : (plan : Plan) (top : Frame) (fs : List Frame) (ds : List Doing) (dropper : ℕ)
    → top.purpose ≡ purpose.Destructor dropper → AllMatch plan (top ∷ fs) ds
    → (who : ℕ) × (j : ℕ) × (rest : List Doing) × (ds ≡ destroys who j ∷ rest)
destroying plan top fs [] dropper pu m = absurd m
destroying plan top fs (d ∷ rest) dropper pu m =
    by d (subst (λ (p : Purpose). MatchOne p plan top.instance (length fs) d) pu m.0) where
      by : (d : Doing) → MatchOne (purpose.Destructor dropper) plan top.instance (length fs) d
          → (who : ℕ) × (j : ℕ) × (others : List Doing) × (d ∷ rest ≡ destroys who j ∷ others)
      by (destroys who j) x = (who, j, rest, refl)
      by d x = absurd x

module _ (laws : Laws) (plan : Plan) (s : State) (top : Frame) (fs : List Frame) (ds : List Doing)
    (is : s.stack ≡ top ∷ fs) (valid : IsValidState plan s) (m : AllMatch plan (top ∷ fs) ds)
    (f : AreFollowed s ds) where
  -- how much goes on
  count : length ds ≡ length s.stack
  count = match_length plan (top ∷ fs) ds m ∙ sym (ap (λ (gs : List Frame). length gs) is)

  place : top_place s ≡ length fs
  place = ap (λ (gs : List Frame). length (below_top gs)) is

  -- the memory of the instance that acts is there
  acts_there : actor top < length s.memories
  acts_there =
      let st : IsStack plan (top ∷ fs) = subst (λ (gs : List Frame). IsStack plan gs) is valid.stack in
      let a = actor_stands plan top fs st in
      omega (arith, a.instance_is, frame_there plan (top ∷ fs) a.frame st a.among, valid.memories)

  -- ---- calls

  module _ (func : ℕ) (args : Vec CoreValue Global) (l : Link) (v : Val) (p : Passage)
      (is_called : IsCalled plan s top func args.items l v p) where
    abbrev call_at : ℕ → LoweredCall
    call_at n =
        record { caller = actor top; link = l; args = args.items; state = s; place = n }

    abbrev x : LoweredCall
    x = call_at (length s.stack)

    sent : WasSent x v
    sent = record { denoted = is_called.denoted; transferable = is_called.transferable }

    entered : (memory : List ℕ) (slots : List CoreValue) (new : State)
        → IsGiven (after_lift_of_args s (actor top) func l args.items v p) l params
        (receiver_of params (length s.stack) l (new_call (actor top) func l args.items)) p v []
        memory slots
        → new.memories ≡ slice_set s.memories l.instance memory → HandsArgs s x [] new
    entered memory slots new given memories_are = record {
      v = v;
      sent = sent;
      inside = subst (λ (n : List ℕ). ChangesInside old n (sent_requests x v) []) (sym now) both.inside;
      bytes = subst (λ (n : List ℕ). ChangesBytes old n params (types_of l params) v l.callee.encoding (places_of (sent_requests x v) [])) (sym now) both.bytes;
      others = others_stay s new l.instance memory memories_are;
    } where
      old : List ℕ
      old = memory_at s.memories l.instance

      now : memory_at new.memories l.instance ≡ memory
      now = memory_is s new l.instance memory memories_are
          (omega (arith, callee_there plan valid.linked (actor top) func l is_called.reach, valid.memories))

      both : IsChanged old memory params (types_of l params) v l.callee.encoding (sent_requests x v) []
      both = changed laws (after_lift_of_args s (actor top) func l args.items v p) l params
          (receiver_of params (length s.stack) l (new_call (actor top) func l args.items)) p v memory
          slots (sender_view x) (sent_slots x) [] given.handed is_called.denoted
          (omega (arith, past_end (sent_requests x v) 0 (subst (λ (rs : List Request). slice_get rs 0 ≡ None) is_called.scanned.asks given.none_to_come)))
          (is_called.scanned.none_placed ∙ no_places (sent_requests x v))

    enters_body : (memory : List ℕ) (slots : List CoreValue) (new : State)
        → IsGiven (after_lift_of_args s (actor top) func l args.items v p) l params
        (receiver_of params (length s.stack) l (new_call (actor top) func l args.items)) p v []
        memory slots
        → new.memories ≡ slice_set s.memories l.instance memory
        → Res plan s top ds (move.Call func args) (event.Enter l.instance l.func slots) new
    enters_body memory slots new given memories_are =
        subst (λ (es : List Doing). ChangesAtEntry es s new) (sym after)
        (entered memory slots new given memories_are) where
          after : with_body (lowered_call s (Some (actor top)) args.items (core_func_at plan (actor top) func) (length ds)) ds ≡ body x [] ∷ ds
          after =
              ap (λ (o : Option CoreFunc). with_body (lowered_call s (Some (actor top)) args.items o (length ds)) ds) is_called.reach
              ∙ ap (λ (n : ℕ). body (call_at n) [] ∷ ds) count

  -- ---- an allocator answers while arguments are placed

  module _ (values : Vec CoreValue Global) (call : Call) (l : Link) (p : Passage) (v : Val)
      (answers : List ℕ) (q : Passage)
      (pl : IsPlaced plan s top values.items params call l p v answers q) where
    c : IsPlacingCall plan top.instance call (length fs) ds
    c = placing_call plan top fs ds call pl.purpose_is pl.phase_is m

    abbrev y : LoweredCall
    y = framed call.caller l c.x (length fs)

    same : c.x ≡ y
    same = as_framed plan top.instance call (length fs) (length fs) c.x l c.of pl.reach refl

    g : IsPlacing s y c.asked
    g = subst (λ (z : LoweredCall). IsPlacing s z c.asked) same
        (subst (λ (es : List Doing). AreFollowed s es) c.is f).0

    abbrev a : ℕ
    a = slot_at values.items 0

    t : IsTurn l params (sent_requests y g.v) (answers_in c.asked) a g.passage q v g.v answers
    t = turn laws.carried plan s top values.items params call l p v answers q pl g.passage
        g.passage_is g.v g.carried (sent_requests y g.v) g.requests_are (answers_in c.asked) g.answered

    placed_args : (memory : List ℕ) (slots : List CoreValue) (new : State)
        → IsGiven (record s { passage = Some q }) l params (receiver_of params (top_place s) l call) q v
        (answers ++ a ∷ []) memory slots
        → new.memories ≡ slice_set s.memories l.instance memory
        → HandsArgs s y (with_answer values.items c.asked) new
    placed_args memory slots new given memories_are = record {
      v = g.v;
      sent = g.sent;
      inside = subst (λ (n : List ℕ). ChangesInside old n rs mine) (sym now) both.inside;
      bytes = subst (λ (n : List ℕ). ChangesBytes old n params (types_of l params) g.v l.callee.encoding (places_of rs mine)) (sym now) both.bytes;
      others = others_stay s new l.instance memory memories_are;
    } where
      old : List ℕ
      old = memory_at s.memories l.instance

      rs : List Request
      rs = sent_requests y g.v

      mine : List ℕ
      mine = answers_in (with_answer values.items c.asked)

      answers_are : mine ≡ answers_in c.asked ++ a ∷ []
      answers_are = answers_with values.items c.asked pl.of_kinds g.one_open

      now : memory_at new.memories l.instance ≡ memory
      now = memory_is s new l.instance memory memories_are
          (omega (arith, callee_there plan valid.linked call.caller call.func l pl.reach, valid.memories))

      both : IsChanged old memory params (types_of l params) g.v l.callee.encoding rs mine
      both = changed laws (record s { passage = Some q }) l params (receiver_of params (top_place s) l call) q g.v memory slots
          (sender_view y) (sent_slots y) mine
          (subst (λ (o : Val). IsHanded (record s { passage = Some q }) l params (receiver_of params (top_place s) l call) q o memory slots) t.value_is given.handed) g.sent.denoted
          (ap (λ (xs : List ℕ). length xs) answers_are ∙ t.all given.none_to_come)
          (t.places ∙ ap (λ (xs : List ℕ). places_of rs xs) (sym answers_are))

    enters_placed : (memory : List ℕ) (slots : List CoreValue) (new : State)
        → IsGiven (record s { passage = Some q }) l params (receiver_of params (top_place s) l call) q v
        (answers ++ a ∷ []) memory slots
        → new.memories ≡ slice_set s.memories l.instance memory
        → Res plan s top ds (move.Return values) (event.Enter l.instance l.func slots) new
    enters_placed memory slots new given memories_are =
        subst (λ (es : List Doing). Res plan s top es (move.Return values) (event.Enter l.instance l.func slots) new) (sym c.is)
        (subst (λ (z : LoweredCall). HandsArgs s z (with_answer values.items c.asked) new) (sym same)
        (placed_args memory slots new given memories_are))

  -- ---- an allocator answers while a result is placed

  module _ (values : Vec CoreValue Global) (call : Call) (l : Link) (p : Passage) (v : Val)
      (answers : List ℕ) (q : Passage)
      (pl : IsPlaced plan s top values.items results call l p v answers q) where
    d : IsHandingCall plan top.instance call (length fs) ds
    d = handing_call plan top fs ds call pl.purpose_is pl.phase_is m

    abbrev z : LoweredCall
    z = framed call.caller l d.x (length fs)

    same_call : d.x ≡ z
    same_call = as_framed plan top.instance call (length fs) (length fs) d.x l d.of pl.reach refl

    j : IsHanding s z d.back d.more
    j = subst (λ (w : LoweredCall). IsHanding s w d.back d.more) same_call
        (subst (λ (es : List Doing). AreFollowed s es) d.is f).0.1

    abbrev b : ℕ
    b = slot_at values.items 0

    u : IsTurn l results (returned_requests z d.back j.v) (answers_back z d.more) b j.passage q v j.v answers
    u = turn laws.carried plan s top values.items results call l p v answers q pl j.passage
        j.passage_is j.v j.carried (returned_requests z d.back j.v) j.requests_are
        (answers_back z d.more) j.answered

    placed_result : (memory : List ℕ) (slots : List CoreValue) (new : State)
        → IsGiven (record s { passage = Some q }) l results (receiver_of results (top_place s) l call) q v
        (answers ++ b ∷ []) memory slots
        → new.memories ≡ slice_set s.memories call.caller memory
        → HandsResult s z d.back (answered_by values.items d.more) new
    placed_result memory slots new given memories_are = record {
      v = j.v;
      returned = j.returned;
      inside = subst (λ (n : List ℕ). ChangesInside old n rs mine) (sym now) both.inside;
      bytes = subst (λ (n : List ℕ). ChangesBytes old n results (types_of l results) j.v l.caller.encoding (places_of rs mine)) (sym now) both.bytes;
      others = others_stay s new call.caller memory memories_are;
    } where
      old : List ℕ
      old = memory_at s.memories call.caller

      rs : List Request
      rs = returned_requests z d.back j.v

      mine : List ℕ
      mine = answers_back z (answered_by values.items d.more)

      answers_are : mine ≡ answers_back z d.more ++ b ∷ []
      answers_are = ap (λ (xs : List ℕ). answered_before z ++ xs) (answers_by values.items d.more j.one_open)
          ∙ sym (append_assoc (answered_before z) (answers_in d.more) (b ∷ []))

      now : memory_at new.memories call.caller ≡ memory
      now = memory_is s new call.caller memory memories_are
          (omega (arith, caller_there plan call.caller call.func l pl.reach, valid.memories))

      both : IsChanged old memory results (types_of l results) j.v l.caller.encoding rs mine
      both = changed laws (record s { passage = Some q }) l results (receiver_of results (top_place s) l call) q j.v memory slots
          (returner_view z d.back) d.back.values mine
          (subst (λ (o : Val). IsHanded (record s { passage = Some q }) l results (receiver_of results (top_place s) l call) q o memory slots) u.value_is given.handed) j.returned.denoted
          (ap (λ (xs : List ℕ). length xs) answers_are ∙ u.all given.none_to_come)
          (u.places ∙ ap (λ (xs : List ℕ). places_of rs xs) (sym answers_are))

    ends_placed : (memory : List ℕ) (slots : List CoreValue) (new : State)
        → IsGiven (record s { passage = Some q }) l results (receiver_of results (top_place s) l call) q v
        (answers ++ b ∷ []) memory slots
        → new.memories ≡ slice_set s.memories call.caller memory
        → ChangesAtEnd ds (record { callee = actor top; values = values.items; state = s }) s new
    ends_placed memory slots new given memories_are =
        subst (λ (es : List Doing). ChangesAtEnd es (record { callee = actor top; values = values.items; state = s }) s new) (sym d.is)
        (subst (λ (w : LoweredCall). HandsResult s w d.back (answered_by values.items d.more) new) (sym same_call)
        (placed_result memory slots new given memories_are))

  -- ---- a body returns

  module _ (values : Vec CoreValue Global) (call : Call) (l : Link) (v : Val) (p q : Passage)
      (answers : List ℕ) (st : State) (ret : IsReturned plan s top values.items call l v p)
      (put : HasPlace (after_lift_of_result s l call values.items v p) l call p v q answers st)
    where
      e : IsBodyCall plan top.instance call (length fs) ds
      e = body_call plan top fs ds call ret.purpose_is ret.phase_is m

      abbrev k : LoweredCall
      k = framed call.caller l e.x (top_place s)

      same_body : e.x ≡ k
      same_body = as_framed plan top.instance call (length fs) (top_place s) e.x l e.of ret.reach place

      acts : actor top ≡ l.instance
      acts = ap (λ (pu : Purpose). actor_of pu top.instance) ret.purpose_is
          ∙ (ap (λ (ph : Phase). actor_in ph top.instance call.caller) ret.phase_is
          ∙ (sym e.of.instance ∙ ap (λ (w : LoweredCall). w.link.instance) same_body))

      abbrev back_of : ℕ → BodyReturn
      back_of i = record { callee = i; values = values.items; state = s }

      abbrev back : BodyReturn
      back = back_of l.instance

      none_back : HasAnswers (asked_for l results p v) [] p
      none_back = record {
        count = ret.scanned.none_answered;
        last = ret.scanned.none_last;
        places = ret.scanned.none_placed ∙ no_places (asked_for l results p v);
      }

      w : IsSettled (after_lift_of_result s l call values.items v p) st l p q v answers (answered_before k)
      w = settled (after_lift_of_result s l call values.items v p) l call p v q answers st _ put none_back
          (e.of.result_at ∙ ap (λ (x : LoweredCall). result_place x.link x.args) same_body)

      returned_result : (memory : List ℕ) (slots : List CoreValue) (new : State)
          → IsGiven st l results (receiver_of results (top_place st) l call) q v answers memory slots
          → new.memories ≡ slice_set s.memories call.caller memory
          → HandsResult s k back [] new
      returned_result memory slots new given memories_are = record {
        v = v;
        returned = record { denoted = ret.denoted; transferable = ret.transferable };
        inside = subst (λ (n : List ℕ). ChangesInside old n rs mine) (sym now) both.inside;
        bytes = subst (λ (n : List ℕ). ChangesBytes old n results (types_of l results) v l.caller.encoding (places_of rs mine)) (sym now) both.bytes;
        others = others_stay s new call.caller memory memories_are;
      } where
        old : List ℕ
        old = memory_at s.memories call.caller

        rs : List Request
        rs = returned_requests k back v

        mine : List ℕ
        mine = answers_back k []

        answers_are : mine ≡ answers
        answers_are = append-nil (answered_before k) ∙ sym w.answers_are

        now : memory_at new.memories call.caller ≡ memory
        now = memory_is s new call.caller memory memories_are
            (omega (arith, caller_there plan call.caller call.func l ret.reach, valid.memories))

        asks : asked_for l results p v ≡ rs
        asks = ret.scanned.asks

        all : length answers ≡ length rs
        all = omega (
          arith,
          subst (λ (xs : List Request). length answers ≤ length xs) asks w.few,
          past_end rs (length answers)
              (subst (λ (xs : List Request). slice_get xs (length answers) ≡ None) (w.asks ∙ asks) given.none_to_come),
        )

        both : IsChanged old memory results (types_of l results) v l.caller.encoding rs mine
        both = subst (λ (ms : List (List ℕ)). IsChanged (memory_at ms call.caller) memory results (types_of l results) v l.caller.encoding rs mine) w.memories
            (changed laws st l results (receiver_of results (top_place st) l call) q v memory slots (returner_view k back) values.items mine given.handed ret.denoted
            (ap (λ (xs : List ℕ). length xs) answers_are ∙ all)
            (w.places ∙ (ap (λ (xs : List Request). places_of xs answers) asks ∙ ap (λ (xs : List ℕ). places_of rs xs) (sym answers_are))))

      ends_body : (memory : List ℕ) (slots : List CoreValue) (new : State)
          → IsGiven st l results (receiver_of results (top_place st) l call) q v answers memory slots
          → new.memories ≡ slice_set st.memories call.caller memory
          → ChangesAtEnd ds (back_of (actor top)) s new
      ends_body memory slots new given memories_are =
          subst (λ (es : List Doing). ChangesAtEnd es (back_of (actor top)) s new) (sym e.is)
          (subst (λ (i : ℕ). HandsResult s e.x (back_of i) [] new) (sym acts)
          (subst (λ (x : LoweredCall). HandsResult s x back [] new) (sym same_body)
          (returned_result memory slots new given
          (memories_are ∙ ap (λ (ms : List (List ℕ)). slice_set ms call.caller memory) w.memories))))

  -- ---- all cases

  pub memory_case : (mv : Move) (ev : Event) (new : State) → Cases plan s top mv ev new
      → Res plan s top ds mv ev new
  memory_case _ _ _ (trapped mv tr st from) = traps_stay plan s top ds mv tr st (from_memories plan s top mv st from)
  memory_case _ _ _ (wrote at bytes inside) = (
    subst (λ (n : List ℕ). WritesExactly (memory_at s.memories (actor top)) at bytes.items n)
        (sym (memory_is s (with_memory s (actor top) (after_write (memory_at s.memories (actor top)) at bytes.items)) (actor top) _ refl acts_there))
        (writes_exactly (memory_at s.memories (actor top)) at bytes.items inside),
    others_stay s (with_memory s (actor top) (after_write (memory_at s.memories (actor top)) at bytes.items)) (actor top) _ refl,
  )
  memory_case _ _ _ (stayed pages no_room) = (past_most s (actor top) pages no_room, refl)
  memory_case _ _ _ (grew pages fits) = (
    has_pages (memory_at s.memories (actor top)),
    subst (λ (n : List ℕ). GrowsExactly (memory_at s.memories (actor top)) pages n)
        (sym (memory_is s (with_memory s (actor top) (after_growth (memory_at s.memories (actor top)) pages)) (actor top) _ refl acts_there))
        (grows_exactly (memory_at s.memories (actor top)) pages (omega (arith, fits))),
    others_stay s (with_memory s (actor top) (after_growth (memory_at s.memories (actor top)) pages)) (actor top) _ refl,
  )
  memory_case _ _ _ (made func args r reach kinds may can) = refl
  memory_case _ _ _ (represented func args r h reach kinds found) = refl
  memory_case _ _ _ (dropped func args r h found owned) = refl
  memory_case _ _ _ (destroyed func args r fn h found owned opened room) = refl
  memory_case _ _ _ (given_back func args r dtor h call found kind) = refl
  memory_case _ _ _ (call_asks func args l v p fn request is_called next) = refl
  memory_case _ _ _ (call_enters func args l v p memory slots is_called given) = enters_body func args l v p is_called memory slots _ given refl
  memory_case _ _ _ (answer_asks values way call l p v answers q fn request pl next) = refl
  memory_case _ _ _ (answer_enters values call l p v answers q memory slots pl given) = enters_placed values call l p v answers q pl memory slots _ given refl
  memory_case _ _ _ (answer_tidies values call l p v answers q memory slots fn pl given post) = ends_placed values call l p v answers q pl memory slots _ given refl
  memory_case _ _ _ (answer_ends values call l p v answers q memory slots pl given post) = ends_placed values call l p v answers q pl memory slots _ given refl
  memory_case _ _ _ (return_asks values call l v p q answers st fn request ret put next) =
      ap (λ (n : State). n.memories) (place_changes (after_lift_of_result s l call values.items v p) l call p v q answers st put).1
  memory_case _ _ _ (return_tidies values call l v p q answers st memory slots fn ret put given post) = ends_body values call l v p q answers st ret put memory slots _ given refl
  memory_case _ _ _ (return_ends values call l v p q answers st memory slots ret put given post) = ends_body values call l v p q answers st ret put memory slots _ given refl
  memory_case _ _ _ (tidied values call l result pu ph reach nothing) =
      let c = tidying_call plan top fs ds call result pu ph m in
      subst (λ (es : List Doing). ChangesAtEnd es (record { callee = actor top; values = values.items; state = s }) s (after_call (top_place s) s)) (sym c.is) refl
  memory_case _ _ _ (root_ended values pu nothing) = refl
  memory_case _ _ _ (destructor_ended values dropper pu nothing) =
      let c = destroying plan top fs ds dropper pu m in
      subst (λ (es : List Doing). ChangesAtEnd es (record { callee = actor top; values = values.items; state = s }) s (popped s)) (sym c.3) refl
