-- Why each case of a step keeps what goes on followed, and hands over what was sent.
use Rattle.std.proofs.Common.{◌≡◌, ℕ, suc, ◌+◌, ◌<◌, ◌≤◌, List, [], ◌∷◌, ◌++◌, length, Option, Some, None, refl, sym, ap, subst, ◌∙◌, arith, append-nil, append_assoc}
use Rattle.std.specs.Prelude.{⊤, slice_get, take, if◌then◌else◌}
use Rattle.std.proofs.lemmas.List.{length-append}
use Rattle.std.specs.declared.alloc.Global.{Global}
use Rattle.std.specs.declared.vec.Vec.{Vec}
use Rattle.cm_types.specs.declared.core_value.CoreValue.{CoreValue}
use Rattle.cm_types.specs.Values.{Val}
use Rattle.cm_abi_model.specs.declared.request.Request.{Request}
use Rattle.cm_abi_model.specs.Denotes.{Denotes}
use Rattle.cm_abi_model.specs.Numbers.{slot_at}
use Rattle.cm_abi_model.specs.Receives.{Receives}
use Rattle.cm_abi_model.specs.Requests.{is_spilled, requests}
use Rattle.cm_abi_model.specs.Stores.{Given}
use Rattle.cm_abi_model.specs.Taken.{Transferable, met, tags_of}
use Rattle.cm_abi_model.specs.Views.{View, params, results}
use Rattle.cm_abi_model.specs.Answering.{places_of}
use Rattle.cm_abi_model.specs.Answered.{last_answer}
use Rattle.cm_machine_model.specs.declared.event.Event.{Event}
use Rattle.cm_machine_model.specs.declared.event.Event.TheVariants as event
use Rattle.cm_machine_model.specs.declared.event.Trap.{Trap}
use Rattle.cm_machine_model.specs.declared.moves.Move.{Move}
use Rattle.cm_machine_model.specs.declared.moves.Move.TheVariants as move
use Rattle.cm_machine_model.specs.Memories.{memory_at}
use Rattle.cm_machine_model.specs.declared.frame.Call.{Call}
use Rattle.cm_machine_model.specs.declared.frame.Frame.{Frame}
use Rattle.cm_machine_model.specs.declared.frame.Phase.{Phase}
use Rattle.cm_machine_model.specs.declared.frame.Phase.TheVariants as phase
use Rattle.cm_machine_model.specs.declared.frame.Purpose.{Purpose}
use Rattle.cm_machine_model.specs.declared.frame.Purpose.TheVariants as purpose
use Rattle.cm_machine_model.specs.Cases.{place_changes, Cases, HasNext, HasPlace, IsCalled, IsGiven, IsPlaced, IsReturned, answer_asks, answer_ends, answer_enters, answer_tidies, call_asks, call_enters, destroyed, destructor_ended, dropped, given_back, grew, made, represented, return_asks, return_ends}
use Rattle.cm_machine_model.specs.Cases.{return_tidies, root_ended, stayed, tidied, trapped, wrote}
use Rattle.cm_machine_model.specs.Passages.{Carries, HasAnswers, as_args, asked_for}
use Rattle.cm_machine_model.specs.Plan.{CoreFunc, Link, Plan, Reaches, core_func_at, entered_kinds, lowered, types_of}
use Rattle.cm_machine_model.specs.Rows.{same_link}
use Rattle.cm_machine_model.specs.Stack.{actor, actor_in, actor_of, below_top}
use Rattle.cm_machine_model.specs.State.{Passage, State, after_trap, table_at, view_of}
use Rattle.cm_machine_model.specs.Step.{MayLeave, after_handing, as_values, after_lift_of_args, after_lift_of_result, first_value, flat_result, given_to, in_phase, new_call, receiver_of, result_place, top_place, with_memory}
use Rattle.cm_machine_model.specs.Valid.{IsValidState}
use Rattle.cm_machine_laws.specs.Causes.{MayCall}
use Rattle.cm_machine_laws.specs.Doing.{Asked, BodyReturn, Doing, LoweredCall, after_move, below, body, handing, lowered_call, placing, with_answer, with_body, with_placing}
use Rattle.cm_machine_laws.specs.Entries.{Enters, GivesBack, Tidies}
use Rattle.cm_machine_laws.specs.Matching.{AllMatch}
use Rattle.cm_machine_laws.specs.Told.{WasReturned, WasSent, answered_before, answers_back, answers_in, is_by_memory, result_place_of, returned_requests, sent_requests}
use Rattle.cm_machine_laws.specs.Following.{AreBelow, AreFollowed, IsHanding, IsKept, IsPlacing}
use Rattle.cm_machine_laws.proofs.Follow.{answered_asks, answered_count, answered_in, answered_length, below_of, memory_kept, no_places, open_count, past_end, resumed, some_below, stays_followed}
use Rattle.cm_machine_laws.specs.CallsOn.{IsBodyCall, IsHandingCall, IsPlacingCall, body_call, handing_call, placing_call, tidying_call}
use Rattle.cm_machine_laws.specs.Frames.{match_length, may_call}
use Rattle.cm_machine_laws.proofs.GivenBack.{gives_back}
use Rattle.std.proofs.lemmas.Option.{same_Some}
use Rattle.cm_machine_laws.proofs.ValueTurns.{IsSettled, IsTurn, OneCarried, settled, turn}
use Rattle.cm_abi_model.proofs.AnsweredLaws.{last_push}
use Rattle.cm_lemmas.proofs.Lists.{length_push}

-- what an event says of the call that goes on
abbrev pub SaysOf : Event → List Doing → State → Type 0
SaysOf (event.Enter i func args) es new = Enters es i func args new
SaysOf (event.PostReturn i func args) es new = Tidies es args
SaysOf e es new = ⊤

-- what goes on after a move is followed, and the event says so
abbrev pub Res : Plan → State → Frame → List Doing → Move → Event → State → Type 0
Res plan s top ds m e new =
    AreFollowed new (after_move plan (Some (actor top)) s m e ds) × SaysOf e (after_move plan (Some (actor top)) s m e ds) new

call_in : (a b : Call) → purpose.Call a ≡ purpose.Call b → a ≡ b
call_in a b e = cc (e)

result_in : (a b : Option CoreValue) → phase.PostReturn a ≡ phase.PostReturn b → a ≡ b
result_in a b e = cc (e)

-- the frame on top keeps what is given back
kept_result : (i : ℕ) (call : Call) (result other : Option CoreValue) (h : Frame) (cl : Call) → Some (record { instance = i; purpose = purpose.Call (record call { phase = phase.PostReturn result }) }) ≡ Some h
    → h.purpose ≡ purpose.Call cl → cl.phase ≡ phase.PostReturn other → other ≡ result
kept_result i call result other h cl at pu ph =
    let frame : record { instance = i; purpose = purpose.Call (record call { phase = phase.PostReturn result }) } ≡ h = same_Some _ h at in
    let same : record call { phase = phase.PostReturn result } ≡ cl = call_in (record call { phase = phase.PostReturn result }) cl (ap (λ (x : Frame). x.purpose) frame ∙ pu) in
    result_in other result (sym ph ∙ ap (λ (x : Call). x.phase) (sym same))

trapped_none : (plan : Plan) (acting : Option ℕ) (s : State) (m : Move) (t : Trap) (ds : List Doing) → after_move plan acting s m (event.Trapped t) ds ≡ []
trapped_none plan acting s (move.Write a bytes) t ds = refl
trapped_none plan acting s (move.Grow pages) t ds = refl
trapped_none plan acting s (move.Call func args) t ds = refl
trapped_none plan acting s (move.Return values) t ds = refl
trapped_none plan acting s move.Unreachable t ds = refl

module _ (one : OneCarried) (plan : Plan) (s : State) (top : Frame) (fs : List Frame) (ds : List Doing)
    (is : s.stack ≡ top ∷ fs) (valid : IsValidState plan s) (m : AllMatch plan (top ∷ fs) ds) (f : AreFollowed s ds) where
  -- how much goes on
  count : length ds ≡ length s.stack
  count = match_length plan (top ∷ fs) ds m ∙ sym (ap (λ (gs : List Frame). length gs) is)

  place : top_place s ≡ length fs
  place = ap (λ (gs : List Frame). length (below_top gs)) is

  may_calls : MayLeave top.purpose → MayCall ds
  may_calls may = may_call plan top fs ds may m

  -- where the acting instance may call out, nothing is on its way
  idles : (new : State) → MayLeave top.purpose → AreFollowed new ds
  idles new may = stays_followed s new ds (may_calls may) f

  -- ---- a memory changes

  link_earlier : (caller func : ℕ) (l : Link) → Reaches plan caller func l → l.instance < caller
  link_earlier caller func l reach = (valid.linked.core_funcs caller func (lowered l) reach).earlier

  -- the acting instance's memory is another now
  moved : (memory : List ℕ) → AreFollowed (with_memory s (actor top) memory) ds
  moved memory = by_top top.purpose refl where
    new : State
    new = with_memory s (actor top) memory

    by_phase : (ph : Phase) (call : Call) → top.purpose ≡ purpose.Call call → call.phase ≡ ph → AreFollowed new ds
    by_phase phase.Arguments call pu ph =
        let c = placing_call plan top fs ds call pu ph m in
        let g : IsPlacing s c.x c.asked = (subst (λ (es : List Doing). AreFollowed s es) c.is f).0 in
        let acts : actor top ≡ top.instance = ap (λ (p : Purpose). actor_of p top.instance) pu ∙ ap (λ (p : Phase). actor_in p top.instance call.caller) ph in
        let apart : c.x.caller ≡ actor top → ⊥ = λ e. omega (arith, e, acts, c.of.instance, c.of.caller, link_earlier call.caller call.func c.x.link c.of.link) in
        subst (λ (es : List Doing). AreFollowed new es) (sym c.is) (
          record {
            v = g.v;
            sent = g.sent;
            passage = g.passage;
            passage_is = g.passage_is;
            slots_are = g.slots_are;
            carried = subst (λ (ms : List ℕ). Carries ms c.x.link params g.passage g.v) (sym (memory_kept s.memories (actor top) c.x.caller memory apart)) g.carried;
            requests_are = g.requests_are;
            answered = g.answered;
            so_far = g.so_far;
            one_open = g.one_open;
          },
          (subst (λ (es : List Doing). AreFollowed s es) c.is f).1,
        )
    by_phase phase.Body call pu ph =
        let c = body_call plan top fs ds call pu ph m in
        subst (λ (es : List Doing). AreFollowed new es) (sym c.is) (subst (λ (es : List Doing). AreFollowed s es) c.is f)
    by_phase phase.Results call pu ph =
        let c = handing_call plan top fs ds call pu ph m in
        let both = subst (λ (es : List Doing). AreFollowed s es) c.is f in
        let g : IsHanding s c.x c.back c.more = both.0.1 in
        let acts : actor top ≡ call.caller = ap (λ (p : Purpose). actor_of p top.instance) pu ∙ ap (λ (p : Phase). actor_in p top.instance call.caller) ph in
        let apart : c.x.link.instance ≡ actor top → ⊥ = λ e. omega (arith, e, acts, link_earlier call.caller call.func c.x.link c.of.link) in
        subst (λ (es : List Doing). AreFollowed new es) (sym c.is) (
          (
            both.0.0,
            record {
              v = g.v;
              returned = g.returned;
              callee_is = g.callee_is;
              passage = g.passage;
              passage_is = g.passage_is;
              slots_are = g.slots_are;
              carried = subst (λ (ms : List ℕ). Carries ms c.x.link results g.passage g.v) (sym (memory_kept s.memories (actor top) c.x.link.instance memory apart)) g.carried;
              requests_are = g.requests_are;
              answered = g.answered;
              so_far = g.so_far;
              one_open = g.one_open;
            },
          ),
          both.1,
        )
    by_phase (phase.PostReturn v) call pu ph =
        let c = tidying_call plan top fs ds call v pu ph m in
        let all = subst (λ (es : List Doing). AreFollowed s es) c.is f in
        let k : IsKept s c.x c.back c.more = all.0.2 in
        let acts : actor top ≡ top.instance = ap (λ (p : Purpose). actor_of p top.instance) pu ∙ ap (λ (p : Phase). actor_in p top.instance call.caller) ph in
        let apart : c.x.caller ≡ actor top → ⊥ = λ e. omega (arith, e, acts, c.of.instance, c.of.caller, link_earlier call.caller call.func c.x.link c.of.link) in
        subst (λ (es : List Doing). AreFollowed new es) (sym c.is) (
          (
            all.0.0,
            all.0.1,
            record {
              v = k.v;
              returned = k.returned;
              callee_is = k.callee_is;
              result = k.result;
              with_frame = k.with_frame;
              received = record {
                given = k.received.given;
                slots = k.received.slots;
                received = subst (λ (mem : List ℕ). Receives (record { memory = mem; table = table_at s.tables c.x.caller; instance = c.x.caller; encoding = c.x.link.caller.encoding; call = c.x.place }) results (types_of c.x.link results) k.received.slots k.received.given k.v)
                    (sym (memory_kept s.memories (actor top) c.x.caller memory apart)) k.received.received;
                placed = k.received.placed;
                all = k.received.all;
                back = k.received.back;
              };
            },
          ),
          all.1,
        )

    by_top : (pu : Purpose) → top.purpose ≡ pu → AreFollowed new ds
    by_top purpose.Root pu = idles new (subst MayLeave (sym pu) tt)
    by_top (purpose.Call call) pu = by_phase call.phase call pu refl
    by_top (purpose.Destructor dropper) pu = idles new (subst MayLeave (sym pu) tt)

  -- ---- what ends

  ended : (new : State) → AreFollowed new (below ds)
  ended new =
      let b = some_below plan s top fs ds m f in
      subst (λ (es : List Doing). AreFollowed new (below es)) (sym b.2) (resumed new b.1 b.3)

  -- ---- calls

  module _ (func : ℕ) (args : Vec CoreValue Global) (l : Link) (v : Val) (p : Passage) (called : IsCalled plan s top func args.items l v p) where
    abbrev call_at : ℕ → LoweredCall
    call_at n = record { caller = actor top; link = l; args = args.items; state = s; place = n }

    abbrev x : LoweredCall
    x = call_at (length s.stack)

    sent : WasSent x v
    sent = record { denoted = called.denoted; transferable = called.transferable }

    rs_are : asked_for l params p v ≡ sent_requests x v
    rs_are = called.scanned.asks

    none_yet : HasAnswers (sent_requests x v) [] p
    none_yet = record { count = called.scanned.none_answered; last = called.scanned.none_last; places = called.scanned.none_placed ∙ no_places (sent_requests x v) }

    below_call : AreBelow ds
    below_call = below_of s ds (may_calls called.may) f

    call_asks_case : (fn : ℕ) (request : List CoreValue) → HasNext l params p v [] fn request
        → Res plan s top ds (move.Call func args) (event.Realloc l.instance fn request) (after_lift_of_args s (actor top) func l args.items v p)
    call_asks_case fn request next =
        subst (λ (es : List Doing). AreFollowed new es × ⊤) (sym after) (
          (
            record {
              v = v;
              sent = sent;
              passage = p;
              passage_is = refl;
              slots_are = called.scanned.slots_are;
              carried = called.scanned.carried;
              requests_are = rs_are;
              answered = none_yet;
              so_far = (tt, (next.next, subst (λ (rs : List Request). slice_get rs 0 ≡ Some next.next) rs_are next.to_come, next.args_are));
              one_open = (refl, refl);
            },
            below_call,
          ),
          tt,
        ) where
          new : State
          new = after_lift_of_args s (actor top) func l args.items v p

          after : with_placing (lowered_call s (Some (actor top)) args.items (core_func_at plan (actor top) func) (length ds)) request ds
              ≡ placing x (record { request = request; answer = None } ∷ []) ∷ ds
          after =
              ap (λ (o : Option CoreFunc). with_placing (lowered_call s (Some (actor top)) args.items o (length ds)) request ds) called.reach
              ∙ ap (λ (n : ℕ). placing (call_at n) (record { request = request; answer = None } ∷ []) ∷ ds) count

    call_enters_case : (memory : List ℕ) (slots : List CoreValue)
        → IsGiven (after_lift_of_args s (actor top) func l args.items v p) l params (receiver_of params (length s.stack) l (new_call (actor top) func l args.items)) p v [] memory slots
        → Res plan s top ds (move.Call func args) (event.Enter l.instance l.func slots)
        (in_phase phase.Body l.instance (new_call (actor top) func l args.items)
        (after_handing (after_lift_of_args s (actor top) func l args.items v p) (receiver_of params (length s.stack) l (new_call (actor top) func l args.items)) p memory))
    call_enters_case memory slots given =
        subst (λ (es : List Doing). AreFollowed new es × Enters es l.instance l.func slots new) (sym after) (
          (record { v = v; sent = sent; so_far = tt; all = all }, below_call),
          (
            refl,
            refl,
            (
              v,
              sent,
              record {
                given = given_to st l params (receiver_of params (length s.stack) l (new_call (actor top) func l args.items)) p;
                received = given.handed.received;
                placed = none_yet.places;
                all = all;
              },
            ),
          ),
        ) where
          st : State
          st = after_lift_of_args s (actor top) func l args.items v p

          new : State
          new = in_phase phase.Body l.instance (new_call (actor top) func l args.items) (after_handing st (receiver_of params (length s.stack) l (new_call (actor top) func l args.items)) p memory)

          all : 0 ≡ length (sent_requests x v)
          all = omega (arith, past_end (sent_requests x v) 0 (subst (λ (rs : List Request). slice_get rs 0 ≡ None) rs_are given.none_to_come))

          after : with_body (lowered_call s (Some (actor top)) args.items (core_func_at plan (actor top) func) (length ds)) ds ≡ body x [] ∷ ds
          after =
              ap (λ (o : Option CoreFunc). with_body (lowered_call s (Some (actor top)) args.items o (length ds)) ds) called.reach
              ∙ ap (λ (n : ℕ). body (call_at n) [] ∷ ds) count

  -- ---- an allocator answers while arguments are placed

  module _ (values : Vec CoreValue Global) (call : Call) (l : Link) (p : Passage) (v : Val) (answers : List ℕ) (q : Passage) (pl : IsPlaced plan s top values.items params call l p v answers q) where
    c : IsPlacingCall plan top.instance call (length fs) ds
    c = placing_call plan top fs ds call pl.purpose_is pl.phase_is m

    both : AreFollowed s (placing c.x c.asked ∷ c.rest)
    both = subst (λ (es : List Doing). AreFollowed s es) c.is f

    g : IsPlacing s c.x c.asked
    g = both.0

    same : c.x.link ≡ l
    same = same_link plan call.caller call.func c.x.link l c.of.link pl.reach

    abbrev a : ℕ
    a = slot_at values.items 0

    t : IsTurn (memory_at s.memories call.caller) c.x.link params (sent_requests c.x g.v) (answers_in c.asked) a g.passage q v g.v l answers
    t = turn one plan s top values.items params call l p v answers q pl c.x.link same g.passage g.passage_is g.v
        (subst (λ (n : ℕ). Carries (memory_at s.memories n) c.x.link params g.passage g.v) c.of.caller g.carried) (sent_requests c.x g.v) g.requests_are (answers_in c.asked) g.answered

    abbrev asked' : List Asked
    asked' = with_answer values.items c.asked

    answers_are : answers_in asked' ≡ answers_in c.asked ++ a ∷ []
    answers_are = answered_in values.items c.asked pl.of_kinds g.one_open

    asked_size : length asked' ≡ suc (length (answers_in c.asked))
    asked_size = answered_length values.items c.asked ∙ open_count c.asked g.one_open

    slots_are : q.slots ≡ take (length (entered_kinds c.x.link)) c.x.args
    slots_are = t.slots ∙ g.slots_are

    answer_asks_case : (fn : ℕ) (request : List CoreValue) → HasNext l params q v (answers ++ a ∷ []) fn request
        → Res plan s top ds (move.Return values) (event.Realloc (receiver_of params (top_place s) l call).instance fn request) (record s { passage = Some q })
    answer_asks_case fn request next =
        subst (λ (es : List Doing). Res plan s top es (move.Return values) (event.Realloc (receiver_of params (top_place s) l call).instance fn request) (record s { passage = Some q })) (sym c.is) (
          (
            record {
              v = g.v;
              sent = g.sent;
              passage = q;
              passage_is = refl;
              slots_are = slots_are;
              carried = subst (λ (n : ℕ). Carries (memory_at s.memories n) c.x.link params q g.v) (sym c.of.caller) t.carried;
              requests_are = t.requests_are;
              answered = subst (λ (xs : List ℕ). HasAnswers (sent_requests c.x g.v) xs q) (sym (append-nil (answers_in asked') ∙ answers_are)) t.answered;
              so_far = (
                answered_asks (sent_requests c.x g.v) [] values.items c.asked g.so_far,
                (next.next, subst (λ (n : ℕ). slice_get (sent_requests c.x g.v) n ≡ Some next.next) (let size : suc (length (answers_in c.asked)) ≡ 0 + length asked' = omega (arith, asked_size) in size) (t.next (Some next.next) next.to_come), args_are),
              );
              one_open = (refl, answered_count values.items c.asked pl.of_kinds g.one_open ∙ sym (answered_length values.items c.asked));
            },
            both.1,
          ),
          tt,
        ) where
          args_are : request ≡ as_args (last_answer (answers_in asked')) next.next
          args_are = next.args_are ∙ ap (λ (n : ℕ). as_args n next.next) (last_push answers a ∙ sym (ap last_answer answers_are ∙ last_push (answers_in c.asked) a))

    all_asked : slice_get (asked_for l params q v) (length (answers ++ a ∷ [])) ≡ None → length asked' ≡ length (sent_requests c.x g.v)
    all_asked none = omega (arith, asked_size, t.within, past_end (sent_requests c.x g.v) (suc (length (answers_in c.asked))) (t.next None none))

    answer_enters_case : (memory : List ℕ) (slots : List CoreValue)
        → IsGiven (record s { passage = Some q }) l params (receiver_of params (top_place s) l call) q v (answers ++ a ∷ []) memory slots
        → Res plan s top ds (move.Return values) (event.Enter l.instance l.func slots)
        (in_phase phase.Body l.instance call (after_handing (record s { passage = Some q }) (receiver_of params (top_place s) l call) q memory))
    answer_enters_case memory slots given =
        subst (λ (es : List Doing). Res plan s top es (move.Return values) (event.Enter l.instance l.func slots) new) (sym c.is) (
          (record { v = g.v; sent = g.sent; so_far = answered_asks (sent_requests c.x g.v) [] values.items c.asked g.so_far; all = all }, both.1),
          (
            ap (λ (k : Link). k.instance) same,
            ap (λ (k : Link). k.func) same,
            (
              g.v,
              g.sent,
              record {
                given = given_to (record s { passage = Some q }) l params (receiver_of params (top_place s) l call) q;
                received = received;
                placed = t.answered.places ∙ ap (λ (xs : List ℕ). places_of (sent_requests c.x g.v) xs) (sym answers_are);
                all = answered_count values.items c.asked pl.of_kinds g.one_open ∙ (sym (answered_length values.items c.asked) ∙ all);
              },
            ),
          ),
        ) where
          new : State
          new = in_phase phase.Body l.instance call (after_handing (record s { passage = Some q }) (receiver_of params (top_place s) l call) q memory)

          all : length asked' ≡ length (sent_requests c.x g.v)
          all = all_asked given.none_to_come

          gave : Given
          gave = given_to (record s { passage = Some q }) l params (receiver_of params (top_place s) l call) q

          received : Receives (view_of new c.x.link.instance c.x.link.callee.encoding c.x.place) params (types_of c.x.link params) slots gave g.v
          received =
              subst (λ (n : ℕ). Receives (view_of new c.x.link.instance c.x.link.callee.encoding n) params (types_of c.x.link params) slots gave g.v) (place ∙ sym c.of.placed)
              (subst (λ (k : Link). Receives (view_of new k.instance k.callee.encoding (top_place s)) params (types_of k params) slots gave g.v) (sym same)
              (subst (λ (u : Val). Receives (view_of new l.instance l.callee.encoding (top_place s)) params (types_of l params) slots gave u) t.value_is given.handed.received))

  -- ---- an allocator answers while a result is placed

  module _ (values : Vec CoreValue Global) (call : Call) (l : Link) (p : Passage) (v : Val) (answers : List ℕ) (q : Passage) (pl : IsPlaced plan s top values.items results call l p v answers q) where
    pub d : IsHandingCall plan top.instance call (length fs) ds
    d = handing_call plan top fs ds call pl.purpose_is pl.phase_is m

    pair : AreFollowed s (handing d.x d.asked d.back d.more ∷ d.rest)
    pair = subst (λ (es : List Doing). AreFollowed s es) d.is f

    pub j : IsHanding s d.x d.back d.more
    j = pair.0.1

    same_call : d.x.link ≡ l
    same_call = same_link plan call.caller call.func d.x.link l d.of.link pl.reach

    abbrev b : ℕ
    b = slot_at values.items 0

    u : IsTurn (memory_at s.memories l.instance) d.x.link results (returned_requests d.x d.back j.v) (answers_back d.x d.more) b j.passage q v j.v l answers
    u = turn one plan s top values.items results call l p v answers q pl d.x.link same_call j.passage j.passage_is j.v
        (subst (λ (k : Link). Carries (memory_at s.memories k.instance) d.x.link results j.passage j.v) same_call j.carried) (returned_requests d.x d.back j.v) j.requests_are (answers_back d.x d.more) j.answered

    abbrev more' : List Asked
    more' = with_answer values.items d.more

    backs_are : answers_back d.x more' ≡ answers_back d.x d.more ++ b ∷ []
    backs_are = ap (λ (xs : List ℕ). answered_before d.x ++ xs) (answered_in values.items d.more pl.of_kinds j.one_open) ∙ sym (append_assoc (answered_before d.x) (answers_in d.more) (b ∷ []))

    more_size : length (answered_before d.x) + length more' ≡ suc (length (answers_back d.x d.more))
    more_size = omega (arith, answered_length values.items d.more, open_count d.more j.one_open, length-append (answered_before d.x) (answers_in d.more))

    handing_asks_case : (fn : ℕ) (request : List CoreValue) → HasNext l results q v (answers ++ b ∷ []) fn request
        → Res plan s top ds (move.Return values) (event.Realloc (receiver_of results (top_place s) l call).instance fn request) (record s { passage = Some q })
    handing_asks_case fn request next =
        subst (λ (es : List Doing). Res plan s top es (move.Return values) (event.Realloc (receiver_of results (top_place s) l call).instance fn request) (record s { passage = Some q })) (sym d.is) (
          (
            (
              pair.0.0,
              record {
                v = j.v;
                returned = j.returned;
                callee_is = j.callee_is;
                passage = q;
                passage_is = refl;
                slots_are = u.slots ∙ j.slots_are;
                carried = subst (λ (k : Link). Carries (memory_at s.memories k.instance) d.x.link results q j.v) (sym same_call) u.carried;
                requests_are = u.requests_are;
                answered = subst (λ (xs : List ℕ). HasAnswers (returned_requests d.x d.back j.v) xs q) (sym (ap (λ (xs : List ℕ). answered_before d.x ++ xs) (append-nil (answers_in more')) ∙ backs_are)) u.answered;
                so_far = (
                  answered_asks (returned_requests d.x d.back j.v) (answered_before d.x) values.items d.more j.so_far,
                  (next.next, subst (λ (n : ℕ). slice_get (returned_requests d.x d.back j.v) n ≡ Some next.next) (sym more_size) (u.next (Some next.next) next.to_come), args_are),
                );
                one_open = (refl, answered_count values.items d.more pl.of_kinds j.one_open ∙ sym (answered_length values.items d.more));
              },
            ),
            pair.1,
          ),
          tt,
        ) where
          args_are : request ≡ as_args (last_answer (answers_back d.x more')) next.next
          args_are = next.args_are ∙ ap (λ (n : ℕ). as_args n next.next) (last_push answers b ∙ sym (ap last_answer backs_are ∙ last_push (answers_back d.x d.more) b))

    pub all_back : slice_get (asked_for l results q v) (length (answers ++ b ∷ [])) ≡ None → length (answers_back d.x more') ≡ length (returned_requests d.x d.back j.v)
    all_back none =
        omega (
          arith,
          ap (λ (xs : List ℕ). length xs) backs_are,
          length_push (answers_back d.x d.more) b,
          u.within,
          past_end (returned_requests d.x d.back j.v) (suc (length (answers_back d.x d.more))) (u.next None none),
        )

    -- what the caller has of the result once it is handed over
    pub handing_received : (memory : List ℕ) (slots : List CoreValue) → IsGiven (record s { passage = Some q }) l results (receiver_of results (top_place s) l call) q v (answers ++ b ∷ []) memory slots
        → Receives (view_of (after_handing (record s { passage = Some q }) (receiver_of results (top_place s) l call) q memory) d.x.caller d.x.link.caller.encoding d.x.place) results (types_of d.x.link results) slots
        (given_to (record s { passage = Some q }) l results (receiver_of results (top_place s) l call) q) j.v
    handing_received memory slots given =
        let st : State = after_handing (record s { passage = Some q }) (receiver_of results (top_place s) l call) q memory in
        let g' : Given = given_to (record s { passage = Some q }) l results (receiver_of results (top_place s) l call) q in
        subst (λ (i : ℕ). Receives (view_of st i d.x.link.caller.encoding d.x.place) results (types_of d.x.link results) slots g' j.v) (sym d.of.caller)
        (subst (λ (n : ℕ). Receives (view_of st call.caller d.x.link.caller.encoding n) results (types_of d.x.link results) slots g' j.v) (place ∙ sym d.of.placed)
        (subst (λ (k : Link). Receives (view_of st call.caller k.caller.encoding (top_place s)) results (types_of k results) slots g' j.v) (sym same_call)
        (subst (λ (z : Val). Receives (view_of st call.caller l.caller.encoding (top_place s)) results (types_of l results) slots g' z) u.value_is given.handed.received)))

    pub handing_places : q.places ≡ places_of (returned_requests d.x d.back j.v) (answers_back d.x more')
    handing_places = u.answered.places ∙ ap (λ (xs : List ℕ). places_of (returned_requests d.x d.back j.v) xs) (sym backs_are)

    pub handing_back : (memory : List ℕ) (slots : List CoreValue) → IsGiven (record s { passage = Some q }) l results (receiver_of results (top_place s) l call) q v (answers ++ b ∷ []) memory slots
        → GivesBack (is_by_memory d.x) (result_place_of d.x) slots (as_values (first_value (flat_result l slots))) × (as_values (first_value (flat_result l slots)) ≡ flat_result l slots)
    handing_back memory slots given =
        subst (λ (k : Link). GivesBack (is_by_memory d.x) (result_place_of d.x) slots (as_values (first_value (flat_result k slots))) × (as_values (first_value (flat_result k slots)) ≡ flat_result k slots)) same_call
        (gives_back _ (types_of d.x.link results) slots _ j.v d.x.link.callee.encoding d.x.link.caller.encoding _ (result_place_of d.x) (answers_in more') (handing_received memory slots given) handing_places)

    answer_tidies_case : (memory : List ℕ) (slots : List CoreValue) (fn : ℕ)
        → IsGiven (record s { passage = Some q }) l results (receiver_of results (top_place s) l call) q v (answers ++ b ∷ []) memory slots
        → Res plan s top ds (move.Return values) (event.PostReturn l.instance fn q.slots)
        (in_phase (phase.PostReturn (first_value (flat_result l slots))) l.instance call (after_handing (record s { passage = Some q }) (receiver_of results (top_place s) l call) q memory))
    answer_tidies_case memory slots fn given =
        subst (λ (es : List Doing). Res plan s top es (move.Return values) (event.PostReturn l.instance fn q.slots)
        (in_phase (phase.PostReturn (first_value (flat_result l slots))) l.instance call (after_handing (record s { passage = Some q }) (receiver_of results (top_place s) l call) q memory))) (sym d.is) (
          (
            (
              pair.0.0,
              record {
                v = j.v;
                returned = j.returned;
                so_far = answered_asks (returned_requests d.x d.back j.v) (answered_before d.x) values.items d.more j.so_far;
                all = all_back given.none_to_come;
              },
              record {
                v = j.v;
                returned = j.returned;
                callee_is = j.callee_is;
                result = first_value (flat_result l slots);
                with_frame = λ h cl other at pu ph. kept_result l.instance call (first_value (flat_result l slots)) other h cl at pu ph;
                received = record {
                  given = given_to (record s { passage = Some q }) l results (receiver_of results (top_place s) l call) q;
                  slots = slots;
                  received = handing_received memory slots given;
                  placed = handing_places;
                  all = all_back given.none_to_come;
                  back = (handing_back memory slots given).0;
                };
              },
            ),
            pair.1,
          ),
          u.slots ∙ j.slots_are,
        )

  -- ---- a body returns

  module _ (values : Vec CoreValue Global) (call : Call) (l : Link) (v : Val) (p q : Passage) (answers : List ℕ) (st : State) (ret : IsReturned plan s top values.items call l v p)
      (put : HasPlace (after_lift_of_result s l call values.items v p) l call p v q answers st) where
    pub e : IsBodyCall plan top.instance call (length fs) ds
    e = body_call plan top fs ds call ret.purpose_is ret.phase_is m

    known : AreFollowed s (body e.x e.asked ∷ e.rest)
    known = subst (λ (es : List Doing). AreFollowed s es) e.is f

    same_body : e.x.link ≡ l
    same_body = same_link plan call.caller call.func e.x.link l e.of.link ret.reach

    acts : actor top ≡ l.instance
    acts = ap (λ (pu : Purpose). actor_of pu top.instance) ret.purpose_is ∙ (ap (λ (ph : Phase). actor_in ph top.instance call.caller) ret.phase_is ∙ (sym e.of.instance ∙ ap (λ (k : Link). k.instance) same_body))

    abbrev back : BodyReturn
    back = record { callee = actor top; values = values.items; state = s }

    -- the view at the return, as the call tells it
    told_view : (P : View → Type 0) → P (view_of s l.instance l.callee.encoding (top_place s)) → P (view_of s (actor top) e.x.link.callee.encoding e.x.place)
    told_view P y =
        subst (λ (n : ℕ). P (view_of s (actor top) e.x.link.callee.encoding n)) (place ∙ sym e.of.placed)
        (subst (λ (k : Link). P (view_of s (actor top) k.callee.encoding (top_place s))) (sym same_body)
        (subst (λ (i : ℕ). P (view_of s i l.callee.encoding (top_place s))) (sym acts) y))

    pub returned : WasReturned e.x back v
    returned = record {
      denoted = told_view (λ w. Denotes w results (types_of e.x.link results) values.items v) (subst (λ (k : Link). Denotes (view_of s l.instance l.callee.encoding (top_place s)) results (types_of k results) values.items v) (sym same_body) ret.denoted);
      transferable = told_view (λ w. Transferable w results (types_of e.x.link results) values.items v) (subst (λ (k : Link). Transferable (view_of s l.instance l.callee.encoding (top_place s)) results (types_of k results) values.items v) (sym same_body) ret.transferable);
    }

    abbrev rs : List Request
    rs = returned_requests e.x back v

    lift_rs : asked_for l results p v ≡ rs
    lift_rs =
        told_view (λ w. asked_for l results p v ≡ requests results (types_of e.x.link results) v e.x.link.callee.encoding e.x.link.caller.encoding (tags_of (met w results (types_of e.x.link results) values.items v)))
        (subst (λ (k : Link). asked_for l results p v ≡ requests results (types_of k results) v k.callee.encoding k.caller.encoding (tags_of (met (view_of s l.instance l.callee.encoding (top_place s)) results (types_of k results) values.items v))) (sym same_body) ret.scanned.asks)

    none_back : HasAnswers (asked_for l results p v) [] p
    none_back = record { count = ret.scanned.none_answered; last = ret.scanned.none_last; places = ret.scanned.none_placed ∙ no_places (asked_for l results p v) }

    w : IsSettled (after_lift_of_result s l call values.items v p) st l p q v answers (if is_spilled results (types_of l results) then slot_at e.x.args (length (entered_kinds l)) ∷ [] else [])
    w = settled (after_lift_of_result s l call values.items v p) l call p v q answers st (slot_at e.x.args (length (entered_kinds l))) put refl none_back
        (e.of.result_at ∙ ap (λ (k : Link). result_place k e.x.args) same_body)

    before_is : answers ≡ answered_before e.x
    before_is = w.answers_are ∙ ap (λ (k : Link). if is_spilled results (types_of k results) then slot_at e.x.args (length (entered_kinds k)) ∷ [] else []) (sym same_body)

    has : HasAnswers rs (answered_before e.x) q
    has = subst (λ (xs : List ℕ). HasAnswers rs xs q) before_is (subst (λ (xs : List Request). HasAnswers xs answers q) lift_rs w.has)

    q_rs : asked_for l results q v ≡ rs
    q_rs = w.requests_are ∙ lift_rs

    pub callee_is : actor top ≡ e.x.link.instance
    callee_is = acts ∙ ap (λ (k : Link). k.instance) (sym same_body)

    return_asks_case : (fn : ℕ) (request : List CoreValue) → HasNext l results q v answers fn request → Res plan s top ds (move.Return values) (event.Realloc call.caller fn request) st
    return_asks_case fn request next =
        subst (λ (es : List Doing). Res plan s top es (move.Return values) (event.Realloc call.caller fn request) st) (sym e.is) (
          (
            (
              known.0,
              record {
                v = v;
                returned = returned;
                callee_is = callee_is;
                passage = q;
                passage_is = w.passage_is;
                slots_are = w.slots ∙ ret.scanned.slots_are;
                carried = subst (λ (k : Link). Carries (memory_at st.memories k.instance) k results q v) (sym same_body)
                    (subst (λ (ms : List (List ℕ)). Carries (memory_at ms l.instance) l results q v) (sym w.memories_are) (w.carried (memory_at s.memories l.instance) ret.scanned.carried));
                requests_are = ap (λ (k : Link). asked_for k results q v) same_body ∙ q_rs;
                answered = subst (λ (xs : List ℕ). HasAnswers rs xs q) (sym (append-nil (answered_before e.x))) has;
                so_far = (tt, (next.next, come, args_are));
                one_open = (refl, refl);
              },
            ),
            known.1,
          ),
          tt,
        ) where
          come : slice_get rs (length (answered_before e.x) + 0) ≡ Some next.next
          come =
              let size : length answers ≡ length (answered_before e.x) + 0 = omega (arith, ap (λ (xs : List ℕ). length xs) before_is) in
              subst (λ (n : ℕ). slice_get rs n ≡ Some next.next) size (subst (λ (xs : List Request). slice_get xs (length answers) ≡ Some next.next) q_rs next.to_come)

          args_are : request ≡ as_args (last_answer (answered_before e.x ++ [])) next.next
          args_are = next.args_are ∙ ap (λ (xs : List ℕ). as_args (last_answer xs) next.next) (before_is ∙ sym (append-nil (answered_before e.x)))

    place_now : top_place st ≡ length fs
    place_now = ap (λ (n : State). top_place n) (place_changes (after_lift_of_result s l call values.items v p) l call p v q answers st put).1 ∙ place

    pub all_given : (memory : List ℕ) (slots : List CoreValue) → IsGiven st l results (receiver_of results (top_place st) l call) q v answers memory slots → length (answers_back e.x []) ≡ length rs
    all_given memory slots given =
        omega (
          arith,
          ap (λ (xs : List ℕ). length xs) (append-nil (answered_before e.x)),
          ap (λ (xs : List ℕ). length xs) before_is,
          within_rs,
          past_end rs (length answers) (subst (λ (xs : List Request). slice_get xs (length answers) ≡ None) q_rs given.none_to_come),
        ) where
          within_rs : length answers ≤ length rs
          within_rs = subst (λ (xs : List Request). length answers ≤ length xs) lift_rs w.few

    pub return_received : (memory : List ℕ) (slots : List CoreValue) → IsGiven st l results (receiver_of results (top_place st) l call) q v answers memory slots
        → Receives (view_of (after_handing st (receiver_of results (top_place st) l call) q memory) e.x.caller e.x.link.caller.encoding e.x.place) results (types_of e.x.link results) slots
        (given_to st l results (receiver_of results (top_place st) l call) q) v
    return_received memory slots given =
        let hs : State = after_handing st (receiver_of results (top_place st) l call) q memory in
        let g' : Given = given_to st l results (receiver_of results (top_place st) l call) q in
        subst (λ (i : ℕ). Receives (view_of hs i e.x.link.caller.encoding e.x.place) results (types_of e.x.link results) slots g' v) (sym e.of.caller)
        (subst (λ (n : ℕ). Receives (view_of hs call.caller e.x.link.caller.encoding n) results (types_of e.x.link results) slots g' v) (place_now ∙ sym e.of.placed)
        (subst (λ (k : Link). Receives (view_of hs call.caller k.caller.encoding (top_place st)) results (types_of k results) slots g' v) (sym same_body) given.handed.received))

    pub return_places : q.places ≡ places_of rs (answers_back e.x [])
    return_places = has.places ∙ ap (λ (xs : List ℕ). places_of rs xs) (sym (append-nil (answered_before e.x)))

    pub return_back : (memory : List ℕ) (slots : List CoreValue) → IsGiven st l results (receiver_of results (top_place st) l call) q v answers memory slots
        → GivesBack (is_by_memory e.x) (result_place_of e.x) slots (as_values (first_value (flat_result l slots))) × (as_values (first_value (flat_result l slots)) ≡ flat_result l slots)
    return_back memory slots given =
        subst (λ (k : Link). GivesBack (is_by_memory e.x) (result_place_of e.x) slots (as_values (first_value (flat_result k slots))) × (as_values (first_value (flat_result k slots)) ≡ flat_result k slots)) same_body
        (gives_back _ (types_of e.x.link results) slots _ v e.x.link.callee.encoding e.x.link.caller.encoding _ (result_place_of e.x) [] (return_received memory slots given) return_places)

    return_tidies_case : (memory : List ℕ) (slots : List CoreValue) (fn : ℕ) → IsGiven st l results (receiver_of results (top_place st) l call) q v answers memory slots
        → Res plan s top ds (move.Return values) (event.PostReturn l.instance fn q.slots)
        (in_phase (phase.PostReturn (first_value (flat_result l slots))) l.instance call (after_handing st (receiver_of results (top_place st) l call) q memory))
    return_tidies_case memory slots fn given =
        subst (λ (es : List Doing). Res plan s top es (move.Return values) (event.PostReturn l.instance fn q.slots)
        (in_phase (phase.PostReturn (first_value (flat_result l slots))) l.instance call (after_handing st (receiver_of results (top_place st) l call) q memory))) (sym e.is) (
          (
            (
              known.0,
              record { v = v; returned = returned; so_far = tt; all = all_given memory slots given },
              record {
                v = v;
                returned = returned;
                callee_is = callee_is;
                result = first_value (flat_result l slots);
                with_frame = λ h cl other at pu ph. kept_result l.instance call (first_value (flat_result l slots)) other h cl at pu ph;
                received = record {
                  given = given_to st l results (receiver_of results (top_place st) l call) q;
                  slots = slots;
                  received = return_received memory slots given;
                  placed = return_places;
                  all = all_given memory slots given;
                  back = (return_back memory slots given).0;
                };
              },
            ),
            known.1,
          ),
          w.slots ∙ ret.scanned.slots_are,
        )

  -- ---- all cases

  pub follow_case : (mv : Move) (ev : Event) (new : State) → Cases plan s top mv ev new → Res plan s top ds mv ev new
  follow_case _ _ _ (trapped mv t st from) = subst (λ (es : List Doing). AreFollowed (after_trap st) es × ⊤) (sym (trapped_none plan (Some (actor top)) s mv t ds)) (tt, tt)
  follow_case _ _ _ (wrote at bytes inside) = (moved _, tt)
  follow_case _ _ _ (stayed pages no_room) = (f, tt)
  follow_case _ _ _ (grew pages fits) = (moved _, tt)
  follow_case _ _ _ (made func args r reach kinds may can) = (idles _ may, tt)
  follow_case _ _ _ (represented func args r h reach kinds found) = (f, tt)
  follow_case _ _ _ (dropped func args r h found owned) = (idles _ found.may, tt)
  follow_case _ _ _ (destroyed func args r fn h found owned opened room) = ((tt, below_of s ds (may_calls found.may) f), tt)
  follow_case _ _ _ (given_back func args r k h call found kind) = (idles _ found.may, tt)
  follow_case _ _ _ (call_asks func args l v p fn request called next) = call_asks_case func args l v p called fn request next
  follow_case _ _ _ (call_enters func args l v p memory slots called given) = call_enters_case func args l v p called memory slots given
  follow_case _ _ _ (answer_asks values params call l p v answers q fn request pl next) = answer_asks_case values call l p v answers q pl fn request next
  follow_case _ _ _ (answer_asks values results call l p v answers q fn request pl next) = handing_asks_case values call l p v answers q pl fn request next
  follow_case _ _ _ (answer_enters values call l p v answers q memory slots pl given) = answer_enters_case values call l p v answers q pl memory slots given
  follow_case _ _ _ (answer_tidies values call l p v answers q memory slots fn pl given post) = answer_tidies_case values call l p v answers q pl memory slots fn given
  follow_case _ _ _ (answer_ends values call l p v answers q memory slots pl given post) = (ended _, tt)
  follow_case _ _ _ (return_asks values call l v p q answers st fn request ret put next) = return_asks_case values call l v p q answers st ret put fn request next
  follow_case _ _ _ (return_tidies values call l v p q answers st memory slots fn ret put given post) = return_tidies_case values call l v p q answers st ret put memory slots fn given
  follow_case _ _ _ (return_ends values call l v p q answers st memory slots ret put given post) = (ended _, tt)
  follow_case _ _ _ (tidied values call l result pu ph reach nothing) = (ended _, tt)
  follow_case _ _ _ (root_ended values pu nothing) = (ended _, tt)
  follow_case _ _ _ (destructor_ended values dropper pu nothing) = (ended _, tt)
