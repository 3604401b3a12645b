-- Why each case of a step keeps what is lent told.
use Rattle.std.proofs.Common.{◌≡◌, ℕ, ◌+◌, List, [], ◌∷◌, ◌++◌, length, Option}
use Rattle.std.proofs.Common.{Some, None, refl, sym, ap, subst, ◌∙◌, append-nil}
use Rattle.std.specs.Prelude.{⊤, slice_get}
use Rattle.std.specs.Option.{option_map}
use Rattle.std.specs.declared.alloc.Global.{Global}
use Rattle.std.specs.declared.vec.Vec.{Vec}
use Rattle.cm_types.specs.declared.core_value.CoreValue.{CoreValue}
use Rattle.cm_types.specs.Values.{Val}
use Rattle.cm_abi_model.specs.Receives.{leaves_in}
use Rattle.cm_abi_model.specs.Requests.{tuple_of}
use Rattle.cm_abi_model.specs.Taken.{lent, lent_of, met}
use Rattle.cm_abi_model.specs.Views.{params, results}
use Rattle.cm_machine_model.specs.declared.event.Event.{Event}
use Rattle.cm_machine_model.specs.declared.event.Event.TheVariants as event
use Rattle.cm_machine_model.specs.declared.event.Trap.{Trap}
use Rattle.cm_machine_model.specs.declared.moves.Move.{Move}
use Rattle.cm_machine_model.specs.declared.moves.Move.TheVariants as move
use Rattle.cm_machine_model.specs.declared.frame.Call.{Call}
use Rattle.cm_machine_model.specs.declared.frame.Frame.{Frame}
use Rattle.cm_machine_model.specs.declared.frame.Lend.{Lend}
use Rattle.cm_machine_model.specs.declared.frame.Purpose.{Purpose}
use Rattle.cm_machine_model.specs.declared.frame.Purpose.TheVariants as purpose
use Rattle.cm_machine_model.specs.Cases.{Cases, HasPlace, IsCalled, IsReturned, answer_asks}
use Rattle.cm_machine_model.specs.Cases.{answer_ends, answer_enters, answer_tidies, call_asks}
use Rattle.cm_machine_model.specs.Cases.{call_enters, case_of, destroyed, destructor_ended, dropped}
use Rattle.cm_machine_model.specs.Cases.{given_back, grew, made, place_changes, represented}
use Rattle.cm_machine_model.specs.Cases.{return_asks, return_ends, return_tidies, root_ended}
use Rattle.cm_machine_model.specs.Cases.{stayed, tidied, trapped, wrote}
use Rattle.cm_machine_model.specs.History.{Action, Happens, IsHistoryOf, Occurrence, begins, moves}
use Rattle.cm_machine_model.specs.Plan.{CoreFunc, Link, Plan, core_func_at, lowered, types_of}
use Rattle.cm_machine_model.specs.Stack.{actor, below_top, top_of}
use Rattle.cm_machine_model.specs.State.{Passage, State, lends_after_call, lends_to, table_at}
use Rattle.cm_machine_model.specs.Step.{after_lift_of_result, arg_slots, args_view, result_view}
use Rattle.cm_machine_model.specs.Step.{top_place}
use Rattle.cm_machine_model.specs.Valid.{IsValidState}
use Rattle.cm_machine_laws.specs.Acting.{acts}
use Rattle.cm_machine_laws.specs.Always.{Always}
use Rattle.cm_machine_laws.specs.CallsOn.{IsBodyCall, body_call, handing_call, placing_call}
use Rattle.cm_machine_laws.specs.CallsOn.{tidying_call}
use Rattle.cm_machine_laws.specs.Doing.{Doing, LoweredCall, after_move, below, body, destroys}
use Rattle.cm_machine_laws.specs.Doing.{doing, goes_on, lowered_call, placing, root, with_body}
use Rattle.cm_machine_laws.specs.Doing.{with_placing}
use Rattle.cm_machine_laws.specs.Frames.{match_length, none_match}
use Rattle.cm_machine_laws.specs.Lent.{AreLent, LendsStand, LentTo}
use Rattle.cm_machine_laws.specs.Matching.{AllMatch, AreTold, MatchOne}
use Rattle.cm_machine_laws.proofs.GoneCases.{MetAreThere}
use Rattle.cm_machine_laws.proofs.Lending.{ends_lent}
use Rattle.cm_machine_laws.proofs.OnTheWay.{IsTold, StaysValid}
use Rattle.cm_machine_model.proofs.RunLaws.{may_begin}
use Rattle.cm_machine_laws.proofs.LentLeaves.{none_lent}

abbrev pub Told : Plan → State → Frame → List Doing → Move → Event → State → Type 0
Told plan s top ds m e new = AreLent (after_move plan (Some (actor top)) s m e ds) new.lends

trapped_none : (plan : Plan) (acting : Option ℕ) (s : State) (m : Move) (t : Trap) (ds : List Doing) → after_move plan acting s m (event.Trapped t) ds ≡ []
trapped_none plan acting s (move.Write a bytes) t ds = refl
trapped_none plan acting s (move.Grow pages) t ds = refl
trapped_none plan acting s (move.Call func args) t ds = refl
trapped_none plan acting s (move.Return values) t ds = refl
trapped_none plan acting s move.Unreachable t ds = refl

-- no call is on top
abbrev IsNoCall : Purpose → Type 0
IsNoCall purpose.Root = ⊤
IsNoCall (purpose.Call call) = ⊥
IsNoCall (purpose.Destructor dropper) = ⊤

nothing_to : (ds : List Doing) (front back ls : List Lend) → ls ≡ front ++ back → AreLent ds front → back ≡ [] → AreLent ds ls
nothing_to ds front back ls is are none = subst (AreLent ds) (sym (is ∙ (ap (λ (ys : List Lend). front ++ ys) none ∙ append-nil front))) are

one_ended : (pu : Purpose) (plan : Plan) (i n : ℕ) (d : Doing) (rest : List Doing) (ls : List Lend) → IsNoCall pu → MatchOne pu plan i n d → AreLent (d ∷ rest) ls → AreLent rest ls
one_ended purpose.Root plan i n (root j) rest ls none m x = nothing_to rest x.0 x.1 ls x.2 x.3 x.4
one_ended (purpose.Call call) plan i n d rest ls none m x = absurd none
one_ended (purpose.Destructor dropper) plan i n (destroys who j) rest ls none m x = nothing_to rest x.0 x.1 ls x.2 x.3 x.4
one_ended pu plan i n d rest ls none m x = absurd m

top_lent : (plan : Plan) (top : Frame) (fs : List Frame) (ds : List Doing) (ls : List Lend) (pu : Purpose) → top.purpose ≡ pu → IsNoCall pu → AllMatch plan (top ∷ fs) ds → AreLent ds ls → AreLent (below ds) ls
top_lent plan top fs [] ls pu is none m x = absurd m
top_lent plan top fs (d ∷ rest) ls pu is none m x = one_ended top.purpose plan top.instance (length fs) d rest ls (subst IsNoCall (sym is) none) m.0 x

module _ (met_there : MetAreThere) (plan : Plan) (s : State) (top : Frame) (fs : List Frame) (ds : List Doing)
    (is : s.stack ≡ top ∷ fs) (valid : IsValidState plan s) (m : AllMatch plan (top ∷ fs) ds) (f : AreLent ds s.lends) where
  count : length ds ≡ length s.stack
  count = match_length plan (top ∷ fs) ds m ∙ sym (ap (λ (gs : List Frame). length gs) is)

  place : top_place s ≡ length fs
  place = ap (λ (gs : List Frame). length (below_top gs)) is

  -- ---- a call

  module _ (func : ℕ) (args : Vec CoreValue Global) (l : Link) (v : Val) (p : Passage) (called : IsCalled plan s top func args.items l v p) where
    abbrev call_at : ℕ → LoweredCall
    call_at n = record { caller = actor top; link = l; args = args.items; state = s; place = n }

    abbrev more : List Lend
    more = lends_to (length s.stack) (actor top) (lent_of (met (args_view s (actor top) l) params (types_of l params) (arg_slots l args.items) v))

    to_call : LentTo (call_at (length s.stack)) (lends_to (length s.stack) (actor top) (lent_of (met (args_view s (actor top) l) params (types_of l params) (arg_slots l args.items) v)))
    to_call = (v, record { denoted = called.denoted; transferable = called.transferable }, refl)

    with_place : (request : List CoreValue) → with_placing (lowered_call s (Some (actor top)) args.items (core_func_at plan (actor top) func) (length ds)) request ds
        ≡ placing (call_at (length s.stack)) (record { request = request; answer = None } ∷ []) ∷ ds
    with_place request =
        ap (λ (o : Option CoreFunc). with_placing (lowered_call s (Some (actor top)) args.items o (length ds)) request ds) called.reach
        ∙ ap (λ (n : ℕ). placing (call_at n) (record { request = request; answer = None } ∷ []) ∷ ds) count

    with_entry : with_body (lowered_call s (Some (actor top)) args.items (core_func_at plan (actor top) func) (length ds)) ds ≡ body (call_at (length s.stack)) [] ∷ ds
    with_entry =
        ap (λ (o : Option CoreFunc). with_body (lowered_call s (Some (actor top)) args.items o (length ds)) ds) called.reach
        ∙ ap (λ (n : ℕ). body (call_at n) [] ∷ ds) count

  -- ---- a return

  module _ (values : Vec CoreValue Global) (call : Call) (l : Link) (v : Val) (p q : Passage) (answers : List ℕ) (st : State) (ret : IsReturned plan s top values.items call l v p)
      (put : HasPlace (after_lift_of_result s l call values.items v p) l call p v q answers st) where
    none : lent_of (met (result_view s l) results (types_of l results) values.items v) ≡ []
    none =
        none_lent (table_at s.tables l.instance) (met (result_view s l) results (types_of l results) values.items v) (leaves_in (tuple_of (types_of l results)) v)
        (met_there (result_view s l) results (types_of l results) values.items v ret.denoted)
        ((valid.linked.core_funcs call.caller call.func (lowered l) ret.reach).none_lent_back v)

    lends_are : st.lends ≡ s.lends
    lends_are =
        ap (λ (n : State). n.lends) (place_changes (after_lift_of_result s l call values.items v p) l call p v q answers st put).1
        ∙ (ap (λ (is : List ℕ). s.lends ++ lends_to (top_place s) l.instance is) none ∙ append-nil s.lends)

    place_now : top_place st ≡ length fs
    place_now = ap (λ (n : State). top_place n) (place_changes (after_lift_of_result s l call values.items v p) l call p v q answers st put).1 ∙ place

    c : IsBodyCall plan top.instance call (length fs) ds
    c = body_call plan top fs ds call ret.purpose_is ret.phase_is m

    known : AreLent (body c.x c.asked ∷ c.rest) s.lends
    known = subst (λ (es : List Doing). AreLent es s.lends) c.is f

    matched : AllMatch plan (top ∷ fs) (body c.x c.asked ∷ c.rest)
    matched = subst (λ (es : List Doing). AllMatch plan (top ∷ fs) es) c.is m

    asks_lent : (fn : ℕ) (request : List CoreValue) → Told plan s top ds (move.Return values) (event.Realloc call.caller fn request) st
    asks_lent fn request =
        subst (λ (es : List Doing). Told plan s top es (move.Return values) (event.Realloc call.caller fn request) st) (sym c.is)
        (subst (λ (ls : List Lend). AreLent (body c.x c.asked ∷ c.rest) ls) (sym lends_are) known)

    tidies_lent : (fn : ℕ) (args : List CoreValue) → AreLent (after_move plan (Some (actor top)) s (move.Return values) (event.PostReturn l.instance fn args) ds) st.lends
    tidies_lent fn args =
        subst (λ (es : List Doing). AreLent (after_move plan (Some (actor top)) s (move.Return values) (event.PostReturn l.instance fn args) es) st.lends) (sym c.is)
        (subst (λ (ls : List Lend). AreLent (body c.x c.asked ∷ c.rest) ls) (sym lends_are) known)

    ends_call : AreLent (below ds) (lends_after_call (top_place st) st.lends)
    ends_call =
        subst (λ (es : List Doing). AreLent (below es) (lends_after_call (top_place st) st.lends)) (sym c.is)
        (ends_lent plan fs c.rest c.x known.0 known.1 st.lends (top_place st) matched.1 place_now (c.of.placed ∙ sym place_now) (lends_are ∙ known.2) known.3 known.4)

  -- ---- all cases

  lent_case : (mv : Move) (ev : Event) (new : State) → Cases plan s top mv ev new → Told plan s top ds mv ev new
  lent_case _ _ _ (trapped mv t st from) = subst (λ (es : List Doing). AreLent es []) (sym (trapped_none plan (Some (actor top)) s mv t ds)) refl
  lent_case _ _ _ (wrote at bytes inside) = f
  lent_case _ _ _ (stayed pages no_room) = f
  lent_case _ _ _ (grew pages fits) = f
  lent_case _ _ _ (made func args r reach kinds may can) = f
  lent_case _ _ _ (represented func args r h reach kinds found) = f
  lent_case _ _ _ (dropped func args r h found owned) = f
  lent_case _ _ _ (destroyed func args r fn h found owned opened room) = (s.lends, [], sym (append-nil s.lends), f, refl)
  lent_case _ _ _ (given_back func args r k h call found kind) = f
  lent_case _ _ _ (call_asks func args l v p fn request called next) =
      subst (λ (es : List Doing). AreLent es (s.lends ++ more func args l v p called)) (sym (with_place func args l v p called request)) (s.lends, more func args l v p called, refl, f, to_call func args l v p called)
  lent_case _ _ _ (call_enters func args l v p memory slots called given) =
      subst (λ (es : List Doing). AreLent es (s.lends ++ more func args l v p called)) (sym (with_entry func args l v p called)) (s.lends, more func args l v p called, refl, f, to_call func args l v p called)
  lent_case _ _ _ (answer_asks values params call l p v answers q fn request pl next) =
      let c = placing_call plan top fs ds call pl.purpose_is pl.phase_is m in
      subst (λ (es : List Doing). Told plan s top es (move.Return values) (event.Realloc l.instance fn request) (record s { passage = Some q })) (sym c.is) (subst (λ (es : List Doing). AreLent es s.lends) c.is f)
  lent_case _ _ _ (answer_asks values results call l p v answers q fn request pl next) =
      let c = handing_call plan top fs ds call pl.purpose_is pl.phase_is m in
      subst (λ (es : List Doing). Told plan s top es (move.Return values) (event.Realloc call.caller fn request) (record s { passage = Some q })) (sym c.is) (subst (λ (es : List Doing). AreLent es s.lends) c.is f)
  lent_case _ _ _ (answer_enters values call l p v answers q memory slots pl given) =
      let c = placing_call plan top fs ds call pl.purpose_is pl.phase_is m in
      subst (λ (es : List Doing). AreLent (after_move plan (Some (actor top)) s (move.Return values) (event.Enter l.instance l.func slots) es) s.lends) (sym c.is) (subst (λ (es : List Doing). AreLent es s.lends) c.is f)
  lent_case _ _ _ (answer_tidies values call l p v answers q memory slots fn pl given post) =
      let c = handing_call plan top fs ds call pl.purpose_is pl.phase_is m in
      subst (λ (es : List Doing). AreLent (after_move plan (Some (actor top)) s (move.Return values) (event.PostReturn l.instance fn q.slots) es) s.lends) (sym c.is) (subst (λ (es : List Doing). AreLent es s.lends) c.is f)
  lent_case _ _ _ (answer_ends values call l p v answers q memory slots pl given post) =
      let c = handing_call plan top fs ds call pl.purpose_is pl.phase_is m in
      let k = subst (λ (es : List Doing). AreLent es s.lends) c.is f in
      let n = subst (λ (es : List Doing). AllMatch plan (top ∷ fs) es) c.is m in
      subst (λ (es : List Doing). AreLent (below es) (lends_after_call (top_place s) s.lends)) (sym c.is)
      (ends_lent plan fs c.rest c.x k.0 k.1 s.lends (top_place s) n.1 place (c.of.placed ∙ sym place) k.2 k.3 k.4)
  lent_case _ _ _ (return_asks values call l v p q answers st fn request ret put next) = asks_lent values call l v p q answers st ret put fn request
  lent_case _ _ _ (return_tidies values call l v p q answers st memory slots fn ret put given post) = tidies_lent values call l v p q answers st ret put fn q.slots
  lent_case _ _ _ (return_ends values call l v p q answers st memory slots ret put given post) = ends_call values call l v p q answers st ret put
  lent_case _ _ _ (tidied values call l result pu ph reach nothing) =
      let c = tidying_call plan top fs ds call result pu ph m in
      let k = subst (λ (es : List Doing). AreLent es s.lends) c.is f in
      let n = subst (λ (es : List Doing). AllMatch plan (top ∷ fs) es) c.is m in
      subst (λ (es : List Doing). AreLent (below es) (lends_after_call (top_place s) s.lends)) (sym c.is)
      (ends_lent plan fs c.rest c.x k.0 k.1 s.lends (top_place s) n.1 place (c.of.placed ∙ sym place) k.2 k.3 k.4)
  lent_case _ _ _ (root_ended values pu nothing) = top_lent plan top fs ds s.lends purpose.Root pu tt m f
  lent_case _ _ _ (destructor_ended values dropper pu nothing) = top_lent plan top fs ds s.lends (purpose.Destructor dropper) pu tt m f

-- ---- along histories

acted_lent : MetAreThere → (plan : Plan) (a : Action) (e : Event) (s new : State) (acting : Option ℕ) (ds : List Doing) → IsValidState plan s → AreTold plan s acting ds → AreLent ds s.lends → Happens plan s a e new
    → AreLent (goes_on plan acting s a e ds) new.lends
acted_lent there plan (begins i) e s new acting ds valid told f x =
    let free = may_begin s.stack (slice_get s.closed i) x.0 in
    let none : ds ≡ [] = none_match plan ds (subst (λ (fs : List Frame). AllMatch plan fs ds) free.0 told.matched) in
    subst (λ (n : State). AreLent (root i ∷ []) n.lends) (sym x.2) ([], [], subst (λ (es : List Doing). AreLent es s.lends) none f, refl, refl)
acted_lent there plan (moves m) e s new acting ds valid told f x =
    let c = case_of plan s m e new x.1 in
    let acts_is : acting ≡ Some (actor c.top) = sym told.acts ∙ ap (λ (fs : List Frame). option_map actor (top_of fs)) c.stack in
    subst (λ (o : Option ℕ). AreLent (after_move plan o s m e ds) new.lends) (sym acts_is)
    (lent_case there plan s c.top c.rest ds c.stack valid (subst (λ (fs : List Frame). AllMatch plan fs ds) c.stack told.matched) f m e new c.case)

lent_along : MetAreThere → StaysValid → IsTold → (plan : Plan) (pages : List ℕ) (h : List Occurrence) (s : State) → IsHistoryOf plan pages h s → AreLent (doing plan h) s.lends
lent_along there valid told plan pages [] s y = ap (λ (n : State). n.lends) y.history
lent_along there valid told plan pages (x ∷ h) s y =
    let before : IsHistoryOf plan pages h x.before = record { linked = y.linked; pages_fit = y.pages_fit; history = y.history.0 } in
    subst (λ (n : State). AreLent (doing plan (x ∷ h)) n.lends) (sym y.history.2)
    (acted_lent there plan x.action x.event x.before x.after (acts h) (doing plan h) (valid plan pages h x.before before) (told plan pages h x.before before)
    (lent_along there valid told plan pages h x.before before) y.history.1)

pub lends_stand : MetAreThere → StaysValid → IsTold → Always LendsStand
lends_stand there valid told plan pages h s y = record { lent = lent_along there valid told plan pages h s y; counted = (valid plan pages h s y).counted }
