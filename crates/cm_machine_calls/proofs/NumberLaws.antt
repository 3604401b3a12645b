-- Values that are numbers alone, which pass at once: what would be kept of one on its way, and the
-- rows of a call and of a body's return.
use Rattle.std.proofs.Common.{◌≡◌, ℕ, inr, Bool, true, false, List, [], ◌∷◌, ◌++◌, length, map, Option, Some, None, refl, sym, ap, subst, ◌∙◌, arith}
use Rattle.std.specs.Prelude.{IsSome, if◌then◌else◌, slice_get, slice_set}
use Rattle.std.proofs.lemmas.List.{append-nil, length-map}
use Rattle.std.proofs.lemmas.Option.{none-some}
use Rattle.cm_types.specs.CoreValues.{kind_of}
use Rattle.cm_types.specs.declared.core_value.CoreKind.{CoreKind}
use Rattle.cm_types.specs.declared.core_value.CoreKind.TheVariants as kind
use Rattle.cm_types.specs.declared.core_value.CoreValue.{CoreValue}
use Rattle.cm_types.specs.Types.{Fields}
use Rattle.cm_types.specs.Values.{Val}
use Rattle.cm_handles.specs.Handles.{Handles}
use Rattle.cm_layout.specs.Flattening.{flat_of_fields}
use Rattle.cm_abi_model.specs.Parts.{Part}
use Rattle.cm_abi_model.specs.Receives.{HandleLeaf, call_kinds, leaves_in}
use Rattle.cm_abi_model.specs.Requests.{is_spilled, part_requests, requests, tuple_of}
use Rattle.cm_abi_model.specs.Taken.{CanGo, MAX_CONTENT, Met, Transferable, met, tags_of}
use Rattle.cm_abi_model.specs.Telling.{TellAll}
use Rattle.cm_abi_model.specs.Views.{View, Way, params, results}
use Rattle.cm_abi_model.specs.declared.receiver.Receiver.{Receiver}
use Rattle.cm_abi_model.specs.declared.request.Request.{Request}
use Rattle.cm_abi_slots.specs.Passing.{PassesNumbers}
use Rattle.cm_abi_slots.specs.Steps.{AreStepsOf}
use Rattle.cm_abi_slots.specs.declared.steps.SlotStep.{SlotStep}
use Rattle.cm_machine_model.specs.Memories.{memory_at}
use Rattle.cm_machine_model.specs.declared.event.Event.{Event}
use Rattle.cm_machine_model.specs.declared.event.Event.TheVariants as event
use Rattle.cm_machine_model.specs.declared.frame.Call.{Call}
use Rattle.cm_machine_model.specs.declared.frame.Frame.{Frame}
use Rattle.cm_machine_model.specs.declared.frame.Lend.{Lend}
use Rattle.cm_machine_model.specs.declared.frame.Phase.{Phase}
use Rattle.cm_machine_model.specs.declared.frame.Phase.TheVariants as phase
use Rattle.cm_machine_model.specs.declared.frame.Purpose.{Purpose}
use Rattle.cm_machine_model.specs.declared.frame.Purpose.TheVariants as purpose
use Rattle.cm_machine_model.specs.Passages.{IsScanned, asked_for}
use Rattle.cm_machine_model.specs.Plan.{Link, Plan, Reaches, entered_kinds, giver_side, receiver_side, taken_kinds, types_of}
use Rattle.cm_machine_model.specs.Stack.{below_top, top_of}
use Rattle.cm_machine_model.specs.State.{Passage, State, table_at, view_of}
use Rattle.cm_machine_model.specs.Step.{AreOf, Finishes, GoesOn, GoesOnBy, HandsOver, IsReceived, PassesArguments, PlacesResult, ReturnsResult, after_handing, after_lift, after_lift_of_args, after_lift_of_result, arg_slots, args_view, call_frame, given_to, in_phase, new_call, receiver_of, result_place, result_view, top_place}
use Rattle.cm_machine_model.specs.Valid.{PassesAtTop, PassesFor, PassesIn}
use Rattle.cm_machine_laws.specs.Taking.{AreThere}
use Rattle.cm_machine_calls.proofs.KindLaws.{split_kinds}
use Rattle.cm_machine_calls.proofs.Pairs.{set_back}
use Rattle.cm_machine_calls.proofs.Standing.{passes_at}
use Rattle.cm_machine_model.proofs.StateLaws.{set_same}

-- ---- core values

flat_by : (b c : Bool) (xs ys : List SlotStep) → (if b then None else if c then Some xs else None) ≡ Some ys → b ≡ false
flat_by true c xs ys is = absurd (none-some ys is)
flat_by false c xs ys is = refl

-- what has steps goes in core values
pub is_flat : (way : Way) (types : Fields) (steps : List SlotStep) → AreStepsOf way types steps → is_spilled way types ≡ false
is_flat way types steps are = flat_by _ _ _ _ are

pub flat_kinds : (way : Way) (types : Fields) (steps : List SlotStep) → AreStepsOf way types steps → call_kinds way types ≡ flat_of_fields types
flat_kinds way types steps are = ap (λ (b : Bool). if b then kind.I32 ∷ [] else flat_of_fields types) (is_flat way types steps are)

pub as_many : (slots : List CoreValue) (kinds : List CoreKind) (steps : List SlotStep) → map kind_of slots ≡ kinds → length steps ≡ length kinds → length slots ≡ length steps
as_many slots kinds steps are each = omega (arith, length-map slots kind_of, ap length are, each)

-- ---- what would be on its way

abbrev pub numbers_in : List CoreValue → Passage
numbers_in slots = record { slots = slots; records = []; places = []; answered = 0; last = 0; leaves = [] }

no_leaf : (t : Handles) (ms : List Met) (ls : List HandleLeaf) → ms ≡ [] → AreThere t ms ls → ls ≡ []
no_leaf t ms ls none there = subst (λ (x : List Met). AreThere t x ls) none there

nothing_goes : (t : Handles) → CanGo t MAX_CONTENT []
nothing_goes t = record {
  once = tt;
  free = λ index h among is. omega (arith, among.1);
  apart = λ index among also. omega (arith, among.1);
  small = omega arith;
}

module _ (w : View) (l : Link) (way : Way) (slots passed : List CoreValue) (v : Val)
    (there : AreThere w.table (met w way (types_of l way) slots v) (leaves_in (tuple_of (types_of l way)) v))
    (n : PassesNumbers w way (types_of l way) slots passed v) where
  pub transferable : Transferable w way (types_of l way) slots v
  transferable = subst (λ (x : List Met). CanGo w.table MAX_CONTENT x) (sym n.nothing_met) (nothing_goes w.table)

  pub scanned : w.encoding ≡ (giver_side l way).encoding → IsScanned w l way slots v (numbers_in slots)
  scanned encoding = record {
    slots_are = refl;
    carried = record {
      view = w;
      memory_is = refl;
      encoding_is = encoding;
      denoted = n.denoted;
      handles = sym (no_leaf w.table (met w way (types_of l way) slots v) (leaves_in (tuple_of (types_of l way)) v) n.nothing_met there);
      starts = [];
      told = subst (λ (ps : List Part). TellAll w (receiver_side l way).encoding [] ps []) (sym n.no_part) tt;
    };
    asks = ap (λ (ms : List Met). requests way (types_of l way) v (giver_side l way).encoding (receiver_side l way).encoding (tags_of ms)) (sym n.nothing_met);
    none_placed = refl;
    none_answered = refl;
    none_last = refl;
  }

  none_asked : asked_for l way (numbers_in slots) v ≡ []
  none_asked = ap (λ (ps : List Part). part_requests (giver_side l way).encoding (receiver_side l way).encoding [] ps) n.no_part

  hands : (s : State) (to : Receiver) (row : List CoreValue → State → Event → State → Type 0) (e : Event) (new : State)
      → row passed (after_handing s to (numbers_in slots) (memory_at s.memories to.instance)) e new → HandsOver s l way to (numbers_in slots) v [] [] row e new
  hands s to row e new x =
      inr (
        tt,
        inr (
          omega arith,
          inr (
            memory_at s.memories to.instance,
            passed,
            record {
              received = n.received (view_of (after_handing s to (numbers_in slots) (memory_at s.memories to.instance)) to.instance (receiver_side l way).encoding to.call) (given_to s l way to (numbers_in slots)) refl;
              framed = record { length_stays = refl; others_stay = λ at beside. refl };
            },
            x,
          ),
        ),
      )

  -- nothing is asked for, and the value is handed over
  pub goes : (s : State) (place : ℕ) (call : Call) (e : Event) (new : State)
      → IsReceived way place l call (numbers_in slots) passed (after_handing s (receiver_of way place l call) (numbers_in slots) (memory_at s.memories (receiver_of way place l call).instance)) e new
      → GoesOn s place l way call (numbers_in slots) v [] e new
  goes s place call e new x =
      subst (λ (rs : List Request). GoesOnBy (slice_get rs 0) s place l way call (numbers_in slots) v rs [] e new) (sym none_asked)
      (hands s (receiver_of way place l call) (IsReceived way place l call (numbers_in slots)) e new x)

-- ---- the state

abbrev state_by : List (List ℕ) → List Handles → List Lend → Option Passage → State → List Frame → State
state_by memories tables lends passage s fs = record {
  memories = memories;
  tables = tables;
  owners = s.owners;
  lends = lends;
  closed = s.closed;
  stack = fs;
  passage = passage;
}

settled_none : (s : State) (giver call : ℕ) (slots : List CoreValue) (to : Receiver) (fs : List Frame) → s.passage ≡ None
    → ◌≡◌ {A = State} (after_handing (record (after_lift s giver call [] (numbers_in slots)) { stack = fs }) to (numbers_in slots) (memory_at s.memories to.instance)) (record s { stack = fs })
settled_none s giver call slots to fs idle =
    let lifted : List Handles = slice_set s.tables giver (table_at s.tables giver) in
    ap (λ (m : List (List ℕ)). state_by m (slice_set lifted to.instance (table_at lifted to.instance)) (s.lends ++ []) None s fs) (set_back s.memories to.instance [])
    ∙ ap (λ (t : List Handles). state_by s.memories t (s.lends ++ []) None s fs) (set_same lifted to.instance ∙ set_same s.tables giver)
    ∙ ap (λ (ls : List Lend). state_by s.memories s.tables ls None s fs) (append-nil s.lends)
    ∙ ap (λ (o : Option Passage). state_by s.memories s.tables s.lends o s fs) (sym idle)

-- lifting and handing over what has no part and no handle changes nothing but frames
settled : (s : State) (giver call : ℕ) (ms : List Met) (slots : List CoreValue) (to : Receiver) (fs : List Frame) → ms ≡ [] → s.passage ≡ None
    → ◌≡◌ {A = State} (after_handing (record (after_lift s giver call ms (numbers_in slots)) { stack = fs }) to (numbers_in slots) (memory_at s.memories to.instance)) (record s { stack = fs })
settled s giver call ms slots to fs none idle =
    subst (λ (x : List Met). ◌≡◌ {A = State} (after_handing (record (after_lift s giver call x (numbers_in slots)) { stack = fs }) to (numbers_in slots) (memory_at s.memories to.instance)) (record s { stack = fs }))
    (sym none) (settled_none s giver call slots to fs idle)

-- ---- rows

-- the frame of a call while its body runs
abbrev pub body_frame : ℕ → ℕ → Link → List CoreValue → Frame
body_frame caller func l args = record {
  instance = l.instance;
  purpose = purpose.Call (record (new_call caller func l args) { phase = phase.Body });
}

-- the body begins
pub enters : (s : State) (i func : ℕ) (l : Link) (args passed : List CoreValue) (v : Val)
    → AreThere (args_view s i l).table (met (args_view s i l) params (types_of l params) (arg_slots l args) v) (leaves_in (tuple_of (types_of l params)) v)
    → PassesNumbers (args_view s i l) params (types_of l params) (arg_slots l args) passed v → s.passage ≡ None
    → PassesArguments s i func l args (event.Enter l.instance l.func passed) (record s { stack = body_frame i func l args ∷ s.stack })
enters s i func l args passed v there n idle =
    let w = args_view s i l in
    let slots = arg_slots l args in
    let call = new_call i func l args in
    let new : State = record s { stack = body_frame i func l args ∷ s.stack } in
    let calm = settled s i (length s.stack) (met w params (types_of l params) slots v) slots (receiver_of params (length s.stack) l call) (call_frame i func l args ∷ s.stack) n.nothing_met idle in
    inr (inr (
      v,
      numbers_in slots,
      n.denoted,
      transferable w l params slots passed v there n,
      scanned w l params slots passed v there n refl,
      inr (goes w l params slots passed v there n (after_lift_of_args s i func l args v (numbers_in slots)) (length s.stack) call (event.Enter l.instance l.func passed) new
          (refl, sym (ap (in_phase phase.Body l.instance call) calm))),
    ))

finish_placed : (o : Option ℕ) (place : ℕ) (l : Link) (call : Call) (p : Passage) (slots : List CoreValue) (s : State) (e : Event) (new : State)
    → Finishes o place l call p slots s e new → Finishes o place l call p slots (in_phase phase.Results l.instance call s) e new
finish_placed None place l call p slots s e new x = x
finish_placed (Some f) place l call p slots s e new x = x

-- what the body returned counts only where the callee tidies up
pub finish_kept : (o : Option ℕ) (place : ℕ) (l : Link) (call : Call) (p q : Passage) (slots : List CoreValue) (s : State) (e : Event) (new : State) → (IsSome o → p.slots ≡ q.slots)
    → Finishes o place l call p slots s e new → Finishes o place l call q slots s e new
finish_kept None place l call p q slots s e new same x = x
finish_kept (Some f) place l call p q slots s e new same x = (x.0 ∙ ap (λ (xs : List CoreValue). event.PostReturn l.instance f xs) (same refl), x.1)

-- the call finishes
pub exits : (s : State) (l : Link) (call : Call) (given passed : List CoreValue) (v : Val) (e : Event) (new : State)
    → AreThere (result_view s l).table (met (result_view s l) results (types_of l results) given v) (leaves_in (tuple_of (types_of l results)) v)
    → PassesNumbers (result_view s l) results (types_of l results) given passed v → s.passage ≡ None → is_spilled results (types_of l results) ≡ false
    → Finishes l.post_return (top_place s) l call (numbers_in given) passed s e new → ReturnsResult s l call given e new
exits s l call given passed v e new there n idle flat x =
    let w = result_view s l in
    let p = numbers_in given in
    let to = receiver_of results (top_place s) l call in
    let mid = after_lift_of_result s l call given v p in
    let calm : ◌≡◌ {A = State} (after_handing mid to p (memory_at s.memories to.instance)) (in_phase phase.Results l.instance call s) =
    settled s l.instance (top_place s) (met w results (types_of l results) given v) given to (record { instance = l.instance; purpose = purpose.Call (record call { phase = phase.Results }) } ∷ below_top s.stack) n.nothing_met idle in
    inr (inr (
      v,
      p,
      n.denoted,
      transferable w l results given passed v there n,
      scanned w l results given passed v there n refl,
      inr (subst (λ (b : Bool). PlacesResult b mid l call p v e new) (sym flat)
          (goes w l results given passed v there n mid (top_place s) call e new
          (subst (λ (st : State). Finishes l.post_return (top_place s) l call p passed st e new) (sym calm) (finish_placed l.post_return (top_place s) l call p passed s e new x)))),
    ))

-- ---- what a call is made with

pub args_kinds : (l : Link) (args slots : List CoreValue) (steps : List SlotStep) → AreOf (taken_kinds l) args → slots ≡ arg_slots l args → AreStepsOf params (types_of l params) steps
    → map kind_of slots ≡ flat_of_fields (types_of l params)
args_kinds l args slots steps shape is are = ap (λ (xs : List CoreValue). map kind_of xs) is ∙ (split_kinds args (entered_kinds l) _ shape).front ∙ flat_kinds params (types_of l params) steps are

-- the frame that is pushed is the call's, while its body runs
pub body_is : (caller i func at instance : ℕ) (l : Link) (args : List CoreValue) → caller ≡ i → instance ≡ l.instance → at ≡ result_place l args
    → ◌≡◌ {A = Frame} (record { instance = instance; purpose = purpose.Call (record { caller = caller; func = func; result_at = at; phase = phase.Body }) }) (body_frame i func l args)
body_is caller i func at instance l args acts called place =
    ap {B = Frame} (λ (n : ℕ). record { instance = n; purpose = purpose.Call (record { caller = caller; func = func; result_at = at; phase = phase.Body }) }) called
    ∙ ap {B = Frame} (λ (n : ℕ). record { instance = l.instance; purpose = purpose.Call (record { caller = n; func = func; result_at = at; phase = phase.Body }) }) acts
    ∙ ap {B = Frame} (λ (n : ℕ). record { instance = l.instance; purpose = purpose.Call (record { caller = i; func = func; result_at = n; phase = phase.Body }) }) place

-- nothing is on its way while a body runs
pub idle_body : (plan : Plan) (s : State) (l : Link) (call : Call) (top : Frame) → top_of s.stack ≡ Some top → PassesAtTop plan s s.stack → top.purpose ≡ purpose.Call call
    → Reaches plan call.caller call.func l → call.phase ≡ phase.Body → s.passage ≡ None
idle_body plan s l call top on_top passes is_call reaches body =
    let in_call : PassesIn call.phase s l call s.passage = subst (λ (q : Purpose). PassesFor plan s q) is_call (passes_at plan s s.stack top on_top passes) l reaches in
    subst (λ (q : Phase). PassesIn q s l call s.passage) body in_call

-- where nothing is on its way, what was scanned last does not count
pub unseen : (b : Bool) (p q : Passage) → b ≡ false → ◌≡◌ {A = Option Passage} (if b then Some p else None) (if b then Some q else None)
unseen true p q none = absurd (cc (none))
unseen false p q none = refl
