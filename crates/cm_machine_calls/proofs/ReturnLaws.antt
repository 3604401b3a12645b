-- A call once its result was lifted, or an answer was kept.
use Rattle.std.proofs.Common.{◌≡◌, ℕ, ◌<◌, ◌≤◌, inl, inr, Bool, true, false, List, [], ◌∷◌, ◌++◌, length, Option, Some, None, refl, sym, ap, subst, ◌∙◌, arith}
use Rattle.std.specs.Prelude.{option_map, slice_get, slice_set}
use Rattle.std.specs.Option.{IsSomeAnd}
use Rattle.std.proofs.lemmas.List.{append-nil, length-append, length-set}
use Rattle.std.proofs.lemmas.Option.{none-some, same_Some, slice_get_within}
use Rattle.cm_types.specs.declared.core_value.CoreValue.{CoreValue}
use Rattle.cm_types.specs.Values.{Val}
use Rattle.cm_handles.specs.Borrows.{borrows_of}
use Rattle.cm_handles.specs.Handles.{Handles, IsSoundHandles}
use Rattle.cm_abi_model.specs.Answered.{next_of, with_old}
use Rattle.cm_abi_model.specs.Answering.{answer_fault, first_fault}
use Rattle.cm_abi_model.specs.Bytes.{AreBytes}
use Rattle.cm_abi_model.specs.Denotes.{Denotes}
use Rattle.cm_abi_model.specs.Handed.{IsHanded}
use Rattle.cm_abi_model.specs.RecordRequests.{tags_of}
use Rattle.cm_abi_model.specs.Requests.{call_parts, is_spilled, parts_of, requests}
use Rattle.cm_abi_model.specs.Taken.{CanGo, MAX_CONTENT, Met, after_met, lent_of, met}
use Rattle.cm_abi_model.specs.Telling.{TellAll}
use Rattle.cm_abi_model.specs.Views.{Way, params, results}
use Rattle.cm_abi_model.specs.declared.fault.AbiFault.{AbiFault}
use Rattle.cm_abi_model.specs.declared.record.PartRecord.{PartRecord}
use Rattle.cm_abi_model.specs.declared.request.Request.{Request}
use Rattle.cm_machine_model.specs.Memories.{memory_at}
use Rattle.cm_machine_model.specs.declared.event.Event.{Event}
use Rattle.cm_machine_model.specs.declared.event.Event.TheVariants as event
use Rattle.cm_machine_model.specs.declared.event.Trap.{Trap}
use Rattle.cm_machine_model.specs.declared.event.Trap.TheVariants as trap
use Rattle.cm_machine_model.specs.declared.limits.TheConstants.{MAX_FRAMES}
use Rattle.cm_machine_model.specs.declared.frame.Call.{Call}
use Rattle.cm_machine_model.specs.declared.frame.Frame.{Frame}
use Rattle.cm_machine_model.specs.declared.frame.Lend.{Lend}
use Rattle.cm_machine_model.specs.declared.frame.Phase.{Phase}
use Rattle.cm_machine_model.specs.declared.frame.Phase.TheVariants as phase
use Rattle.cm_machine_model.specs.declared.frame.Purpose.{Purpose}
use Rattle.cm_machine_model.specs.declared.frame.Purpose.TheVariants as purpose
use Rattle.cm_machine_model.specs.Passages.{Carries, HasAnswers, IsScanned, asked_for}
use Rattle.cm_machine_model.specs.Plan.{Link, Plan, Reaches, giver_side, receiver_side, types_of}
use Rattle.cm_machine_model.specs.Stack.{below_top, top_of}
use Rattle.cm_machine_model.specs.State.{Passage, State, after_trap, lends_to, table_at}
use Rattle.cm_machine_model.specs.Step.{Answers, AreOf, Finishes, GoesOn, GoesOnBy, PlacesResult, ReturnsIn, ReturnsResult, Unless, UnlessNoMemory, UnlessWrong, after_lift, after_lift_of_result, giver_of, in_phase, one_i32, receiver_of, result_view, top_place, trap_of}
use Rattle.cm_machine_model.specs.Valid.{IsOnItsWay, IsStack, PassesFor, PassesIn}
use Rattle.cm_machine_parts.specs.Kept.{AreBorrowsCounted, CanEnd, IsEncoded, IsEncodedAtTop, IsEncodedFor, IsEncodedIn, Runs}
use Rattle.cm_machine_parts.specs.Lends.{AreLentAtLeast, NoneAbove}
use Rattle.cm_machine_parts.specs.States.{state_of}
use Rattle.cm_machine_parts.specs.declared.passing.Passing.{Passing}
use Rattle.cm_machine_parts.specs.declared.state.State.{State as CodedState}
use Rattle.cm_machine_calls.specs.Answering.{KeepsAnswer}
use Rattle.cm_machine_calls.specs.Calling.{AnswersAt, HasResult, in_results}
use Rattle.cm_machine_calls.specs.Going.{IsUnderWay, passage_now, phase_of}
use Rattle.cm_machine_calls.specs.Lifting.{StopsLift}
use Rattle.cm_machine_calls.proofs.HandLaws.{can_end}
use Rattle.cm_machine_calls.proofs.Lifted.{counted_back, lent_lifted, lift_stops, none_answered, sound_lifted}
use Rattle.cm_machine_calls.proofs.Rows.{traps_here}
use Rattle.cm_machine_calls.proofs.Standing.{TopCall, has_funcs, is_passing, link_of, passes_at, top_call, top_parts}
use Rattle.cm_machine_parts.proofs.Tables.{length_handles}
use Rattle.cm_abi_model.proofs.AnsweringLaws.{no_fault}

-- ---- the phase of the call counts nowhere from there on

finish_same : (o : Option ℕ) (place : ℕ) (l : Link) (call : Call) (ph : Phase) (p : Passage) (slots : List CoreValue) (s : State) (e : Event) (new : State)
    → Finishes o place l (record call { phase = ph }) p slots s e new → Finishes o place l call p slots s e new
finish_same None place l call ph p slots s e new x = x
finish_same (Some f) place l call ph p slots s e new x = x

goes_by_same : (o : Option Request) (s : State) (place : ℕ) (l : Link) (call : Call) (ph : Phase) (p : Passage) (v : Val) (rs : List Request) (answers : List ℕ) (e : Event) (new : State)
    → GoesOnBy o s place l results (record call { phase = ph }) p v rs answers e new → GoesOnBy o s place l results call p v rs answers e new
goes_by_same (Some r) s place l call ph p v rs answers e new x = x
goes_by_same None s place l call ph p v rs answers e new (inl x) = inl x
goes_by_same None s place l call ph p v rs answers e new (inr (a, inl x)) = inr (a, inl x)
goes_by_same None s place l call ph p v rs answers e new (inr (a, inr (b, inl x))) = inr (a, inr (b, inl x))
goes_by_same None s place l call ph p v rs answers e new (inr (a, inr (b, inr (memory, slots, handed, x)))) =
    inr (a, inr (b, inr (memory, slots, handed, finish_same l.post_return place l call ph p slots _ e new x)))

pub goes_same : (s : State) (place : ℕ) (l : Link) (call : Call) (ph : Phase) (p : Passage) (v : Val) (answers : List ℕ) (e : Event) (new : State)
    → GoesOn s place l results (record call { phase = ph }) p v answers e new → GoesOn s place l results call p v answers e new
goes_same s place l call ph p v answers e new x =
    goes_by_same (slice_get (asked_for l results p v) (length answers)) s place l call ph p v (asked_for l results p v) answers e new x

wrong_more : (o : Option AbiFault) (s : State) (A B : Event → State → Type 0) (e : Event) (new : State) → (A e new → B e new) → UnlessWrong s o A e new → UnlessWrong s o B e new
wrong_more None s A B e new f x = f x
wrong_more (Some f) s A B e new g x = x

pub answers_same : (s : State) (l : Link) (call : Call) (ph : Phase) (p : Passage) (v : Val) (answers : List ℕ) (r : Request) (at : ℕ) (e : Event) (new : State)
    → AnswersAt s l results (record call { phase = ph }) p v answers r at e new → AnswersAt s l results call p v answers r at e new
answers_same s l call ph p v answers r at e new x =
    wrong_more (answer_fault (length (memory_at s.memories call.caller)) r at) s _ _ e new
    (λ y. (y.0, y.1, goes_same (record s { passage = Some y.0 }) (top_place s) l call ph y.0 v (answers ++ at ∷ []) e new y.2)) x

-- ---- an answer

pub answer_wrong : (s new : State) (o : Option AbiFault) (f : AbiFault) (row : Event → State → Type 0) (t : Trap) → o ≡ Some f → t ≡ trap_of f → new ≡ s
    → UnlessWrong s o row (event.Trapped t) (after_trap new)
answer_wrong s new o f row t is trapped same =
    subst (λ (x : Option AbiFault). UnlessWrong s x row (event.Trapped t) (after_trap new)) (sym is) (traps_here s new t (trap_of f) same trapped)

pub answer_fine : (s : State) (o : Option AbiFault) (row : Event → State → Type 0) (e : Event) (new : State) → o ≡ None → row e new → UnlessWrong s o row e new
answer_fine s o row e new is x = subst (λ (y : Option AbiFault). UnlessWrong s y row e new) (sym is) x

-- that answers of which each will do still do with one more
abbrev pub StayFine : Type 0
StayFine = (n m : ℕ) (rs : List Request) (answers : List ℕ) (at : ℕ) → n ≤ m → first_fault n rs answers ≡ None → IsSomeAnd (next_of rs answers) (λ r. answer_fault m r.0 at ≡ None)
    → first_fault m rs (answers ++ at ∷ []) ≡ None

next_fine : (o : Option Request) (answers : List ℕ) (r : Request) (m at : ℕ) → o ≡ Some r → answer_fault m r at ≡ None
    → IsSomeAnd (option_map (with_old answers) o) (λ x. answer_fault m x.0 at ≡ None)
next_fine None answers r m at is fine = absurd (cc)
next_fine (Some q) answers r m at is fine = subst (λ (x : Request). answer_fault m x at ≡ None) (sym (same_Some q r is)) fine

module _ (fine : StayFine) (plan : Plan) (s new : CodedState) (l : Link) (way : Way) (call : Call) (v : Val) (answers : List ℕ) (r : Request) (receiver at : ℕ)
    (under : IsUnderWay plan s l way call v answers) (next : slice_get (asked_for l way (passage_now s) v) (length answers) ≡ Some r)
    (keeps : KeepsAnswer s new (asked_for l way (passage_now s) v) answers r receiver at) (stack : new.stack ≡ s.stack)
    (to : receiver ≡ (receiver_of way (length under.below) l call).instance) where
  memories_are : new.memories ≡ s.memories
  memories_are = ap (λ (x : State). x.memories) keeps.is

  tables_are : (state_of new).tables ≡ (state_of s).tables
  tables_are = ap (λ (x : State). x.tables) keeps.is

  frames_are : new.stack.frames ≡ s.stack.frames
  frames_are = ap (λ x. x.frames) stack

  lends_are : new.lends ≡ s.lends
  lends_are = ap (λ (x : State). x.lends) keeps.is

  pub asked_same : asked_for l way (passage_now new) v ≡ asked_for l way (passage_now s) v
  asked_same = ap (λ (rs : List PartRecord). requests way (types_of l way) v (giver_side l way).encoding (receiver_side l way).encoding (tags_of rs)) keeps.kept.records

  carried_same : Carries (memory_at new.memories (giver_of way l call)) l way (passage_now new) v
  carried_same =
      let c = under.carried in
      record {
        view = c.view;
        memory_is = c.memory_is ∙ sym (ap (λ (m : List (List ℕ)). memory_at m (giver_of way l call)) memories_are);
        encoding_is = c.encoding_is;
        denoted = subst (λ (xs : List CoreValue). Denotes c.view way (types_of l way) xs v) (sym keeps.kept.slots) c.denoted;
        handles = keeps.kept.leaves ∙ c.handles;
        starts = c.starts;
        told = subst (λ (rs : List PartRecord). TellAll c.view (receiver_side l way).encoding rs (call_parts way (types_of l way) v) c.starts) (sym keeps.kept.records) c.told;
      }

  fine_same : first_fault (length (memory_at new.memories (receiver_of way (length under.below) l call).instance)) (asked_for l way (passage_now new) v) (answers ++ at ∷ []) ≡ None
  fine_same =
      let rs = asked_for l way (passage_now s) v in
      let n = length (memory_at s.memories (receiver_of way (length under.below) l call).instance) in
      let here : answer_fault n r at ≡ None = ap (λ (i : ℕ). answer_fault (length (memory_at s.memories i)) r at) (sym to) ∙ keeps.fine in
      ap (λ (m : List (List ℕ)). first_fault (length (memory_at m (receiver_of way (length under.below) l call).instance)) (asked_for l way (passage_now new) v) (answers ++ at ∷ [])) memories_are
      ∙ ap (λ (xs : List Request). first_fault n xs (answers ++ at ∷ [])) asked_same
      ∙ fine n n rs answers at (omega arith) under.fine (next_fine (slice_get rs (length answers)) answers r n at next here)

  pub under_answered : IsUnderWay plan new l way call v (answers ++ at ∷ [])
  under_answered = record {
    link = under.link;
    reaches = under.reaches;
    phase = under.phase;
    caller = under.caller;
    below = under.below;
    stack = frames_are ∙ under.stack;
    few = subst (λ (fs : List Frame). length fs ≤ MAX_FRAMES) (sym frames_are) under.few;
    places = ap (λ x. length x.borrows) stack ∙ under.places;
    passes = keeps.passes;
    encoded = (keeps.source ∙ under.encoded.0, keeps.target ∙ under.encoded.1);
    bytes = subst (λ (m : List (List ℕ)). AreBytes (memory_at m (giver_of way l call))) (sym memories_are) under.bytes;
    carried = carried_same;
    some = omega (arith, slice_get_within (asked_for l way (passage_now s) v) (length answers) r next, length-append answers (at ∷ []), ap (λ (xs : List Request). length xs) asked_same);
    answered = subst (λ (rs : List Request). HasAnswers rs (answers ++ at ∷ []) (passage_now new)) (sym asked_same) keeps.has;
    fine = fine_same;
    memories = ap (λ (m : List (List ℕ)). length m) memories_are ∙ under.memories;
    tables = sym (length_handles new.tables.items) ∙ ap (λ (t : List Handles). length t) tables_are ∙ length_handles s.tables.items ∙ under.tables;
    sound = λ i. subst (λ (t : List Handles). IsSoundHandles (table_at t i)) (sym tables_are) (under.sound i);
    counted =
        subst (λ x. AreBorrowsCounted x.borrows x.frames (state_of new).tables) (sym stack)
        (subst (λ (t : List Handles). AreBorrowsCounted s.stack.borrows s.stack.frames t) (sym tables_are) under.counted);
    stands = subst (λ (fs : List Frame). IsStack plan fs) (sym frames_are) under.stands;
    ends = λ e.
        let can = under.ends e in
        can_end s new can frames_are lends_are (subst (λ (t : List Handles). AreLentAtLeast s.lends t) (sym tables_are) can.lent);
  }

-- ---- a value that is on its way already

-- in this phase of the call, a value passes that way
passes_in : (way : Way) (ph : Phase) (s : State) (l : Link) (call : Call) (o : Option Passage) → ph ≡ phase_of way → PassesIn ph s l call o → (p : Passage) × (o ≡ Some p) × IsOnItsWay s l way call p
passes_in params ph s l call o is x = subst (λ (y : Phase). PassesIn y s l call o) is x
passes_in results ph s l call o is x = subst (λ (y : Phase). PassesIn y s l call o) is x

encoded_in : (way : Way) (ph : Phase) (l : Link) (p : Passing) → ph ≡ phase_of way → IsEncodedIn ph l p → IsEncoded l way p
encoded_in params ph l p is x = subst (λ (y : Phase). IsEncodedIn y l p) is x
encoded_in results ph l p is x = subst (λ (y : Phase). IsEncodedIn y l p) is x

encoded_at : (plan : Plan) (p : Passing) (fs : List Frame) (top : Frame) → top_of fs ≡ Some top → IsEncodedAtTop plan p fs → IsEncodedFor plan p top.purpose
encoded_at plan p [] top is x = absurd (none-some top is)
encoded_at plan p (f ∷ fs) top is x = subst (λ (g : Frame). IsEncodedFor plan p g.purpose) (same_Some f top is) x

-- the frame on top, as the frame of a call over this link
top_frame : (l : Link) (call : Call) (top : Frame) → top.instance ≡ l.instance → top.purpose ≡ purpose.Call call → top ≡ record { instance = l.instance; purpose = purpose.Call call }
top_frame l call top instance is = ap (λ (i : ℕ). record top { instance = i }) instance ∙ ap {B = Frame} (λ (p : Purpose). record { instance = l.instance; purpose = p }) is

pub record OnItsWay (plan : Plan) (s : CodedState) (l : Link) (way : Way) (call : Call) : Type 0 where
  pub v : Val
  pub answers : List ℕ
  pub r : Request
  pub passage_is : (state_of s).passage ≡ Some (passage_now s)
  pub under : IsUnderWay plan s l way call v answers
  pub next : slice_get (asked_for l way (passage_now s) v) (length answers) ≡ Some r

module _ (plan : Plan) (s : CodedState) (l : Link) (way : Way) (call : Call) (top : Frame) (runs : Runs plan s) (on_top : top_of s.stack.frames ≡ Some top)
    (is_call : top.purpose ≡ purpose.Call call) (reaches : Reaches plan call.caller call.func l) (phase_is : call.phase ≡ phase_of way) (places : length s.stack.borrows ≡ MAX_FRAMES)
    (ends : CanEnd s) where
  call_top : TopCall plan l call top (below_top s.stack.frames)
  call_top = top_call plan l call s.stack.frames top runs.valid.stack on_top is_call reaches

  stack_is : s.stack.frames ≡ record { instance = l.instance; purpose = purpose.Call call } ∷ below_top s.stack.frames
  stack_is = top_parts s.stack.frames top on_top ∙ ap (λ (f : Frame). f ∷ below_top s.stack.frames) (top_frame l call top call_top.instance is_call)

  on_way_by : (p : Passage) → (state_of s).passage ≡ Some p → (s.passing.scan.has_value ≡ true) × (passage_now s ≡ p) → IsOnItsWay (state_of s) l way call p → OnItsWay plan s l way call
  on_way_by p there is x =
      let y : IsOnItsWay (state_of s) l way call (passage_now s) = subst (λ (q : Passage). IsOnItsWay (state_of s) l way call q) (sym is.1) x in
      record {
        v = y.v;
        answers = y.answers;
        r = y.next;
        passage_is = there ∙ ap (λ (q : Passage). Some q) (sym is.1);
        next = y.to_come;
        under = record {
          link = link_of plan call.caller call.func l runs.valid.linked reaches;
          reaches = reaches;
          phase = phase_is;
          caller = has_funcs plan call.caller call.func l reaches;
          below = below_top s.stack.frames;
          stack = stack_is;
          few = runs.valid.few;
          places = places;
          passes = is.0;
          encoded = encoded_in way call.phase l s.passing phase_is
              (subst (λ (q : Purpose). IsEncodedFor plan s.passing q) is_call (encoded_at plan s.passing s.stack.frames top on_top runs.kept.encoded) l reaches);
          bytes = runs.valid.bytes (giver_of way l call);
          carried = y.carried;
          some = omega (arith, slice_get_within (asked_for l way (passage_now s) y.v) (length y.answers) y.next y.to_come);
          answered = y.answered;
          fine = y.fine;
          memories = runs.valid.memories;
          tables = sym (length_handles s.tables.items) ∙ runs.valid.tables;
          sound = runs.valid.sound;
          counted = runs.kept.counted;
          stands = runs.valid.stack;
          ends = λ e. ends;
        };
      }

  pub on_its_way : OnItsWay plan s l way call
  on_its_way =
      let x = passes_in way call.phase (state_of s) l call (state_of s).passage phase_is
      (subst (λ (q : Purpose). PassesFor plan (state_of s) q) is_call (passes_at plan (state_of s) s.stack.frames top on_top runs.valid.passes) l reaches) in
      on_way_by x.0 x.1 (is_passing s.passing.scan.has_value (passage_now s) x.0 x.1) x.2

-- ---- a result

-- the state once the result was lifted
pub result_state : (s mid : State) (l : Link) (call : Call) (place : ℕ) (ms : List Met) (p : Passage) → mid ≡ record (after_lift s l.instance place ms p) { lends = s.lends } → lent_of ms ≡ []
    → in_phase phase.Results l.instance call mid ≡ in_phase phase.Results l.instance call (after_lift s l.instance place ms p)
result_state s mid l call place ms p is none =
    ap (in_phase phase.Results l.instance call) is
    ∙ ap {B = State} (λ (ls : List Lend). record (in_phase phase.Results l.instance call (after_lift s l.instance place ms p)) { lends = ls })
    (sym (ap (λ (xs : List ℕ). s.lends ++ lends_to place l.instance xs) none ∙ append-nil s.lends))

module _ (plan : Plan) (s new : CodedState) (l : Link) (call : Call) (values : List CoreValue) (v : Val) (top : Frame) (runs : Runs plan s) (on_top : top_of s.stack.frames ≡ Some top)
    (is_call : top.purpose ≡ purpose.Call call) (reaches : Reaches plan call.caller call.func l)
    (is : state_of new ≡ after_lift_of_result (state_of s) l call values v (passage_now new)) (lends_are : new.lends ≡ s.lends)
    (scanned : IsScanned (result_view (state_of s) l) l results values v (passage_now new)) where
  abbrev ms : List Met
  ms = met (result_view (state_of s) l) results (types_of l results) values v

  abbrev after : Handles
  after = after_met (table_at (state_of s).tables l.instance) ms

  abbrev frame : Frame
  frame = record { instance = l.instance; purpose = purpose.Call (in_results call) }

  memories_back : new.memories ≡ s.memories
  memories_back = ap (λ (x : State). x.memories) is

  tables_back : (state_of new).tables ≡ slice_set (state_of s).tables l.instance after
  tables_back = ap (λ (x : State). x.tables) is

  frames_back : new.stack.frames ≡ frame ∷ below_top s.stack.frames
  frames_back = ap (λ (x : State). x.stack) is

  call_top_back : TopCall plan l call top (below_top s.stack.frames)
  call_top_back = top_call plan l call s.stack.frames top runs.valid.stack on_top is_call reaches

  there_back : l.instance < length (state_of s).tables
  there_back = omega (arith, call_top_back.there, runs.valid.tables)

  high_back : length s.stack.frames ≡ length (frame ∷ below_top s.stack.frames)
  high_back = ap (λ (x : List Frame). length x) (top_parts s.stack.frames top on_top)

  pub result_under : new.passing.scan.has_value ≡ true → IsEncoded l results new.passing → IsSoundHandles (table_at (state_of new).tables l.instance) → length s.stack.borrows ≡ MAX_FRAMES
      → new.stack.borrows ≡ s.stack.borrows → ((n : ℕ) → borrows_of n after ≡ borrows_of n (table_at (state_of s).tables l.instance)) → CanEnd s
      → CanGo (table_at (state_of s).tables l.instance) MAX_CONTENT ms → IsHanded (table_at (state_of s).tables l.instance) ms after → IsUnderWay plan new l results (in_results call) v []
  result_under passes encoded sound places borrows same ends go handed = record {
    link = link_of plan call.caller call.func l runs.valid.linked reaches;
    reaches = reaches;
    phase = refl;
    caller = has_funcs plan call.caller call.func l reaches;
    below = below_top s.stack.frames;
    stack = frames_back;
    few = omega (arith, ap (λ (x : List Frame). length x) frames_back, high_back, runs.valid.few);
    places = ap (λ (x : List ℕ). length x) borrows ∙ places;
    passes = passes;
    encoded = encoded;
    bytes = subst (λ (m : List (List ℕ)). AreBytes (memory_at m l.instance)) (sym memories_back) (runs.valid.bytes l.instance);
    carried = subst (λ (m : List (List ℕ)). Carries (memory_at m l.instance) l results (passage_now new) v) (sym memories_back) scanned.carried;
    some = omega arith;
    answered = none_answered (result_view (state_of s) l) l results values v (passage_now new) scanned;
    fine = no_fault (length (memory_at new.memories call.caller)) (asked_for l results (passage_now new) v);
    memories = ap (λ (m : List (List ℕ)). length m) memories_back ∙ runs.valid.memories;
    tables = sym (length_handles new.tables.items) ∙ ap (λ (t : List Handles). length t) tables_back ∙ length-set (state_of s).tables l.instance after ∙ runs.valid.tables;
    sound = sound_lifted (state_of s).tables (state_of new).tables l.instance after tables_back runs.valid.sound sound;
    counted =
        subst (λ (t : List Handles). AreBorrowsCounted new.stack.borrows new.stack.frames t) (sym tables_back)
        (subst (λ (fs : List Frame). AreBorrowsCounted new.stack.borrows fs (slice_set (state_of s).tables l.instance after)) (sym frames_back)
        (subst (λ (b : List ℕ). AreBorrowsCounted b (frame ∷ below_top s.stack.frames) (slice_set (state_of s).tables l.instance after)) (sym borrows)
        (counted_back s.stack.borrows top frame (below_top s.stack.frames) (state_of s).tables l.instance after there_back (sym call_top_back.instance) same
        (subst (λ (fs : List Frame). AreBorrowsCounted s.stack.borrows fs (state_of s).tables) (top_parts s.stack.frames top on_top) runs.kept.counted))));
    stands = subst (λ (fs : List Frame). IsStack plan fs) (sym frames_back) (call_top_back.there, ((l, reaches, refl), call_top_back.stands.1), call_top_back.below_stands);
    ends = λ e. record {
      some = omega (arith, ap (λ (x : List Frame). length x) frames_back);
      above =
          subst (λ (ls : List Lend). NoneAbove (length (below_top new.stack.frames)) ls) (sym lends_are)
          (subst (λ (fs : List Frame). NoneAbove (length (below_top fs)) s.lends) (sym frames_back) ends.above);
      lent =
          subst (λ (ls : List Lend). AreLentAtLeast ls (state_of new).tables) (sym lends_are)
          (subst (λ (t : List Handles). AreLentAtLeast s.lends t) (sym tables_back)
          (lent_lifted s.lends (state_of s).tables l.instance after MAX_CONTENT ms there_back go handed ends.lent));
    };
  }

-- ---- rows

module _ (plan : Plan) (old new : CodedState) (l : Link) (call : Call) (values : List CoreValue) (h : HasResult plan old new l call values) where
  abbrev lifted : State
  lifted = after_lift_of_result (state_of old) l call values h.v (passage_now new)

  abbrev Placed : Bool → Event → State → Type 0
  Placed b e st = PlacesResult b lifted l call (passage_now new) h.v e st

  result_row : (b : Bool) (e : Event) (st : State) → is_spilled results (types_of l results) ≡ b → Placed b e st → ReturnsResult (state_of old) l call values e st
  result_row b e st spilled x =
      inr (inr (h.v, passage_now new, h.denoted, h.transferable, h.scanned, inr (subst (λ (c : Bool). Placed c e st) (sym spilled) x)))

  -- the place of the result is kept as the first answer
  pub row_placed : (r : Request) (e : Event) (st : State) → is_spilled results (types_of l results) ≡ true → slice_get (asked_for l results (passage_now new) h.v) 0 ≡ Some r
      → AnswersAt (state_of new) l results (in_results call) (passage_now new) h.v [] r call.result_at e st → ReturnsResult (state_of old) l call values e st
  row_placed r e st spilled next x =
      let here : AnswersAt lifted l results call (passage_now new) h.v [] r call.result_at e st =
      subst (λ (y : State). AnswersAt y l results call (passage_now new) h.v [] r call.result_at e st) h.is
      (answers_same (state_of new) l call phase.Results (passage_now new) h.v [] r call.result_at e st x) in
      result_row true e st spilled (r, next, here)

  -- the result goes in core values
  pub row_flat : (e : Event) (st : State) → is_spilled results (types_of l results) ≡ false
      → GoesOn (state_of new) (top_place (state_of new)) l results (in_results call) (passage_now new) h.v [] e st → ReturnsResult (state_of old) l call values e st
  row_flat e st spilled x =
      let here : GoesOn lifted (top_place lifted) l results call (passage_now new) h.v [] e st =
      subst (λ (y : State). GoesOn y (top_place y) l results call (passage_now new) h.v [] e st) h.is
      (goes_same (state_of new) (top_place (state_of new)) l call phase.Results (passage_now new) h.v [] e st x) in
      result_row false e st spilled here

-- an answer to an allocator's call, in the phase in which a value passes that way
pub answers_row : (way : Way) (s : State) (l : Link) (call : Call) (values : List CoreValue) (e : Event) (new : State) → Unless s (AreOf one_i32 values) trap.CoreShape (Answers s l way call values) e new
    → ReturnsIn (phase_of way) s l call values e new
answers_row params s l call values e new x = x
answers_row results s l call values e new x = x

-- the lift of the result stops
pub result_stop : (s new : State) (l : Link) (call : Call) (values : List CoreValue) (t : Trap) → StopsLift (result_view s l) l results values t → new ≡ s
    → ReturnsResult s l call values (event.Trapped t) (after_trap new)
result_stop s new l call values t stops same =
    lift_stops s new (result_view s l) l results values
    (λ v p. UnlessNoMemory (after_lift_of_result s l call values v p) (0 < parts_of results (types_of l results) v)
    (PlacesResult (is_spilled results (types_of l results)) (after_lift_of_result s l call values v p) l call p v)) t stops same
