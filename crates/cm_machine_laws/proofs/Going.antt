-- Why the sentences on what goes on hold of each history.
use Rattle.std.proofs.Common.{◌≡◌, ◌≢◌, ℕ, zero, suc, ◌<◌, ◌*◌, ◌⊎◌, inl, inr, Bool, true, false, List, [], ◌∷◌, length, Option, Some, None, refl, sym, ap, subst, ◌∙◌, arith}
use Rattle.std.specs.Prelude.{Contains, map, replicate, slice_get, slice_index, ◌==◌, nat_le}
use Rattle.std.specs.List.{AllByRecursion, list_all}
use Rattle.std.specs.Option.{option_map}
use Rattle.std.proofs.lemmas.Bool.{and_parts, eqb-true, true≢false}
use Rattle.std.proofs.lemmas.List.{length-replicate}
use Rattle.std.proofs.lemmas.Option.{none-some, same_Some}
use Rattle.cm_handles.specs.Handles.{Handles, handle_at}
use Rattle.cm_machine_model.specs.declared.event.Event.{Event}
use Rattle.cm_machine_model.specs.declared.event.Event.TheVariants as event
use Rattle.cm_machine_model.specs.declared.limits.TheConstants.{MAX_FRAMES, MAX_PAGES, PAGE_SIZE}
use Rattle.cm_machine_model.specs.declared.moves.Move.{Move}
use Rattle.cm_machine_model.specs.Memories.{memory_at}
use Rattle.cm_machine_model.specs.declared.frame.Frame.{Frame}
use Rattle.cm_types.specs.declared.core_value.CoreValue.{CoreValue}
use Rattle.cm_types.specs.Values.{Val}
use Rattle.cm_machine_model.specs.declared.frame.Call.{Call}
use Rattle.cm_machine_model.specs.Step.{after_lift_of_result, HasRoom, IsOpen, MayLeave}
use Rattle.cm_machine_model.specs.Cases.{HasPlace, place_changes, Cases, answer_asks, answer_ends, answer_enters, answer_tidies, call_asks, call_enters, case_of, destroyed, destructor_ended, dropped, given_back, grew, made, represented, return_asks, return_ends, return_tidies, root_ended, stayed, tidied, trapped, wrote}
use Rattle.cm_machine_model.specs.History.{Action, GoesOnBy, Happens, IsHistory, IsHistoryOf, Occurrence, WritesBytes, begins, moves}
use Rattle.cm_machine_model.specs.Plan.{Link, Plan}
use Rattle.cm_machine_model.specs.Events.{is_last}
use Rattle.cm_machine_model.specs.Run.{Run, misuse_by_closed, misuse_by_stack}
use Rattle.cm_machine_model.specs.Stack.{actor, below_top, top_of}
use Rattle.cm_machine_model.specs.State.{Passage, State, fresh_state, zeros}
use Rattle.cm_machine_model.specs.Valid.{IsStack, IsValidState}
use Rattle.cm_machine_laws.specs.Acting.{acts, acts_after}
use Rattle.cm_machine_laws.specs.Always.{Always}
use Rattle.cm_machine_laws.specs.Answers.{EventAnswersItsMove, Traps}
use Rattle.cm_machine_laws.specs.Causes.{MayCall}
use Rattle.cm_machine_laws.specs.Doing.{Doing, doing, goes_on, instance_of, root}
use Rattle.cm_machine_laws.specs.Going.{ActsAsTold, BeginsByCall, BeginsWhereNothingGoesOn, ClosesByTraps, EndsWhereNothingGoesOn, IsMisuseOf, NoneClosedActs, RefusesBegins, RunsExtend, StandsAsTold, StartsAlways, StartsWithWhatWasAskedFor}
use Rattle.cm_machine_laws.specs.Matching.{AllMatch, AreTold, StepsAnswer}
use Rattle.cm_machine_laws.proofs.Along.{StaysValid}
use Rattle.cm_machine_laws.specs.Frames.{actor_stands, frame_there, instances, match_length, may_call, none_match, none_stand, one_instance, open_at, told_open}
use Rattle.cm_machine_model.proofs.HistoryLaws.{earlier}
use Rattle.cm_machine_model.proofs.RunLaws.{may_begin}
use Rattle.cm_handles.proofs.HandlesLaws.{none_there}
use Rattle.cm_machine_model.proofs.StateLaws.{table_none}
use Rattle.cm_lemmas.proofs.Numbers.{zero_at}

-- Frames are what goes on along each history.
abbrev pub IsTold : Type 0
IsTold = (plan : Plan) (pages : List ℕ) (h : List Occurrence) (s : State) → IsHistoryOf plan pages h s → AreTold plan s (acts h) (doing plan h)

pub acting : IsTold → Always ActsAsTold
acting told plan pages h s y = (told plan pages h s y).acts

pub standing : IsTold → Always StandsAsTold
standing told plan pages h s y = instances plan s.stack (doing plan h) (told plan pages h s y).matched

-- ---- begins

begun : (plan : Plan) (h : List Occurrence) (before after : State) (a : Action) (e : Event) (i : ℕ) → AllMatch plan before.stack (doing plan h) → Happens plan before a e after → a ≡ begins i
    → (doing plan h ≡ []) × (slice_get before.closed i ≡ Some false) × (e ≡ event.Resume i []) × (record after { stack = before.stack } ≡ before)
begun plan h before after a e i m x is =
    let y : Happens plan before (begins i) e after = subst (λ (b : Action). Happens plan before b e after) is x in
    let free = may_begin before.stack (slice_get before.closed i) y.0 in (
      none_match plan (doing plan h) (subst (λ (fs : List Frame). AllMatch plan fs (doing plan h)) free.0 m),
      free.1,
      y.1,
      ap (λ (n : State). record n { stack = before.stack }) y.2,
    )

pub begins_where_nothing_goes_on : IsTold → Always BeginsWhereNothingGoesOn
begins_where_nothing_goes_on told plan pages [] s y = tt
begins_where_nothing_goes_on told plan pages (x ∷ h) s y = λ i is.
    let b = begun plan h x.before x.after x.action x.event i (told plan pages h x.before (earlier plan pages x h s y)).matched y.history.1 is in
    (b.0, b.1, b.2, subst (λ (n : State). record n { stack = x.before.stack } ≡ x.before) (sym y.history.2) b.3)

refused : (plan : Plan) (fs : List Frame) (ds : List Doing) (flag : Option Bool) → AllMatch plan fs ds → IsMisuseOf ds flag (misuse_by_stack fs (misuse_by_closed flag))
refused plan [] [] flag m = record {
  busy = λ some. absurd (some refl);
  closed = λ none is. ap misuse_by_closed is;
  missing = λ none is. ap misuse_by_closed is;
  none = λ none is. ap misuse_by_closed is;
}
refused plan [] (d ∷ ds) flag m = absurd m
refused plan (f ∷ fs) [] flag m = absurd m
refused plan (f ∷ fs) (d ∷ ds) flag m = record {
  busy = λ some. refl;
  closed = λ none is. absurd (differ none);
  missing = λ none is. absurd (differ none);
  none = λ none is. absurd (differ none);
} where
  differ : d ∷ ds ≡ [] → ⊥
  differ e = cc (e)

pub begin_refused : IsTold → Always RefusesBegins
begin_refused told plan pages h s y = λ i. refused plan s.stack (doing plan h) (slice_get s.closed i) (told plan pages h s y).matched

-- ---- answers

pub event_answers_its_move : StepsAnswer → StaysValid → IsTold → Always EventAnswersItsMove
event_answers_its_move answer valid told plan pages [] s y = tt
event_answers_its_move answer valid told plan pages (x ∷ h) s y = λ m is.
    let before = earlier plan pages x h s y in
    let z : Happens plan x.before (moves m) x.event x.after = subst (λ (b : Action). Happens plan x.before b x.event x.after) is y.history.1 in
    answer plan x.before m x.event x.after (acts h) (doing plan h) (valid plan pages h x.before before) (told plan pages h x.before before) z.1

-- ---- ends

none_acts : (e : Event) (o : Option ℕ) → is_last e ≡ true → acts_after e o ≡ None
none_acts event.Ended o last = refl
none_acts (event.Trapped t) o last = refl
none_acts event.Done o last = absurd (true≢false (sym last))
none_acts (event.Grown pages) o last = absurd (true≢false (sym last))
none_acts (event.Enter i f args) o last = absurd (true≢false (sym last))
none_acts (event.Realloc i f args) o last = absurd (true≢false (sym last))
none_acts (event.Resume i values) o last = absurd (true≢false (sym last))
none_acts (event.PostReturn i f args) o last = absurd (true≢false (sym last))
none_acts (event.Dtor i f rep) o last = absurd (true≢false (sym last))

last_ends : (e : Event) (i : ℕ) → acts_after e (Some i) ≡ None → is_last e ≡ true
last_ends event.Ended i none = refl
last_ends (event.Trapped t) i none = refl
last_ends event.Done i none = absurd (none-some i (sym none))
last_ends (event.Grown pages) i none = absurd (none-some i (sym none))
last_ends (event.Enter j f args) i none = absurd (none-some j (sym none))
last_ends (event.Realloc j f args) i none = absurd (none-some j (sym none))
last_ends (event.Resume j values) i none = absurd (none-some j (sym none))
last_ends (event.PostReturn j f args) i none = absurd (none-some j (sym none))
last_ends (event.Dtor j f rep) i none = absurd (none-some j (sym none))

no_top : (fs : List Frame) → option_map actor (top_of fs) ≡ None → fs ≡ []
no_top [] e = refl
no_top (f ∷ fs) e = absurd (none-some (actor f) (sym e))

-- where nothing goes on any more, nobody acts
quiet : (plan : Plan) (s : State) (o : Option ℕ) → AreTold plan s o [] → o ≡ None
quiet plan s o told = sym told.acts ∙ ap (λ (fs : List Frame). option_map actor (top_of fs)) (none_stand plan s.stack told.matched)

ended_by : (plan : Plan) (a : Action) (e : Event) (before after : State) (o : Option ℕ) → option_map actor (top_of before.stack) ≡ o → Happens plan before a e after → acts_after e o ≡ None → is_last e ≡ true
ended_by plan (begins i) e before after o acting x none =
    absurd (none-some i (sym (subst (λ (f : Event). acts_after f o ≡ None) x.1 none)))
ended_by plan (moves m) e before after o acting x none =
    let c = case_of plan before m e after x.1 in
    last_ends e (actor c.top) (subst (λ (p : Option ℕ). acts_after e p ≡ None) (sym acting ∙ ap (λ (fs : List Frame). option_map actor (top_of fs)) c.stack) none)

pub ends_where_nothing_goes_on : IsTold → Always EndsWhereNothingGoesOn
ends_where_nothing_goes_on told plan pages [] s y = tt
ends_where_nothing_goes_on told plan pages (x ∷ h) s y = (
  λ last. none_match plan (doing plan (x ∷ h)) (subst (λ (fs : List Frame). AllMatch plan fs (doing plan (x ∷ h))) (no_top s.stack (now.acts ∙ none_acts x.event (acts h) last)) now.matched),
  λ nothing. ended_by plan x.action x.event x.before x.after (acts h) (told plan pages h x.before (earlier plan pages x h s y)).acts y.history.1
      (quiet plan s (acts (x ∷ h)) (subst (λ (ds : List Doing). AreTold plan s (acts (x ∷ h)) ds) nothing now)),
) where
  now : AreTold plan s (acts (x ∷ h)) (doing plan (x ∷ h))
  now = told plan pages (x ∷ h) s y

-- ---- closed instances

place_closed : (plan : Plan) (s : State) (l : Link) (call : Call) (values : List CoreValue) (p : Passage) (v : Val) (q : Passage) (answers : List ℕ) (st : State)
    → HasPlace (after_lift_of_result s l call values v p) l call p v q answers st → st.closed ≡ s.closed
place_closed plan s l call values p v q answers st place =
    ap (λ (n : State). n.closed) (place_changes (after_lift_of_result s l call values v p) l call p v q answers st place).1

-- the frames below the call, and how many there are with it
place_rest : (s : State) (l : Link) (call : Call) (values : List CoreValue) (p : Passage) (v : Val) (q : Passage) (answers : List ℕ) (st : State)
    → HasPlace (after_lift_of_result s l call values v p) l call p v q answers st → length (below_top st.stack) ≡ length (below_top s.stack)
place_rest s l call values p v q answers st place =
    ap (λ (n : State). length (below_top n.stack)) (place_changes (after_lift_of_result s l call values v p) l call p v q answers st place).1

place_stack : (s : State) (l : Link) (call : Call) (values : List CoreValue) (p : Passage) (v : Val) (q : Passage) (answers : List ℕ) (st : State)
    → HasPlace (after_lift_of_result s l call values v p) l call p v q answers st → length st.stack ≡ suc (length (below_top s.stack))
place_stack s l call values p v q answers st place =
    ap (λ (n : State). length n.stack) (place_changes (after_lift_of_result s l call values v p) l call p v q answers st place).1

pub case_closes : (plan : Plan) (s : State) (top : Frame) (m : Move) (e : Event) (new : State) → Cases plan s top m e new → Traps e ⊎ (new.closed ≡ s.closed)
case_closes plan s top _ _ _ (trapped m t st from) = inl (t, refl)
case_closes plan s top _ _ _ (wrote a bytes inside) = inr refl
case_closes plan s top _ _ _ (stayed pages no_room) = inr refl
case_closes plan s top _ _ _ (grew pages fits) = inr refl
case_closes plan s top _ _ _ (made func args r reach kinds may can) = inr refl
case_closes plan s top _ _ _ (represented func args r h reach kinds found) = inr refl
case_closes plan s top _ _ _ (dropped func args r h is owned) = inr refl
case_closes plan s top _ _ _ (destroyed func args r f h is owned opened room) = inr refl
case_closes plan s top _ _ _ (given_back func args r d h call is kind) = inr refl
case_closes plan s top _ _ _ (call_asks func args l v p f request is next) = inr refl
case_closes plan s top _ _ _ (call_enters func args l v p memory slots is given) = inr refl
case_closes plan s top _ _ _ (answer_asks values way call l p v answers q f request is next) = inr refl
case_closes plan s top _ _ _ (answer_enters values call l p v answers q memory slots is given) = inr refl
case_closes plan s top _ _ _ (answer_tidies values call l p v answers q memory slots f is given post) = inr refl
case_closes plan s top _ _ _ (answer_ends values call l p v answers q memory slots is given post) = inr refl
case_closes plan s top _ _ _ (return_asks values call l v p q answers st f request is place next) = inr (place_closed plan s l call values.items p v q answers st place)
case_closes plan s top _ _ _ (return_tidies values call l v p q answers st memory slots f is place given post) = inr (place_closed plan s l call values.items p v q answers st place)
case_closes plan s top _ _ _ (return_ends values call l v p q answers st memory slots is place given post) = inr (place_closed plan s l call values.items p v q answers st place)
case_closes plan s top _ _ _ (tidied values call l result is ph reach nothing) = inr refl
case_closes plan s top _ _ _ (root_ended values is nothing) = inr refl
case_closes plan s top _ _ _ (destructor_ended values dropper is nothing) = inr refl

acted_closes : (plan : Plan) (a : Action) (e : Event) (before after : State) → Happens plan before a e after → Traps e ⊎ (after.closed ≡ before.closed)
acted_closes plan (begins i) e before after x = inr (ap (λ (n : State). n.closed) x.2)
acted_closes plan (moves m) e before after x = let c = case_of plan before m e after x.1 in case_closes plan before c.top m e after c.case

pub closes_by_traps : Always ClosesByTraps
closes_by_traps plan pages [] s y = tt
closes_by_traps plan pages (x ∷ h) s y = acted_closes plan x.action x.event x.before x.after y.history.1

actor_open : (plan : Plan) (s : State) (fs : List Frame) (i : ℕ) → IsValidState plan s → s.stack ≡ fs → option_map actor (top_of fs) ≡ Some i → slice_get s.closed i ≡ Some false
actor_open plan s [] i valid is acting = absurd (none-some i acting)
actor_open plan s (f ∷ fs) i valid is acting =
    let st : IsStack plan (f ∷ fs) = subst (λ (gs : List Frame). IsStack plan gs) is valid.stack in
    let a = actor_stands plan f fs st in
    let named : a.frame.instance ≡ i = a.instance_is ∙ same_Some (actor f) i acting in
    subst (λ (j : ℕ). slice_get s.closed j ≡ Some false) named
    (open_at s.closed a.frame.instance (omega (arith, valid.closed, frame_there plan (f ∷ fs) a.frame st a.among))
    (valid.opened a.frame (subst (λ (gs : List Frame). Contains gs a.frame) (sym is) a.among)))

pub none_closed_acts : StaysValid → IsTold → Always NoneClosedActs
none_closed_acts valid told plan pages h s y = λ i is. actor_open plan s s.stack i (valid plan pages h s y) refl ((told plan pages h s y).acts ∙ is)

-- ---- what begins by a call

-- one more frame stands: the one below may leave, there was room, and the new one is of an instance
-- that was open
pub record IsPushed (s : State) (top : Frame) (new : State) : Type 0 where
  pub may : MayLeave top.purpose
  pub room : HasRoom s
  pub frame : Frame
  pub rest : List Frame
  pub stack : new.stack ≡ frame ∷ rest
  pub opened : IsOpen s frame.instance

one_more : (n : ℕ) → n ≡ suc n → ⊥
one_more n e = omega (arith, e)

module _ (plan : Plan) (s : State) (top : Frame) (fs : List Frame) (is : s.stack ≡ top ∷ fs) where
  long : length s.stack ≡ suc (length fs)
  long = ap (λ (gs : List Frame). length gs) is

  short : length (below_top s.stack) ≡ length fs
  short = ap (λ (gs : List Frame). length (below_top gs)) is

  pub case_pushes : (m : Move) (e : Event) (new : State) → Cases plan s top m e new → length new.stack ≡ suc (length s.stack) → IsPushed s top new
  case_pushes _ _ _ (trapped m t st from) more = absurd (omega (arith, more))
  case_pushes _ _ _ (wrote a bytes inside) more = absurd (one_more (length s.stack) more)
  case_pushes _ _ _ (stayed pages no_room) more = absurd (one_more (length s.stack) more)
  case_pushes _ _ _ (grew pages fits) more = absurd (one_more (length s.stack) more)
  case_pushes _ _ _ (made func args r reach kinds may can) more = absurd (one_more (length s.stack) more)
  case_pushes _ _ _ (represented func args r h reach kinds found) more = absurd (one_more (length s.stack) more)
  case_pushes _ _ _ (dropped func args r h found owned) more = absurd (one_more (length s.stack) more)
  case_pushes _ _ _ (destroyed func args r f h found owned opened room) more = record { may = found.may; room = room; frame = _; rest = s.stack; stack = refl; opened = opened }
  case_pushes _ _ _ (given_back func args r d h call found kind) more = absurd (one_more (length s.stack) more)
  case_pushes _ _ _ (call_asks func args l v p f request called next) more = record { may = called.may; room = called.room; frame = _; rest = s.stack; stack = refl; opened = called.opened }
  case_pushes _ _ _ (call_enters func args l v p memory slots called given) more = record { may = called.may; room = called.room; frame = _; rest = s.stack; stack = refl; opened = called.opened }
  case_pushes _ _ _ (answer_asks values way call l p v answers q f request placed next) more = absurd (one_more (length s.stack) more)
  case_pushes _ _ _ (answer_enters values call l p v answers q memory slots placed given) more = absurd (omega (arith, more, long, short))
  case_pushes _ _ _ (answer_tidies values call l p v answers q memory slots f placed given post) more = absurd (omega (arith, more, long, short))
  case_pushes _ _ _ (answer_ends values call l p v answers q memory slots placed given post) more = absurd (omega (arith, more, long, short))
  case_pushes _ _ _ (return_asks values call l v p q answers st f request back place next) more = absurd (omega (arith, more, long, short, place_stack s l call values.items p v q answers st place, place_rest s l call values.items p v q answers st place))
  case_pushes _ _ _ (return_tidies values call l v p q answers st memory slots f back place given post) more = absurd (omega (arith, more, long, short, place_stack s l call values.items p v q answers st place, place_rest s l call values.items p v q answers st place))
  case_pushes _ _ _ (return_ends values call l v p q answers st memory slots back place given post) more = absurd (omega (arith, more, long, short, place_stack s l call values.items p v q answers st place, place_rest s l call values.items p v q answers st place))
  case_pushes _ _ _ (tidied values call l result purpose_is ph reach nothing) more = absurd (omega (arith, more, long, short))
  case_pushes _ _ _ (root_ended values purpose_is nothing) more = absurd (omega (arith, more, long, short))
  case_pushes _ _ _ (destructor_ended values dropper purpose_is nothing) more = absurd (omega (arith, more, long, short))

-- of a stack and what goes on, the first of both
first_of : (plan : Plan) (fs : List Frame) (f : Frame) (rest : List Frame) (d : Doing) (ds : List Doing) → fs ≡ f ∷ rest → AllMatch plan fs (d ∷ ds) → f.instance ≡ instance_of d
first_of plan fs f rest d ds is m =
    one_instance f.purpose plan f.instance (length rest) d (subst (λ (gs : List Frame). AllMatch plan gs (d ∷ ds)) is m).0

same_first : (d e : Doing) (ds es : List Doing) → d ∷ ds ≡ e ∷ es → d ≡ e
same_first d e ds es x = cc (x)

begins_so : (plan : Plan) (a : Action) (e : Event) (before after : State) (acting : Option ℕ) (ds es : List Doing) (d : Doing) → IsValidState plan before → IsValidState plan after
    → AllMatch plan before.stack ds → AllMatch plan after.stack es → Happens plan before a e after → es ≡ d ∷ ds → ((i : ℕ) → a ≡ begins i → es ≡ root i ∷ [])
    → MayCall ds × (slice_get before.closed (instance_of d) ≡ Some false) × (length ds < MAX_FRAMES)
begins_so plan (begins i) e before after acting ds es d valid later m n x is roots =
    let free = may_begin before.stack (slice_get before.closed i) x.0 in
    let none : ds ≡ [] = none_match plan ds (subst (λ (fs : List Frame). AllMatch plan fs ds) free.0 m) in
    let one : root i ≡ d = same_first (root i) d [] ds (sym (roots i refl) ∙ is) in (
      subst MayCall (sym none) tt,
      subst (λ (c : Doing). slice_get before.closed (instance_of c) ≡ Some false) one free.1,
      omega (arith, ap (λ (cs : List Doing). length cs) none),
    )
begins_so plan (moves mv) e before after acting ds es d valid later m n x is roots =
    let c = case_of plan before mv e after x.1 in
    let n' : AllMatch plan after.stack (d ∷ ds) = subst (λ (cs : List Doing). AllMatch plan after.stack cs) is n in
    let more : length after.stack ≡ suc (length before.stack) = sym (match_length plan after.stack (d ∷ ds) n') ∙ ap suc (match_length plan before.stack ds m) in
    let p = case_pushes plan before c.top c.rest c.stack mv e after c.case more in
    let named : p.frame.instance ≡ instance_of d = first_of plan after.stack p.frame p.rest d ds p.stack n' in
    let there : p.frame.instance < length plan = (subst (λ (gs : List Frame). IsStack plan gs) p.stack later.stack).0 in (
      may_call plan c.top c.rest ds p.may (subst (λ (gs : List Frame). AllMatch plan gs ds) c.stack m),
      subst (λ (j : ℕ). slice_get before.closed j ≡ Some false) named (told_open before.closed p.frame.instance (omega (arith, valid.closed, there)) p.opened),
      omega (arith, match_length plan before.stack ds m, p.room),
    )

pub begins_by_call : StaysValid → IsTold → Always BeginsByCall
begins_by_call valid told plan pages [] s y = tt
begins_by_call valid told plan pages (x ∷ h) s y = λ d is.
    let before = earlier plan pages x h s y in
    begins_so plan x.action x.event x.before x.after (acts h) (doing plan h) (doing plan (x ∷ h)) d (valid plan pages h x.before before)
    (subst (λ (n : State). IsValidState plan n) y.history.2 (valid plan pages (x ∷ h) s y)) (told plan pages h x.before before).matched
    (subst (λ (n : State). AllMatch plan n.stack (doing plan (x ∷ h))) y.history.2 (told plan pages (x ∷ h) s y).matched) y.history.1 is
    (λ i begun. ap (λ (a : Action). goes_on plan (acts h) x.before a x.event (doing plan h)) begun)

-- ---- starts

memory_of : (pages : List ℕ) (i count : ℕ) → slice_get pages i ≡ Some count → length (memory_at (map zeros pages) i) ≡ count * PAGE_SIZE
memory_of [] i count e = absurd (none-some count e)
memory_of (p ∷ ps) zero count e = length-replicate {A = ℕ} (p * PAGE_SIZE) 0 ∙ ap (λ n. n * PAGE_SIZE) (same_Some p count e)
memory_of (p ∷ ps) (suc i) count e = memory_of ps i count e

zero_in : (pages : List ℕ) (i a : ℕ) → slice_index (memory_at (map zeros pages) i) a ≡ 0
zero_in [] i a = refl
zero_in (p ∷ ps) zero a = zero_at (p * PAGE_SIZE) a
zero_in (p ∷ ps) (suc i) a = zero_in ps i a

all_open : (n i : ℕ) → i < n → slice_get (replicate n false) i ≡ Some false
all_open zero i lt = absurd (omega (arith, lt))
all_open (suc n) zero lt = refl
all_open (suc n) (suc i) lt = all_open n i (omega (arith, lt))

inside : (xs : List ℕ) (i n : ℕ) → slice_get xs i ≡ Some n → i < length xs
inside [] i n e = absurd (none-some n e)
inside (x ∷ xs) zero n e = omega arith
inside (x ∷ xs) (suc i) n e = omega (arith, inside xs i n e)

pub starts : StartsAlways
starts plan pages s y =
    let n : ℕ = length plan in
    let counts : length pages ≡ n = eqb-true (length pages) n (and_parts (length pages == n) (list_all (λ p. nat_le p MAX_PAGES) pages) y.pages_fit).0 in
    subst (λ (x : State). StartsWithWhatWasAskedFor pages x) (sym y.history) (
      λ i count is. record {
        size = memory_of pages i count is;
        zeros = λ a. zero_in pages i a;
        is_open = all_open n i (omega (arith, inside pages i count is, counts));
        no_handle = λ index. ap (λ (t : Handles). handle_at t index) (table_none n i) ∙ none_there index;
      },
      refl,
      refl,
      refl,
      refl,
    )

-- ---- runs

drained : (plan : Plan) (start : State) (h : List Occurrence) (ms : List Move) (new : State) → IsHistory plan start h new → GoesOnBy plan start h true ms [] h new
drained plan start h [] new y = (refl, y)
drained plan start h (m ∷ ms) new y = (refl, refl, y)

extend : (plan : Plan) (start : State) (h : List Occurrence) (s : State) (ms : List Move) (es : List Event) (new : State) → IsHistory plan start h s → AllByRecursion WritesBytes ms → Run plan s ms es new
    → (longer : List Occurrence) × GoesOnBy plan start h false ms es longer new
extend plan start h s [] [] new y bytes x = (h, (refl, subst (λ (n : State). IsHistory plan start h n) (sym x) y))
extend plan start h s [] (e ∷ es) new y bytes x = absurd x
extend plan start h s (m ∷ ms) [] new y bytes x = absurd x
extend plan start h s (m ∷ ms) (e ∷ es) new y bytes x =
    go (λ is. extend plan start (record { before = s; action = moves m; event = e; after = x.0 } ∷ h) x.0 ms es new (y, (bytes.0, x.1), refl) bytes.1 (x.2 is)) (is_last e) refl where
      occurred : Occurrence
      occurred = record { before = s; action = moves m; event = e; after = x.0 }

      longer : IsHistory plan start (occurred ∷ h) x.0
      longer = (y, (bytes.0, x.1), refl)

      go : (is_last e ≡ false → (all : List Occurrence) × GoesOnBy plan start (occurred ∷ h) false ms es all new) → (b : Bool) → is_last e ≡ b → (all : List Occurrence) × GoesOnBy plan start h false (m ∷ ms) (e ∷ es) all new
      go rest false is =
          let r = rest is in
          (r.0, (refl, (occurred, refl, refl, subst (λ (b : Bool). GoesOnBy plan start (occurred ∷ h) b ms es r.0 new) (sym is) r.1)))
      go rest true is =
          let last = x.3 is in (
            occurred ∷ h,
            (
              refl,
              (
                occurred,
                refl,
                refl,
                subst (λ (fs : List Event). GoesOnBy plan start (occurred ∷ h) (is_last e) ms fs (occurred ∷ h) new) (sym last.0)
                    (subst (λ (b : Bool). GoesOnBy plan start (occurred ∷ h) b ms [] (occurred ∷ h) new) (sym is)
                    (drained plan start (occurred ∷ h) ms new (subst (λ (n : State). IsHistory plan start (occurred ∷ h) n) (sym last.1) longer))),
              ),
            ),
          )

pub runs : RunsExtend
runs plan pages h s ms es new y bytes x = extend plan (fresh_state (length plan) pages) h s ms es new y.history bytes x
