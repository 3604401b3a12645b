-- Why each step keeps what is on its way: the giver's memory stays as it was scanned while the
-- receiver moves.
use Rattle.std.proofs.Common.{◌≡◌, ◌≢◌, ℕ, ◌+◌, ◌≤◌, ◌*◌, inl, inr, Bool, true, false, List, []}
use Rattle.std.proofs.Common.{◌∷◌, ◌++◌, length, Option, Some, None, refl, sym, ap, subst, ◌∙◌}
use Rattle.std.proofs.Common.{arith}
use Rattle.std.specs.Prelude.{◌-◌, slice_get, slice_set, take, drop, replicate, ◌*◌, Result, Ok}
use Rattle.std.specs.Prelude.{Err, unwrap_or}
use Rattle.std.proofs.lemmas.Bool.{cases_eq, cases_lt}
use Rattle.std.proofs.lemmas.List.{length-append, length-drop, length-take-le}
use Rattle.std.proofs.lemmas.Option.{same_Some}
use Rattle.cm_types.specs.declared.core_value.CoreValue.{CoreValue}
use Rattle.cm_types.specs.Values.{Val}
use Rattle.cm_handles.specs.Handles.{if_not_lent, look_up}
use Rattle.cm_handles.specs.declared.handle.Handle.{Handle}
use Rattle.cm_handles.specs.declared.handle.HandleKind.{HandleKind}
use Rattle.cm_handles.specs.declared.handle.HandleKind.TheVariants as handle
use Rattle.cm_handles.specs.declared.fault.HandleFault.{HandleFault}
use Rattle.cm_abi_model.specs.Answering.{answer_fault, first_fault}
use Rattle.cm_abi_model.specs.declared.fault.AbiFault.{AbiFault}
use Rattle.cm_abi_model.specs.declared.request.Request.{Request}
use Rattle.cm_abi_model.specs.Numbers.{slot_at}
use Rattle.cm_abi_model.specs.Requests.{is_spilled}
use Rattle.cm_abi_model.specs.Views.{View, Way, params, results}
use Rattle.cm_machine_model.specs.declared.event.Event.{Event}
use Rattle.cm_machine_model.specs.declared.event.Trap.TheVariants as trap
use Rattle.cm_machine_model.specs.declared.frame.Call.{Call}
use Rattle.cm_machine_model.specs.declared.frame.Frame.{Frame}
use Rattle.cm_machine_model.specs.declared.frame.Phase.{Phase}
use Rattle.cm_machine_model.specs.declared.frame.Phase.TheVariants as phase
use Rattle.cm_machine_model.specs.declared.frame.Purpose.{Purpose}
use Rattle.cm_machine_model.specs.declared.frame.Purpose.TheVariants as purpose
use Rattle.cm_machine_model.specs.declared.moves.Move.{Move}
use Rattle.cm_machine_model.specs.declared.moves.Move.TheVariants as move
use Rattle.cm_machine_model.specs.Memories.{after_growth, after_write, memory_at}
use Rattle.cm_machine_model.specs.Passages.{IsAnswered, as_args, asked_for, Carries, HasAnswers}
use Rattle.cm_machine_model.specs.Passages.{IsScanned}
use Rattle.cm_abi_model.specs.Answered.{last_answer}
use Rattle.cm_machine_model.specs.Plan.{Plan, CoreFunc, Link, Reaches, core_func_at, drops, guest}
use Rattle.cm_machine_model.specs.Plan.{lowered, makes, receiver_side, represents, types_of}
use Rattle.cm_machine_model.specs.Stack.{actor, actor_in, actor_of, below_top, top_of}
use Rattle.cm_machine_model.specs.State.{Passage, State, table_at}
use Rattle.cm_machine_model.specs.Step as step
use Rattle.cm_machine_model.specs.Step.{UnlessWrong, Asks, GoesOn, GoesOnBy, IsReceived}
use Rattle.cm_machine_model.specs.Step.{PassesArguments, DropsFound, DropsHandle, DropsOwned}
use Rattle.cm_machine_model.specs.Step.{TellsFound, Calls, Answers, PlacesResult, ReturnsResult}
use Rattle.cm_machine_model.specs.Step.{ReturnsIn, Returns, Moves, StepOn, Step, after_handing}
use Rattle.cm_machine_model.specs.Step.{after_lift_of_args, after_lift_of_result, new_call}
use Rattle.cm_machine_model.specs.Step.{receiver_of, top_place, trap_of, trap_of_handle, giver_of}
use Rattle.cm_machine_model.specs.Valid.{IsStack, IsValidState, StandsOn, IsOnItsWay, PassesAtTop}
use Rattle.cm_machine_model.specs.Valid.{PassesFor, PassesIn}
use Rattle.cm_machine_model.specs.declared.limits.TheConstants.{PAGE_SIZE}
use Rattle.cm_machine_model.specs.Plans.{IsLink, IsPlan}
use Rattle.cm_machine_model.specs.Rows.{OfTraps, by_check, by_memory, by_trap, finish, same_link}
use Rattle.cm_machine_laws.proofs.StepPlaces.{none_for}
use Rattle.cm_machine_laws.proofs.OneCarried.{OneCarried}
use Rattle.cm_machine_model.proofs.PassagesLaws.{carried_by, asked_on}
use Rattle.cm_lemmas.proofs.Lists.{get_set_other, get_set_same, set_past}
use Rattle.cm_abi_model.proofs.AnsweringLaws.{both_none, none_placed, no_fault, before_one, still_fine}

abbrev Q : Plan → Event → State → Type 0
Q plan e new = PassesAtTop plan new new.stack

q_traps : (plan : Plan) → OfTraps (Q plan)
q_traps plan st t = refl

kept : (plan : Plan) (e : Event) (new st : State) → new ≡ st → PassesAtTop plan st st.stack → PassesAtTop plan new new.stack
kept plan e new st is q = subst (λ (x : State). PassesAtTop plan x x.stack) (sym is) q

-- ---- nothing is on its way where the frame on top may leave

idle_in : (ph : Phase) (s : State) (l : Link) (call : Call) (o : Option Passage) → o ≡ None → step.MayLeaveIn ph → PassesIn ph s l call o
idle_in phase.Arguments s l call o none may = absurd may
idle_in phase.Body s l call o none may = none
idle_in phase.Results s l call o none may = absurd may
idle_in (phase.PostReturn v) s l call o none may = none

idle_for : (plan : Plan) (s : State) (pu : Purpose) → s.passage ≡ None → step.MayLeave pu → PassesFor plan s pu
idle_for plan s purpose.Root none may = none
idle_for plan s (purpose.Call call) none may = λ l reach. idle_in call.phase s l call s.passage none may
idle_for plan s (purpose.Destructor d) none may = none

idle : (plan : Plan) (s : State) (fs : List Frame) → s.passage ≡ None → ((f : Frame) → top_of fs ≡ Some f → step.MayLeave f.purpose) → PassesAtTop plan s fs
idle plan s [] none may = none
idle plan s (f ∷ fs) none may = idle_for plan s f.purpose none (may f refl)

-- ---- answers

one_more_fine : (n : ℕ) (rs : List Request) (answers : List ℕ) (r : Request) (a : ℕ) → first_fault n rs answers ≡ None → slice_get rs (length answers) ≡ Some r → answer_fault n r a ≡ None → first_fault n rs (answers ++ a ∷ []) ≡ None
one_more_fine n [] [] r a fine is good = refl
one_more_fine n [] (b ∷ answers) r a fine is good = refl
one_more_fine n (q ∷ rs) [] r a fine is good = both_none (answer_fault n q a) (first_fault n rs []) (ap (λ x. answer_fault n x a) (same_Some q r is) ∙ good) (no_fault n rs)
one_more_fine n (q ∷ rs) (b ∷ answers) r a fine is good =
    let both = before_one (answer_fault n q b) (first_fault n rs answers) fine in
    both_none (answer_fault n q b) (first_fault n rs (answers ++ a ∷ [])) both.0 (one_more_fine n rs answers r a both.1 is good)

-- ---- where a value goes on

-- the state on top of which a value is on its way that way, in a call whose frame stands on these
record Carrying (plan : Plan) (st : State) (l : Link) (way : Way) (call : Call) (p : Passage) (v : Val) (answers : List ℕ) : Type 0 where
  carried : Carries (memory_at st.memories (giver_of way l call)) l way p v
  answered : HasAnswers (asked_for l way p v) answers p
  fine : first_fault (length (memory_at st.memories (receiver_of way (top_place st) l call).instance)) (asked_for l way p v) answers ≡ None

on_its_way : (plan : Plan) (st : State) (l : Link) (way : Way) (call : Call) (p : Passage) (v : Val) (answers : List ℕ) (r : Request) → Carrying plan st l way call p v answers → slice_get (asked_for l way p v) (length answers) ≡ Some r → IsOnItsWay st l way call p
on_its_way plan st l way call p v answers r c is = record { v = v; carried = c.carried; answers = answers; answered = c.answered; next = r; to_come = is; fine = c.fine }

asked : (plan : Plan) (o : Option ℕ) (i : ℕ) (args : List CoreValue) (st : State) (e : Event) (new : State) → PassesAtTop plan st st.stack → Asks o i args st e new → PassesAtTop plan new new.stack
asked plan None i args st e new now x = absurd x
asked plan (Some f) i args st e new now x = kept plan e new st x.1 now

goes_by : (plan : Plan) (o : Option Request) (st : State) (place : ℕ) (l : Link) (way : Way) (call : Call) (p : Passage) (v : Val) (answers : List ℕ) (e : Event) (new : State)
    → slice_get (asked_for l way p v) (length answers) ≡ o
    → ((r : Request) → slice_get (asked_for l way p v) (length answers) ≡ Some r → PassesAtTop plan st st.stack)
    → ((h : State) (slots : List CoreValue) → h.passage ≡ None → h.stack ≡ st.stack → IsReceived way place l call p slots h e new → PassesAtTop plan new new.stack)
    → GoesOnBy o st place l way call p v (asked_for l way p v) answers e new → PassesAtTop plan new new.stack
goes_by plan (Some r) st place l way call p v answers e new is ask received x =
    asked plan (receiver_side l way).realloc (receiver_of way place l call).instance (as_args (last_answer answers) r) st e new (ask r is) x
goes_by plan None st place l way call p v answers e new is ask received x =
    by_check (Q plan) (q_traps plan) st e new x (λ apart y. by_check (Q plan) (q_traps plan) st e new y (λ room z. by_memory (Q plan) (q_traps plan) st e new z (λ w.
    received (after_handing st (receiver_of way place l call) p w.0) w.1 refl refl w.3)))

-- what a call stands on may leave
abbrev MayBelow : List Frame → Type 0
MayBelow fs = (f : Frame) → top_of fs ≡ Some f → step.MayLeave f.purpose

received : (way : Way) (plan : Plan) (place : ℕ) (l : Link) (call : Call) (p : Passage) (slots : List CoreValue) (h : State) (fs : List Frame) (e : Event) (new : State) → MayBelow fs → below_top h.stack ≡ fs → h.passage ≡ None
    → IsReceived way place l call p slots h e new → PassesAtTop plan new new.stack
received params plan place l call p slots h fs e new may is none x = kept plan e new (step.in_phase phase.Body l.instance call h) x.1 (λ k reach. none)
received results plan place l call p slots h fs e new may is none x =
    finish (Q plan) l.post_return place l call p slots h e new
    (λ f v. λ k reach. none)
    (λ values. subst (λ (gs : List Frame). PassesAtTop plan (step.after_call place h) gs) (sym is) (idle plan (step.after_call place h) fs none may)) x

-- a state in which the call on top is in a phase in which it passes something that way
abbrev phase_of : Way → Phase
phase_of params = phase.Arguments
phase_of results = phase.Results

in_phase_of : (way : Way) (s : State) (l : Link) (call : Call) (p : Passage) → IsOnItsWay s l way call p → PassesIn (phase_of way) s l call (Some p)
in_phase_of params s l call p o = (p, refl, o)
in_phase_of results s l call p o = (p, refl, o)

same_call : (s : State) (l : Link) (way : Way) (call other : Call) (p : Passage) → call.caller ≡ other.caller → IsOnItsWay s l way call p → IsOnItsWay s l way other p
same_call s l params call other p same o =
    record { v = o.v; carried = subst (λ (n : ℕ). Carries (memory_at s.memories n) l params p o.v) same o.carried; answers = o.answers; answered = o.answered; next = o.next; to_come = o.to_come; fine = o.fine }
same_call s l results call other p same o =
    record { v = o.v; carried = o.carried; answers = o.answers; answered = o.answered; next = o.next; to_come = o.to_come; fine = subst (λ (n : ℕ). first_fault (length (memory_at s.memories n)) (asked_for l results p o.v) o.answers ≡ None) same o.fine }

-- the call on top, whose frame is in that phase, passes this
topped : (way : Way) (plan : Plan) (st : State) (l : Link) (call top : Call) (i : ℕ) (fs : List Frame) (p : Passage) → st.stack ≡ record { instance = i; purpose = purpose.Call top } ∷ fs → top.phase ≡ phase_of way → top.caller ≡ call.caller → top.func ≡ call.func
    → Reaches plan call.caller call.func l → st.passage ≡ Some p → IsOnItsWay st l way call p → PassesAtTop plan st st.stack
topped way plan st l call top i fs p is ph caller func reach some o =
    subst (λ (gs : List Frame). PassesAtTop plan st gs) (sym is)
    (λ k reach_k.
    let same : l ≡ k = same_link plan call.caller call.func l k reach (subst (λ (n : ℕ). Reaches plan call.caller n k) func (subst (λ (n : ℕ). Reaches plan n top.func k) caller reach_k)) in
    subst (λ (q : Phase). PassesIn q st k top st.passage) (sym ph)
    (subst (λ (q : Option Passage). PassesIn (phase_of way) st k top q) (sym some)
    (subst (λ (j : Link). PassesIn (phase_of way) st j top (Some p)) same (in_phase_of way st l top p (same_call st l way call top p (sym caller) o)))))

-- ---- the receiver moves

memory_other : (ms : List (List ℕ)) (j k : ℕ) (m : List ℕ) → k ≢ j → memory_at (slice_set ms j m) k ≡ memory_at ms k
memory_other ms j k m ne = ap (λ o. unwrap_or o []) (get_set_other ms j k m ne)

memory_longer : (ms : List (List ℕ)) (j k : ℕ) (m : List ℕ) → length (memory_at ms j) ≤ length m → length (memory_at ms k) ≤ length (memory_at (slice_set ms j m) k)
memory_longer ms j k m le = elim (cases_eq k j) as (λ r. length (memory_at ms k) ≤ length (memory_at (slice_set ms j m) k)) [
  | inl same ↦ elim (cases_lt j (length ms)) as (λ r. length (memory_at ms k) ≤ length (memory_at (slice_set ms j m) k)) [
    | inl lt ↦
        let now : memory_at (slice_set ms j m) k ≡ m = ap (λ x. memory_at (slice_set ms j m) x) same ∙ ap (λ o. unwrap_or o []) (get_set_same ms j m lt) in
        subst (λ (x : List ℕ). length (memory_at ms k) ≤ length x) (sym now) (subst (λ (x : ℕ). length (memory_at ms x) ≤ length m) (sym same) le)
    | inr past ↦ subst (λ (xs : List (List ℕ)). length (memory_at ms k) ≤ length (memory_at xs k)) (sym (set_past ms j m past)) (omega arith)
  ]
  | inr ne ↦ subst (λ (x : List ℕ). length (memory_at ms k) ≤ length x) (sym (memory_other ms j k m ne)) (omega arith)
]

stayed : (s : State) (l : Link) (way : Way) (call : Call) (p : Passage) (j : ℕ) (m : List ℕ) → giver_of way l call ≢ j → length (memory_at s.memories j) ≤ length m → IsOnItsWay s l way call p → IsOnItsWay (step.with_memory s j m) l way call p
stayed s l way call p j m apart longer o = record {
  v = o.v;
  carried = subst (λ (x : List ℕ). Carries x l way p o.v) (sym (memory_other s.memories j (giver_of way l call) m apart)) o.carried;
  answers = o.answers;
  answered = o.answered;
  next = o.next;
  to_come = o.to_come;
  fine = still_fine (length (memory_at s.memories (receiver_of way (top_place s) l call).instance)) (length (memory_at (slice_set s.memories j m) (receiver_of way (top_place s) l call).instance)) (asked_for l way p o.v) o.answers
      (memory_longer s.memories j (receiver_of way (top_place s) l call).instance m longer) o.fine;
}

moved_in : (ph : Phase) (s : State) (l : Link) (call : Call) (o : Option Passage) (i : ℕ) (m : List ℕ) → l.instance ≡ i → call.caller ≢ l.instance → length (memory_at s.memories (actor_in ph i call.caller)) ≤ length m
    → PassesIn ph s l call o → PassesIn ph (step.with_memory s (actor_in ph i call.caller) m) l call o
moved_in phase.Arguments s l call o i m is apart longer x = (x.0, x.1, stayed s l params call x.0 i m (λ e. apart (e ∙ sym is)) longer x.2)
moved_in phase.Body s l call o i m is apart longer x = x
moved_in phase.Results s l call o i m is apart longer x = (x.0, x.1, stayed s l results call x.0 call.caller m (λ e. apart (sym e)) longer x.2)
moved_in (phase.PostReturn v) s l call o i m is apart longer x = x

moved_for : (plan : Plan) (s : State) (pu : Purpose) (i : ℕ) (fs : List Frame) (m : List ℕ) → IsPlan plan → StandsOn plan pu i fs → length (memory_at s.memories (actor_of pu i)) ≤ length m → PassesFor plan s pu → PassesFor plan (step.with_memory s (actor_of pu i) m) pu
moved_for plan s purpose.Root i fs m linked st longer x = x
moved_for plan s (purpose.Call call) i fs m linked st longer x = λ l reach.
    let link : IsLink plan call.caller l = linked.core_funcs call.caller call.func (lowered l) reach in
    let is : l.instance ≡ i = ap (λ (k : Link). k.instance) (same_link plan call.caller call.func l st.0.0 reach st.0.1) ∙ st.0.2 in
    moved_in call.phase s l call s.passage i m is (λ e. omega (arith, e, link.earlier)) longer (x l reach)
moved_for plan s (purpose.Destructor d) i fs m linked st longer x = x

moved_memory : (plan : Plan) (s : State) (top : Frame) (fs : List Frame) (m : List ℕ) → s.stack ≡ top ∷ fs → IsValidState plan s → length (memory_at s.memories (actor top)) ≤ length m → PassesAtTop plan (step.with_memory s (actor top) m) s.stack
moved_memory plan s top fs m is valid longer =
    let st : IsStack plan (top ∷ fs) = subst (λ (gs : List Frame). IsStack plan gs) is valid.stack in
    subst (λ (gs : List Frame). PassesAtTop plan (step.with_memory s (actor top) m) gs) (sym is)
    (moved_for plan s top.purpose top.instance fs m valid.linked st.1 longer (subst (λ (gs : List Frame). PassesAtTop plan s gs) is valid.passes))

-- ---- one more answer

more_carrying : (plan : Plan) (st : State) (l : Link) (way : Way) (call : Call) (p : Passage) (v : Val) (answers : List ℕ) (r : Request) (a : ℕ) (q : Passage) → Carrying plan st l way call p v answers → IsAnswered (asked_for l way p v) p a q
    → slice_get (asked_for l way p v) (length answers) ≡ Some r → answer_fault (length (memory_at st.memories (receiver_of way (top_place st) l call).instance)) r a ≡ None
    → Carrying plan (record st { passage = Some q }) l way call q v (answers ++ a ∷ [])
more_carrying plan st l way call p v answers r a q c is next good = record {
  carried = carried_by (memory_at st.memories (giver_of way l call)) l way (asked_for l way p v) p a q v is c.carried;
  answered = subst (λ (rs : List Request). HasAnswers rs (answers ++ a ∷ []) q) (sym (asked_on l way (asked_for l way p v) p a q v is)) (is.answers answers c.answered);
  fine = subst (λ (rs : List Request). first_fault (length (memory_at st.memories (receiver_of way (top_place st) l call).instance)) rs (answers ++ a ∷ []) ≡ None) (sym (asked_on l way (asked_for l way p v) p a q v is))
      (one_more_fine (length (memory_at st.memories (receiver_of way (top_place st) l call).instance)) (asked_for l way p v) answers r a c.fine next good);
}

by_good : (plan : Plan) (row : Event → State → Type 0) (st : State) (o : Option AbiFault) (e : Event) (new : State) → UnlessWrong st o row e new → (o ≡ None → row e new → PassesAtTop plan new new.stack) → PassesAtTop plan new new.stack
by_good plan row st None e new x go = go refl x
by_good plan row st (Some f) e new x go = by_trap (Q plan) (q_traps plan) st (trap_of f) e new x

fresh_carrying : (plan : Plan) (st : State) (l : Link) (way : Way) (call : Call) (w : View) (slots : List CoreValue) (p : Passage) (v : Val) → w.memory ≡ memory_at st.memories (giver_of way l call) → IsScanned w l way slots v p → Carrying plan st l way call p v []
fresh_carrying plan st l way call w slots p v same is = record {
  carried = subst (λ (m : List ℕ). Carries m l way p v) same is.carried;
  answered = record { count = is.none_answered; last = is.none_last; places = is.none_placed ∙ sym (none_placed (asked_for l way p v)) };
  fine = no_fault (length (memory_at st.memories (receiver_of way (top_place st) l call).instance)) (asked_for l way p v);
}

may_below : (plan : Plan) (call : Call) (i : ℕ) (fs : List Frame) → StandsOn plan (purpose.Call call) i fs → MayBelow fs
may_below plan call i fs st f e = subst (λ (x : Frame). step.MayLeave x.purpose) (same_Some st.1.0 f (sym st.1.1 ∙ e)) st.1.3

-- ---- calls

called : (plan : Plan) (s : State) (top : Frame) (fs : List Frame) (func : ℕ) (o : Option CoreFunc) (args : List CoreValue) (e : Event) (new : State) → core_func_at plan (actor top) func ≡ o → s.stack ≡ top ∷ fs → PassesAtTop plan s s.stack
    → (step.MayLeave top.purpose → s.passage ≡ None) → Calls s top func o args e new → PassesAtTop plan new new.stack
called plan s top fs func None args e new is at_top now none x = by_trap (Q plan) (q_traps plan) s trap.UnknownFunction e new x
called plan s top fs func (Some guest) args e new is at_top now none x = by_trap (Q plan) (q_traps plan) s trap.UnknownFunction e new x
called plan s top fs func (Some (lowered l)) args e new is at_top now none x =
    by_check (Q plan) (q_traps plan) s e new x (λ shape y. by_check (Q plan) (q_traps plan) s e new y (λ may z. by_check (Q plan) (q_traps plan) s e new z (λ opened u. by_check (Q plan) (q_traps plan) s e new u (λ room w. passed may w)))) where
      passed : step.MayLeave top.purpose → PassesArguments s (actor top) func l args e new → PassesAtTop plan new new.stack
      passed may (inl y) = by_trap (Q plan) (q_traps plan) s (trap_of y.0) e new y.2
      passed may (inr (inl y)) = by_trap (Q plan) (q_traps plan) s trap.EngineMemory e new y.1
      passed may (inr (inr y)) =
          let st : State = after_lift_of_args s (actor top) func l args y.0 y.1 in
          let call : Call = new_call (actor top) func l args in
          by_memory (Q plan) (q_traps plan) st e new y.5 (λ z.
          goes_by plan (slice_get (asked_for l params y.1 y.0) 0) st (length s.stack) l params call y.1 y.0 [] e new refl
          (λ r eq. topped params plan st l call call l.instance s.stack y.1 refl refl refl refl is refl
          (on_its_way plan st l params call y.1 y.0 [] r (fresh_carrying plan st l params call (step.args_view s (actor top) l) (step.arg_slots l args) y.1 y.0 refl y.4) eq))
          (λ h slots gone same r. received params plan (length s.stack) l call y.1 slots h s.stack e new (λ f eq. subst (λ (g : Frame). step.MayLeave g.purpose) (same_Some top f (sym (ap top_of at_top) ∙ eq)) may) (ap below_top same) gone r) z)
called plan s top fs func (Some (makes r)) args e new is at_top now none x =
    by_check (Q plan) (q_traps plan) s e new x (λ shape y. by_check (Q plan) (q_traps plan) s e new y (λ may z. by_check (Q plan) (q_traps plan) s e new z (λ can u.
    by_memory (Q plan) (q_traps plan) s e new u (λ w. kept plan e new (step.after_new s (actor top) r (slot_at args 0)) w.1
    (idle plan (step.after_new s (actor top) r (slot_at args 0)) s.stack (none may) (λ f eq. subst (λ (g : Frame). step.MayLeave g.purpose) (same_Some top f (sym (ap top_of at_top) ∙ eq)) may))))))
called plan s top fs func (Some (drops r d)) args e new is at_top now none x =
    by_check (Q plan) (q_traps plan) s e new x (λ shape y. by_check (Q plan) (q_traps plan) s e new y (λ may z. found may (if_not_lent (look_up (table_at s.tables (actor top)) (slot_at args 0) r)) z)) where
      may_top : step.MayLeave top.purpose → (f : Frame) → top_of s.stack ≡ Some f → step.MayLeave f.purpose
      may_top may f eq = subst (λ (g : Frame). step.MayLeave g.purpose) (same_Some top f (sym (ap top_of at_top) ∙ eq)) may

      owned : step.MayLeave top.purpose → (h : Handle) (k : Option ℕ) → DropsOwned s (actor top) r k (slot_at args 0) h e new → PassesAtTop plan new new.stack
      owned may h None y = kept plan e new (step.after_drop s (actor top) (slot_at args 0) h) y.1 (idle plan (step.after_drop s (actor top) (slot_at args 0) h) s.stack (none may) (may_top may))
      owned may h (Some f) y =
          by_check (Q plan) (q_traps plan) s e new y (λ opened z. by_check (Q plan) (q_traps plan) s e new z (λ room w.
          kept plan e new (step.pushed (record { instance = r.component; purpose = purpose.Destructor (actor top) }) (step.after_drop s (actor top) (slot_at args 0) h)) w.1 (none may)))

      handled : step.MayLeave top.purpose → (h : Handle) (k : HandleKind) → DropsHandle k s (actor top) r d (slot_at args 0) h e new → PassesAtTop plan new new.stack
      handled may h handle.Owned y = owned may h d y
      handled may h (handle.Borrowed c) y = kept plan e new (step.without_handle s (actor top) (slot_at args 0)) y.1 (idle plan (step.without_handle s (actor top) (slot_at args 0)) s.stack (none may) (may_top may))

      found : step.MayLeave top.purpose → (q : Result Handle HandleFault) → DropsFound q s (actor top) r d (slot_at args 0) e new → PassesAtTop plan new new.stack
      found may (Err f) y = by_trap (Q plan) (q_traps plan) s (trap_of_handle f) e new y
      found may (Ok h) y = handled may h h.kind y
called plan s top fs func (Some (represents r)) args e new is at_top now none x =
    by_check (Q plan) (q_traps plan) s e new x (λ shape y. found (look_up (table_at s.tables (actor top)) (slot_at args 0) r) y) where
      found : (q : Result Handle HandleFault) → TellsFound q s (actor top) e new → PassesAtTop plan new new.stack
      found (Err f) y = by_trap (Q plan) (q_traps plan) s (trap_of_handle f) e new y
      found (Ok h) y = kept plan e new s y.1 now

-- ---- returns

answered : (way : Way) → OneCarried → (plan : Plan) (s : State) (l : Link) (call : Call) (i : ℕ) (values : List CoreValue) (fs : List Frame) (e : Event) (new : State) → s.stack ≡ record { instance = i; purpose = purpose.Call call } ∷ fs → call.phase ≡ phase_of way → Reaches plan call.caller call.func l
    → MayBelow fs → (p : Passage) → s.passage ≡ Some p → IsOnItsWay s l way call p → Answers s l way call values e new → PassesAtTop plan new new.stack
answered way one plan s l call i values fs e new is ph reach may p some own x =
    by_good plan
    (λ e new. (q : Passage) × IsAnswered (asked_for l way x.0 x.1) x.0 (slot_at values 0) q × GoesOn (record s { passage = Some q }) (top_place s) l way call q x.1 (x.2 ++ slot_at values 0 ∷ []) e new)
    s (answer_fault (length (memory_at s.memories (receiver_of way (top_place s) l call).instance)) x.3 (slot_at values 0)) e new x.8
    (λ good z. goes_by plan (slice_get (asked_for l way z.0 x.1) (length (x.2 ++ slot_at values 0 ∷ []))) (record s { passage = Some z.0 }) (top_place s) l way call z.0 x.1 (x.2 ++ slot_at values 0 ∷ []) e new refl
    (λ r eq. asks good z.0 z.1 r eq)
    (λ h slots gone same y. received way plan (top_place s) l call z.0 slots h fs e new may (ap below_top (same ∙ is)) gone y) z.2) where
      same_passage : p ≡ x.0
      same_passage = same_Some p x.0 (sym some ∙ x.4)

      here : IsOnItsWay s l way call x.0
      here = subst (λ (q : Passage). IsOnItsWay s l way call q) same_passage own

      same_value : here.v ≡ x.1
      same_value = one (memory_at s.memories (giver_of way l call)) l way x.0 here.v x.1 here.carried x.5

      carrying : Carrying plan s l way call x.0 x.1 here.answers
      carrying = subst (λ (u : Val). Carrying plan s l way call x.0 u here.answers) same_value (record { carried = here.carried; answered = here.answered; fine = here.fine })

      same_count : length x.2 ≡ length here.answers
      same_count = sym x.6.count ∙ here.answered.count

      asks : answer_fault (length (memory_at s.memories (receiver_of way (top_place s) l call).instance)) x.3 (slot_at values 0) ≡ None → (q : Passage) → IsAnswered (asked_for l way x.0 x.1) x.0 (slot_at values 0) q → (r : Request)
          → slice_get (asked_for l way q x.1) (length (x.2 ++ slot_at values 0 ∷ [])) ≡ Some r → PassesAtTop plan (record s { passage = Some q }) s.stack
      asks good q ans r eq =
          let more : Carrying plan (record s { passage = Some q }) l way call q x.1 (here.answers ++ slot_at values 0 ∷ []) =
          more_carrying plan s l way call x.0 x.1 here.answers x.3 (slot_at values 0) q carrying ans (ap (λ n. slice_get (asked_for l way x.0 x.1) n) (sym same_count) ∙ x.7) good in
          let counts : length (here.answers ++ slot_at values 0 ∷ []) ≡ length (x.2 ++ slot_at values 0 ∷ []) = sym more.answered.count ∙ (ans.answers x.2 x.6).count in
          topped way plan (record s { passage = Some q }) l call call i fs q is ph refl refl reach refl
          (on_its_way plan (record s { passage = Some q }) l way call q x.1 (here.answers ++ slot_at values 0 ∷ []) r more (ap (λ n. slice_get (asked_for l way q x.1) n) counts ∙ eq))

placed : (b : Bool) (plan : Plan) (st : State) (l : Link) (call : Call) (p : Passage) (v : Val) (i : ℕ) (fs : List Frame) (e : Event) (new : State) → st.stack ≡ record { instance = i; purpose = purpose.Call (record call { phase = phase.Results }) } ∷ fs → Reaches plan call.caller call.func l
    → MayBelow fs → st.passage ≡ Some p → Carrying plan st l results call p v [] → PlacesResult b st l call p v e new → PassesAtTop plan new new.stack
placed false plan st l call p v i fs e new is reach may some c x =
    goes_by plan (slice_get (asked_for l results p v) 0) st (top_place st) l results call p v [] e new refl
    (λ r eq. topped results plan st l call (record call { phase = phase.Results }) i fs p is refl refl refl reach some (on_its_way plan st l results call p v [] r c eq))
    (λ h slots gone same y. received results plan (top_place st) l call p slots h fs e new may (ap below_top (same ∙ is)) gone y) x
placed true plan st l call p v i fs e new is reach may some c x =
    by_good plan
    (λ e new. (q : Passage) × IsAnswered (asked_for l results p v) p call.result_at q × GoesOn (record st { passage = Some q }) (top_place st) l results call q v (call.result_at ∷ []) e new)
    st (answer_fault (length (memory_at st.memories call.caller)) x.0 call.result_at) e new x.2
    (λ good z. goes_by plan (slice_get (asked_for l results z.0 v) 1) (record st { passage = Some z.0 }) (top_place st) l results call z.0 v (call.result_at ∷ []) e new refl
    (λ r eq. topped results plan (record st { passage = Some z.0 }) l call (record call { phase = phase.Results }) i fs z.0 is refl refl refl reach refl
    (on_its_way plan (record st { passage = Some z.0 }) l results call z.0 v (call.result_at ∷ []) r (more_carrying plan st l results call p v [] x.0 call.result_at z.0 c z.1 x.1 good) eq))
    (λ h slots gone same y. received results plan (top_place st) l call z.0 slots h fs e new may (ap below_top (same ∙ is)) gone y) z.2)

returned : (plan : Plan) (s : State) (l : Link) (call : Call) (values : List CoreValue) (fs : List Frame) (e : Event) (new : State) → below_top s.stack ≡ fs → Reaches plan call.caller call.func l → MayBelow fs → ReturnsResult s l call values e new → PassesAtTop plan new new.stack
returned plan s l call values fs e new is reach may (inl y) = by_trap (Q plan) (q_traps plan) s (trap_of y.0) e new y.2
returned plan s l call values fs e new is reach may (inr (inl y)) = by_trap (Q plan) (q_traps plan) s trap.EngineMemory e new y.1
returned plan s l call values fs e new is reach may (inr (inr y)) =
    let st : State = after_lift_of_result s l call values y.0 y.1 in
    by_memory (Q plan) (q_traps plan) st e new y.5 (λ z.
    placed (is_spilled results (types_of l results)) plan st l call y.1 y.0 l.instance fs e new
    (ap (λ (gs : List Frame). record { instance = l.instance; purpose = purpose.Call (record call { phase = phase.Results }) } ∷ gs) is) reach may refl
    (fresh_carrying plan st l results call (step.result_view s l) values y.1 y.0 refl y.4) z)

in_phases : (ph : Phase) → OneCarried → (plan : Plan) (s : State) (l : Link) (call : Call) (i : ℕ) (values : List CoreValue) (fs : List Frame) (e : Event) (new : State) → s.stack ≡ record { instance = i; purpose = purpose.Call call } ∷ fs → call.phase ≡ ph → Reaches plan call.caller call.func l
    → MayBelow fs → PassesIn ph s l call s.passage → ReturnsIn ph s l call values e new → PassesAtTop plan new new.stack
in_phases phase.Arguments one plan s l call i values fs e new is ph reach may own x =
    by_check (Q plan) (q_traps plan) s e new x (λ shape y. answered params one plan s l call i values fs e new is ph reach may own.0 own.1 own.2 y)
in_phases phase.Body one plan s l call i values fs e new is ph reach may own x =
    by_check (Q plan) (q_traps plan) s e new x (λ shape y. by_check (Q plan) (q_traps plan) s e new y (λ borrows z. returned plan s l call values fs e new (ap below_top is) reach may z))
in_phases phase.Results one plan s l call i values fs e new is ph reach may own x =
    by_check (Q plan) (q_traps plan) s e new x (λ shape y. answered results one plan s l call i values fs e new is ph reach may own.0 own.1 own.2 y)
in_phases (phase.PostReturn v) one plan s l call i values fs e new is ph reach may own x =
    by_check (Q plan) (q_traps plan) s e new x (λ shape y. kept plan e new (step.after_call (top_place s) s) y.1
    (subst (λ (gs : List Frame). PassesAtTop plan (step.after_call (top_place s) s) gs) (sym (ap below_top is)) (idle plan (step.after_call (top_place s) s) fs own may)))

returns : OneCarried → (plan : Plan) (s : State) (pu : Purpose) (i : ℕ) (fs : List Frame) (values : List CoreValue) (e : Event) (new : State) → s.stack ≡ record { instance = i; purpose = pu } ∷ fs → StandsOn plan pu i fs → PassesFor plan s pu
    → Returns plan s pu values e new → PassesAtTop plan new new.stack
returns one plan s purpose.Root i fs values e new is st own x =
    by_check (Q plan) (q_traps plan) s e new x (λ shape y. kept plan e new (step.popped s) y.1
    (subst (λ (gs : List Frame). PassesAtTop plan (step.popped s) gs) (sym (ap below_top is ∙ st)) own))
returns one plan s (purpose.Call call) i fs values e new is st own x =
    in_phases call.phase one plan s x.0 call i values fs e new is refl x.1 (may_below plan call i fs st) (own x.0 x.1) x.2
returns one plan s (purpose.Destructor who) i fs values e new is st own x =
    by_check (Q plan) (q_traps plan) s e new x (λ shape y. kept plan e new (step.popped s) y.1
    (subst (λ (gs : List Frame). PassesAtTop plan (step.popped s) gs) (sym (ap below_top is))
    (idle plan (step.popped s) fs own (λ f eq. subst (λ (g : Frame). step.MayLeave g.purpose) (same_Some st.1.0 f (sym st.1.1 ∙ eq)) st.1.3))))

-- ---- moves

write_longer : (m bytes : List ℕ) (a : ℕ) → a + length bytes ≤ length m → length m ≤ length (after_write m a bytes)
write_longer m bytes a inside = subst (λ (n : ℕ). length m ≤ n) (sym sizes) (omega (arith, inside)) where
  sizes : length (after_write m a bytes) ≡ a + (length bytes + (length m - (a + length bytes)))
  sizes = length-append (take a m ++ bytes) (drop (a + length bytes) m) ∙ omega (
    arith,
    length-append (take a m) bytes,
    length-take-le a m (omega (arith, inside)),
    length-drop (a + length bytes) m,
  )

growth_longer : (m : List ℕ) (pages : ℕ) → length m ≤ length (after_growth m pages)
growth_longer m pages = omega (arith, length-append m (replicate (pages * PAGE_SIZE) 0))

moved : OneCarried → (plan : Plan) (s : State) (top : Frame) (fs : List Frame) (m : Move) (e : Event) (new : State) → s.stack ≡ top ∷ fs → IsValidState plan s → Moves plan s top m e new → PassesAtTop plan new new.stack
moved one plan s top fs (move.Write a bytes) e new is valid x = by_check (Q plan) (q_traps plan) s e new x (λ inside y.
    kept plan e new (step.with_memory s (actor top) (after_write (memory_at s.memories (actor top)) a bytes.items)) y.1
    (moved_memory plan s top fs (after_write (memory_at s.memories (actor top)) a bytes.items) is valid (write_longer (memory_at s.memories (actor top)) bytes.items a inside)))
moved one plan s top fs (move.Grow pages) e new is valid (inl x) = kept plan e new s x.2 valid.passes
moved one plan s top fs (move.Grow pages) e new is valid (inr (inl x)) =
    kept plan e new (step.with_memory s (actor top) (after_growth (memory_at s.memories (actor top)) pages)) x.2
    (moved_memory plan s top fs (after_growth (memory_at s.memories (actor top)) pages) is valid (growth_longer (memory_at s.memories (actor top)) pages))
moved one plan s top fs (move.Grow pages) e new is valid (inr (inr x)) = by_trap (Q plan) (q_traps plan) s trap.EngineMemory e new x.2
moved one plan s top fs (move.Call func args) e new is valid x =
    let st : IsStack plan (top ∷ fs) = subst (λ (gs : List Frame). IsStack plan gs) is valid.stack in
    let own : PassesFor plan s top.purpose = subst (λ (gs : List Frame). PassesAtTop plan s gs) is valid.passes in
    called plan s top fs func (core_func_at plan (actor top) func) args.items e new refl is valid.passes (λ may. none_for plan s top.purpose top.instance fs st.1 own may) x
moved one plan s top fs (move.Return values) e new is valid x =
    let st : IsStack plan (top ∷ fs) = subst (λ (gs : List Frame). IsStack plan gs) is valid.stack in
    let own : PassesFor plan s top.purpose = subst (λ (gs : List Frame). PassesAtTop plan s gs) is valid.passes in
    returns one plan s top.purpose top.instance fs values.items e new is st.1 own x
moved one plan s top fs move.Unreachable e new is valid x = by_trap (Q plan) (q_traps plan) s trap.Unreachable e new x

stepped : OneCarried → (plan : Plan) (s : State) (fs : List Frame) (m : Move) (e : Event) (new : State) → IsValidState plan s → s.stack ≡ fs → StepOn plan fs s m e new → PassesAtTop plan new new.stack
stepped one plan s [] m e new valid is x = absurd x
stepped one plan s (top ∷ fs) m e new valid is x = moved one plan s top fs m e new is valid x

pub steps_pass : OneCarried → (plan : Plan) (s : State) (m : Move) (e : Event) (new : State) → IsValidState plan s → Step plan s m e new → PassesAtTop plan new new.stack
steps_pass one plan s m e new valid x = stepped one plan s s.stack m e new valid refl x
