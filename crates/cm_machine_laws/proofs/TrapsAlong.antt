-- Why traps have their causes and close what they should, and causes trap, along each history.
use Rattle.std.proofs.Common.{◌≡◌, ℕ, ◌⊎◌, inl, inr, List, [], ◌∷◌, ◌++◌, Some, refl, sym, ap, subst, ◌∙◌}
use Rattle.std.specs.Option.{option_map}
use Rattle.std.proofs.lemmas.Option.{same_Some}
use Rattle.cm_machine_model.specs.declared.event.Event.{Event}
use Rattle.cm_machine_model.specs.declared.event.Event.TheVariants as event
use Rattle.cm_machine_model.specs.declared.event.Trap.{Trap}
use Rattle.cm_machine_model.specs.declared.event.Trap.TheVariants as trap
use Rattle.cm_machine_model.specs.declared.moves.Move.{Move}
use Rattle.cm_machine_model.specs.declared.frame.Frame.{Frame}
use Rattle.cm_machine_model.specs.History.{Action, Happens, IsHistoryOf, Occurrence, moves}
use Rattle.cm_machine_model.specs.Plan.{Plan}
use Rattle.cm_machine_model.specs.Stack.{actor, top_of}
use Rattle.cm_machine_model.specs.State.{State}
use Rattle.cm_machine_model.specs.Step.{Moves, StepOn}
use Rattle.cm_machine_model.specs.Valid.{IsValidState}
use Rattle.cm_machine_laws.specs.Acting.{acts}
use Rattle.cm_machine_laws.specs.Always.{Always}
use Rattle.cm_machine_laws.specs.Causes.{Cause, IsFirst, MayFindNoMemory, order_before, order_behind}
use Rattle.cm_machine_laws.specs.Closing.{ClosesWhatWentOn, NamesItsCause, TrapsAtACause, TrapHasItsCauseAndCloses}
use Rattle.cm_machine_laws.specs.Doing.{Doing, doing}
use Rattle.cm_machine_laws.specs.Matching.{AllMatch, AreTold}
use Rattle.cm_machine_laws.specs.Following.{AreFollowed}
use Rattle.cm_machine_laws.proofs.AnswerRows.{OneCarried}
use Rattle.cm_machine_laws.proofs.BodyRows.{TupleFirst}
use Rattle.cm_machine_laws.proofs.ClosedStates.{ClosingLaws}
use Rattle.cm_machine_laws.proofs.ClosingRows.{closes_by}
use Rattle.cm_machine_laws.proofs.Judging.{Judged, LacksMemory, named, refused}
use Rattle.cm_machine_laws.proofs.Lifting.{Laws}
use Rattle.cm_machine_laws.proofs.SimpleRows.{step_judged}
use Rattle.cm_machine_model.proofs.HistoryLaws.{earlier}

abbrev pub StaysValid : Type 0
StaysValid = (plan : Plan) (pages : List ℕ) (h : List Occurrence) (s : State) → IsHistoryOf plan pages h s → IsValidState plan s

abbrev pub IsTold : Type 0
IsTold = (plan : Plan) (pages : List ℕ) (h : List Occurrence) (s : State) → IsHistoryOf plan pages h s → AreTold plan s (acts h) (doing plan h)

abbrev pub IsFollowedAlong : Type 0
IsFollowedAlong = (plan : Plan) (pages : List ℕ) (h : List Occurrence) (s : State) → IsHistoryOf plan pages h s → AreFollowed s (doing plan h)

no_memory : (plan : Plan) (s : State) (ds : List Doing) (i : ℕ) (m : Move) (e : Event) → LacksMemory (order_before plan ds i m) (Cause plan s ds i m) e → MayFindNoMemory plan s ds i m
no_memory plan s ds i m e x = record { wants = x.wants; none_before = x.none }

-- each step is judged
pub judged_along : (laws : Laws) (tuple : TupleFirst) (carried : OneCarried) (valid : StaysValid) (told : IsTold) (follow : IsFollowedAlong) (plan : Plan) (pages : List ℕ) (x : Occurrence) (h : List Occurrence) (s : State)
    → IsHistoryOf plan pages (x ∷ h) s → (m : Move) → x.action ≡ moves m
    → (i : ℕ) × (acts h ≡ Some i) × Judged (order_before plan (doing plan h) i m) (order_behind plan (doing plan h) i m) (Cause plan x.before (doing plan h) i m) x.event
judged_along laws tuple carried valid told follow plan pages x h s y m is =
    let before : IsHistoryOf plan pages h x.before = earlier plan pages x h s y in
    step_judged laws tuple carried plan x.before (acts h) (doing plan h) (valid plan pages h x.before before) (told plan pages h x.before before) (follow plan pages h x.before before) m x.event x.after
    (subst (λ (a : Action). Happens plan x.before a x.event x.after) is y.history.1).1

-- a step is a move of the frame on top
record IsMove (plan : Plan) (s : State) (m : Move) (e : Event) (new : State) : Type 0 where
  top : Frame
  rest : List Frame
  stack : s.stack ≡ top ∷ rest
  row : Moves plan s top m e new

moved_on : (plan : Plan) (fs : List Frame) (s : State) (m : Move) (e : Event) (new : State) → s.stack ≡ fs → StepOn plan fs s m e new → IsMove plan s m e new
moved_on plan [] s m e new is x = absurd x
moved_on plan (top ∷ rest) s m e new is x = record { top = top; rest = rest; stack = is; row = x }

named_here : (laws : Laws) (tuple : TupleFirst) (carried : OneCarried) (valid : StaysValid) (told : IsTold) (follow : IsFollowedAlong) (plan : Plan) (pages : List ℕ) (x : Occurrence) (h : List Occurrence) (s : State)
    → IsHistoryOf plan pages (x ∷ h) s → (m : Move) (t : Trap) → x.action ≡ moves m → x.event ≡ event.Trapped t
    → (i : ℕ) × (acts h ≡ Some i) × NamesItsCause plan x.before (doing plan h) i m t
named_here laws tuple carried valid told follow plan pages x h s y m t is traps =
    let j = judged_along laws tuple carried valid told follow plan pages x h s y m is in
    (j.0, j.1, names j.0 (named (order_before plan (doing plan h) j.0 m) (order_behind plan (doing plan h) j.0 m) (Cause plan x.before (doing plan h) j.0 m) x.event t j.2 traps)) where
      names : (i : ℕ) → IsFirst (order_before plan (doing plan h) i m ++ order_behind plan (doing plan h) i m) (Cause plan x.before (doing plan h) i m) t
          ⊎ ((t ≡ trap.EngineMemory) × LacksMemory (order_before plan (doing plan h) i m) (Cause plan x.before (doing plan h) i m) x.event)
          → NamesItsCause plan x.before (doing plan h) i m t
      names i (inl first) = inl first
      names i (inr none) = inr (none.0, no_memory plan x.before (doing plan h) i m x.event none.1)

-- and so what it closes is right
closed_here : (laws : Laws) (closing : ClosingLaws) (valid : StaysValid) (told : IsTold) (plan : Plan) (pages : List ℕ) (x : Occurrence) (h : List Occurrence) (s : State)
    → IsHistoryOf plan pages (x ∷ h) s → (m : Move) (t : Trap) → x.action ≡ moves m → x.event ≡ event.Trapped t
    → (i : ℕ) → acts h ≡ Some i → ClosesWhatWentOn plan x.before (doing plan h) i m t x.after
closed_here laws closing valid told plan pages x h s y m t is traps i acting =
    let before : IsHistoryOf plan pages h x.before = earlier plan pages x h s y in
    let step = (subst (λ (a : Action). Happens plan x.before a x.event x.after) is y.history.1).1 in
    let c : IsMove plan x.before m x.event x.after = moved_on plan x.before.stack x.before m x.event x.after refl step in
    let known : AreTold plan x.before (acts h) (doing plan h) = told plan pages h x.before before in
    let actor_is : actor c.top ≡ i = same_Some (actor c.top) i (sym (ap (λ (fs : List Frame). option_map actor (top_of fs)) c.stack) ∙ (known.acts ∙ acting)) in
    subst (λ (k : ℕ). ClosesWhatWentOn plan x.before (doing plan h) k m t x.after) actor_is
    (closes_by laws closing plan x.before c.top c.rest (doing plan h) c.stack (valid plan pages h x.before before)
    (subst (λ (fs : List Frame). AllMatch plan fs (doing plan h)) c.stack known.matched) m x.event x.after c.row t traps)

pub traps_have_causes : (laws : Laws) (closing : ClosingLaws) (tuple : TupleFirst) (carried : OneCarried) (valid : StaysValid) (told : IsTold) (follow : IsFollowedAlong) → Always TrapHasItsCauseAndCloses
traps_have_causes laws closing tuple carried valid told follow plan pages [] s y = tt
traps_have_causes laws closing tuple carried valid told follow plan pages (x ∷ h) s y = λ m t is traps.
    let n = named_here laws tuple carried valid told follow plan pages x h s y m t is traps in
    (n.0, n.1, n.2, closed_here laws closing valid told plan pages x h s y m t is traps n.0 n.1)

refused_here : (laws : Laws) (tuple : TupleFirst) (carried : OneCarried) (valid : StaysValid) (told : IsTold) (follow : IsFollowedAlong) (plan : Plan) (pages : List ℕ) (x : Occurrence) (h : List Occurrence) (s : State)
    → IsHistoryOf plan pages (x ∷ h) s → (m : Move) (i : ℕ) (t : Trap) → x.action ≡ moves m → acts h ≡ Some i
    → IsFirst (order_before plan (doing plan h) i m ++ order_behind plan (doing plan h) i m) (Cause plan x.before (doing plan h) i m) t
    → (x.event ≡ event.Trapped t) ⊎ ((x.event ≡ event.Trapped trap.EngineMemory) × MayFindNoMemory plan x.before (doing plan h) i m)
refused_here laws tuple carried valid told follow plan pages x h s y m i t is acting first =
    let j = judged_along laws tuple carried valid told follow plan pages x h s y m is in
    let same : j.0 ≡ i = same_Some j.0 i (sym j.1 ∙ acting) in
    comes (refused (order_before plan (doing plan h) i m) (order_behind plan (doing plan h) i m) (Cause plan x.before (doing plan h) i m) x.event t
    (subst (λ (k : ℕ). Judged (order_before plan (doing plan h) k m) (order_behind plan (doing plan h) k m) (Cause plan x.before (doing plan h) k m) x.event) same j.2) first) where
      comes : (x.event ≡ event.Trapped t) ⊎ LacksMemory (order_before plan (doing plan h) i m) (Cause plan x.before (doing plan h) i m) x.event
          → (x.event ≡ event.Trapped t) ⊎ ((x.event ≡ event.Trapped trap.EngineMemory) × MayFindNoMemory plan x.before (doing plan h) i m)
      comes (inl c) = inl c
      comes (inr none) = inr (none.is, no_memory plan x.before (doing plan h) i m x.event none)

pub causes_trap : (laws : Laws) (tuple : TupleFirst) (carried : OneCarried) (valid : StaysValid) (told : IsTold) (follow : IsFollowedAlong) → Always TrapsAtACause
causes_trap laws tuple carried valid told follow plan pages [] s y = tt
causes_trap laws tuple carried valid told follow plan pages (x ∷ h) s y = λ m i t is acting first. refused_here laws tuple carried valid told follow plan pages x h s y m i t is acting first
