-- Why memories change as told along each history.
use Rattle.std.proofs.Common.{◌≡◌, ℕ, List, [], ◌∷◌, Option, Some, sym, ap, subst, ◌∙◌}
use Rattle.std.specs.Option.{option_map}
use Rattle.cm_machine_model.specs.declared.event.Event.{Event}
use Rattle.cm_machine_model.specs.declared.moves.Move.{Move}
use Rattle.cm_machine_model.specs.declared.frame.Frame.{Frame}
use Rattle.cm_machine_model.specs.Cases.{case_of}
use Rattle.cm_machine_model.specs.History.{Action, Happens, IsHistoryOf, Occurrence}
use Rattle.cm_machine_model.specs.Plan.{Plan}
use Rattle.cm_machine_model.specs.Stack.{actor, top_of}
use Rattle.cm_machine_model.specs.State.{State}
use Rattle.cm_machine_model.specs.Step.{Step}
use Rattle.cm_machine_model.specs.Valid.{IsValidState}
use Rattle.cm_machine_laws.specs.Acting.{acts}
use Rattle.cm_machine_laws.specs.Always.{Always}
use Rattle.cm_machine_laws.specs.Doing.{Doing, after_move, doing, goes_on}
use Rattle.cm_machine_laws.specs.Matching.{AllMatch, AreTold}
use Rattle.cm_machine_laws.specs.MemoryChanges.{ChangesAsTold, MemoryChangesByMovesAndValues}
use Rattle.cm_machine_laws.specs.Following.{AreFollowed}
use Rattle.cm_machine_laws.proofs.MemoryCases.{memory_case}
use Rattle.cm_machine_laws.proofs.MemoryTurns.{Laws}

abbrev pub StaysValid : Type 0
StaysValid = (plan : Plan) (pages : List ℕ) (h : List Occurrence) (s : State)
    → IsHistoryOf plan pages h s → IsValidState plan s

abbrev pub IsTold : Type 0
IsTold = (plan : Plan) (pages : List ℕ) (h : List Occurrence) (s : State)
    → IsHistoryOf plan pages h s → AreTold plan s (acts h) (doing plan h)

abbrev pub IsFollowedAlong : Type 0
IsFollowedAlong = (plan : Plan) (pages : List ℕ) (h : List Occurrence) (s : State)
    → IsHistoryOf plan pages h s → AreFollowed s (doing plan h)

moved : (laws : Laws) (plan : Plan) (s : State) (m : Move) (e : Event) (new : State)
    (acting : Option ℕ) (ds : List Doing) → IsValidState plan s → AreTold plan s acting ds
    → AreFollowed s ds → Step plan s m e new
    → (i : ℕ) × (acting ≡ Some i) × ChangesAsTold ds (after_move plan acting s m e ds) s i m e new
moved laws plan s m e new acting ds valid told f step =
    let c = case_of plan s m e new step in
    let acts_is : acting ≡ Some (actor c.top) =
    sym told.acts ∙ ap (λ (fs : List Frame). option_map actor (top_of fs)) c.stack in (
      actor c.top,
      acts_is,
      subst (λ (o : Option ℕ). ChangesAsTold ds (after_move plan o s m e ds) s (actor c.top) m e new) (sym acts_is)
          (memory_case laws plan s c.top c.rest ds c.stack valid
          (subst (λ (fs : List Frame). AllMatch plan fs ds) c.stack told.matched) f m e new c.case),
    )

pub memory_changes_by_moves : Laws → StaysValid → IsTold → IsFollowedAlong → Always MemoryChangesByMovesAndValues
memory_changes_by_moves laws valid told follow plan pages [] s y = tt
memory_changes_by_moves laws valid told follow plan pages (x ∷ h) s y = (
  (λ i is.
      ap (λ (n : State). n.memories)
      (subst (λ (a : Action). Happens plan x.before a x.event x.after) is y.history.1).2),
  (λ m is.
      subst (λ (a : Action). (i : ℕ) × (acts h ≡ Some i)
      × ChangesAsTold (doing plan h) (goes_on plan (acts h) x.before a x.event (doing plan h)) x.before i m x.event x.after) (sym is)
      (moved laws plan x.before m x.event x.after (acts h) (doing plan h)
      (valid plan pages h x.before before) (told plan pages h x.before before)
      (follow plan pages h x.before before)
      (subst (λ (a : Action). Happens plan x.before a x.event x.after) is y.history.1).1)),
) where
  before : IsHistoryOf plan pages h x.before
  before = record { linked = y.linked; pages_fit = y.pages_fit; history = y.history.0 }
