-- Why frames are what goes on, and who acts is told, along each history.
use Rattle.std.proofs.Common.{ℕ, List, [], ◌∷◌, length, Option, None, refl, sym, subst}
use Rattle.std.specs.Prelude.{slice_get}
use Rattle.std.specs.Option.{option_map}
use Rattle.cm_machine_model.specs.declared.event.Event.{Event}
use Rattle.cm_machine_model.specs.declared.event.Event.TheVariants as event
use Rattle.cm_machine_model.specs.History.{Action, Happens, IsHistory, IsHistoryOf, Occurrence, begins, moves}
use Rattle.cm_machine_model.specs.Plan.{Plan}
use Rattle.cm_machine_model.specs.Run.{after_begin}
use Rattle.cm_machine_model.specs.State.{State, fresh_state}
use Rattle.cm_machine_model.specs.Valid.{IsValidState}
use Rattle.cm_machine_laws.specs.Acting.{acts, acts_after}
use Rattle.cm_machine_laws.specs.Doing.{Doing, doing, goes_on, root}
use Rattle.cm_machine_laws.specs.Matching.{AreTold, StepsTell}
use Rattle.cm_machine_model.proofs.HistoryLaws.{earlier}

-- The machine is valid along each history.
abbrev pub StaysValid : Type 0
StaysValid = (plan : Plan) (pages : List ℕ) (h : List Occurrence) (s : State) → IsHistoryOf plan pages h s → IsValidState plan s

acted : StepsTell → (plan : Plan) (a : Action) (e : Event) (st new : State) (acting : Option ℕ) (ds : List Doing) → IsValidState plan st → AreTold plan st acting ds → Happens plan st a e new
    → AreTold plan new (acts_after e acting) (goes_on plan acting st a e ds)
acted tell plan (begins i) e st new acting ds valid told x =
    subst (λ (n : State). AreTold plan n (acts_after e acting) (root i ∷ [])) (sym x.2)
    (subst (λ (f : Event). AreTold plan (after_begin st i) (acts_after f acting) (root i ∷ [])) (sym x.1) (record { matched = (refl, tt); acts = refl }))
acted tell plan (moves m) e st new acting ds valid told x = tell plan st m e new acting ds valid told x.1

pub told_along : StepsTell → StaysValid → (plan : Plan) (pages : List ℕ) (h : List Occurrence) (s : State) → IsHistoryOf plan pages h s → AreTold plan s (acts h) (doing plan h)
told_along tell valid plan pages [] s y =
    subst (λ (n : State). AreTold plan n None []) (sym y.history) (record { matched = tt; acts = refl })
told_along tell valid plan pages (x ∷ h) s y =
    subst (λ (n : State). AreTold plan n (acts (x ∷ h)) (doing plan (x ∷ h))) (sym y.history.2)
    (acted tell plan x.action x.event x.before x.after (acts h) (doing plan h) (valid plan pages h x.before (earlier plan pages x h s y))
    (told_along tell valid plan pages h x.before (earlier plan pages x h s y)) y.history.1)
