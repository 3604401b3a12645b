-- A run goes on by one step.
use Rattle.std.proofs.Common.{◌≡◌, ℕ, suc, ◌+◌, ◌<◌, ◌≤◌, true, false, List, [], ◌∷◌, ◌++◌, length, drop, get_or, refl, sym, ap, subst, ◌∙◌, append_assoc, add-one}
use Rattle.std.proofs.Math.Seq.{drop-cons}
use Rattle.std.proofs.lemmas.List.{append-nil, drop_all}
use Rattle.cm_machine_model.specs.declared.event.Event.{Event}
use Rattle.cm_machine_model.specs.declared.moves.Move.{Move}
use Rattle.cm_machine_model.specs.Plan.{Plan}
use Rattle.cm_machine_model.specs.Events.{is_last}
use Rattle.cm_machine_model.specs.Run.{Run}
use Rattle.cm_machine_model.specs.State.{State}
use Rattle.cm_machine_model.specs.Step.{Step}

-- the moves from a place on: the one there, and those after it
from_place : (ms : List Move) (i : ℕ) (m : Move) → i < length ms → m ≡ get_or ms i m → drop i ms ≡ m ∷ drop (i + 1) ms
from_place ms i m lt is = rw add-one (drop-cons ms i m lt ∙ ap (λ (x : Move). x ∷ drop (suc i) ms) (sym is))

module _ (plan : Plan) (start : State) (all : List Move) (s : State) (ms : List Move) (i : ℕ) (told : List Event)
    (rest : (es : List Event) (new : State) → Run plan s (drop i ms) es new → Run plan start all (told ++ es) new)
    (m : Move) (lt : i < length ms) (is : m ≡ get_or ms i m) (e : Event) (mid : State) (step : Step plan s m e mid) where
  pub stopped : (list : List Event) → list ≡ told ++ e ∷ [] → is_last e ≡ true → Run plan start all list mid
  stopped list same last =
      let run : Run plan s (m ∷ drop (i + 1) ms) (e ∷ []) mid = (mid, step, (λ more. absurd (cc (last, more))), (λ _. (refl, refl))) in
      rw same (rest (e ∷ []) mid (subst (λ (x : List Move). Run plan s x (e ∷ []) mid) (sym (from_place ms i m lt is)) run))

  pub went_on : (list : List Event) → list ≡ told ++ e ∷ [] → is_last e ≡ false → (es : List Event) (new : State) → Run plan mid (drop (i + 1) ms) es new → Run plan start all (list ++ es) new
  went_on list same more es new run =
      let longer : Run plan s (m ∷ drop (i + 1) ms) (e ∷ es) new = (mid, step, (λ _. run), (λ last. absurd (cc (last, more)))) in
      let regrouped : list ++ es ≡ told ++ (e ∷ es) = ap (λ (x : List Event). x ++ es) same ∙ append_assoc told (e ∷ []) es in
      rw regrouped (rest (e ∷ es) new (subst (λ (x : List Move). Run plan s x (e ∷ es) new) (sym (from_place ms i m lt is)) longer))

pub ended : (plan : Plan) (start : State) (all : List Move) (s : State) (ms : List Move) (i : ℕ) (told : List Event) → ((es : List Event) (new : State) → Run plan s (drop i ms) es new → Run plan start all (told ++ es) new) → length ms ≤ i → Run plan start all told s
ended plan start all s ms i told rest over =
    let none : drop i ms ≡ [] = drop_all i ms over in
    let run : Run plan s (drop i ms) [] s = subst (λ (x : List Move). Run plan s x [] s) (sym none) refl in
    subst (λ (x : List Event). Run plan start all x s) (append-nil told) (rest [] s run)
