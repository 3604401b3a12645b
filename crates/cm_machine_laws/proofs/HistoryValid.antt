-- Why a machine is valid along each history.
use Rattle.std.proofs.Common.{◌≡◌, ℕ, true, false, List, [], ◌∷◌, length, Some, sym, subst}
use Rattle.std.specs.Prelude.{slice_get}
use Rattle.cm_machine_model.specs.declared.event.Event.{Event}
use Rattle.cm_machine_model.specs.declared.event.Misuse.{Misuse}
use Rattle.cm_machine_model.specs.declared.moves.Move.{Move}
use Rattle.cm_machine_model.specs.History.{Action, Happens, IsHistory, IsHistoryOf, Occurrence, WritesBytes, begins, moves}
use Rattle.cm_machine_model.specs.Plan.{Plan}
use Rattle.cm_machine_model.specs.Plans.{IsPlan}
use Rattle.cm_machine_model.specs.Run.{after_begin}
use Rattle.cm_machine_model.specs.State.{State, are_page_counts, fresh_state}
use Rattle.cm_machine_model.specs.Step.{Step}
use Rattle.cm_machine_model.specs.Valid.{IsValidState}
use Rattle.cm_machine_model.proofs.RunLaws.{may_begin}

-- The machine starts valid and stays so.
pub record Keeps : Type 0 where
  pub fresh : (plan : Plan) (pages : List ℕ) → IsPlan plan → are_page_counts (length plan) pages ≡ true → IsValidState plan (fresh_state (length plan) pages)
  pub begun : (plan : Plan) (s : State) (i : ℕ) → IsValidState plan s → s.stack ≡ [] → slice_get s.closed i ≡ Some false → IsValidState plan (after_begin s i)
  pub stays : (plan : Plan) (s : State) (m : Move) (e : Event) (new : State) → IsValidState plan s → WritesBytes m → Step plan s m e new → IsValidState plan new

acted : Keeps → (plan : Plan) (a : Action) (e : Event) (st new : State) → IsValidState plan st → Happens plan st a e new → IsValidState plan new
acted k plan (begins i) e st new valid x =
    let free = may_begin st.stack (slice_get st.closed i) x.0 in
    subst (λ (n : State). IsValidState plan n) (sym x.2) (k.begun plan st i valid free.0 free.1)
acted k plan (moves m) e st new valid x = k.stays plan st m e new valid x.0 x.1

along : Keeps → (plan : Plan) (pages : List ℕ) → IsPlan plan → are_page_counts (length plan) pages ≡ true → (h : List Occurrence) (s : State)
    → IsHistory plan (fresh_state (length plan) pages) h s → IsValidState plan s
along k plan pages linked fit [] s x = subst (λ (n : State). IsValidState plan n) (sym x) (k.fresh plan pages linked fit)
along k plan pages linked fit (x ∷ h) s y =
    subst (λ (n : State). IsValidState plan n) (sym y.2)
    (acted k plan x.action x.event x.before x.after (along k plan pages linked fit h x.before y.0) y.1)

pub history_valid : Keeps → (plan : Plan) (pages : List ℕ) (h : List Occurrence) (s : State) → IsHistoryOf plan pages h s → IsValidState plan s
history_valid k plan pages h s x = along k plan pages x.linked x.pages_fit h s x.history
