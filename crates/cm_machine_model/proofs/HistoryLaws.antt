-- Laws of what History defines, for this crate and those above it.
use Rattle.std.proofs.Common.{List, ℕ, ◌∷◌}
use Rattle.cm_machine_model.specs.History.{Occurrence, IsHistoryOf}
use Rattle.cm_machine_model.specs.Plan.{Plan}
use Rattle.cm_machine_model.specs.State.{State}

-- the history without its latest occurrence
pub earlier : (plan : Plan) (pages : List ℕ) (x : Occurrence) (h : List Occurrence) (s : State) → IsHistoryOf plan pages (x ∷ h) s → IsHistoryOf plan pages h x.before
earlier plan pages x h s y = record { linked = y.linked; pages_fit = y.pages_fit; history = y.history.0 }
