-- What holds of each history of each set that can be linked (this project's own choice).
use Rattle.std.specs.Prelude.{ℕ, List}
use Rattle.cm_machine_model.specs.History.{IsHistoryOf, Occurrence}
use Rattle.cm_machine_model.specs.Plan.{Plan}
use Rattle.cm_machine_model.specs.State.{State}

-- This holds of each history of each set that can be linked, from `Set::new` on.
abbrev pub Always : (Plan → List Occurrence → State → Type 0) → Type 0
Always P = (plan : Plan) (pages : List ℕ) (h : List Occurrence) (s : State)
    → IsHistoryOf plan pages h s → P plan h s
