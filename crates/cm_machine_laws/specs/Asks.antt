-- What allocators are asked for (CanonicalABI.md, `realloc`).
use Rattle.std.specs.Prelude.{◌≡◌, ⊤, List, [], ◌∷◌, length}
use Rattle.cm_types.specs.Values.{Val}
use Rattle.cm_machine_laws.specs.Doing.{Doing, body, destroys, doing, handing, placing, root}
use Rattle.cm_machine_laws.specs.Doing.{tidying}
use Rattle.cm_machine_model.specs.History.{Occurrence}
use Rattle.cm_machine_model.specs.Plan.{Plan}
use Rattle.cm_machine_model.specs.State.{State}
use Rattle.cm_machine_laws.specs.Told.{AsksFor, WasReturned, WasSent, answered_before, answers_back}
use Rattle.cm_machine_laws.specs.Told.{returned_requests, sent_requests}

-- What allocators were asked is a beginning of what the value asks for; once a body runs, or a
-- result is tidied up, it is all of it.
abbrev pub AsksAt : List Doing → Type 0
AsksAt [] = ⊤
AsksAt (root i ∷ ds) = AsksAt ds
AsksAt (placing x asked ∷ ds) =
    ((v : Val) × WasSent x v × AsksFor (sent_requests x v) [] asked) × AsksAt ds
AsksAt (body x asked ∷ ds) =
    ((v : Val) × WasSent x v × AsksFor (sent_requests x v) [] asked
    × (length asked ≡ length (sent_requests x v))) × AsksAt ds
AsksAt (handing x asked r more ∷ ds) =
    ((v : Val) × WasReturned x r v × AsksFor (returned_requests x r v) (answered_before x) more)
    × AsksAt ds
AsksAt (tidying x asked r more ∷ ds) =
    ((v : Val) × WasReturned x r v × AsksFor (returned_requests x r v) (answered_before x) more
    × (length (answers_back x more) ≡ length (returned_requests x r v))) × AsksAt ds
AsksAt (destroys dropper i ∷ ds) = AsksAt ds

-- In each history allocators were asked so.
abbrev pub AsksForWhatTheValueWants : Plan → List Occurrence → State → Type 0
AsksForWhatTheValueWants plan h s = AsksAt (doing plan h)
