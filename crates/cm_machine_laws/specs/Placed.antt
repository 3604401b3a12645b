-- Where each resource is, while values are on their way (CanonicalABI.md, "Resource State"; what a
-- trap leaves is this project's own choice).
use Rattle.std.specs.Prelude.{◌≡◌, ℕ, ◌≤◌, List, [], ◌∷◌, length}
use Rattle.cm_types.specs.Values.{Val}
use Rattle.cm_machine_model.specs.declared.frame.Place.TheVariants as place
use Rattle.cm_machine_laws.specs.Doing.{Doing, doing, handing, placing}
use Rattle.cm_machine_model.specs.History.{Occurrence}
use Rattle.cm_machine_model.specs.Owning.{IsAt, OnePlace, serials, travelling}
use Rattle.cm_abi_model.specs.HandleLeaves.{owned_in}
use Rattle.cm_machine_model.specs.Plan.{Plan}
use Rattle.cm_machine_model.specs.State.{State}
use Rattle.cm_machine_laws.specs.Told.{WasReturned, WasSent, returned_leaves, sent_leaves}

-- the resources that are on their way: those that the value owns that is being placed
abbrev pub TravelsAsTold : List Doing → State → Type 0
TravelsAsTold (placing x asked ∷ ds) s =
    (v : Val) × WasSent x v × (travelling s.passage ≡ serials (owned_in (sent_leaves x v)))
TravelsAsTold (handing x asked r more ∷ ds) s =
    (v : Val) × WasReturned x r v
    × (travelling s.passage ≡ serials (owned_in (returned_leaves x v)))
TravelsAsTold ds s = travelling s.passage ≡ []

-- Each resource that was made has exactly one place; on their way are those of the value that is
-- being placed.
pub record EachResourceHasOnePlace (plan : Plan) (h : List Occurrence) (s : State) : Type 0 where
  pub one_place : OnePlace s
  pub on_their_way : TravelsAsTold (doing plan h) s

-- What was dropped or lost stays so, no serial number is issued twice, and none goes away.
pub record StaysGone (old new : State) : Type 0 where
  pub dropped : (n : ℕ) → IsAt old n place.Dropped → IsAt new n place.Dropped
  pub abandoned : (n : ℕ) → IsAt old n place.Abandoned → IsAt new n place.Abandoned
  pub issued : length old.owners ≤ length new.owners

-- In each history what is gone stays gone.
abbrev pub KeepsGone : Plan → List Occurrence → State → Type 0
KeepsGone plan [] s = s.owners ≡ []
KeepsGone plan (x ∷ h) s = StaysGone x.before x.after
