-- A set that is played, and what adapters wrote before its latest event.
use Rattle.std.specs.Prelude.{◌≡◌, ℕ, List, []}
use Rattle.cm_abi_model.specs.declared.region.Region.{Region}
use Rattle.cm_live.specs.Mirrors.{Tells}
use Rattle.cm_live.specs.declared.answer.Written.{Written}
use Rattle.cm_machine_model.specs.declared.event.Event.{Event}
use Rattle.cm_machine_model.specs.declared.moves.Move.{Move}
use Rattle.cm_machine_set.specs.Running.{IsNew, RunningSet, begun}
use Rattle.cm_match_model.specs.Imports.{LinkSet}

-- a set that is played; and of which instance's memory regions were written before the latest event
pub record PlayedSet : Type 0 where
  pub set : RunningSet
  pub instance : ℕ
  pub regions : List Region

-- a new set, before any event
pub record IsNewPlayed (linked : LinkSet) (pages : List ℕ) (s : PlayedSet) : Type 0 where
  pub new : IsNew linked pages s.set
  pub nothing : s.regions ≡ []

-- the set in which a root call of an instance has begun: nothing was written
abbrev pub begun_anew : PlayedSet → ℕ → PlayedSet
begun_anew s instance =
    record { set = begun s.set instance; instance = instance; regions = [] }

-- By a move with this event adapters wrote the regions that the new set has: beside the memory of
-- the instance that moved, those and no others (`cm_live`, "Told").
pub record IsWritten (old : PlayedSet) (m : Move) (e : Event) (new : PlayedSet) : Type 0 where
  pub written : Written
  pub instance_is : new.instance ≡ written.instance
  pub regions_are : new.regions ≡ written.regions.items
  pub tells : Tells old.set m written e new.set
