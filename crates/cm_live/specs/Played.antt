-- What holds of a set that is played, and of what is kept of it from moves and events.
use Rattle.std.specs.Prelude.{◌≡◌, ℕ, List, [], ◌∷◌, None}
use Rattle.cm_machine_links.specs.Planned.{ArePlanned}
use Rattle.cm_machine.specs.cm_machine_model.History.{IsHistoryOf, Occurrence}
use Rattle.cm_machine.specs.cm_machine_model.Plan.{Plan}
use Rattle.cm_machine.specs.cm_machine_set.Running.{RunningSet}
use Rattle.cm_machine.specs.cm_machine_laws.Doing.{Doing, below, body, destroys, doing, handing}
use Rattle.cm_machine.specs.cm_machine_laws.Doing.{placing, root, tidying}
use Rattle.cm_live.specs.Calls.{calls}
use Rattle.cm_live.specs.Kept.{rooms}
use Rattle.cm_live.specs.Rooms.{AllMayCall, IsAsking}
use Rattle.cm_live.specs.Told.{result_of}
use Rattle.cm_live.specs.declared.goings_on.Call.{Call}
use Rattle.cm_live.specs.declared.goings_on.GoingsOn.{GoingsOn}

-- what goes on above the root, the latest first: who called, and where it wants a result that goes
-- by memory and has not come
abbrev pub calls_of : List Doing → List Call
calls_of [] = []
calls_of (root i ∷ ds) = calls_of ds
calls_of (placing x asked ∷ ds) = record { caller = x.caller; result = result_of x } ∷ calls_of ds
calls_of (body x asked ∷ ds) = record { caller = x.caller; result = result_of x } ∷ calls_of ds
calls_of (handing x asked back more ∷ ds) =
    record { caller = x.caller; result = result_of x } ∷ calls_of ds
calls_of (tidying x asked back more ∷ ds) =
    record { caller = x.caller; result = None } ∷ calls_of ds
calls_of (destroys dropper i ∷ ds) = record { caller = dropper; result = None } ∷ calls_of ds

-- A set has a history, and what is kept is so by it: who called what goes on, and where it wants
-- results; what an allocator is asked for, and the rooms that it answered. What goes on below the
-- latest has called.
pub record IsPlayed (s : RunningSet) (g : GoingsOn) : Type 0 where
  pub plan : Plan
  pub pages : List ℕ
  pub past : List Occurrence
  pub planned : ArePlanned plan s.links
  pub history : IsHistoryOf plan pages past s.state
  pub called : calls g ≡ calls_of (doing plan past)
  pub asks : IsAsking (doing plan past) g.asking (rooms g)
  pub below_calls : AllMayCall (below (doing plan past))
