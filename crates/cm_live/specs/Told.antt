-- What adapters wrote by a move, told by moves and events: the rooms that the receiver's allocator
-- answered for the value that was handed over, and the place that a caller gave for its result
-- (CanonicalABI.md, "canon lift" and "canon lower"; what is told is this project's own choice).
use Rattle.std.specs.Prelude.{◌≡◌, ℕ, if◌then◌else◌, List, [], ◌∷◌, Option, Some, None, reverse}
use Rattle.cm_types.specs.declared.core_value.CoreValue.{CoreValue}
use Rattle.cm_layout.specs.Sizes.{size_of}
use Rattle.cm_abi_model.specs.declared.region.Region.{Region}
use Rattle.cm_abi_model.specs.Requests.{tuple_of}
use Rattle.cm_abi_model.specs.Views.{results}
use Rattle.cm_machine_links.specs.Planned.{ArePlanned}
use Rattle.cm_machine.specs.cm_machine_model.declared.event.Event.{Event}
use Rattle.cm_machine.specs.cm_machine_model.declared.event.Event.TheVariants as event
use Rattle.cm_machine.specs.cm_machine_model.declared.moves.Move.{Move}
use Rattle.cm_machine.specs.cm_machine_model.declared.moves.Move.TheVariants as move
use Rattle.cm_machine.specs.cm_machine_model.History.{IsHistoryOf, Occurrence, moves}
use Rattle.cm_machine.specs.cm_machine_model.Plan.{Plan, types_of}
use Rattle.cm_machine.specs.cm_machine_model.State.{State}
use Rattle.cm_machine.specs.cm_machine_set.Running.{RunningSet}
use Rattle.cm_machine.specs.cm_machine_laws.Doing.{Doing, LoweredCall, body, doing, handing}
use Rattle.cm_machine.specs.cm_machine_laws.Doing.{with_answer}
use Rattle.cm_machine.specs.cm_machine_laws.Told.{is_by_memory, result_place_of}
use Rattle.cm_live.specs.Rooms.{rooms_of, with_place}
use Rattle.cm_live.specs.declared.answer.Written.{Written}

-- where a call wants its result, if that goes by memory
abbrev pub result_of : LoweredCall → Option Region
result_of x =
    if is_by_memory x
    then Some (record {
      at = result_place_of x;
      size = size_of (tuple_of (types_of x.link results));
    })
    else None

-- the rooms of the arguments of the body that goes on
abbrev pub entered : List Doing → List Region
entered (body x asked ∷ ds) = rooms_of asked
entered ds = []

-- the rooms of the result that is handed over by a return of these core values, and its place
abbrev pub handed : List CoreValue → List Doing → List Region
handed values (body x asked ∷ ds) = with_place (result_of x) []
handed values (handing x asked back more ∷ ds) =
    with_place (result_of x) (rooms_of (with_answer values more))
handed values ds = []

-- what is told of a move with this event, where this went on before and goes on after, the latest
-- first
abbrev pub told_by : Move → Event → List Doing → List Doing → List Region
told_by (move.Call func args) (event.Enter i f values) ds es = entered es
told_by (move.Return values) (event.Enter i f args) ds es = entered es
told_by (move.Return values) (event.PostReturn i f args) ds es = handed values.items ds
told_by (move.Return values) (event.Resume i back) ds es = handed values.items ds
told_by m e ds es = []

-- The regions that a move tells are those, by a history that leads to the set: no more and no
-- fewer.
pub record TellsExactly (old : RunningSet) (m : Move) (e : Event) (told : Written) (new : State)
    : Type 0 where
  pub plan : Plan
  pub pages : List ℕ
  pub past : List Occurrence
  pub planned : ArePlanned plan old.links
  pub history : IsHistoryOf plan pages past old.state
  pub exactly : reverse told.regions.items
      ≡ told_by m e (doing plan past)
      (doing plan
      (record { before = old.state; action = moves m; event = e; after = new } ∷ past))
