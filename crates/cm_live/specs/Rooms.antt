-- Rooms that allocators answered for a value, as they are told (CanonicalABI.md, `realloc`).
use Rattle.std.specs.Prelude.{◌≡◌, ℕ, ⊤, List, [], ◌∷◌, Option, Some, None, if◌then◌else◌}
use Rattle.std.specs.Prelude.{nat_lt, slice_get, unwrap_or}
use Rattle.cm_types.specs.declared.core_value.CoreValue.{CoreValue}
use Rattle.cm_abi_model.specs.declared.region.Region.{Region}
use Rattle.cm_machine.specs.cm_machine_model.declared.event.Event.{Event}
use Rattle.cm_machine.specs.cm_machine_model.declared.event.Event.TheVariants as event
use Rattle.cm_machine.specs.cm_machine_model.declared.moves.Move.{Move}
use Rattle.cm_machine.specs.cm_machine_model.declared.moves.Move.TheVariants as move
use Rattle.cm_machine.specs.cm_machine_laws.Causes.{MayCall}
use Rattle.cm_machine.specs.cm_machine_laws.Doing.{Asked, Doing, handing, placing}
use Rattle.cm_live.specs.Calls.{number_of}
use Rattle.cm_live.specs.declared.goings_on.Asking.{Asking}
use Rattle.cm_live.specs.declared.goings_on.Call.{Call}

-- ---- what is asked and answered

-- what an allocator is asked for by these core values
abbrev pub asking_by : List CoreValue → Asking
asking_by request = record {
  size = number_of (slice_get request 3);
  hands_back = nat_lt 0 (number_of (slice_get request 1));
}

-- all rooms but the latest
abbrev pub older : List Region → List Region
older [] = []
older (room ∷ rooms) = rooms

-- a room more, in place of the latest where that is handed back
abbrev pub with_room : Asking → ℕ → List Region → List Region
with_room a at rooms =
    record { at = at; size = a.size } ∷ (if a.hands_back then older rooms else rooms)

-- the rooms once these core values were answered, if an allocator was asked
abbrev pub rooms_answered : Option Asking → List CoreValue → List Region → List Region
rooms_answered None values rooms = rooms
rooms_answered (Some a) values rooms = with_room a (number_of (slice_get values 0)) rooms

-- ---- by the events

-- the rooms that were answered and not handed back, the latest first
abbrev pub rooms_of : List Asked → List Region
rooms_of [] = []
rooms_of (a ∷ earlier) = with_room (asking_by a.request) (unwrap_or a.answer 0) (rooms_of earlier)

-- where an allocator was asked for this last, it has not answered
abbrev pub AreAsked : List Asked → Option Asking → List Region → Type 0
AreAsked [] asking rooms = (asking ≡ None) × (rooms ≡ [])
AreAsked (a ∷ earlier) asking rooms =
    (asking ≡ Some (asking_by a.request)) × (rooms ≡ rooms_of earlier)

-- what is asked and what rooms there are, where this goes on
abbrev pub IsAsking : List Doing → Option Asking → List Region → Type 0
IsAsking (placing x asked ∷ ds) asking rooms = AreAsked asked asking rooms
IsAsking (handing x asked back more ∷ ds) asking rooms = AreAsked more asking rooms
IsAsking ds asking rooms = (asking ≡ None) × (rooms ≡ [])

-- ---- after a move

-- what is asked after a call or a return with this event, where this was before
abbrev pub asking_by_event : Event → Option Asking → Option Asking
asking_by_event (event.Realloc i f request) asking = Some (asking_by request)
asking_by_event e asking = asking

-- what is asked after a move with this event
abbrev pub asking_after_move : Move → Event → Option Asking → Option Asking
asking_after_move (move.Call func args) e asking = asking_by_event e asking
asking_after_move (move.Return values) e asking = asking_by_event e None
asking_after_move m e asking = asking

-- the rooms that are left after a return with this event, which tells them where a value is handed
-- over
abbrev pub rooms_left : Event → List Region → List Region
rooms_left (event.Enter i f args) rooms = []
rooms_left (event.PostReturn i f args) rooms = []
rooms_left (event.Resume i values) rooms = []
rooms_left e rooms = rooms

-- the rooms after a move with this event
abbrev pub rooms_after_move : Move → Event → Option Asking → List Region → List Region
rooms_after_move (move.Return values) e asking rooms =
    rooms_left e (rooms_answered asking values.items rooms)
rooms_after_move m e asking rooms = rooms

-- ---- what is told

-- behind all rooms the place of a result, where it has one
abbrev pub with_place : Option Region → List Region → List Region
with_place None rooms = rooms
with_place (Some place) rooms = place ∷ rooms

-- where the latest call wants its result
abbrev pub latest_place : List Call → Option Region
latest_place [] = None
latest_place (c ∷ cs) = c.result

-- what a return with this event tells, the latest first: the rooms of the arguments where a body is
-- entered; those of a result, and its place, where it is handed over
abbrev pub told_by_return : Event → List Region → List Call → List Region
told_by_return (event.Enter i f args) rooms cs = rooms
told_by_return (event.PostReturn i f args) rooms cs = with_place (latest_place cs) rooms
told_by_return (event.Resume i values) rooms cs = with_place (latest_place cs) rooms
told_by_return e rooms cs = []

-- what a move with this event tells
abbrev pub rooms_told : Move → Event → Option Asking → List Region → List Call → List Region
rooms_told (move.Return values) e asking rooms cs =
    told_by_return e (rooms_answered asking values.items rooms) cs
rooms_told m e asking rooms cs = []

-- all of this may call: what goes on below the latest has called
abbrev pub AllMayCall : List Doing → Type 0
AllMayCall [] = ⊤
AllMayCall (d ∷ ds) = MayCall (d ∷ []) × AllMayCall ds
