-- Calls of a host, through the machine.
use Rattle.std.specs.Prelude.{◌≡◌, ◌≢◌, ℕ, ◌==◌, if◌then◌else◌, List, [], ◌∷◌, Option, Some}
use Rattle.std.specs.Prelude.{None}
use Rattle.std.specs.Prelude.{slice_get}
use Rattle.std.specs.Borrow.{Bor}
use Rattle.cm_types.specs.Types.{FuncTy}
use Rattle.cm_types.specs.Values.{Val}
use Rattle.cm_types.specs.declared.core_value.CoreValue.{CoreValue}
use Rattle.cm_types.specs.declared.core_value.CoreValue.TheVariants as core_value
use Rattle.cm_host_values.specs.declared.host_types.HostTypes.{HostTypes}
use Rattle.cm_machine.specs.cm_machine_guests.Sights.{Sight}
use Rattle.cm_machine.specs.cm_machine_model.Memories.{memory_at}
use Rattle.cm_machine.specs.cm_machine_model.Moves.{CallsWith, ReturnsWith}
use Rattle.cm_machine.specs.cm_machine_model.declared.event.Event.{Event}
use Rattle.cm_machine.specs.cm_machine_model.declared.event.Event.TheVariants as event
use Rattle.cm_machine.specs.cm_machine_model.declared.moves.Move.{Move}
use Rattle.cm_machine.specs.cm_machine_set.Running.{RunningSet, begun}
use Rattle.cm_machine.specs.Player.{last_of}
use Rattle.cm_machine.specs.Seeing.{IsSeeingDrive}
use Rattle.cm_host.specs.Passing.{Calls, Gets}
use Rattle.cm_host.specs.Seats.{ArePassedBy, Imports, instance_of}
use Rattle.cm_host.specs.declared.caller.Caller.{Caller}
use Rattle.cm_host.specs.declared.played.Played.{Played}
use Rattle.cm_host.specs.declared.played.Played.TheVariants as played
use Rattle.cm_host.specs.declared.seat.Seat.{Seat}
use Rattle.cm_host.specs.declared.served.Served.{Served}

-- What plays an instance plays as what it is: a host that serves, a guest that makes a call, or
-- another one.
abbrev pub PlaysSeat : {S G : Type 0} → (Served S → List Sight → Type 0)
    → (Caller → List Sight → Type 0) → (G → List Sight → Type 0)
    → Played S G → List Sight → Type 0
PlaysSeat serves calls plays (played.Host served) told = serves served told
PlaysSeat serves calls plays (played.Caller caller) told = calls caller told
PlaysSeat serves calls plays (played.Guest guest) told = plays guest told

-- the moves that a guest that makes a call has before it
abbrev pub moves_of : Caller → List Move
moves_of caller = caller.queue.moves.items

-- A root call of an instance was driven to these events: on its seat was a guest that makes these
-- moves, and on all others who was there before.
pub record WentTo {S G : Type 0} (plays : Played S G → List Sight → Type 0) (root limit : ℕ)
    (moves : List Move) (old : RunningSet) (old_seats : List (Option (Played S G)))
    (told : List Event) (new : RunningSet) (seats : List (Option (Played S G))) : Type 0 where
  pub caller : Caller
  pub moves_are : moves_of caller ≡ moves
  pub seated : List (Option (Played S G))
  pub sits : slice_get seated root ≡ Some (Some (played.Caller caller))
  pub others : (i : ℕ) → i ≢ root → slice_get seated i ≡ slice_get old_seats i
  pub drive : IsSeeingDrive plays root limit (begun old root) seated
      (event.Resume root [] ∷ told) new seats

-- the core values with which an instance went on last
abbrev pub resumed_last : ℕ → List CoreValue → List Event → List CoreValue
resumed_last root kept [] = kept
resumed_last root kept (event.Resume i values ∷ es) =
    resumed_last root (if i == root then values else kept) es
resumed_last root kept (e ∷ es) = resumed_last root kept es

-- such a root call came to this event, the last one, and the root went on last with these values
pub record HasEnded {S G : Type 0} (plays : Played S G → List Sight → Type 0) (root limit : ℕ)
    (moves : List Move) (old : RunningSet) (old_seats : List (Option (Played S G))) (last : Event)
    (new : RunningSet) (seats : List (Option (Played S G))) (resumed : List CoreValue)
    : Type 0 where
  pub told : List Event
  pub went : WentTo plays root limit moves old old_seats told new seats
  pub ends : last ≡ last_of (event.Resume root []) told
  pub goes_on : resumed ≡ resumed_last root [] told

-- the last of these events is this one
abbrev pub EndsWith : List Event → Event → Type 0
EndsWith events last =
    (first : Event) (told : List Event) → events ≡ first ∷ told → last ≡ last_of first told

-- an event of the code, if there is one, is this one
abbrev pub is_now : Option (Bor Event) → Event → Type 0
is_now None e = ⊥
is_now (Some b) e = b.now ≡ e

-- where the results of a call stand: at the place that the host gave, or in the core values with
-- which its instance went on
abbrev pub result_slots : List CoreValue → List CoreValue → List CoreValue
result_slots [] resumed = resumed
result_slots (c ∷ cs) resumed = c ∷ cs

-- A function that the seat's component imports under a name was called with these arguments, and
-- that came to this event, the last one (CanonicalABI.md, "canon lower").
pub record WasCalled {S G : Type 0} (plays : Played S G → List Sight → Type 0) (s : Seat)
    (name : List ℕ) (args : Val) (limit : ℕ) (old : RunningSet)
    (old_seats : List (Option (Played S G))) (last : Event) (new : RunningSet)
    (seats : List (Option (Played S G))) : Type 0 where
  pub core_func : ℕ
  pub ty : FuncTy
  pub imports : Imports s name core_func ty
  pub params : HostTypes
  pub results : HostTypes
  pub passed : ArePassedBy ty params results
  pub place : List CoreValue
  pub moves : List Move
  pub calls : Calls core_func params args place moves
  pub resumed : List CoreValue
  pub ended : HasEnded plays (instance_of s) limit moves old old_seats last new seats resumed

-- Such a call came to its end, and its results are what the host gets of its instance's memory.
pub record WasAnswered {S G : Type 0} (plays : Played S G → List Sight → Type 0) (s : Seat)
    (name : List ℕ) (args : Val) (limit : ℕ) (old : RunningSet)
    (old_seats : List (Option (Played S G))) (new : RunningSet)
    (seats : List (Option (Played S G))) (answer : Val) : Type 0 where
  pub call : WasCalled plays s name args limit old old_seats event.Ended new seats
  pub gets : Gets (memory_at new.state.memories (instance_of s)) call.results
      (result_slots call.place call.resumed) answer

-- a root calls a core function with a number, and returns
pub record Asks (func number : ℕ) (moves : List Move) : Type 0 where
  pub call : Move
  pub back : Move
  pub moves_are : moves ≡ call ∷ back ∷ []
  pub called : CallsWith func (core_value.I32 number ∷ []) call
  pub returned : ReturnsWith [] back

-- what the core function answered, where that is a number
abbrev pub number_answered : List CoreValue → Option ℕ
number_answered (core_value.I32 n ∷ []) = Some n
number_answered values = None

-- A core function of handles was called with a number, and that came to this event, the last one;
-- this is what it answered.
pub record WasAsked {S G : Type 0} (plays : Played S G → List Sight → Type 0) (s : Seat)
    (func number limit : ℕ) (old : RunningSet) (old_seats : List (Option (Played S G)))
    (last : Event) (new : RunningSet) (seats : List (Option (Played S G))) (answer : Option ℕ)
    : Type 0 where
  pub moves : List Move
  pub asks : Asks func number moves
  pub resumed : List CoreValue
  pub ended : HasEnded plays (instance_of s) limit moves old old_seats last new seats resumed
  pub answers : answer ≡ number_answered resumed
