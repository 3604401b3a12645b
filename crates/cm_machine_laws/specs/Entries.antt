-- Values that are passed: the value that was sent is the one that is received, arguments and
-- results (CanonicalABI.md, "Lifting and Lowering Values").
use Rattle.std.specs.Prelude.{◌≡◌, ℕ, ⊤, Bool, true, false, List, [], ◌∷◌, length, Option, Some}
use Rattle.std.specs.Prelude.{None}
use Rattle.cm_types.specs.declared.core_value.CoreValue.{CoreValue}
use Rattle.cm_types.specs.declared.core_value.CoreValue.TheVariants as core_value
use Rattle.cm_types.specs.Values.{Val}
use Rattle.cm_abi_model.specs.Numbers.{slot_at}
use Rattle.cm_abi_model.specs.Receives.{Receives}
use Rattle.cm_abi_model.specs.Stores.{Given}
use Rattle.cm_abi_model.specs.Views.{params, results}
use Rattle.cm_abi_model.specs.Answering.{places_of}
use Rattle.cm_machine_model.specs.declared.event.Event.TheVariants as event
use Rattle.cm_machine_model.specs.declared.moves.Move.TheVariants as move
use Rattle.cm_machine_laws.specs.Acting.{acts}
use Rattle.cm_machine_laws.specs.Doing.{Asked, BodyReturn, Doing, LoweredCall, body, body_return}
use Rattle.cm_machine_laws.specs.Doing.{destroys, doing, handing, tidying}
use Rattle.cm_machine_model.specs.History.{Action, Occurrence, moves}
use Rattle.cm_machine_model.specs.Plan.{Plan, types_of}
use Rattle.cm_machine_model.specs.State.{State, view_of}
use Rattle.cm_machine_laws.specs.Told.{WasReturned, WasSent, answers_back, answers_in, is_by_memory}
use Rattle.cm_machine_laws.specs.Told.{result_place_of, returned_requests, sent_requests}

-- ---- entries

-- This value is received in the callee's view now by these core values, each part at the last
-- answer for it.
pub record ReceivesArgs (new : State) (x : LoweredCall) (asked : List Asked)
    (args : List CoreValue) (v : Val) : Type 0 where
  pub given : Given
  pub received : Receives
      (view_of new x.link.instance x.link.callee.encoding x.place) params (types_of x.link params)
      args given v
  pub placed : given.places ≡ places_of (sent_requests x v) (answers_in asked)
  pub all : length (answers_in asked) ≡ length (sent_requests x v)

-- A body begins: one value was sent at that call and is received now.
abbrev pub Enters : List Doing → ℕ → ℕ → List CoreValue → State → Type 0
Enters (body x asked ∷ ds) i f args new =
    (x.link.instance ≡ i) × (x.link.func ≡ f)
    × ((v : Val) × WasSent x v × ReceivesArgs new x asked args v)
Enters ds i f args new = ⊥

-- Where a body begins, it is the latest call's, with that call's values.
abbrev pub ReceivesWhatWasSent : Plan → List Occurrence → State → Type 0
ReceivesWhatWasSent plan [] s = ⊤
ReceivesWhatWasSent plan (x ∷ h) s = (i f : ℕ) (args : List CoreValue)
    → x.event ≡ event.Enter i f args
    → Enters (doing plan (x ∷ h)) i f args x.after

-- ---- resumptions

-- What the caller gets back: the core values that pass the result, or nothing where it goes by
-- memory, to the place that was given for it.
abbrev pub GivesBack : Bool → ℕ → List CoreValue → List CoreValue → Type 0
GivesBack true place slots values = (slots ≡ core_value.I32 place ∷ []) × (values ≡ [])
GivesBack false place slots values = values ≡ slots

-- This value is received in the caller's view now, each part at the last answer for it.
pub record ReceivesResult (new : State) (x : LoweredCall) (r : BodyReturn) (more : List Asked)
    (values : List CoreValue) (v : Val) : Type 0 where
  pub given : Given
  pub slots : List CoreValue
  pub received : Receives
      (view_of new x.caller x.link.caller.encoding x.place) results (types_of x.link results)
      slots given v
  pub placed : given.places ≡ places_of (returned_requests x r v) (answers_back x more)
  pub all : length (answers_back x more) ≡ length (returned_requests x r v)
  pub back : GivesBack (is_by_memory x) (result_place_of x) slots values

-- This instance called, the callee's body returned so, and one value was returned and is received
-- now.
abbrev pub TakesResult : LoweredCall → BodyReturn → List Asked → ℕ → List CoreValue → State → Type 0
TakesResult x r more i values new =
    (x.caller ≡ i) × (r.callee ≡ x.link.instance)
    × ((v : Val) × WasReturned x r v × ReceivesResult new x r more values v)

-- the latest request is answered by a return, if one is open
abbrev pub answered_by : List CoreValue → List Asked → List Asked
answered_by values [] = []
answered_by values (a ∷ earlier) =
    record { request = a.request; answer = Some (slot_at values 0) } ∷ earlier

-- What went on ends by this return, and resumes this instance: a body's by the return itself, a
-- result that was placed or tidied up by the return of the body; a destructor resumes who dropped.
abbrev pub Resumes : List Doing → BodyReturn → ℕ → List CoreValue → State → Type 0
Resumes (body x asked ∷ ds) r i values new = TakesResult x r [] i values new
Resumes (handing x asked back more ∷ ds) r i values new =
    TakesResult x back (answered_by r.values more) i values new
Resumes (tidying x asked back more ∷ ds) r i values new = TakesResult x back more i values new
Resumes (destroys dropper j ∷ ds) r i values new = (dropper ≡ i) × (values ≡ [])
Resumes ds r i values new = ⊥

-- the return that this action is, if it is one
abbrev pub return_by : State → Option ℕ → Action → Option BodyReturn
return_by s acting (moves (move.Return values)) = body_return s acting values.items
return_by s acting a = None

-- Where a return resumes an instance, what went on latest ends, and hands its result over.
abbrev pub ResumesWithWhatWasReturned : Plan → List Occurrence → State → Type 0
ResumesWithWhatWasReturned plan [] s = ⊤
ResumesWithWhatWasReturned plan (x ∷ h) s = (r : BodyReturn) (i : ℕ) (values : List CoreValue)
    → return_by x.before (acts h) x.action ≡ Some r → x.event ≡ event.Resume i values
    → Resumes (doing plan h) r i values x.after

-- The callee tidies up with the core values that its body returned.
abbrev pub Tidies : List Doing → List CoreValue → Type 0
Tidies (tidying x asked back more ∷ ds) args = args ≡ back.values
Tidies ds args = ⊥

-- In each history a callee tidies up so.
abbrev pub PostReturnGetsTheFlatResult : Plan → List Occurrence → State → Type 0
PostReturnGetsTheFlatResult plan [] s = ⊤
PostReturnGetsTheFlatResult plan (x ∷ h) s = (i f : ℕ) (args : List CoreValue)
    → x.event ≡ event.PostReturn i f args → Tidies (doing plan (x ∷ h)) args
