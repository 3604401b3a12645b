-- What goes on in a set, told by the moves and the events alone: nothing here reads the machine's
-- stack (CanonicalABI.md, "canon lift" and "canon lower").
use Rattle.std.specs.Prelude.{ℕ, if◌then◌else◌, List, [], ◌∷◌, length, Option, Some, None}
use Rattle.cm_types.specs.declared.core_value.CoreValue.{CoreValue}
use Rattle.cm_types.specs.declared.core_value.CoreValue.TheVariants as core_value
use Rattle.cm_machine_model.specs.Plan.{Plan, CoreFunc, Link, lowered, core_func_at}
use Rattle.cm_machine_model.specs.declared.event.Event.{Event}
use Rattle.cm_machine_model.specs.declared.event.Event.TheVariants as event
use Rattle.cm_machine_model.specs.declared.moves.Move.{Move}
use Rattle.cm_machine_model.specs.declared.moves.Move.TheVariants as move
use Rattle.cm_machine_model.specs.Events.{is_last}
use Rattle.cm_machine_model.specs.State.{State}
use Rattle.cm_machine_model.specs.History.{Action, begins, moves, Occurrence}
use Rattle.cm_machine_laws.specs.Acting.{acts}

-- a call of a lowered function: by whom, of what, with which core values, the state in which it was
-- made, and how much went on then, which is the number of the call
pub record LoweredCall : Type 0 where
  pub caller : ℕ
  pub link : Link
  pub args : List CoreValue
  pub state : State
  pub place : ℕ

-- a return of a function's body: by whom, with which core values, and the state in which it was
-- made
pub record BodyReturn : Type 0 where
  pub callee : ℕ
  pub values : List CoreValue
  pub state : State

-- what an allocator was asked for, and where it made room, once it answered
pub record Asked : Type 0 where
  pub request : List CoreValue
  pub answer : Option ℕ

-- A root call of an instance; a call whose arguments are being placed, whose body runs, whose
-- result is being placed, or whose callee tidies up, each with what allocators were asked for, the
-- latest first; or a destructor: who dropped, and in which instance it runs.
pub data Doing : Type 0 where
  root : ℕ → Doing
  placing : LoweredCall → List Asked → Doing
  body : LoweredCall → List Asked → Doing
  handing : LoweredCall → List Asked → BodyReturn → List Asked → Doing
  tidying : LoweredCall → List Asked → BodyReturn → List Asked → Doing
  destroys : ℕ → ℕ → Doing

-- the instance in which it goes on
abbrev pub instance_of : Doing → ℕ
instance_of (root i) = i
instance_of (placing x asked) = x.link.instance
instance_of (body x asked) = x.link.instance
instance_of (handing x asked back more) = x.link.instance
instance_of (tidying x asked back more) = x.link.instance
instance_of (destroys dropper i) = i

-- what goes on below the latest
abbrev pub below : List Doing → List Doing
below [] = []
below (d ∷ ds) = ds

-- ---- a call

-- the function that this instance has at an index
abbrev pub core_func_by_index : Plan → Option ℕ → ℕ → Option CoreFunc
core_func_by_index plan None func = None
core_func_by_index plan (Some i) func = core_func_at plan i func

-- the call that this instance makes of a core function, if it is a lowered one
abbrev pub lowered_call : State → Option ℕ → List CoreValue → Option CoreFunc → ℕ
    → Option LoweredCall
lowered_call s None args f place = None
lowered_call s (Some i) args (Some (lowered l)) place =
    Some (record { caller = i; link = l; args = args; state = s; place = place })
lowered_call s (Some i) args f place = None

-- a call whose body runs goes on too
abbrev pub with_body : Option LoweredCall → List Doing → List Doing
with_body None ds = ds
with_body (Some x) ds = body x [] ∷ ds

-- a call whose arguments are being placed goes on too, with this first request
abbrev pub with_placing : Option LoweredCall → List CoreValue → List Doing → List Doing
with_placing None request ds = ds
with_placing (Some x) request ds =
    placing x (record { request = request; answer = None } ∷ []) ∷ ds

-- a destructor that this instance's drop calls goes on too
abbrev pub with_destructor : Option ℕ → ℕ → List Doing → List Doing
with_destructor None i ds = ds
with_destructor (Some dropper) i ds = destroys dropper i ∷ ds

-- what goes on after a call, by its event
abbrev pub after_call : Option LoweredCall → Option ℕ → Event → List Doing → List Doing
after_call x acting event.Done ds = ds
after_call x acting (event.Grown pages) ds = ds
after_call x acting (event.Enter i func args) ds = with_body x ds
after_call x acting (event.Realloc i func args) ds = with_placing x args ds
after_call x acting (event.Resume i values) ds = ds
after_call x acting (event.PostReturn i func args) ds = ds
after_call x acting (event.Dtor i func rep) ds = with_destructor acting i ds
after_call x acting (event.Trapped t) ds = []
after_call x acting event.Ended ds = []

-- ---- a return

-- the return that this instance makes
abbrev pub body_return : State → Option ℕ → List CoreValue → Option BodyReturn
body_return s None values = None
body_return s (Some i) values = Some (record { callee = i; values = values; state = s })

-- where an allocator made room, by the core values that it returned
abbrev pub answer_of : List CoreValue → Option ℕ
answer_of [] = None
answer_of (core_value.I32 at ∷ cs) = Some at
answer_of (core_value.I64 n ∷ cs) = None

-- the latest request is answered by these core values
abbrev pub with_answer : List CoreValue → List Asked → List Asked
with_answer values [] = []
with_answer values (a ∷ earlier) =
    record { request = a.request; answer = answer_of values } ∷ earlier

-- the latest request is answered, and one more is made
abbrev pub with_request : List CoreValue → List CoreValue → List Asked → List Asked
with_request values request asked =
    record { request = request; answer = None } ∷ with_answer values asked

-- a body that returned hands its result over, with this first request
abbrev pub hands_over : Option BodyReturn → List CoreValue → LoweredCall → List Asked
    → List Doing → List Doing
hands_over None request x asked ds = body x asked ∷ ds
hands_over (Some back) request x asked ds =
    handing x asked back (record { request = request; answer = None } ∷ []) ∷ ds

-- a body that returned is tidied up
abbrev pub tidies_body : Option BodyReturn → LoweredCall → List Asked → List Doing → List Doing
tidies_body None x asked ds = body x asked ∷ ds
tidies_body (Some back) x asked ds = tidying x asked back [] ∷ ds

-- what goes on after a return that is answered by a request
abbrev pub after_request : Option BodyReturn → List CoreValue → List CoreValue → List Doing
    → List Doing
after_request back values request [] = []
after_request back values request (root i ∷ ds) = root i ∷ ds
after_request back values request (placing x asked ∷ ds) =
    placing x (with_request values request asked) ∷ ds
after_request back values request (body x asked ∷ ds) = hands_over back request x asked ds
after_request back values request (handing x asked r more ∷ ds) =
    handing x asked r (with_request values request more) ∷ ds
after_request back values request (tidying x asked r more ∷ ds) = tidying x asked r more ∷ ds
after_request back values request (destroys dropper i ∷ ds) = destroys dropper i ∷ ds

-- what goes on after a return that is answered by the entry of a body
abbrev pub after_entry : List CoreValue → List Doing → List Doing
after_entry values [] = []
after_entry values (root i ∷ ds) = root i ∷ ds
after_entry values (placing x asked ∷ ds) = body x (with_answer values asked) ∷ ds
after_entry values (body x asked ∷ ds) = body x asked ∷ ds
after_entry values (handing x asked r more ∷ ds) = handing x asked r more ∷ ds
after_entry values (tidying x asked r more ∷ ds) = tidying x asked r more ∷ ds
after_entry values (destroys dropper i ∷ ds) = destroys dropper i ∷ ds

-- what goes on after a return that is answered by the entry of a function that tidies up
abbrev pub after_post_return : Option BodyReturn → List CoreValue → List Doing → List Doing
after_post_return back values [] = []
after_post_return back values (root i ∷ ds) = root i ∷ ds
after_post_return back values (placing x asked ∷ ds) = placing x asked ∷ ds
after_post_return back values (body x asked ∷ ds) = tidies_body back x asked ds
after_post_return back values (handing x asked r more ∷ ds) =
    tidying x asked r (with_answer values more) ∷ ds
after_post_return back values (tidying x asked r more ∷ ds) = tidying x asked r more ∷ ds
after_post_return back values (destroys dropper i ∷ ds) = destroys dropper i ∷ ds

-- what goes on after a return, by its event
abbrev pub after_return : Option BodyReturn → List CoreValue → Event → List Doing → List Doing
after_return back values event.Done ds = ds
after_return back values (event.Grown pages) ds = ds
after_return back values (event.Enter i func args) ds = after_entry values ds
after_return back values (event.Realloc i func args) ds = after_request back values args ds
after_return back values (event.Resume i given) ds = below ds
after_return back values (event.PostReturn i func args) ds = after_post_return back values ds
after_return back values (event.Dtor i func rep) ds = ds
after_return back values (event.Trapped t) ds = []
after_return back values event.Ended ds = below ds

-- ---- a history

-- the same goes on, unless this event is the last
abbrev pub unless_last : Event → List Doing → List Doing
unless_last e ds = if is_last e then [] else ds

-- what goes on after a move that this instance made in this state, by the move's event
abbrev pub after_move : Plan → Option ℕ → State → Move → Event → List Doing → List Doing
after_move plan acting s (move.Write at bytes) e ds = unless_last e ds
after_move plan acting s (move.Grow pages) e ds = unless_last e ds
after_move plan acting s (move.Call func args) e ds =
    after_call (lowered_call s acting args.items (core_func_by_index plan acting func) (length ds))
    acting e ds
after_move plan acting s (move.Return values) e ds =
    after_return (body_return s acting values.items) values.items e ds
after_move plan acting s move.Unreachable e ds = unless_last e ds

-- what goes on after an action
abbrev pub goes_on : Plan → Option ℕ → State → Action → Event → List Doing → List Doing
goes_on plan acting s (begins i) e ds = root i ∷ []
goes_on plan acting s (moves m) e ds = after_move plan acting s m e ds

-- what goes on, the latest first
abbrev pub doing : Plan → List Occurrence → List Doing
doing plan [] = []
doing plan (x ∷ h) = goes_on plan (acts h) x.before x.action x.event (doing plan h)
