-- What holds of the state after each call of the machine (this project's own choice).
use Rattle.std.specs.Prelude.{◌≡◌, ◌≢◌, ℕ, ◌<◌, ◌≤◌, ◌^◌, ⊤, List, [], ◌∷◌, length}
use Rattle.std.specs.Prelude.{Contains, ◌⊎◌}
use Rattle.std.specs.Prelude.{Option, Some, None, slice_get, slice_index, true, ◌==◌, if◌then◌else◌}
use Rattle.cm_types.specs.Values.{Val, HandleValue}
use Rattle.cm_abi_model.specs.Receives.{HandleLeaf, owned_leaf, borrowed_leaf}
use Rattle.cm_handles.specs.Handles.{IsSoundHandles}
use Rattle.cm_handles.specs.declared.handle.Handle.{Handle}
use Rattle.cm_handles.specs.declared.handle.HandleKind.TheVariants as handle
use Rattle.cm_abi_model.specs.declared.request.Request.{Request}
use Rattle.cm_abi_model.specs.Views.{Way, params, results}
use Rattle.cm_abi_model.specs.Answering.{first_fault}
use Rattle.cm_machine_model.specs.declared.frame.Call.{Call}
use Rattle.cm_machine_model.specs.declared.frame.Frame.{Frame}
use Rattle.cm_machine_model.specs.declared.frame.Lend.{Lend}
use Rattle.cm_machine_model.specs.declared.frame.Phase.{Phase}
use Rattle.cm_machine_model.specs.declared.frame.Phase.TheVariants as phase
use Rattle.cm_machine_model.specs.declared.frame.Purpose.{Purpose}
use Rattle.cm_machine_model.specs.declared.frame.Purpose.TheVariants as purpose
use Rattle.cm_machine_model.specs.declared.limits.TheConstants.{MAX_FRAMES, MAX_MEMORY_SIZE}
use Rattle.cm_abi_model.specs.Bytes.{AreBytes}
use Rattle.cm_machine_model.specs.Memories.{memory_at}
use Rattle.cm_machine_model.specs.Owning.{OnePlace, AreCounted, StandsIn}
use Rattle.cm_machine_model.specs.Passages.{Carries, HasAnswers, asked_for}
use Rattle.cm_machine_model.specs.Plan.{Plan, Link, Reaches}
use Rattle.cm_machine_model.specs.Plans.{IsPlan}
use Rattle.cm_machine_model.specs.Stack.{actor, top_of}
use Rattle.cm_machine_model.specs.State.{Passage, State, table_at}
use Rattle.cm_machine_model.specs.Step.{MayLeave, giver_of, receiver_of, top_place}

-- ---- frames

-- A root stands on nothing. A call stands on a frame in which its caller acts and may call, and is
-- of the instance that the core function called comes to. A destructor stands on a frame in which
-- who dropped acts.
abbrev pub StandsOn : Plan → Purpose → ℕ → List Frame → Type 0
StandsOn plan purpose.Root instance below = below ≡ []
StandsOn plan (purpose.Call call) instance below =
    ((l : Link) × Reaches plan call.caller call.func l × (l.instance ≡ instance))
    × ((f : Frame) × (top_of below ≡ Some f) × (actor f ≡ call.caller) × MayLeave f.purpose)
StandsOn plan (purpose.Destructor dropper) instance below =
    (instance ≤ dropper)
    × ((f : Frame) × (top_of below ≡ Some f) × (actor f ≡ dropper) × MayLeave f.purpose)

-- Each frame is of an instance that is there, and stands on those below it.
abbrev pub IsStack : Plan → List Frame → Type 0
IsStack plan [] = ⊤
IsStack plan (f ∷ fs) =
    (f.instance < length plan) × StandsOn plan f.purpose f.instance fs × IsStack plan fs

-- ---- what is on its way

-- A value is on its way over a link that way: the giver's memory shows it, some requests for it are
-- answered, each well, and one more is to come.
pub record IsOnItsWay (s : State) (l : Link) (way : Way) (call : Call) (p : Passage) : Type 0 where
  pub v : Val
  pub carried : Carries (memory_at s.memories (giver_of way l call)) l way p v
  pub answers : List ℕ
  pub answered : HasAnswers (asked_for l way p v) answers p
  pub next : Request
  pub to_come : slice_get (asked_for l way p v) (length answers) ≡ Some next
  pub fine : first_fault (length (memory_at s.memories
      (receiver_of way (top_place s) l call).instance)) (asked_for l way p v) answers ≡ None

-- In this phase of a call a value is on its way, or none is.
abbrev pub PassesIn : Phase → State → Link → Call → Option Passage → Type 0
PassesIn phase.Arguments s l call o = (p : Passage) × (o ≡ Some p) × IsOnItsWay s l params call p
PassesIn phase.Body s l call o = o ≡ None
PassesIn phase.Results s l call o = (p : Passage) × (o ≡ Some p) × IsOnItsWay s l results call p
PassesIn (phase.PostReturn result) s l call o = o ≡ None

-- Where a frame of this purpose is on top, a value is on its way, or none is.
abbrev pub PassesFor : Plan → State → Purpose → Type 0
PassesFor plan s purpose.Root = s.passage ≡ None
PassesFor plan s (purpose.Call call) =
    (l : Link) → Reaches plan call.caller call.func l → PassesIn call.phase s l call s.passage
PassesFor plan s (purpose.Destructor dropper) = s.passage ≡ None

-- The call on top alone carries a value, while its arguments or its result are placed.
abbrev pub PassesAtTop : Plan → State → List Frame → Type 0
PassesAtTop plan s [] = s.passage ≡ None
PassesAtTop plan s (top ∷ below) = PassesFor plan s top.purpose

-- ---- lends and borrows

-- the frame at a place, from 0 at the bottom
abbrev pub frame_at : List Frame → ℕ → Option Frame
frame_at [] n = None
frame_at (f ∷ fs) n = if n == length fs then Some f else frame_at fs n

-- a call by this instance stands at a place
pub record CallsAt (s : State) (place caller : ℕ) : Type 0 where
  pub instance : ℕ
  pub call : Call
  pub stands : frame_at s.stack place
      ≡ Some (record { instance = instance; purpose = purpose.Call call })
  pub caller_is : call.caller ≡ caller

-- a lend is to a call that stands, by the instance whose handle it is
abbrev pub AreToCalls : State → Type 0
AreToCalls s = (l : Lend) → Contains s.lends l → CallsAt s l.frame l.instance

-- A handle is borrowed for a call whose body runs in that instance, and a handle of the caller's is
-- lent to it that stands for the same resource.
pub record IsBorrowedFor (s : State) (i call : ℕ) (h : Handle) : Type 0 where
  pub stands_call : Call
  pub stands : frame_at s.stack call
      ≡ Some (record { instance = i; purpose = purpose.Call stands_call })
  pub in_body : stands_call.phase ≡ phase.Body
  pub lend : Lend
  pub among : Contains s.lends lend
  pub to_call : lend.frame ≡ call
  pub of_caller : lend.instance ≡ stands_call.caller
  pub lent : Handle
  pub lent_stands : StandsIn s lend.instance lend.index lent
  pub same : lent.serial ≡ h.serial
  pub same_resource : lent.resource ≡ h.resource
  pub same_rep : lent.rep ≡ h.rep

-- Each borrowed handle is borrowed so.
abbrev pub AreBorrowed : State → Type 0
AreBorrowed s = (i index call : ℕ) (h : Handle) → StandsIn s i index h
    → h.kind ≡ handle.Borrowed call → IsBorrowedFor s i call h

-- one of these is a handle to be borrowed, of this resource
abbrev pub IsBorrowedLeaf : List HandleLeaf → HandleValue → Type 0
IsBorrowedLeaf [] v = ⊥
IsBorrowedLeaf (owned_leaf h ∷ leaves) v = IsBorrowedLeaf leaves v
IsBorrowedLeaf (borrowed_leaf h ∷ leaves) v = (h ≡ v) ⊎ IsBorrowedLeaf leaves v

-- a handle of the caller's that stands for this resource is lent to the call at a place
pub record IsLentFor (s : State) (place caller : ℕ) (v : HandleValue) : Type 0 where
  pub lend : Lend
  pub among : Contains s.lends lend
  pub to_call : lend.frame ≡ place
  pub of_caller : lend.instance ≡ caller
  pub lent : Handle
  pub lent_stands : StandsIn s lend.instance lend.index lent
  pub same : lent.serial ≡ v.serial
  pub same_resource : lent.resource ≡ v.resource
  pub same_rep : lent.rep ≡ v.rep

-- Each handle to be borrowed that is on its way to a body is lent to its call.
abbrev pub AreLentOut : State → Type 0
AreLentOut s = (p : Passage) (v : HandleValue) (f : Frame) (call : Call) → s.passage ≡ Some p
    → top_of s.stack ≡ Some f → f.purpose ≡ purpose.Call call → call.phase ≡ phase.Arguments
    → IsBorrowedLeaf p.leaves v → IsLentFor s (top_place s) call.caller v

-- a handle that stands is of a resource that was made
abbrev pub AreMade : State → Type 0
AreMade s = (i index : ℕ) (h : Handle) → StandsIn s i index h → h.serial < length s.owners

-- the resource of each of these handles was made
abbrev pub AllMade : ℕ → List HandleLeaf → Type 0
AllMade count [] = ⊤
AllMade count (owned_leaf h ∷ leaves) = (h.serial < count) × AllMade count leaves
AllMade count (borrowed_leaf h ∷ leaves) = (h.serial < count) × AllMade count leaves

-- what is on its way is of resources that were made
abbrev pub AreLeavesMade : State → Type 0
AreLeavesMade s = (p : Passage) → s.passage ≡ Some p → AllMade (length s.owners) p.leaves

-- ---- all of it

-- The machine is valid: the plan is one that can be linked, there is one of each for each instance,
-- memories are of bytes and small, tables are sound, frames are few, stand on one another and are
-- of open instances, at most one value is on its way, each resource has one place, and each lend
-- and each borrow has its call.
pub record IsValidState (plan : Plan) (s : State) : Type 0 where
  pub linked : IsPlan plan
  pub memories : length s.memories ≡ length plan
  pub tables : length s.tables ≡ length plan
  pub closed : length s.closed ≡ length plan
  pub small : (i : ℕ) → length (memory_at s.memories i) ≤ MAX_MEMORY_SIZE
  pub bytes : (i : ℕ) → AreBytes (memory_at s.memories i)
  pub sound : (i : ℕ) → IsSoundHandles (table_at s.tables i)
  pub few : length s.stack ≤ MAX_FRAMES
  pub stack : IsStack plan s.stack
  pub opened : (f : Frame) → Contains s.stack f → slice_get s.closed f.instance ≢ Some true
  pub passes : PassesAtTop plan s s.stack
  pub one_place : OnePlace s
  pub counted : AreCounted s
  pub to_calls : AreToCalls s
  pub borrowed : AreBorrowed s
  pub lent_out : AreLentOut s
  pub made : AreMade s
  pub leaves_made : AreLeavesMade s
