-- What holds of the state of a running set.
use Rattle.std.specs.Prelude.{◌≡◌, ℕ, ◌<◌, ⊤, List, [], ◌∷◌, length, Some, slice_index}
use Rattle.cm_handles.specs.Borrows.{borrows_of}
use Rattle.cm_handles.specs.Handles.{Handles}
use Rattle.cm_abi_model.specs.Views.{Way, params, results}
use Rattle.cm_machine_model.specs.declared.frame.Frame.{Frame}
use Rattle.cm_machine_model.specs.declared.frame.Phase.{Phase}
use Rattle.cm_machine_model.specs.declared.frame.Phase.TheVariants as phase
use Rattle.cm_machine_model.specs.declared.frame.Purpose.{Purpose}
use Rattle.cm_machine_model.specs.declared.frame.Purpose.TheVariants as purpose
use Rattle.cm_machine_model.specs.Plan.{Plan, Link, Reaches, giver_side, receiver_side}
use Rattle.cm_machine_model.specs.Stack.{below_top}
use Rattle.cm_machine_model.specs.State.{table_at}
use Rattle.cm_machine_model.specs.Valid.{IsValidState, frame_at}
use Rattle.cm_machine_parts.specs.declared.passing.Passing.{Passing}
use Rattle.cm_machine_parts.specs.declared.state.State.{State as CodedState}
use Rattle.cm_machine_parts.specs.Lends.{AreLentAtLeast, NoneAbove}
use Rattle.cm_machine_parts.specs.States.{state_of}

-- the number of each place at which a frame stands is how many handles its instance has that are
-- borrowed for its call
abbrev pub AreBorrowsCounted : List ℕ → List Frame → List Handles → Type 0
AreBorrowsCounted borrows frames tables = (place : ℕ) (f : Frame)
    → frame_at frames place ≡ Some f
    → slice_index borrows place ≡ borrows_of place (table_at tables f.instance)

-- where a frame stands at this place, it is of this instance, and so many handles of the table are
-- borrowed for its call
abbrev pub IsCountAt : List Frame → ℕ → ℕ → Handles → ℕ → Type 0
IsCountAt frames place instance table n = (f : Frame) → frame_at frames place ≡ Some f
    → (f.instance ≡ instance) × (n ≡ borrows_of place table)

-- what passes over a link that way is encoded as its sides say
abbrev pub IsEncoded : Link → Way → Passing → Type 0
IsEncoded l way p =
    (p.scan.parts.source ≡ (giver_side l way).encoding)
    × (p.scan.parts.target ≡ (receiver_side l way).encoding)

-- in this phase of a call over the link
abbrev pub IsEncodedIn : Phase → Link → Passing → Type 0
IsEncodedIn phase.Arguments l p = IsEncoded l params p
IsEncodedIn phase.Body l p = ⊤
IsEncodedIn phase.Results l p = IsEncoded l results p
IsEncodedIn (phase.PostReturn result) l p = ⊤

-- where a frame of this purpose is on top
abbrev pub IsEncodedFor : Plan → Passing → Purpose → Type 0
IsEncodedFor plan p purpose.Root = ⊤
IsEncodedFor plan p (purpose.Call call) =
    (l : Link) → Reaches plan call.caller call.func l → IsEncodedIn call.phase l p
IsEncodedFor plan p (purpose.Destructor dropper) = ⊤

abbrev pub IsEncodedAtTop : Plan → Passing → List Frame → Type 0
IsEncodedAtTop plan p [] = ⊤
IsEncodedAtTop plan p (top ∷ below) = IsEncodedFor plan p top.purpose

-- What the state keeps beside the one that it stands for: how many handles are borrowed for each
-- call, and how strings are encoded of what is on its way.
pub record IsKept (plan : Plan) (s : CodedState) : Type 0 where
  pub counted : AreBorrowsCounted s.stack.borrows s.stack.frames (state_of s).tables
  pub encoded : IsEncodedAtTop plan s.passing s.stack.frames

-- The set runs: the state stands for a valid one, and keeps what it keeps.
pub record Runs (plan : Plan) (s : CodedState) : Type 0 where
  pub valid : IsValidState plan (state_of s)
  pub kept : IsKept plan s

-- The call on top can end: there is a frame, no lend is to a call above it, and each handle is lent
-- at least as often as it is among the lends.
pub record CanEnd (s : CodedState) : Type 0 where
  pub some : 0 < length s.stack.frames
  pub above : NoneAbove (length (below_top s.stack.frames)) s.lends
  pub lent : AreLentAtLeast s.lends (state_of s).tables
