-- Where a value is on its way, and goes on from there.
use Rattle.std.specs.Prelude.{◌≡◌, ℕ, ◌<◌, ◌≤◌, true, List, ◌∷◌, length, None, MatchResult, Result}
use Rattle.std.specs.Prelude.{slice_get}
use Rattle.cm_types.specs.Values.{Val}
use Rattle.cm_types.specs.declared.core_value.CoreValue.{CoreValue}
use Rattle.cm_handles.specs.Handles.{IsSoundHandles}
use Rattle.cm_abi_model.specs.Answering.{first_fault}
use Rattle.cm_abi_model.specs.Bytes.{AreBytes}
use Rattle.cm_abi_model.specs.Requests.{is_spilled}
use Rattle.cm_abi_model.specs.Views.{Way, params, results}
use Rattle.cm_abi_model.specs.declared.receiver.Receiver.{Receiver}
use Rattle.cm_machine_model.specs.Memories.{memory_at}
use Rattle.cm_machine_model.specs.declared.event.Trap.{Trap}
use Rattle.cm_machine_model.specs.declared.limits.TheConstants.{MAX_FRAMES}
use Rattle.cm_machine_model.specs.declared.frame.Call.{Call}
use Rattle.cm_machine_model.specs.declared.frame.Frame.{Frame}
use Rattle.cm_machine_model.specs.declared.frame.Phase.{Phase}
use Rattle.cm_machine_model.specs.declared.frame.Phase.TheVariants as phase
use Rattle.cm_machine_model.specs.declared.frame.Purpose.TheVariants as purpose
use Rattle.cm_machine_model.specs.Passages.{Carries, HasAnswers, asked_for}
use Rattle.cm_machine_model.specs.Plan.{Link, Plan, Reaches, giver_side, types_of}
use Rattle.cm_machine_model.specs.Plans.{IsLink}
use Rattle.cm_machine_model.specs.State.{Passage, table_at, view_of}
use Rattle.cm_machine_model.specs.Step.{giver_of, receiver_of}
use Rattle.cm_machine_model.specs.Valid.{IsStack}
use Rattle.cm_machine_parts.specs.Kept.{AreBorrowsCounted, CanEnd, IsEncoded}
use Rattle.cm_machine_parts.specs.States.{state_of}
use Rattle.cm_machine_parts.specs.declared.state.State.{State as CodedState}
use Rattle.cm_machine_parts.specs.declared.link.Link.{Link as CodedLink}
use Rattle.cm_machine_parts.specs.Links.{IsLinkOf}
use Rattle.cm_machine_calls.specs.Handing.{IsHandedOver, StopsHanding}
use Rattle.cm_machine_calls.specs.Lifting.{IsLifted, StopsLift, passage_in}

-- what is on its way
abbrev pub passage_now : CodedState → Passage
passage_now s = passage_in s.passing.slots s.passing.scan

-- the phase of a call while a value is on its way
abbrev pub phase_of : Way → Phase
phase_of params = phase.Arguments
phase_of results = phase.Results

-- A value is on its way in the call on top, over a link of its caller's: the giver's memory shows
-- it, these answers are those to the first of its requests, and each will do.
pub record IsUnderWay (plan : Plan) (s : CodedState) (l : Link) (way : Way) (call : Call) (v : Val)
    (answers : List ℕ) : Type 0 where
  pub link : IsLink plan call.caller l
  pub reaches : Reaches plan call.caller call.func l
  pub phase : call.phase ≡ phase_of way
  pub caller : call.caller < length plan
  pub below : List Frame
  pub stack : s.stack.frames
      ≡ record { instance = l.instance; purpose = purpose.Call call } ∷ below
  pub few : length s.stack.frames ≤ MAX_FRAMES
  pub places : length s.stack.borrows ≡ MAX_FRAMES
  pub passes : s.passing.scan.has_value ≡ true
  pub encoded : IsEncoded l way s.passing
  pub bytes : AreBytes (memory_at s.memories (giver_of way l call))
  pub carried : Carries (memory_at s.memories (giver_of way l call)) l way (passage_now s) v
  pub some : length answers ≤ length (asked_for l way (passage_now s) v)
  pub answered : HasAnswers (asked_for l way (passage_now s) v) answers (passage_now s)
  pub fine : first_fault (length (memory_at s.memories
      (receiver_of way (length below) l call).instance))
      (asked_for l way (passage_now s) v) answers ≡ None
  pub memories : length s.memories ≡ length plan
  pub tables : length s.tables.items ≡ length plan
  pub sound : (i : ℕ) → IsSoundHandles (table_at (state_of s).tables i)
  pub counted : AreBorrowsCounted s.stack.borrows s.stack.frames (state_of s).tables
  pub stands : IsStack plan s.stack.frames
  pub ends : way ≡ results → CanEnd s

-- It goes on from there: where a result goes by memory, its place is among the answers.
pub record CanGoOn (plan : Plan) (s : CodedState) (l : Link) (way : Way) (call : Call) (v : Val)
    (answers : List ℕ) : Type 0 where
  pub under : IsUnderWay plan s l way call v answers
  pub placed : way ≡ results → is_spilled results (types_of l results) ≡ true → 0 < length answers

-- It can be handed over: all its requests are answered.
pub record CanHand (plan : Plan) (s : CodedState) (l : Link) (way : Way) (call : Call) (v : Val)
    (answers : List ℕ) (giver : ℕ) (to : Receiver) : Type 0 where
  pub on : CanGoOn plan s l way call v answers
  pub all : slice_get (asked_for l way (passage_now s) v) (length answers) ≡ None
  pub giver_is : giver ≡ giver_of way l call
  pub to_is : to ≡ receiver_of way (length on.under.below) l call

-- What comes of lifting what core values pass over a link that way, in the view of an instance in a
-- call: the value is on its way; or the lift stops, by a trap.
abbrev pub LiftsOrStops : {A : Type 0} → CodedState → CodedState → Link → Way → ℕ → ℕ → ℕ
    → List CoreValue → Result A Trap → Type 0
LiftsOrStops old new l way giver call place slots r =
    MatchResult r
    (λ _. IsLifted (state_of old) (state_of new)
    (view_of (state_of old) giver (giver_side l way).encoding call) l way giver place slots
    (passage_now new) new.passing.scan.lends)
    (λ t. StopsLift (view_of (state_of old) giver (giver_side l way).encoding call) l way slots t)

-- some value can be handed over, over the link that the code's one stands for
abbrev pub CanBeLowered : CodedState → CodedLink → Way → ℕ → Receiver → Type 0
CanBeLowered s link way giver to =
    (plan : Plan) × (l : Link) × (call : Call) × (v : Val) × (answers : List ℕ)
    × IsLinkOf l link × CanHand plan s l way call v answers giver to

-- What comes of lowering what can be handed over, whose core values are these: it is handed over,
-- or that stops by a trap.
abbrev pub LowersOrStops : {A : Type 0} → CodedState → CodedState → CodedLink → Way → ℕ → Receiver
    → List CoreValue → Result A Trap → Type 0
LowersOrStops old new link way giver to slots r =
    (plan : Plan) (l : Link) (call : Call) (v : Val) (answers : List ℕ) → IsLinkOf l link
    → CanHand plan old l way call v answers giver to → MatchResult r
    (λ _. IsHandedOver (state_of old) (state_of new) l way to (passage_now old) v answers slots)
    (λ t. StopsHanding (state_of old) l way to (passage_now old) v answers t)
