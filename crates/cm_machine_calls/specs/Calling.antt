-- Calls and returns of a set that runs, and how far they are once a value was lifted.
use Rattle.std.specs.Prelude.{◌≡◌, ℕ, List, [], ◌++◌, ◌∷◌, Some, length}
use Rattle.cm_types.specs.declared.core_value.CoreValue.{CoreValue}
use Rattle.cm_types.specs.Values.{Val}
use Rattle.cm_abi_model.specs.Answering.{answer_fault}
use Rattle.cm_abi_model.specs.Denotes.{Denotes}
use Rattle.cm_abi_model.specs.Taken.{Transferable}
use Rattle.cm_abi_model.specs.Views.{Way, params, results}
use Rattle.cm_abi_model.specs.declared.request.Request.{Request}
use Rattle.cm_machine_model.specs.declared.event.Event.{Event}
use Rattle.cm_machine_model.specs.Memories.{memory_at}
use Rattle.cm_machine_model.specs.declared.frame.Call.{Call}
use Rattle.cm_machine_model.specs.declared.frame.Frame.{Frame}
use Rattle.cm_machine_model.specs.declared.frame.Phase.TheVariants as phase
use Rattle.cm_machine_model.specs.declared.frame.Purpose.TheVariants as purpose
use Rattle.cm_machine_model.specs.Passages.{IsAnswered, IsScanned, asked_for}
use Rattle.cm_machine_model.specs.Plan.{Link, Plan, Reaches, taken_kinds, types_of}
use Rattle.cm_machine_model.specs.Stack.{actor, top_of}
use Rattle.cm_machine_model.specs.State.{Passage, State}
use Rattle.cm_machine_model.specs.Step.{AreOf, GoesOn, HasRoom, MayLeave, UnlessWrong}
use Rattle.cm_machine_model.specs.Step.{after_lift_of_args, after_lift_of_result, arg_slots}
use Rattle.cm_machine_model.specs.Step.{args_view, new_call, receiver_of, result_place}
use Rattle.cm_machine_model.specs.Step.{result_view, top_place}
use Rattle.cm_machine_parts.specs.Kept.{Runs}
use Rattle.cm_machine_parts.specs.States.{state_of}
use Rattle.cm_machine_parts.specs.declared.state.State.{State as CodedState}
use Rattle.cm_machine_calls.specs.declared.arguments.Arguments.{Arguments}
use Rattle.cm_machine_parts.specs.declared.link.Link.{Link as CodedLink}
use Rattle.cm_machine_calls.specs.Going.{IsUnderWay, passage_now}
use Rattle.cm_machine_parts.specs.Links.{IsLinkOf}

-- ---- a call

-- A core function of the instance that acts is called, while the set runs and this frame is on top:
-- it comes to this link.
pub record IsCalled (plan : Plan) (s : CodedState) (top : Frame) (func : ℕ) (l : Link)
    (link : CodedLink) : Type 0 where
  pub runs : Runs plan s
  pub on_top : top_of s.stack.frames ≡ Some top
  pub reaches : Reaches plan (actor top) func l
  pub link_is : IsLinkOf l link

-- core values are what a lowered function takes: those that pass its parameters, and the place of
-- its result
pub record AreArguments (l : Link) (args : List CoreValue) (a : Arguments) : Type 0 where
  pub shape : AreOf (taken_kinds l) args
  pub slots_are : a.slots.now ≡ arg_slots l args
  pub place_is : a.result_at ≡ result_place l args

-- The call may be made, with these arguments, if they can be lifted.
pub record MayCall (plan : Plan) (s : CodedState) (top : Frame) (func : ℕ) (l : Link)
    (link : CodedLink) (args : List CoreValue) (a : Arguments) : Type 0 where
  pub called : IsCalled plan s top func l link
  pub leaves : MayLeave top.purpose
  pub room : HasRoom (state_of s)
  pub given : AreArguments l args a

-- Its arguments were lifted: a value that can be handed over is on its way, and the call's frame
-- stands.
pub record HasArguments (plan : Plan) (old new : CodedState) (caller func : ℕ) (l : Link)
    (args : List CoreValue) (call : Call) : Type 0 where
  pub v : Val
  pub denoted : Denotes (args_view (state_of old) caller l) params (types_of l params)
      (arg_slots l args) v
  pub transferable : Transferable (args_view (state_of old) caller l) params (types_of l params)
      (arg_slots l args) v
  pub scanned : IsScanned (args_view (state_of old) caller l) l params (arg_slots l args) v
      (passage_now new)
  pub call_is : call ≡ new_call caller func l args
  pub is : state_of new
      ≡ after_lift_of_args (state_of old) caller func l args v (passage_now new)
  pub under : IsUnderWay plan new l params call v []

-- ---- a return

-- A return is made from the call on top, while the set runs: the core function that was called
-- comes to this link.
pub record IsReturned (plan : Plan) (s : CodedState) (call : Call) (l : Link) (link : CodedLink)
    : Type 0 where
  pub runs : Runs plan s
  pub top : Frame
  pub on_top : top_of s.stack.frames ≡ Some top
  pub is_call : top.purpose ≡ purpose.Call call
  pub reaches : Reaches plan call.caller call.func l
  pub link_is : IsLinkOf l link

-- the call, while its result is placed
abbrev pub in_results : Call → Call
in_results call = record call { phase = phase.Results }

-- Its result was lifted: a value that can be handed over is on its way back.
pub record HasResult (plan : Plan) (old new : CodedState) (l : Link) (call : Call)
    (values : List CoreValue) : Type 0 where
  pub v : Val
  pub denoted : Denotes (result_view (state_of old) l) results (types_of l results) values v
  pub transferable : Transferable (result_view (state_of old) l) results (types_of l results)
      values v
  pub scanned : IsScanned (result_view (state_of old) l) l results values v (passage_now new)
  pub is : state_of new
      ≡ after_lift_of_result (state_of old) l call values v (passage_now new)
  pub under : IsUnderWay plan new l results (in_results call) v []

-- ---- an answer

-- An answer to a request for the value on its way is kept, if it will do, and the call goes on.
abbrev pub AnswersAt : State → Link → Way → Call → Passage → Val → List ℕ → Request → ℕ → Event
    → State → Type 0
AnswersAt s l way call p v answers r at =
    UnlessWrong s
    (answer_fault (length (memory_at s.memories
    (receiver_of way (top_place s) l call).instance)) r at)
    (λ e new. (q : Passage) × IsAnswered (asked_for l way p v) p at q
    × GoesOn (record s { passage = Some q }) (top_place s) l way call q v (answers ++ at ∷ []) e
    new)
