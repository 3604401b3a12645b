-- What the values of a call are, and where their parts stand, told by the moves, the events and the
-- memories of the past: no frame and no passage is read here.
use Rattle.std.specs.Prelude.{◌≡◌, ℕ, ◌+◌, ⊤, Bool, List, [], ◌∷◌, ◌++◌, length, take, Option, Some}
use Rattle.std.specs.Prelude.{None, if◌then◌else◌, slice_get}
use Rattle.cm_types.specs.declared.core_value.CoreKind.{CoreKind}
use Rattle.cm_types.specs.declared.core_value.CoreValue.{CoreValue}
use Rattle.cm_types.specs.declared.core_value.CoreValue.TheVariants as core_value
use Rattle.cm_types.specs.Values.{Val}
use Rattle.cm_abi_model.specs.declared.request.Request.{Request}
use Rattle.cm_abi_model.specs.Denotes.{Denotes}
use Rattle.cm_abi_model.specs.Numbers.{slot_at}
use Rattle.cm_abi_model.specs.Receives.{HandleLeaf, call_kinds, leaves_in}
use Rattle.cm_abi_model.specs.Requests.{is_spilled, requests, tuple_of}
use Rattle.cm_abi_model.specs.Taken.{Met, Transferable, met, tags_of}
use Rattle.cm_abi_model.specs.Views.{View, params, results}
use Rattle.cm_abi_model.specs.declared.receiver.Receiver.{Receiver}
use Rattle.cm_machine_laws.specs.Doing.{Asked, BodyReturn, LoweredCall}
use Rattle.cm_abi_model.specs.Answered.{last_answer}
use Rattle.cm_machine_model.specs.Plan.{Link, types_of}
use Rattle.cm_machine_model.specs.State.{view_of}

-- ---- the arguments of a call

-- the kinds of the core values that pass the arguments
abbrev pub args_kinds : Link → List CoreKind
args_kinds l = call_kinds params (types_of l params)

-- the caller's view at the call
abbrev pub sender_view : LoweredCall → View
sender_view x = view_of x.state x.caller x.link.caller.encoding x.place

-- the core values that pass the arguments
abbrev pub sent_slots : LoweredCall → List CoreValue
sent_slots x = take (length (args_kinds x.link)) x.args

-- This value, the tuple of the arguments, was denoted in the caller's view at the call, and can be
-- handed over.
pub record WasSent (x : LoweredCall) (v : Val) : Type 0 where
  pub denoted : Denotes (sender_view x) params (types_of x.link params) (sent_slots x) v
  pub transferable : Transferable (sender_view x) params (types_of x.link params) (sent_slots x) v

-- what was met of it: the content, and the handles that were taken and lent
abbrev pub met_at_call : LoweredCall → Val → List Met
met_at_call x v = met (sender_view x) params (types_of x.link params) (sent_slots x) v

-- what it asks for
abbrev pub sent_requests : LoweredCall → Val → List Request
sent_requests x v =
    requests params (types_of x.link params) v x.link.caller.encoding x.link.callee.encoding
    (tags_of (met_at_call x v))

-- its handles
abbrev pub sent_leaves : LoweredCall → Val → List HandleLeaf
sent_leaves x v = leaves_in (tuple_of (types_of x.link params)) v

-- ---- its result

-- the callee's view at its body's return
abbrev pub returner_view : LoweredCall → BodyReturn → View
returner_view x r = view_of r.state r.callee x.link.callee.encoding x.place

-- This value, the tuple of the result, was denoted in the callee's view at its body's return, and
-- can be handed over.
pub record WasReturned (x : LoweredCall) (r : BodyReturn) (v : Val) : Type 0 where
  pub denoted : Denotes (returner_view x r) results (types_of x.link results) r.values v
  pub transferable : Transferable (returner_view x r) results (types_of x.link results) r.values v

-- what was met of the result
abbrev pub met_at_return : LoweredCall → BodyReturn → Val → List Met
met_at_return x r v = met (returner_view x r) results (types_of x.link results) r.values v

-- what it asks for
abbrev pub returned_requests : LoweredCall → BodyReturn → Val → List Request
returned_requests x r v =
    requests results (types_of x.link results) v x.link.callee.encoding x.link.caller.encoding
    (tags_of (met_at_return x r v))

-- its handles
abbrev pub returned_leaves : LoweredCall → Val → List HandleLeaf
returned_leaves x v = leaves_in (tuple_of (types_of x.link results)) v

-- the result goes by memory
abbrev pub is_by_memory : LoweredCall → Bool
is_by_memory x = is_spilled results (types_of x.link results)

-- to where the last core value of the call says
abbrev pub result_place_of : LoweredCall → ℕ
result_place_of x = slot_at x.args (length (args_kinds x.link))

-- ---- what allocators were asked, and answered

-- an answer, if it came
abbrev pub one_answer : Option ℕ → List ℕ
one_answer None = []
one_answer (Some at) = at ∷ []

-- the answers that came, the first one first
abbrev pub answers_in : List Asked → List ℕ
answers_in [] = []
answers_in (a ∷ earlier) = answers_in earlier ++ one_answer a.answer

-- What an allocator gets for a request: the old pointer, which is the last answer where the request
-- goes on from an earlier one, and else 0; the old size, the alignment, and the size.
abbrev pub realloc_values : ℕ → Request → List CoreValue
realloc_values last r =
    core_value.I32 (if r.chained then last else 0) ∷ core_value.I32 r.old_size
    ∷ core_value.I32 r.align ∷ core_value.I32 r.size ∷ []

-- one more was asked, behind so many and with this answer the last: the next of these requests
abbrev pub AsksOne : List Request → ℕ → ℕ → Asked → Type 0
AsksOne rs n last a =
    (r : Request) × (slice_get rs n ≡ Some r) × (a.request ≡ realloc_values last r)

-- what was asked is a beginning of these requests, each with the answer to the one before it, where
-- these answers came before the first
abbrev pub AsksFor : List Request → List ℕ → List Asked → Type 0
AsksFor rs before [] = ⊤
AsksFor rs before (a ∷ earlier) =
    AsksFor rs before earlier
    × AsksOne rs (length before + length earlier) (last_answer (before ++ answers_in earlier)) a

-- the answers that came before the first event
abbrev pub answered_before : LoweredCall → List ℕ
answered_before x = if is_by_memory x then result_place_of x ∷ [] else []

-- those to the requests of a result
abbrev pub answers_back : LoweredCall → List Asked → List ℕ
answers_back x more = answered_before x ++ answers_in more

-- who receives the arguments
abbrev pub args_receiver : LoweredCall → Receiver
args_receiver x = record { instance = x.link.instance; call = x.place }

-- and who the result
abbrev pub result_receiver : LoweredCall → Receiver
result_receiver x = record { instance = x.caller; call = x.place }
