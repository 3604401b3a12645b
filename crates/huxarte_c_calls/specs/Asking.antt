-- What passing the parameters of a call asks an allocator for (CanonicalABI.md, `realloc`; the
-- order and the sizes are this project's own choice).
use Rattle.std.specs.Prelude.{◌≡◌, ◌⊎◌, ◌≤◌, ◌^◌, ⊤, ℕ, List, length, map, if◌then◌else◌}
use Rattle.cm_types.specs.Types.{Fields}
use Rattle.cm_types.specs.Values.{Val}
use Rattle.cm_abi_model.specs.Denotes.{Denotes}
use Rattle.cm_abi_model.specs.LiftStops.{LiftStops}
use Rattle.cm_abi_model.specs.Requests.{requests}
use Rattle.cm_abi_model.specs.Taken.{met, tags_of}
use Rattle.cm_abi_model.specs.Views.{params}
use Rattle.cm_abi_model.specs.declared.fault.AbiFault.{AbiFault}
use Rattle.cm_abi_model.specs.declared.fault.AbiFault.TheVariants as abi_fault
use Rattle.cm_abi_model.specs.declared.request.Request.{Request}
use Rattle.huxarte_c_calls.specs.declared.asking.HuxRequest.{HuxRequest}
use Rattle.huxarte_c_calls.specs.declared.call.Call.{Call}
use Rattle.huxarte_c_calls.specs.declared.fault.CallFault.{CallFault}
use Rattle.huxarte_c_calls.specs.declared.fault.CallFault.TheVariants as fault
use Rattle.huxarte_c_calls.specs.declared.handles.HuxHandle.{HuxHandle}
use Rattle.huxarte_c_calls.specs.Calls.{view_of}
use Rattle.huxarte_c_calls.specs.HandedOver.{IsTableFault}

-- a request, as C has it
abbrev pub row_of : Request → HuxRequest
row_of r = record {
  chained = if r.chained then 1 else 0;
  old_size = r.old_size;
  align = r.align;
  size = r.size;
}

-- what a call asks for whose core values denote a value of these types there
abbrev pub requests_of : Call → List ℕ → List HuxHandle → Fields → Val → List Request
requests_of c memory handles types v =
    requests params types v c.encodings.source c.encodings.target
    (tags_of (met (view_of c memory handles) params types c.slots.items v))

-- the core values of a call denote this value of these types in the view of its giver
abbrev pub IsPassed : Call → List ℕ → List HuxHandle → Fields → Val → Type 0
IsPassed c memory handles types v =
    Denotes (view_of c memory handles) params types c.slots.items v

-- A call asks for this: its core values denote a value of these types in the view of its giver, and
-- these are the requests for its parts.
pub record IsAsked (c : Call) (memory : List ℕ) (handles : List HuxHandle) (types : Fields)
    (rows : List HuxRequest) : Type 0 where
  pub value : Val
  pub passed : IsPassed c memory handles types value
  pub rows_are : rows ≡ map row_of (requests_of c memory handles types value)

-- why the values of a call are refused: the first part that is wrong, or there is no memory
abbrev pub IsStopped : Call → List ℕ → List HuxHandle → Fields → AbiFault → Type 0
IsStopped c memory handles types f =
    (f ≡ abi_fault.EngineMemory)
    ⊎ LiftStops (view_of c memory handles) params types c.slots.items f

-- why a call is refused that is to be scanned: its giver's memory, table or values
abbrev pub IsValueRefusal : Call → List ℕ → List HuxHandle → Fields → CallFault → Type 0
IsValueRefusal c memory handles types (fault.Value f) = IsStopped c memory handles types f
IsValueRefusal c memory handles types fault.TooLarge = 2 ^ 32 ≤ length memory
IsValueRefusal c memory handles types (fault.Handles f) = IsTableFault handles f
IsValueRefusal c memory handles types fault.Memory = ⊤
IsValueRefusal c memory handles types _ = ⊥
