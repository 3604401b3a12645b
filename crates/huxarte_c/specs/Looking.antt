-- What the calls tell of the set that a handle keeps.
use Rattle.std.specs.Prelude.{ℕ, ◌+◌, List, Option, Some, None, Result, Ok, Err, Bool, true, false}
use Rattle.std.specs.Prelude.{drop, if◌then◌else◌, leb, length, min, slice_get, take}
use Rattle.std.specs.Option.{option_map}
use Rattle.cm_handles.specs.Handles.{Handles, handle_at, look_up}
use Rattle.cm_handles.specs.declared.fault.HandleFault.{HandleFault}
use Rattle.cm_handles.specs.declared.fault.HandleFault.TheVariants as handle_fault
use Rattle.cm_handles.specs.declared.handle.Handle.{Handle}
use Rattle.cm_handles.specs.declared.handle.HandleKind.{HandleKind}
use Rattle.cm_handles.specs.declared.handle.HandleKind.TheVariants.{Borrowed, Owned}
use Rattle.cm_machine_model.specs.Stack.{actor, top_of}
use Rattle.cm_machine_model.specs.State.{is_closed}
use Rattle.cm_machine_model.specs.Work.{work_of}
use Rattle.cm_machine_set.specs.Running.{RunningSet}
use Rattle.cm_types.specs.declared.resource.ResourceId.{ResourceId}
use Rattle.huxarte_c_calls.specs.declared.handles.HuxHandle.{HuxHandle}
use Rattle.huxarte_c.specs.PlayedSets.{PlayedSet}
use Rattle.huxarte_c.specs.declared.looking.HuxInstance.{HuxInstance}
use Rattle.huxarte_c.specs.declared.looking.HuxResource.{HuxResource}
use Rattle.huxarte_c.specs.declared.looking.HuxSetState.{HuxSetState}
use Rattle.huxarte_c.specs.declared.refusal.SetRefusal.{SetRefusal}
use Rattle.huxarte_c.specs.declared.refusal.SetRefusal.TheVariants as refusal

-- what is seen of the set that a handle keeps, if it keeps one
abbrev pub looked : {A : Type 0} → (RunningSet → Result A SetRefusal) → Option PlayedSet
    → Result A SetRefusal
looked see None = Err refusal.Empty
looked see (Some s) = see s.set

-- what stands in the place for it then: where nothing is seen, what stood there before
abbrev pub told_or : {A : Type 0} → A → Result A SetRefusal → A
told_or before (Ok seen) = seen
told_or before (Err r) = before

-- ---- the whole

-- the number of the instance whose move is next, or one that no instance has
abbrev pub acting_number : Option ℕ → ℕ
acting_number None = 18446744073709551615
acting_number (Some instance) = instance

-- how many instances there are, whose move is next, and how much is kept of the topmost call
abbrev pub state_in : RunningSet → HuxSetState
state_in s = record {
  instances = length s.state.closed;
  acting = acting_number (option_map actor (top_of s.state.stack));
  records = (work_of s.state).records;
  handles = (work_of s.state).handles;
  lends = (work_of s.state).lends;
}

abbrev pub state_seen : Option PlayedSet → Result HuxSetState SetRefusal
state_seen kept = looked (λ s. Ok (state_in s)) kept

-- ---- an instance

-- 1 where a trap has closed an instance
abbrev pub flag : Bool → ℕ
flag true = 1
flag false = 0

-- how many indices a table has, if there is one
abbrev pub indices_in : Option Handles → ℕ
indices_in None = 0
indices_in (Some handles) = length handles.slots

-- an instance, where it has a memory: how many bytes, how many indices its table has, and whether
-- it is closed
abbrev pub instance_by : Bool → ℕ → Option (List ℕ) → Result HuxInstance SetRefusal
instance_by closed indices None = Err refusal.NoInstance
instance_by closed indices (Some memory) =
    Ok (record { bytes = length memory; indices = indices; closed = flag closed })

abbrev pub instance_in : ℕ → RunningSet → Result HuxInstance SetRefusal
instance_in instance s = instance_by (is_closed s.state instance)
    (indices_in (slice_get s.state.tables instance)) (slice_get s.state.memories instance)

abbrev pub instance_seen : Option PlayedSet → ℕ → Result HuxInstance SetRefusal
instance_seen kept instance = looked (instance_in instance) kept

-- ---- bytes of a memory

-- so many bytes of a memory from `at` on, where it has them
abbrev pub part_by : ℕ → ℕ → Option (List ℕ) → Result (List ℕ) SetRefusal
part_by at count None = Err refusal.NoInstance
part_by at count (Some memory) = if leb (at + count) (length memory)
    then Ok (take count (drop at memory)) else Err refusal.Outside

abbrev pub part_in : ℕ → ℕ → ℕ → RunningSet → Result (List ℕ) SetRefusal
part_in instance at count s = part_by at count (slice_get s.state.memories instance)

abbrev pub part_seen : Option PlayedSet → ℕ → ℕ → ℕ → Result (List ℕ) SetRefusal
part_seen kept instance at count = looked (part_in instance at count) kept

-- ---- a handle

-- the resource of these numbers
abbrev pub resource_of : HuxResource → ResourceId
resource_of r = record { component = r.component; number = r.number }

-- whether a handle is owned, and which call borrowed it
abbrev pub kind_numbers : HandleKind → ℕ × ℕ
kind_numbers Owned = (1, 0)
kind_numbers (Borrowed call) = (0, call)

-- a handle in numbers: so many lends as fit
abbrev pub handle_told : Handle → HuxHandle
handle_told h = record {
  number = h.resource.number;
  serial = h.serial;
  lends = min h.lends 18446744073709551615;
  component = h.resource.component;
  rep = h.rep;
  owned = (kind_numbers h.kind).0;
  call = (kind_numbers h.kind).1;
}

-- what a table says
abbrev pub handle_by : Result Handle HandleFault → Result HuxHandle SetRefusal
handle_by (Ok h) = Ok (handle_told h)
handle_by (Err f) = Err (refusal.NoHandle f)

-- the handle at an index of the table of an instance, which is to be of a resource
abbrev pub handle_of : ℕ → ResourceId → Option Handles → Result HuxHandle SetRefusal
handle_of index resource None = Err refusal.NoInstance
handle_of index resource (Some handles) = handle_by (look_up handles index resource)

abbrev pub handle_in : ℕ → ℕ → ResourceId → RunningSet → Result HuxHandle SetRefusal
handle_in instance index resource s =
    handle_of index resource (slice_get s.state.tables instance)

abbrev pub handle_seen : Option PlayedSet → ℕ → ℕ → HuxResource
    → Result HuxHandle SetRefusal
handle_seen kept instance index resource =
    looked (handle_in instance index (resource_of resource)) kept

-- what stands at an index
abbrev pub any_handle_by : Option Handle → Result HuxHandle SetRefusal
any_handle_by None = Err (refusal.NoHandle handle_fault.NoHandle)
any_handle_by (Some h) = Ok (handle_told h)

-- the handle at an index of the table of an instance, of whatever resource
abbrev pub any_handle_of : ℕ → Option Handles → Result HuxHandle SetRefusal
any_handle_of index None = Err refusal.NoInstance
any_handle_of index (Some handles) = any_handle_by (handle_at handles index)

abbrev pub any_handle_in : ℕ → ℕ → RunningSet → Result HuxHandle SetRefusal
any_handle_in instance index s = any_handle_of index (slice_get s.state.tables instance)

abbrev pub any_handle_seen : Option PlayedSet → ℕ → ℕ → Result HuxHandle SetRefusal
any_handle_seen kept instance index = looked (any_handle_in instance index) kept
