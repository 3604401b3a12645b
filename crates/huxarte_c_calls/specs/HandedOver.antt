-- What C hands over, by numbers: encodings of strings, core values, and handles (CanonicalABI.md,
-- "Lifting and Lowering Values" and "Resource State"; the numbers are this project's own choice).
use Rattle.std.specs.Prelude.{◌==◌, ◌%◌, ◌^◌, ◌<◌, ⊤, ℕ, List, [], ◌∷◌, ◌++◌, length, map}
use Rattle.std.specs.Prelude.{if◌then◌else◌, Option, None, Some}
use Rattle.cm_types.specs.declared.core_value.CoreKind.{CoreKind}
use Rattle.cm_types.specs.declared.core_value.CoreKind.TheVariants as kind
use Rattle.cm_types.specs.declared.core_value.CoreValue.{CoreValue}
use Rattle.cm_types.specs.declared.core_value.CoreValue.TheVariants as core_value
use Rattle.cm_handles.specs.Handles.{Handles, no_handles}
use Rattle.cm_handles.specs.declared.fault.HandleFault.{HandleFault}
use Rattle.cm_handles.specs.declared.fault.HandleFault.TheVariants as handle_fault
use Rattle.cm_handles.specs.declared.handle.Handle.{Handle}
use Rattle.cm_handles.specs.declared.handle.HandleKind.{HandleKind}
use Rattle.cm_handles.specs.declared.handle.HandleKind.TheVariants.{Owned, Borrowed}
use Rattle.cm_handles.specs.declared.table.TheConstants.{MAX_HANDLES}
use Rattle.cm_abi_model.specs.Views.{View}
use Rattle.cm_abi_model.specs.declared.encoding.StringEncoding.{StringEncoding}
use Rattle.cm_abi_model.specs.declared.encoding.StringEncoding.TheVariants.{Utf8, Utf16}
use Rattle.cm_abi_model.specs.declared.encoding.StringEncoding.TheVariants.{Latin1OrUtf16}
use Rattle.huxarte_c_calls.specs.declared.handles.HuxHandle.{HuxHandle}

-- how strings are encoded, by a number
abbrev pub encoding_of : ℕ → Option StringEncoding
encoding_of n =
    if n == 0 then Some Utf8
    else (if n == 1 then Some Utf16 else (if n == 2 then Some Latin1OrUtf16 else None))

-- how they are stored
abbrev pub stored_encoding_of : ℕ → Option StringEncoding
stored_encoding_of n = if n == 0 then Some Utf8 else (if n == 1 then Some Utf16 else None)

-- a core value of a kind by a number, of which one of 32 bits takes the low half
abbrev pub core_value_of : CoreKind → ℕ → CoreValue
core_value_of kind.I32 n = core_value.I32 (n % 2 ^ 32)
core_value_of kind.I64 n = core_value.I64 n

-- core values of these kinds by these numbers
abbrev pub core_values_of : List CoreKind → List ℕ → List CoreValue
core_values_of [] numbers = []
core_values_of (k ∷ kinds) [] = []
core_values_of (k ∷ kinds) (n ∷ numbers) = core_value_of k n ∷ core_values_of kinds numbers

abbrev pub handle_kind : ℕ → ℕ → HandleKind
handle_kind owned call = if owned == 0 then Borrowed call else Owned

-- a handle
abbrev pub handle_of : HuxHandle → Handle
handle_of h = record {
  resource = record { component = h.component; number = h.number };
  serial = h.serial;
  lends = h.lends;
  rep = h.rep;
  kind = handle_kind h.owned h.call;
}

-- a table of handles, which stand under the indices from 1 on
abbrev pub handles_of : List HuxHandle → Handles
handles_of hs = record no_handles { slots = no_handles.slots ++ map (λ h. Some (handle_of h)) hs }

-- why there is no table of handles: there are too many, or there is no memory
abbrev pub IsTableFault : List HuxHandle → HandleFault → Type 0
IsTableFault hs handle_fault.Full = MAX_HANDLES < length hs
IsTableFault hs handle_fault.Memory = ⊤
IsTableFault hs _ = ⊥

-- what is seen of the giver of values: of these, which instance it is and which call tell nothing
abbrev pub giver_of : List ℕ → List HuxHandle → StringEncoding → View
giver_of memory handles encoding = record {
  memory = memory;
  table = handles_of handles;
  instance = 0;
  encoding = encoding;
  call = 0;
}
