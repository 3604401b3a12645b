-- The values of leaves and of handles, and what a pointer leads to (CanonicalABI.md, "Loading").
use Rattle.std.specs.Prelude.{ℕ, ◌+◌, ◌-◌, ◌%◌, ◌^◌, ◌==◌, not, nat_lt}
use Rattle.std.specs.Prelude.{if◌then◌else◌, List, [], ◌∷◌, ◌++◌, length, Result, Ok, Err, ⊤}
use Rattle.cm_types.specs.Values.{Val, truth, signed_number, number, scalar, flag_set, handle}
use Rattle.cm_types.specs.declared.resource.ResourceId.{ResourceId}
use Rattle.cm_types.specs.TypedValues.{is_scalar_value}
use Rattle.cm_handles.specs.Handles.{Handles, is_borrow, look_up}
use Rattle.cm_handles.specs.declared.handle.Handle.{Handle}
use Rattle.cm_handles.specs.declared.fault.HandleFault.{HandleFault}
use Rattle.cm_handles.specs.declared.fault.HandleFault.TheVariants as handle_fault
use Rattle.cm_layout.specs.declared.layouts.Leaf.{Leaf}
use Rattle.cm_layout.specs.declared.layouts.Leaf.TheVariants as leaf
use Rattle.cm_layout.specs.declared.layouts.HandleType.{HandleType}
use Rattle.cm_layout.specs.declared.layouts.HandleType.TheVariants as handle_type
use Rattle.cm_abi_model.specs.declared.fault.AbiFault.TheVariants as fault
use Rattle.cm_abi_model.specs.Numbers.{as_signed}
use Rattle.cm_abi_load.specs.Outcomes.{Outcome, State}

-- the value of a leaf from its number
abbrev pub leaf_value : Leaf → ℕ → State → Outcome Val
leaf_value leaf.Bool n s = Ok (truth (not (n == 0)), s)
leaf_value (leaf.Signed w) n s = Ok (signed_number (as_signed w n), s)
leaf_value (leaf.Unsigned w) n s = Ok (number n, s)
leaf_value leaf.Char n s = if is_scalar_value n then Ok (scalar n, s) else Err (fault.BadChar, s)
leaf_value (leaf.Flags labels w) n s = Ok (flag_set (n % 2 ^ labels), s)

-- so many bytes at a pointer: it is aligned, else in bounds, else there is room for the content
unfoldable pub region : List ℕ → ℕ → ℕ → ℕ → State → Outcome ⊤
region memory align at size s =
    if not (at % align == 0) then Err (fault.Misaligned, s)
    else (if nat_lt (length memory) (at + size) then Err (fault.PointerBounds, s)
    else (if nat_lt s.left size then Err (fault.TooLarge, s)
    else Ok (tt, record s { left = s.left - size })))

-- why a look-up found no handle
abbrev pub handle_value_fault : HandleFault → State → Outcome Val
handle_value_fault handle_fault.WrongResource s = Err (fault.WrongResource, s)
handle_value_fault _ s = Err (fault.NoHandle, s)

-- a handle as a value
abbrev pub value_of_handle : Handle → Val
value_of_handle h =
    handle (record { serial = h.serial; rep = h.rep; resource = h.resource })

-- the value of a handle that a look-up found, which is to be owned or may be borrowed
abbrev pub handle_value : HandleType → Result Handle HandleFault → State → Outcome Val
handle_value t (Err e) s = handle_value_fault e s
handle_value (handle_type.Own r) (Ok h) s =
    if is_borrow h.kind then Err (fault.NotOwned, s) else Ok (value_of_handle h, s)
handle_value (handle_type.Borrow r) (Ok h) s = Ok (value_of_handle h, s)

-- the resource of a handle
abbrev pub resource_of : HandleType → ResourceId
resource_of (handle_type.Own r) = r
resource_of (handle_type.Borrow r) = r

-- the reader has met one more handle
abbrev pub after_meeting : State → HandleType → ℕ → State
after_meeting s t index =
    record s { handles = s.handles ++ (record { index = index; wanted = t }) ∷ [] }

-- the handle of an index
unfoldable pub read_handle : Handles → HandleType → ℕ → State → Outcome Val
read_handle table t index s =
    handle_value t (look_up table index (resource_of t)) (after_meeting s t index)
