-- What handles are called (this project's own choice).
use Rattle.std.specs.Prelude.{ℕ, ◌^◌, ◌++◌, codes, if◌then◌else◌, nat_lt, List, Option, Some, None}
use Rattle.std.specs.Prelude.{Result, Ok, Err, slice_get}
use Rattle.std.specs.Fmt.{decimal}
use Rattle.std.specs.String.{string_bytes}
use Rattle.cm_types.specs.Types.{list, fixed_list, own, borrow}
use Rattle.cm_types.specs.Values.{Vals, elements, parts, number}
use Rattle.cm_types.specs.declared.resource.ResourceId.{ResourceId}
use Rattle.cm_types_arena.specs.Placed.{moved_by}
use Rattle.cm_handles.specs.Handles.{Handles, look_up}
use Rattle.cm_handles.specs.declared.fault.HandleFault.{HandleFault}
use Rattle.cm_handles.specs.declared.handle.Handle.{Handle}
use Rattle.cm_values.specs.Spelling.{Words}
use Rattle.cm_hux_values.specs.Texts.{bytes_in, is_byte, text_words}
use Rattle.cm_hux_values.specs.declared.handles.Resource.{Resource}
use Rattle.cm_hux_values.specs.declared.naming.Naming.{Naming}

abbrev pub serial_in : Result Handle HandleFault → Option ℕ
serial_in (Ok h) = Some h.serial
serial_in (Err e) = None

-- the serial number of the handle at an index, if it is one of this resource
abbrev pub serial_at : Handles → Option ResourceId → ℕ → Option ℕ
serial_at t None n = None
serial_at t (Some r) n = if nat_lt n (2 ^ 32) then serial_in (look_up t n r) else None

abbrev pub serial_text : Option ℕ → List ℕ
serial_text None = codes "#?"
serial_text (Some n) = codes "#" ++ decimal n

-- the name of a resource, and the serial number of its handle at an index
abbrev pub handle_text : Option Resource → Handles → ℕ → List ℕ
handle_text None t n = codes "resource#?"
handle_text (Some r) t n = string_bytes r.name ++ serial_text (serial_at t r.origin n)

abbrev pub called_by : Naming → ResourceId → ℕ → List ℕ
called_by names r n =
    handle_text (slice_get names.resources.now (moved_by names.by r).number)
    names.table.now.handles n

-- Handles have names, and lists of bytes that are texts have these in quotes.
abbrev pub words_of : Naming → Words
words_of names (own r) (number n) = Some (called_by names r n)
words_of names (borrow r) (number n) = Some (called_by names r n)
words_of names (list t) (elements vs) = if is_byte t then text_words (bytes_in vs) else None
words_of names (fixed_list t k) (parts vs) = if is_byte t then text_words (bytes_in vs) else None
words_of names t v = None
