-- Canonical options (Explainer.md, "Canonical Definitions"; CanonicalABI.md, "Canonical
-- Definitions"): which a lift or a lower needs, and which it may have.
use Rattle.std.specs.Prelude.{Bool, true, false, not, ◌&&◌, ◌||◌, ◌==◌, ℕ, nat_le, List, []}
use Rattle.std.specs.Prelude.{◌++◌, length, filter, Option, slice_get}
use Rattle.std.specs.List.{flat_map, list_any}
use Rattle.std.specs.Option.{option_map_or}
use Rattle.std.specs.Str.{bytes_eq}
use Rattle.cm_types.specs.Types.{Ty, FuncTy}
use Rattle.cm_types.specs.Holds.{holds, fields_hold, is_string, is_list}
use Rattle.cm_layout.specs.FlatFuncs.{flat_func}
use Rattle.cm_layout.specs.declared.flat_funcs.Side.TheVariants as side
use Rattle.cm_binary_model.specs.declared.canons.CanonOption.{CanonOption}
use Rattle.cm_binary_model.specs.declared.canons.CanonOption.TheVariants as option
use Rattle.cm_validate_model.specs.declared.fault.ValidReason.{ValidReason}
use Rattle.cm_validate_model.specs.declared.fault.ValidReason.TheVariants as reason
use Rattle.cm_validate_model.specs.Definitions.{CoreExport, CoreFuncDef, guest}
use Rattle.cm_validate_model.specs.Reasons.{unless, found}
use Rattle.cm_validate_model.specs.Spaces.{Spaces}

-- ---- kinds of options

-- all encodings are one kind
abbrev pub is_encoding : CanonOption → Bool
is_encoding option.Utf8 = true
is_encoding option.Utf16 = true
is_encoding option.Latin1Utf16 = true
is_encoding _ = false

abbrev pub is_latin1 : CanonOption → Bool
is_latin1 option.Latin1Utf16 = true
is_latin1 _ = false

abbrev pub is_memory : CanonOption → Bool
is_memory (option.Memory i) = true
is_memory _ = false

abbrev pub is_realloc : CanonOption → Bool
is_realloc (option.Realloc i) = true
is_realloc _ = false

abbrev pub is_post_return : CanonOption → Bool
is_post_return (option.PostReturn i) = true
is_post_return _ = false

-- one option of a kind at most
abbrev pub is_once : (CanonOption → Bool) → List CanonOption → Bool
is_once kind options = nat_le (length (filter kind options)) 1

abbrev pub are_once : List CanonOption → Bool
are_once options =
    is_once is_encoding options && is_once is_memory options && is_once is_realloc options
    && is_once is_post_return options

-- ---- what an option names

-- a core function has to be a guest's
abbrev pub is_guest : CoreFuncDef → Bool
is_guest (guest e) = true
is_guest _ = false

abbrev pub guest_broken : List CoreFuncDef → ℕ → List ValidReason
guest_broken core_funcs i =
    found (λ f. unless (is_guest f) reason.NotGuestFunction) (slice_get core_funcs i)

-- the same export of the same core instance
abbrev pub is_same_export : CoreExport → CoreExport → Bool
is_same_export a b = (a.instance == b.instance) && bytes_eq a.name b.name

-- a memory is the first that the component's options name
abbrev pub is_only_memory : Option CoreExport → CoreExport → Bool
is_only_memory first e = option_map_or (is_same_export e) first true

abbrev pub memory_broken : Spaces → ℕ → List ValidReason
memory_broken s i =
    found (λ e. unless (is_only_memory s.memory e) reason.SecondMemory) (slice_get s.memories i)

abbrev pub option_broken : Spaces → CanonOption → List ValidReason
option_broken s (option.Memory i) = memory_broken s i
option_broken s (option.Realloc i) = guest_broken s.core_funcs i
option_broken s (option.PostReturn i) = guest_broken s.core_funcs i
option_broken s _ = []

-- the rules that the options of a lift, or of a lower, violate whatever its type is
abbrev pub options_broken : Spaces → List CanonOption → List ValidReason
options_broken s options =
    flat_map (option_broken s) options ++ unless (are_once options) reason.OptionTwice

-- a lower has no function that is called when its result was read
abbrev pub no_post_return_broken : List CanonOption → List ValidReason
no_post_return_broken options =
    unless (not (list_any is_post_return options)) reason.OptionNotAllowed

-- ---- what a function's type needs

-- a string or a list, whose contents stand behind a pointer
abbrev pub is_pointer : Ty → Bool
is_pointer t = is_string t || is_list t

abbrev pub params_hold : (Ty → Bool) → FuncTy → Bool
params_hold test f = fields_hold test f.params

abbrev pub result_holds : (Ty → Bool) → FuncTy → Bool
result_holds test f = option_map_or (holds test) f.result false

-- values stand in memory: behind a pointer, or because there are too many core values of them
abbrev pub params_need_memory : FuncTy → Bool
params_need_memory f = params_hold is_pointer f || (flat_func side.Lift f).spilled_params

abbrev pub needs_memory : FuncTy → Bool
needs_memory f =
    params_need_memory f || result_holds is_pointer f || (flat_func side.Lift f).spilled_result

-- an allocator needs memory too
abbrev pub memory_use_broken : FuncTy → List CanonOption → List ValidReason
memory_use_broken f options =
    unless
    (list_any is_memory options || not (needs_memory f || list_any is_realloc options))
    reason.NeedsMemory

-- the guest that gets values in memory has an allocator: of the parameters the one that lifts, of
-- the result the one that lowers, where it holds a pointer (room for a result itself is given with
-- the call)
abbrev pub realloc_broken : Bool → List CanonOption → List ValidReason
realloc_broken needed options =
    unless (list_any is_realloc options || not needed) reason.NeedsRealloc

-- no string is stored in an encoding that is read alone
abbrev pub latin1_broken : Bool → List CanonOption → List ValidReason
latin1_broken stores options =
    unless (not (stores && list_any is_latin1 options)) reason.StoresLatin1

-- the rules that the type of a lift violates with these options, and that of a lower
abbrev pub lift_type_broken : List CanonOption → FuncTy → List ValidReason
lift_type_broken options f =
    memory_use_broken f options
    ++ realloc_broken (params_need_memory f) options
    ++ latin1_broken (params_hold is_string f) options

abbrev pub lower_type_broken : List CanonOption → FuncTy → List ValidReason
lower_type_broken options f =
    memory_use_broken f options
    ++ realloc_broken (result_holds is_pointer f) options
    ++ latin1_broken (result_holds is_string f) options
