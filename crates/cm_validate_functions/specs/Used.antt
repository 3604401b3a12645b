-- For what a component uses a core function (CanonicalABI.md, "Canonical Definitions";
-- Explainer.md, "Type Definitions").
use Rattle.std.specs.Prelude.{ℕ, List, Option, Some, None, slice_get}
use Rattle.std.specs.List.{position_from}
use Rattle.std.specs.Option.{option_and_then, option_map, option_or}
use Rattle.cm_abi_model.specs.declared.encoding.StringEncoding.{StringEncoding}
use Rattle.cm_binary_model.specs.declared.canons.CanonOption.{CanonOption}
use Rattle.cm_validate_model.specs.Definitions.{CoreFuncDef, lowered, ResourceDef, defined}
use Rattle.cm_validate_model.specs.Definitions.{brought}
use Rattle.cm_validate_model.specs.Spaces.{Spaces}
use Rattle.cm_validate_functions.specs.Lifts.{first_use, lifting}
use Rattle.cm_validate_functions.specs.Options.{encoding_of, first_in, is_number, memory_in}
use Rattle.cm_validate_functions.specs.Options.{realloc_in}

-- the destructor of a resource, if the component defines it with one
abbrev pub destructor_in : ResourceDef → Option ℕ
destructor_in (defined destructor) = destructor
destructor_in (brought import item) = None

-- the number of the first resource whose destructor a core function is
abbrev pub destroyed_by : Spaces → ℕ → Option ℕ
destroyed_by s f = position_from (λ r. is_number f (destructor_in r)) 0 s.resources

-- the options of a lower, and the allocator that they name
abbrev pub lower_options : CoreFuncDef → Option (List CanonOption)
lower_options (lowered import item ty options) = Some options
lower_options _ = None

abbrev pub lower_allocator : CoreFuncDef → Option ℕ
lower_allocator d = option_and_then (first_in realloc_in) (lower_options d)

-- the first core function that lowers an import and has the results allocated by a core function
abbrev pub lower_allocating : Spaces → ℕ → Option ℕ
lower_allocating s f =
    position_from (λ d. is_number f (lower_allocator d)) 0 s.core_funcs

-- ---- options

-- the options with which a core function passes values: those of its lower, or of the first lift
-- that lifts it
abbrev pub options_of : Spaces → ℕ → Option (List CanonOption)
options_of s f =
    option_or (option_and_then lower_options (slice_get s.core_funcs f))
    (option_map (λ l. l.options) (first_use lifting s f))

-- the index of the memory that they name, and the encoding of strings
abbrev pub memory_of : Spaces → ℕ → Option ℕ
memory_of s f = option_and_then (first_in memory_in) (options_of s f)

abbrev pub string_encoding_of : Spaces → ℕ → Option StringEncoding
string_encoding_of s f = option_map encoding_of (options_of s f)
