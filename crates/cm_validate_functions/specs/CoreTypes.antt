-- The core values that core functions take and answer (CanonicalABI.md, "Flattening" and "Canonical
-- Definitions").
use Rattle.std.specs.Prelude.{ℕ, List, [], ◌∷◌, Option, Some, None, slice_get}
use Rattle.std.specs.Option.{option_and_then, option_map, option_or}
use Rattle.cm_types.specs.declared.core_value.CoreKind.{CoreKind}
use Rattle.cm_types.specs.declared.core_value.CoreKind.TheVariants.{I32}
use Rattle.cm_types.specs.Types.{FuncTy}
use Rattle.cm_layout.specs.FlatFuncs.{flat_func}
use Rattle.cm_layout.specs.declared.flat_funcs.Side.{Side}
use Rattle.cm_layout.specs.declared.flat_funcs.Side.TheVariants as side
use Rattle.cm_validate_model.specs.Definitions.{CoreFuncDef, guest, lowered, making, dropping}
use Rattle.cm_validate_model.specs.Definitions.{reading}
use Rattle.cm_validate_model.specs.Spaces.{Spaces}
use Rattle.cm_validate_functions.specs.Lifts.{Purpose, lifting, post_return, allocating, first_use}
use Rattle.cm_validate_functions.specs.Used.{destroyed_by, lower_allocating}
use Rattle.cm_validate_functions.specs.declared.core_types.CoreFuncType.{CoreFuncType}

-- the kinds of the parameters and of the results of a core function
pub record CoreFuncTy : Type 0 where
  pub params : List CoreKind
  pub results : List CoreKind

-- what the code's is
abbrev pub core_type_of : CoreFuncType → CoreFuncTy
core_type_of t = record { params = t.params.items; results = t.results.items }

-- the one by which a function is lifted, or lowered
abbrev pub flat_type : Side → FuncTy → CoreFuncTy
flat_type s f =
    record { params = (flat_func s f).params; results = (flat_func s f).results }

-- a post-return function takes what the lifted one answered
abbrev pub post_return_type : FuncTy → CoreFuncTy
post_return_type f = record { params = (flat_func side.Lift f).results; results = [] }

-- an allocator takes an address and a size, an alignment and a new size, and answers an address
abbrev pub realloc_type : CoreFuncTy
realloc_type =
    record { params = I32 ∷ I32 ∷ I32 ∷ I32 ∷ []; results = I32 ∷ [] }

-- a handle, or a representation, comes to the other one; or it is dropped
abbrev pub handle_type : CoreFuncTy
handle_type = record { params = I32 ∷ []; results = I32 ∷ [] }

abbrev pub drop_type : CoreFuncTy
drop_type = record { params = I32 ∷ []; results = [] }

-- the type of an allocator, and of a destructor
abbrev pub helper_type : Spaces → ℕ → Option CoreFuncTy
helper_type s f =
    option_or (option_map (λ l. realloc_type) (first_use allocating s f))
    (option_or (option_map (λ d. realloc_type) (lower_allocating s f))
    (option_map (λ r. drop_type) (destroyed_by s f)))

-- the type of a guest's function, by the first use of the first kind that the component has for it;
-- none is known of one that it does not use
abbrev pub guest_type : Spaces → ℕ → Option CoreFuncTy
guest_type s f =
    option_or (option_map (λ l. flat_type side.Lift l.ty) (first_use lifting s f))
    (option_or (option_map (λ l. post_return_type l.ty) (first_use post_return s f))
    (helper_type s f))

abbrev pub type_of : Spaces → ℕ → CoreFuncDef → Option CoreFuncTy
type_of s f (guest e) = guest_type s f
type_of s f (lowered import item ty options) = Some (flat_type side.Lower ty)
type_of s f (making n) = Some handle_type
type_of s f (dropping n) = Some drop_type
type_of s f (reading n) = Some handle_type

-- the type of the core function of an index, where it is known
abbrev pub core_type : Spaces → ℕ → Option CoreFuncTy
core_type s f = option_and_then (type_of s f) (slice_get s.core_funcs f)
