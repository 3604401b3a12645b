-- What the core functions of a linked set come to (Explainer.md, "Canonical Definitions"; how
-- components are linked is this project's own choice).
use Rattle.std.specs.Prelude.{◌≡◌, ℕ, true, List, [], ◌∷◌, length, Option, Some, None, is_some}
use Rattle.std.specs.Prelude.{slice_get, unwrap_or}
use Rattle.std.specs.Option.{option_and_then, option_map, option_or}
use Rattle.cm_types.specs.declared.resource.ResourceId.{ResourceId}
use Rattle.cm_types.specs.Types.{FuncTy}
use Rattle.cm_types_arena.specs.Replaced.{replaced_func}
use Rattle.cm_binary_model.specs.declared.canons.CanonOption.{CanonOption}
use Rattle.cm_binary_model.specs.declared.canons.CanonOption.TheVariants as option
use Rattle.cm_abi_model.specs.declared.encoding.StringEncoding.{StringEncoding}
use Rattle.cm_abi_model.specs.declared.encoding.StringEncoding.TheVariants as encoding
use Rattle.cm_validate_model.specs.Definitions.{CoreFuncDef, guest, lowered, making, dropping}
use Rattle.cm_validate_model.specs.Definitions.{reading, ResourceDef, defined, brought}
use Rattle.cm_match_model.specs.Imports.{LinkSet, links_of}
use Rattle.cm_match_model.specs.Origins.{definition_of, origin_of, resource_of}
use Rattle.cm_match_model.specs.Serving.{standing}
use Rattle.cm_match_model.specs.Targets.{Target, targets_of}
use Rattle.cm_machine_model.specs.Plan as plan
use Rattle.cm_machine_model.specs.Plan.{CoreFunc, Link, Plan, Side, core_func_at}

-- ---- options

-- what the first option of a kind says, if there is one
abbrev pub first_in : {A : Type 0} → (CanonOption → Option A) → List CanonOption → Option A
first_in said [] = None
first_in said (o ∷ os) = option_or (said o) (first_in said os)

abbrev pub encoding_in : CanonOption → Option StringEncoding
encoding_in option.Utf8 = Some encoding.Utf8
encoding_in option.Utf16 = Some encoding.Utf16
encoding_in option.Latin1Utf16 = Some encoding.Latin1OrUtf16
encoding_in _ = None

abbrev pub realloc_in : CanonOption → Option ℕ
realloc_in (option.Realloc f) = Some f
realloc_in _ = None

abbrev pub post_return_in : CanonOption → Option ℕ
post_return_in (option.PostReturn f) = Some f
post_return_in _ = None

-- strings are in UTF-8 where no option says more (CanonicalABI.md, "Canonical Definitions")
abbrev pub encoding_of : List CanonOption → StringEncoding
encoding_of os = unwrap_or (first_in encoding_in os) encoding.Utf8

-- how the side of a lift or of a lower with these options passes values
abbrev pub side_of : List CanonOption → Side
side_of os = record { encoding = encoding_of os; realloc = first_in realloc_in os }

-- ---- core functions

-- the link of a function that is lowered with these options, and comes to this lift
abbrev pub link_to : LinkSet → List CanonOption → Target → Link
link_to set os t =
    record {
      type = replaced_func (standing set t.component) t.ty;
      caller = side_of os;
      instance = t.component;
      func = t.core_func;
      callee = side_of t.options;
      post_return = first_in post_return_in t.options;
    }

-- what the resource of this number of a component is in the end
abbrev pub origin_in : LinkSet → ℕ → ℕ → Option ResourceId
origin_in set c n = origin_of set.spaces (links_of set) (resource_of c n)

-- the destructor of a resource, if its component defines it with one
abbrev pub destructor_in : ResourceDef → Option ℕ
destructor_in (defined d) = d
destructor_in (brought import item) = None

abbrev pub destructor_of : LinkSet → ResourceId → Option ℕ
destructor_of set r = option_and_then destructor_in (definition_of set.spaces r)

-- what a core function of a component of the set stands for
abbrev pub core_func_of : LinkSet → ℕ → CoreFuncDef → Option CoreFunc
core_func_of set c (guest e) = Some plan.guest
core_func_of set c (lowered import item ty os) =
    option_map (λ t. plan.lowered (link_to set os t))
    (targets_of set.spaces (links_of set) c import item)
core_func_of set c (making n) = option_map plan.makes (origin_in set c n)
core_func_of set c (dropping n) =
    option_map (λ r. plan.drops r (destructor_of set r)) (origin_in set c n)
core_func_of set c (reading n) = option_map plan.represents (origin_in set c n)

-- the core function of this index of a component
abbrev pub core_def_in : LinkSet → ℕ → ℕ → Option CoreFuncDef
core_def_in set c f = option_and_then (λ s. slice_get s.core_funcs f) (slice_get set.spaces c)

-- The plan of a set has an instance for each component; each core function of it stands for
-- something, and the plan has no others.
pub record IsPlanOf (set : LinkSet) (p : Plan) : Type 0 where
  pub instances : length p ≡ length set.spaces
  pub core_funcs : (c f : ℕ)
      → core_func_at p c f ≡ option_and_then (core_func_of set c) (core_def_in set c f)
  pub each : (c f : ℕ) (d : CoreFuncDef) → core_def_in set c f ≡ Some d
      → is_some (core_func_of set c d) ≡ true

-- Both sides of each link have one type: the type of a function that a component lowers, and that
-- of the lift that it comes to, each resource what it is in the end.
abbrev pub HaveOneType : LinkSet → Type 0
HaveOneType set =
    (c f import : ℕ) (item : Option ℕ) (ty : FuncTy) (os : List CanonOption) (t : Target)
    → core_def_in set c f ≡ Some (lowered import item ty os)
    → targets_of set.spaces (links_of set) c import item ≡ Some t
    → ∥ replaced_func (standing set c) ty ≡ (link_to set os t).type ∥₁
