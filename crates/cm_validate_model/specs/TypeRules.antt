-- The rules that a definition of a type violates (Explainer.md, "Type Definitions"; the limits and
-- the numbers of the reasons are this project's own choice).
use Rattle.std.specs.Prelude.{Bool, true, false, not, ◌&&◌, nat_le, nat_lt, List, [], ◌∷◌, ◌++◌}
use Rattle.std.specs.Prelude.{ℕ, length, map, Option, Some, None}
use Rattle.std.specs.List.{flat_map, list_any}
use Rattle.cm_types.specs.declared.def_types.ValType.{ValType}
use Rattle.cm_types.specs.declared.def_types.ValType.TheVariants as val_type
use Rattle.cm_types.specs.declared.limits.TheConstants.{MAX_NODES, MAX_DEPTH}
use Rattle.cm_types.specs.declared.spellable.TheConstants.{MAX_FLAGS}
use Rattle.cm_types.specs.DefTypes.{DefValTypeTree, FuncTypeTree, primitive, record_of, variant_of}
use Rattle.cm_types.specs.DefTypes.{list_of, fixed_list_of, tuple_of, flags_of, enum_of, option_of}
use Rattle.cm_types.specs.DefTypes.{result_of, own_of, borrow_of}
use Rattle.cm_types.specs.Holds.{holds, is_borrow}
use Rattle.cm_types.specs.Limits.{nodes_of, depth_of}
use Rattle.cm_types.specs.Names.{is_same_name}
use Rattle.cm_types.specs.Types.{Ty, FuncTy, fields, tuple_type}
use Rattle.cm_validate_model.specs.declared.fault.ValidReason.{ValidReason}
use Rattle.cm_validate_model.specs.declared.fault.ValidReason.TheVariants as reason
use Rattle.cm_validate_model.specs.Definitions.{TypeDef, sorts_of}
use Rattle.cm_validate_model.specs.declared.sorts.TypeSort.{TypeSort}
use Rattle.cm_validate_model.specs.declared.sorts.TypeSort.TheVariants as sort
use Rattle.cm_validate_model.specs.Reasons.{unless, if_found, index_broken}
use Rattle.cm_validate_model.specs.Scopes.{value_defined, func_defined}

-- ---- the sorts of types

-- whether a type is of this sort
abbrev pub has_sort : TypeSort → TypeSort → Bool
has_sort sort.Value sort.Value = true
has_sort sort.Func sort.Func = true
has_sort sort.Resource sort.Resource = true
has_sort sort.Instance sort.Instance = true
has_sort sort.Faulty sort.Faulty = true
has_sort _ _ = false

-- a type equality and an inline export name a value type or a resource
abbrev pub is_value_or_resource : TypeSort → Bool
is_value_or_resource sort.Value = true
is_value_or_resource sort.Resource = true
is_value_or_resource _ = false

-- ---- words

-- no two of these names are the same, ASCII case aside
abbrev pub are_distinct_names : List (List ℕ) → Bool
are_distinct_names [] = true
are_distinct_names (x ∷ xs) = not (list_any (is_same_name x) xs) && are_distinct_names xs

abbrev pub is_not_empty : {A : Type 0} → List A → Bool
is_not_empty xs = nat_lt 0 (length xs)

-- an expanded type has MAX_NODES nodes at most, and is MAX_DEPTH deep at most
abbrev pub is_within_limits : Ty → Bool
is_within_limits t = nat_le (nodes_of t) MAX_NODES && nat_le (depth_of t) MAX_DEPTH

-- ---- value types

-- a value type where it is used: an index names a value type
abbrev pub value_broken : List TypeSort → ValType → List ValidReason
value_broken sorts (val_type.Primitive p) = []
value_broken sorts (val_type.Index i) = index_broken (has_sort sort.Value) sorts i

abbrev pub payload_broken : List TypeSort → Option ValType → List ValidReason
payload_broken sorts None = []
payload_broken sorts (Some t) = value_broken sorts t

-- the labels of one type or parameter list
abbrev pub labels_broken : List (List ℕ) → List ValidReason
labels_broken labels = unless (are_distinct_names labels) reason.DuplicateName

-- what has fields, cases or labels has one of them or more
abbrev pub emptiness_broken : {A : Type 0} → List A → List ValidReason
emptiness_broken xs = unless (is_not_empty xs) reason.EmptyType

-- the parts of a definition, after types of these sorts
abbrev pub parts_broken : List TypeSort → DefValTypeTree → List ValidReason
parts_broken sorts (primitive p) = []
parts_broken sorts (record_of fs) =
    flat_map (λ f. value_broken sorts f.ty) fs
    ++ emptiness_broken fs
    ++ labels_broken (map (λ f. f.label) fs)
parts_broken sorts (variant_of cs) =
    flat_map (λ c. payload_broken sorts c.payload) cs
    ++ emptiness_broken cs
    ++ labels_broken (map (λ c. c.label) cs)
parts_broken sorts (list_of t) = value_broken sorts t
parts_broken sorts (fixed_list_of t n) =
    value_broken sorts t ++ unless (nat_lt 0 n) reason.EmptyType
parts_broken sorts (tuple_of ts) = flat_map (value_broken sorts) ts ++ emptiness_broken ts
parts_broken sorts (flags_of ls) =
    emptiness_broken ls
    ++ unless (nat_le (length ls) MAX_FLAGS) reason.TooManyFlags
    ++ labels_broken ls
parts_broken sorts (enum_of ls) = emptiness_broken ls ++ labels_broken ls
parts_broken sorts (option_of t) = value_broken sorts t
parts_broken sorts (result_of ok error) = payload_broken sorts ok ++ payload_broken sorts error
parts_broken sorts (own_of i) = index_broken (has_sort sort.Resource) sorts i
parts_broken sorts (borrow_of i) = index_broken (has_sort sort.Resource) sorts i

abbrev pub limits_broken : Ty → List ValidReason
limits_broken t = unless (is_within_limits t) reason.TooLarge

-- a definition of a value type
abbrev pub value_def_broken : List TypeDef → DefValTypeTree → List ValidReason
value_def_broken types v =
    parts_broken (sorts_of types) v ++ if_found limits_broken (value_defined types v)

-- ---- functions

abbrev pub no_borrow_broken : Ty → List ValidReason
no_borrow_broken t = unless (not (holds is_borrow t)) reason.BorrowInResult

-- the type of a function, expanded: its result holds no borrow, and its result and its parameters,
-- as a tuple, are within the limits
abbrev pub func_ty_broken : FuncTy → List ValidReason
func_ty_broken f =
    limits_broken (fields tuple_type f.params)
    ++ if_found (λ t. no_borrow_broken t ++ limits_broken t) f.result

-- the types that a function uses, after types of these sorts, and the labels of its parameters
abbrev pub uses_broken : List TypeSort → FuncTypeTree → List ValidReason
uses_broken sorts f =
    flat_map (λ p. value_broken sorts p.ty) f.params ++ payload_broken sorts f.result

abbrev pub params_broken : FuncTypeTree → List ValidReason
params_broken f = labels_broken (map (λ p. p.label) f.params)

-- a definition of the type of a function
abbrev pub func_def_broken : List TypeDef → FuncTypeTree → List ValidReason
func_def_broken types f =
    uses_broken (sorts_of types) f
    ++ params_broken f
    ++ if_found func_ty_broken (func_defined types f)
