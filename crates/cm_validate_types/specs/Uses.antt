-- The value types that definitions use, where the entries of a scope may have resources moved.
use Rattle.std.specs.Prelude.{ℕ, Bool, true, List, [], ◌∷◌, ◌++◌, map, Option, Some}
use Rattle.std.specs.Prelude.{is_none, option_to_list, slice_get}
use Rattle.std.specs.List.{flat_map, list_all, sum_by}
use Rattle.cm_types.specs.declared.def_types.ValType.{ValType}
use Rattle.cm_types.specs.declared.def_types.ValType.TheVariants as val_type
use Rattle.cm_types.specs.DefTypes.{DefValTypeTree, FuncTypeTree, record_of, variant_of, list_of}
use Rattle.cm_types.specs.DefTypes.{fixed_list_of, tuple_of, option_of, result_of}
use Rattle.cm_types.specs.Limits.{nodes_of}
use Rattle.cm_validate_model.specs.Definitions.{TypeDef}
use Rattle.cm_validate_types.specs.Expansion.{value_or_bool}
use Rattle.cm_validate_types.specs.declared.entries.TypeEntry.{TypeEntry}
use Rattle.cm_validate_types.specs.declared.entries.TypeEntry.TheVariants as entry

-- those that a definition of a value type uses, in order
abbrev pub uses_of : DefValTypeTree → List ValType
uses_of (record_of fs) = map (λ f. f.ty) fs
uses_of (variant_of cs) = flat_map (λ c. option_to_list c.payload) cs
uses_of (list_of t) = t ∷ []
uses_of (fixed_list_of t n) = t ∷ []
uses_of (tuple_of ts) = ts
uses_of (option_of t) = t ∷ []
uses_of (result_of ok error) = option_to_list ok ++ option_to_list error
uses_of _ = []

-- and the type of a function: its parameters, and its result
abbrev pub params_of : FuncTypeTree → List ValType
params_of f = map (λ p. p.ty) f.params

abbrev pub func_uses_of : FuncTypeTree → List ValType
func_uses_of f = params_of f ++ option_to_list f.result

-- how many nodes they have together
abbrev pub nodes_together : List TypeDef → List ValType → ℕ
nodes_together types uses = sum_by (λ u. nodes_of (value_or_bool types u)) uses

-- no resource is moved in what an index stands for, and in value types where they are used
abbrev pub is_entry_unmoved : Option TypeEntry → Bool
is_entry_unmoved (Some (entry.Value p)) = is_none p.by
is_entry_unmoved _ = true

abbrev pub is_use_unmoved : List TypeEntry → ValType → Bool
is_use_unmoved es (val_type.Primitive p) = true
is_use_unmoved es (val_type.Index i) = is_entry_unmoved (slice_get es i)

abbrev pub are_uses_unmoved : List TypeEntry → List ValType → Bool
are_uses_unmoved es uses = list_all (is_use_unmoved es) uses
