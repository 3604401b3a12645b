-- What is made of the types and the core functions of a set, one for one.
use Rattle.std.specs.Prelude.{◌≡◌, ⊤, ℕ, ◌+◌, true, List, [], ◌∷◌, Option, Some, None, is_some}
use Rattle.std.specs.Prelude.{take}
use Rattle.std.specs.List.{AllByRecursion}
use Rattle.std.specs.Option.{option_map}
use Rattle.std.specs.declared.alloc.Global.{Global}
use Rattle.std.specs.declared.sync.Arc.{Arc}
use Rattle.cm_types.specs.Spellable.{are_spellable, is_spellable_payload}
use Rattle.cm_types.specs.Types.{Fields, FuncTy, Ty}
use Rattle.cm_types.specs.declared.core_value.CoreKind.{CoreKind}
use Rattle.cm_types.specs.declared.limits.TheConstants.{MAX_FLAT_PARAMS, MAX_FLAT_RESULTS}
use Rattle.cm_layout.specs.Flattening.{flat_of_fields, flat_of_payload}
use Rattle.cm_layout_placed.specs.Placed.{result_fields}
use Rattle.cm_types_arena.specs.Summaries.{summary_of}
use Rattle.cm_types_arena.specs.TypeDefs.{params_type}
use Rattle.cm_types_arena.specs.Replaced.{Standing, replaced, replaced_fields}
use Rattle.cm_abi_model.specs.Requests.{is_spilled}
use Rattle.cm_abi_model.specs.Views.{Way, params, results}
use Rattle.cm_validate_model.specs.Definitions.{CoreFuncDef}
use Rattle.cm_validate_model.specs.Spaces.{Spaces}
use Rattle.cm_validate_spaces.specs.Checked.{funcs_in}
use Rattle.cm_validate_spaces.specs.declared.checked.Checked.{Checked}
use Rattle.cm_match_model.specs.Imports.{LinkSet}
use Rattle.cm_match_model.specs.Serving.{standing}
use Rattle.cm_machine_model.specs.Plan as plan
use Rattle.cm_machine_model.specs.Plan.{one_field}
use Rattle.cm_machine_links.specs.Planned.{IsCoreFuncOf}
use Rattle.cm_machine_parts.specs.Links.{ArePassed}
use Rattle.cm_machine_links.specs.Planning.{core_func_of}
use Rattle.cm_machine_links.specs.declared.core_funcs.CoreFunc.{CoreFunc}
use Rattle.cm_machine_parts.specs.declared.link.CallTypes.{CallTypes}

-- ---- types of functions

-- the types that a function passes that way, as fields
abbrev pub passed_fields : FuncTy → Way → Fields
passed_fields f params = f.params
passed_fields f results = result_fields f.result

-- the kinds of the first core values that pass them flat, as many as may pass parameters
abbrev pub first_flat : FuncTy → Way → List CoreKind
first_flat f params = take MAX_FLAT_PARAMS (flat_of_fields f.params)
first_flat f results = take MAX_FLAT_PARAMS (flat_of_payload f.result)

-- how many nodes their types have
abbrev pub result_nodes : Option Ty → ℕ
result_nodes None = 0
result_nodes (Some t) = (summary_of t).nodes

abbrev pub passed_nodes : FuncTy → Way → ℕ
passed_nodes f params = (summary_of (params_type f)).nodes
passed_nodes f results = result_nodes f.result

-- how many core values at most pass them flat (CanonicalABI.md, "Flattening")
abbrev pub most_flat : Way → ℕ
most_flat params = MAX_FLAT_PARAMS
most_flat results = MAX_FLAT_RESULTS

-- what a function passes, its resources replaced, and whether its result goes by memory
pub record IsCallTypes (s : Standing) (f : FuncTy) (t : CallTypes) : Type 0 where
  pub params_are : ArePassed params (replaced_fields s f.params) t.params
  pub results_are : ArePassed results (one_field (option_map (replaced s) f.result)) t.results
  pub pointer_is : t.has_pointer ≡ is_spilled results (one_field (option_map (replaced s) f.result))

-- a file can spell the types in it
abbrev pub IsSpelled : FuncTy → Type 0
IsSpelled f = (are_spellable f.params ≡ true) × (is_spellable_payload f.result ≡ true)

-- those of an arena, each at its place
abbrev pub AreCallTypes : Standing → List FuncTy → List (Arc CallTypes Global) → Type 0
AreCallTypes s [] [] = ⊤
AreCallTypes s (f ∷ fs) (t ∷ ts) = IsCallTypes s f t.value × IsSpelled f × AreCallTypes s fs ts
AreCallTypes s fs ts = ⊥

-- those of components, numbered from here on
abbrev pub AreTypesOf : LinkSet → ℕ → List Checked → List (List (Arc CallTypes Global)) → Type 0
AreTypesOf set c [] [] = ⊤
AreTypesOf set c (x ∷ xs) (ts ∷ rows) =
    AreCallTypes (standing set c) (funcs_in x) ts × AreTypesOf set (c + 1) xs rows
AreTypesOf set c xs rows = ⊥

-- ---- core functions

abbrev pub IsCoreSpelled : plan.CoreFunc → Type 0
IsCoreSpelled (plan.lowered l) = IsSpelled l.type
IsCoreSpelled c = ⊤

-- each core function of these components, numbered from here on, stands for something
abbrev pub EachStands : LinkSet → ℕ → List Spaces → Type 0
EachStands set c [] = ⊤
EachStands set c (s ∷ ss) =
    AllByRecursion (λ d. is_some (core_func_of set c d) ≡ true) s.core_funcs
    × EachStands set (c + 1) ss

-- what is made stands for what a core function does
abbrev pub Stands : LinkSet → ℕ → CoreFuncDef → CoreFunc → Type 0
Stands set c d f =
    (p : plan.CoreFunc) → core_func_of set c d ≡ Some p → IsCoreFuncOf p f × IsCoreSpelled p

abbrev pub AllStand : LinkSet → ℕ → List CoreFuncDef → List CoreFunc → Type 0
AllStand set c [] [] = ⊤
AllStand set c (d ∷ ds) (f ∷ fs) = Stands set c d f × AllStand set c ds fs
AllStand set c ds fs = ⊥

-- those of components, numbered from here on
abbrev pub RowsStand : LinkSet → ℕ → List Spaces → List (List CoreFunc) → Type 0
RowsStand set c [] [] = ⊤
RowsStand set c (s ∷ ss) (fs ∷ rows) =
    AllStand set c s.core_funcs fs × RowsStand set (c + 1) ss rows
RowsStand set c ss rows = ⊥
