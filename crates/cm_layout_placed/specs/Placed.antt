-- Layouts and core kinds by the places of types.
use Rattle.std.specs.Prelude.{◌≡◌, ℕ, ◌<◌, ⊤, List, [], ◌∷◌, ◌++◌, map, length, slice_index_or}
use Rattle.std.specs.Prelude.{Option, Some, None, codes, take}
use Rattle.cm_types.specs.declared.core_value.CoreKind.{CoreKind}
use Rattle.cm_types.specs.declared.limits.TheConstants.{MAX_FLAT_PARAMS}
use Rattle.cm_types.specs.Types.{Ty, Fields, Cases, bool, no_fields}
use Rattle.cm_types.specs.Types.{field, plain, carrying, no_cases}
use Rattle.cm_types.specs.TypeTrees.{case_before}
use Rattle.cm_layout.specs.Flattening.{flat_of}
use Rattle.cm_layout.specs.Layouts.{layout_of}
use Rattle.cm_layout.specs.Shapes.{LayoutTy, layout_at}
use Rattle.cm_types_arena.specs.TypeDefs.{type_at}
use Rattle.cm_types_arena.specs.Replaced.{Standing, replaced}
use Rattle.cm_layout_placed.specs.declared.kinds.Kinds.{Kinds}
use Rattle.cm_layout_placed.specs.declared.layouts.Layouts.{Layouts}

-- the layouts, by place
abbrev pub layouts_in : Layouts → List LayoutTy
layouts_in ls = map layout_of ls.by_place.items

-- the layout at a place
abbrev pub at_place : List LayoutTy → ℕ → LayoutTy
at_place ls place = slice_index_or ls place (layout_at bool)

-- the layouts are those of the first of these types, in order
abbrev pub AreOfFirst : List LayoutTy → List Ty → Type 0
AreOfFirst ls types = (more : List LayoutTy) × (map layout_at types ≡ ls ++ more)

-- at these places stand the layouts of these types, in order
abbrev pub AreOf : List LayoutTy → List ℕ → List Ty → Type 0
AreOf ls [] [] = ⊤
AreOf ls [] (t ∷ ts) = ⊥
AreOf ls (p ∷ ps) [] = ⊥
AreOf ls (p ∷ ps) (t ∷ ts) = (p < length ls) × (at_place ls p ≡ layout_at t) × AreOf ls ps ts

-- what a case carries, if anything, is the type of this number
abbrev pub IsNth : List Ty → ℕ → Option Ty → Type 0
IsNth ts n None = ⊤
IsNth ts n (Some t) = (n < length ts) × (type_at ts n ≡ t)

-- the cases of an option, and those of a result
abbrev pub option_cases : Ty → Cases
option_cases t = plain (codes "none") (carrying (codes "some") t no_cases)

abbrev pub result_cases : Option Ty → Option Ty → Cases
result_cases ok error =
    case_before (codes "ok") ok (case_before (codes "error") error no_cases)

-- types with each resource in them replaced
abbrev pub types_by : Standing → List Ty → List Ty
types_by s types = map (replaced s) types

-- a result, if there is one, as fields
abbrev pub result_fields : Option Ty → Fields
result_fields None = no_fields
result_fields (Some t) = field [] t no_fields

-- of the core values that pass a type the kinds of the first, as many as may pass parameters
abbrev pub first_kinds : Ty → List CoreKind
first_kinds t = take MAX_FLAT_PARAMS (flat_of t)

-- those by place
abbrev pub kinds_in : Kinds → List (List CoreKind)
kinds_in ks = map (λ v. v.items) ks.by_place.items
