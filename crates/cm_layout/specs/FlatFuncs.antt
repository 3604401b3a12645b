-- The core signature of a function (CanonicalABI.md, "Flattening").
use Rattle.std.specs.Prelude.{List, [], ◌∷◌, ◌++◌, ℕ, length, Bool, not, nat_le, if◌then◌else◌}
use Rattle.cm_types.specs.declared.core_value.CoreKind.{CoreKind}
use Rattle.cm_types.specs.declared.core_value.CoreKind.TheVariants.{I32}
use Rattle.cm_types.specs.Types.{FuncTy}
use Rattle.cm_layout.specs.Flattening.{flat_of_fields, flat_of_payload}
use Rattle.cm_types.specs.declared.limits.TheConstants.{MAX_FLAT_PARAMS, MAX_FLAT_RESULTS}
use Rattle.cm_layout.specs.declared.flat_funcs.Side.{Side}
use Rattle.cm_layout.specs.declared.flat_funcs.Side.TheVariants.{Lift, Lower}
use Rattle.cm_layout.specs.declared.flat_funcs.FlatFunc.{FlatFunc}

-- the signature of a core function: its parameters and results, whether the parameters are passed
-- as one pointer to their tuple, and whether the result is passed in memory
pub record FlatFuncTy : Type 0 where
  pub params : List CoreKind
  pub results : List CoreKind
  pub spilled_params : Bool
  pub spilled_result : Bool

-- there are more kinds than may be passed flat
abbrev pub spills : ℕ → List CoreKind → Bool
spills most kinds = not (nat_le (length kinds) most)

-- at most MAX_FLAT_PARAMS flat parameters are passed as they are
abbrev pub passed_params : List CoreKind → List CoreKind
passed_params params = if spills MAX_FLAT_PARAMS params then I32 ∷ [] else params

-- the function that a component lifts answers a result of more than MAX_FLAT_RESULTS flat values by
-- a pointer
abbrev pub lifted_func : List CoreKind → List CoreKind → FlatFuncTy
lifted_func params results = record {
  params = passed_params params;
  results = if spills MAX_FLAT_RESULTS results then I32 ∷ [] else results;
  spilled_params = spills MAX_FLAT_PARAMS params;
  spilled_result = spills MAX_FLAT_RESULTS results;
}

-- the function that a component gets for one that it lowers takes a pointer to such a result last
abbrev pub lowered_func : List CoreKind → List CoreKind → FlatFuncTy
lowered_func params results = record {
  params =
      if spills MAX_FLAT_RESULTS results
      then passed_params params ++ I32 ∷ [] else passed_params params;
  results = if spills MAX_FLAT_RESULTS results then [] else results;
  spilled_params = spills MAX_FLAT_PARAMS params;
  spilled_result = spills MAX_FLAT_RESULTS results;
}

-- the core signature of a function
abbrev pub flat_func : Side → FuncTy → FlatFuncTy
flat_func Lift f = lifted_func (flat_of_fields f.params) (flat_of_payload f.result)
flat_func Lower f = lowered_func (flat_of_fields f.params) (flat_of_payload f.result)

-- what the code's is
abbrev pub flat_func_of : FlatFunc → FlatFuncTy
flat_func_of f =
    record {
      params = f.params.items;
      results = f.results.items;
      spilled_params = f.spilled_params;
      spilled_result = f.spilled_result;
    }
