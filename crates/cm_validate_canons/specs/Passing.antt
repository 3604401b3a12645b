-- What the type of a function passes: what decides which options a lift or a lower needs
-- (CanonicalABI.md, "Canonical Definitions" and "Flattening").
use Rattle.std.specs.Prelude.{ℕ, ◌+◌, List, [], ◌∷◌}
use Rattle.cm_types.specs.Holds.{is_string}
use Rattle.cm_types.specs.Types.{FuncTy}
use Rattle.cm_layout.specs.Shapes.{LayoutTy}
use Rattle.cm_layout.specs.FlatFuncs.{flat_func}
use Rattle.cm_layout.specs.declared.flat_funcs.Side.TheVariants as side
use Rattle.cm_layout_placed.specs.Placed.{at_place}
use Rattle.cm_validate_model.specs.Options.{is_pointer, params_hold, result_holds}
use Rattle.cm_validate_canons.specs.declared.passing.Passed.{Passed}

-- how the parameters of a function are passed: whether they hold a string or a pointer, and whether
-- they are spilled
abbrev pub params_passed : FuncTy → Passed
params_passed f =
    record {
      holds_string = params_hold is_string f;
      holds_pointer = params_hold is_pointer f;
      is_spilled = (flat_func side.Lift f).spilled_params;
    }

-- how the result of a function is passed: whether it holds a string or a pointer, and whether it is
-- spilled
abbrev pub result_passed : FuncTy → Passed
result_passed f =
    record {
      holds_string = result_holds is_string f;
      holds_pointer = result_holds is_pointer f;
      is_spilled = (flat_func side.Lift f).spilled_result;
    }

-- how many core values pass what has the layouts at these places, one after another
abbrev pub widths_at : List LayoutTy → List ℕ → ℕ
widths_at layouts [] = 0
widths_at layouts (p ∷ ps) = (at_place layouts p).head.width + widths_at layouts ps
