-- The types of a component among those of an arena, laid out.
use Rattle.std.specs.Prelude.{◌≡◌, List, map}
use Rattle.cm_types.specs.Types.{Ty, FuncTy}
use Rattle.cm_layout.specs.Shapes.{layout_at}
use Rattle.cm_types_arena.specs.Places.{types_of, funcs_of}
use Rattle.cm_layout_placed.specs.Placed.{layouts_in}
use Rattle.cm_validate_canons.specs.Passing.{params_passed, result_passed}
use Rattle.cm_validate_canons.specs.declared.passing.FuncPassing.{FuncPassing}
use Rattle.cm_validate_canons.specs.declared.types.LaidTypes.{LaidTypes}

-- the types of the arena, and those of functions
abbrev pub types_in : LaidTypes → List Ty
types_in t = types_of t.arena.now

abbrev pub funcs_in : LaidTypes → List FuncTy
funcs_in t = funcs_of t.arena.now

-- the layouts are those of the arena's types
abbrev pub AreLaid : LaidTypes → Type 0
AreLaid t = layouts_in t.layouts.now ≡ map layout_at (types_in t)

-- this is what a function of a type passes
pub record Passes (p : FuncPassing) (f : FuncTy) : Type 0 where
  pub params_are : p.params ≡ params_passed f
  pub result_is : p.result ≡ result_passed f
