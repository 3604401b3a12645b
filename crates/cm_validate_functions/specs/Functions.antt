-- The core functions of a component, as they are kept.
use Rattle.std.specs.Prelude.{ℕ, List, Option}
use Rattle.cm_types.specs.Types.{FuncTy}
use Rattle.cm_validate_model.specs.Definitions.{CoreFuncDef}
use Rattle.cm_validate_model.specs.Spaces.{Spaces}
use Rattle.cm_validate_spaces.specs.Checked.{funcs_in, spaces_in}
use Rattle.cm_validate_functions.specs.Lifts.{LiftDef, Purpose, first_use}
use Rattle.cm_validate_functions.specs.declared.functions.Functions.{Functions}

-- the index spaces of the component, and its core functions
abbrev pub spaces_of : Functions → Spaces
spaces_of f = spaces_in f.checked.now

abbrev pub core_funcs : Functions → List CoreFuncDef
core_funcs f = (spaces_of f).core_funcs

-- the types of functions of its arena
abbrev pub funcs_of : Functions → List FuncTy
funcs_of f = funcs_in f.checked.now

-- the first exported lift that uses a core function so
abbrev pub first_lift : Purpose → Functions → ℕ → Option LiftDef
first_lift p f index = first_use p (spaces_of f) index
