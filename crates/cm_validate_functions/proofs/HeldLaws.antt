-- What holds where it is known that some proof is there.
use Rattle.std.proofs.Common.{◌≡◌, ℕ, List, Option, length}
use Rattle.std.proofs.Props.{props}
use Rattle.cm_types.specs.Types.{FuncTy}
use Rattle.cm_binary_model.specs.declared.canons.CanonOption.{CanonOption}
use Rattle.cm_validate_spaces.proofs.TySets.{Fields-set, Ty-set}
use Rattle.cm_validate_functions.specs.Lifts.{LiftDef}

func_type_set : IsSet FuncTy
func_type_set = Prim.hlevel (props, Fields-set, Ty-set)

option_set : IsSet CanonOption
option_set = Prim.hlevel props

pub lift_set : IsSet (Option LiftDef)
lift_set = Prim.hlevel (props, func_type_set, option_set)

pub number_set : IsSet (Option ℕ)
number_set = Prim.hlevel props
