use Rattle.cm_types_arena.specs.Placed.{placed_func}
use Rattle.cm_validate_canons.specs.Types.{funcs_in}
use Rattle.cm_validate_canons.proofs.lowers.type_fault.Goals as goal

pub returns : goal.returns
returns c =
    c.lower_type_fault.ensures (placed_func (funcs_in c.args.types.now) c.args.ty) (record { params_are = c.of.ensures.params; result_is = c.of.ensures.answer })
