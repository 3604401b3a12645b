use Rattle.cm_validate_spaces.specs.IndexSpaces.{funcs_in, types_in}
use Rattle.cm_validate_spaces.proofs.spaces.IndexSpaces.func.Goals as goal

pub returns : goal.returns
returns c = λ s at. c.func.ensures.def (types_in c.args.self.now) (funcs_in c.args.self.now) s at.component_is
