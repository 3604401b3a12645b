use Rattle.cm_abi_model.proofs.LoweredLaws.{fields_lowered}
use Rattle.cm_abi_model.proofs.standard_laws.fields_are_lowered_flat.Goals as goal

pub returns : goal.returns
returns c = record { fields = fields_lowered }
