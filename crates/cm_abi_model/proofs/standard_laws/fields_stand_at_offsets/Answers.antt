use Rattle.cm_abi_model.proofs.FieldLaws.{fields_only, fields_read, padded}
use Rattle.cm_abi_model.proofs.PlaceLaws.{are_offsets, offset_aligned}
use Rattle.cm_abi_model.proofs.standard_laws.fields_stand_at_offsets.Goals as goal

pub returns-clause-there : goal.returns-clause-there
returns-clause-there c = are_offsets

pub returns-clause-aligned : goal.returns-clause-aligned
returns-clause-aligned c = offset_aligned

pub returns-clause-read : goal.returns-clause-read
returns-clause-read c = fields_read

pub returns-clause-only : goal.returns-clause-only
returns-clause-only c = fields_only

pub returns-clause-example : goal.returns-clause-example
returns-clause-example c = padded
