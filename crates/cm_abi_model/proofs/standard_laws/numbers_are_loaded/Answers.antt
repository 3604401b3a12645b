use Rattle.cm_abi_model.proofs.TruthLaws.{scalar_shown, scalar_stands, signed_shown, signed_stands, unsigned_shown, unsigned_stands}
use Rattle.cm_abi_model.proofs.standard_laws.numbers_are_loaded.Goals as goal

pub returns-clause-unsigned : goal.returns-clause-unsigned
returns-clause-unsigned c = unsigned_shown

pub returns-clause-signed : goal.returns-clause-signed
returns-clause-signed c = signed_shown

pub returns-clause-scalars : goal.returns-clause-scalars
returns-clause-scalars c = scalar_shown

pub returns-clause-unsigned_only : goal.returns-clause-unsigned_only
returns-clause-unsigned_only c = unsigned_stands

pub returns-clause-signed_only : goal.returns-clause-signed_only
returns-clause-signed_only c = signed_stands

pub returns-clause-scalars_only : goal.returns-clause-scalars_only
returns-clause-scalars_only c = scalar_stands
