use Rattle.cm_abi_model.proofs.StoredLaws.{utf16_stored, utf8_stored}
use Rattle.cm_abi_model.proofs.standard_laws.strings_are_stored.Goals as goal

pub returns-clause-utf8 : goal.returns-clause-utf8
returns-clause-utf8 c = utf8_stored

pub returns-clause-utf16 : goal.returns-clause-utf16
returns-clause-utf16 c = utf16_stored
