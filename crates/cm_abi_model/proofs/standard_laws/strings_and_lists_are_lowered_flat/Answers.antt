use Rattle.cm_abi_model.proofs.LoweredLaws.{list_lowered, utf16_lowered, utf8_lowered}
use Rattle.cm_abi_model.proofs.standard_laws.strings_and_lists_are_lowered_flat.Goals as goal

pub returns-clause-utf8 : goal.returns-clause-utf8
returns-clause-utf8 c = utf8_lowered

pub returns-clause-utf16 : goal.returns-clause-utf16
returns-clause-utf16 c = utf16_lowered

pub returns-clause-list : goal.returns-clause-list
returns-clause-list c = list_lowered
