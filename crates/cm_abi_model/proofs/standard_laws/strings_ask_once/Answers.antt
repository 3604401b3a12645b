use Rattle.cm_abi_model.proofs.AskingLaws.{latin1_widened, tagged_kept, utf16_kept, utf8_kept}
use Rattle.cm_abi_model.proofs.standard_laws.strings_ask_once.Goals as goal

pub returns-clause-utf8 : goal.returns-clause-utf8
returns-clause-utf8 c = utf8_kept

pub returns-clause-utf16 : goal.returns-clause-utf16
returns-clause-utf16 c = utf16_kept

pub returns-clause-tagged : goal.returns-clause-tagged
returns-clause-tagged c = tagged_kept

pub returns-clause-latin1 : goal.returns-clause-latin1
returns-clause-latin1 c = latin1_widened
