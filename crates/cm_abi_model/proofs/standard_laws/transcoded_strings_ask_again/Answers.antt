use Rattle.cm_abi_model.proofs.AskingLaws.{asking_example, from_latin1, from_tagged, from_utf16, from_utf8}
use Rattle.cm_abi_model.proofs.standard_laws.transcoded_strings_ask_again.Goals as goal

pub returns-clause-utf16_to_utf8 : goal.returns-clause-utf16_to_utf8
returns-clause-utf16_to_utf8 c = from_utf16

pub returns-clause-tagged_to_utf8 : goal.returns-clause-tagged_to_utf8
returns-clause-tagged_to_utf8 c = from_tagged

pub returns-clause-latin1_to_utf8 : goal.returns-clause-latin1_to_utf8
returns-clause-latin1_to_utf8 c = from_latin1

pub returns-clause-utf8_to_utf16 : goal.returns-clause-utf8_to_utf16
returns-clause-utf8_to_utf16 c = from_utf8

pub returns-clause-example : goal.returns-clause-example
returns-clause-example c = asking_example
