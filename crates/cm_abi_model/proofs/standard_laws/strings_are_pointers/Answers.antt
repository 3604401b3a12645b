use Rattle.cm_abi_model.proofs.StringLaws.{string_only, string_read, tagged_example, utf16_example, utf8_example}
use Rattle.cm_abi_model.proofs.standard_laws.strings_are_pointers.Goals as goal

pub returns-clause-read : goal.returns-clause-read
returns-clause-read c = string_read

pub returns-clause-only : goal.returns-clause-only
returns-clause-only c = string_only

pub returns-clause-in_utf8 : goal.returns-clause-in_utf8
returns-clause-in_utf8 c = utf8_example

pub returns-clause-in_utf16 : goal.returns-clause-in_utf16
returns-clause-in_utf16 c = utf16_example

pub returns-clause-tagged : goal.returns-clause-tagged
returns-clause-tagged c = tagged_example
