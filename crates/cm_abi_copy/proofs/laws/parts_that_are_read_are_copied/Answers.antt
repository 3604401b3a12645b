use Rattle.cm_abi_copy.proofs.ReadLemmas.{elements_copied, text_copied}
use Rattle.cm_abi_copy.proofs.laws.parts_that_are_read_are_copied.Goals as goal

pub returns-clause-text : goal.returns-clause-text
returns-clause-text c = text_copied c.parts_that_are_read_are_shown.ensures.text

pub returns-clause-elements : goal.returns-clause-elements
returns-clause-elements c = elements_copied c.parts_that_are_read_are_shown.ensures.text
