use Rattle.cm_abi_load.proofs.PartLemmas.{borrow_is_read, elements_are_read, own_is_read, text_is_read}
use Rattle.cm_abi_load.proofs.laws.parts_that_are_shown_are_read.Goals as goal

pub returns-clause-text : goal.returns-clause-text
returns-clause-text c = text_is_read

pub returns-clause-elements : goal.returns-clause-elements
returns-clause-elements c = elements_are_read

pub returns-clause-own : goal.returns-clause-own
returns-clause-own c = own_is_read

pub returns-clause-borrow : goal.returns-clause-borrow
returns-clause-borrow c = borrow_is_read
