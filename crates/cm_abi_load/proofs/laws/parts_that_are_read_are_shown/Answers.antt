use Rattle.cm_abi_load.proofs.MeetLaws.{meets_both, meets_none}
use Rattle.cm_abi_load.proofs.PartLemmas.{borrow_is_shown, elements_are_shown, own_is_shown, text_is_shown}
use Rattle.cm_abi_load.proofs.laws.parts_that_are_read_are_shown.Goals as goal

pub returns-clause-text : goal.returns-clause-text
returns-clause-text c = text_is_shown

pub returns-clause-elements : goal.returns-clause-elements
returns-clause-elements c = elements_are_shown

pub returns-clause-own : goal.returns-clause-own
returns-clause-own c = own_is_shown

pub returns-clause-borrow : goal.returns-clause-borrow
returns-clause-borrow c = borrow_is_shown

pub returns-clause-nothing : goal.returns-clause-nothing
returns-clause-nothing c = meets_none

pub returns-clause-both : goal.returns-clause-both
returns-clause-both c = meets_both
