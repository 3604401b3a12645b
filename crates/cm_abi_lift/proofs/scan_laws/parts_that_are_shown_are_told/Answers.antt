use Rattle.cm_abi_lift.proofs.TellLaws.{list_tells, text_tells}
use Rattle.cm_abi_lift.proofs.scan_laws.parts_that_are_shown_are_told.Goals as goal

pub returns-clause-text : goal.returns-clause-text
returns-clause-text c = text_tells

pub returns-clause-elements : goal.returns-clause-elements
returns-clause-elements c = λ w target t at n vs h. list_tells c.numbers_are_sized.ensures.aligned w target t at n vs h
