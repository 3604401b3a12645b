use Rattle.cm_abi_copy.proofs.ReadLemmas.{shown}
use Rattle.cm_abi_copy.proofs.laws.what_is_read_is_copied.Goals as goal

pub returns-clause-shown : goal.returns-clause-shown
returns-clause-shown c = λ n w sh p v k h can. (shown n w can.table c.parts_that_are_read_are_shown.ensures.text sh p can.before can.after v can.read).is

pub returns-clause-ready : goal.returns-clause-ready
returns-clause-ready c = λ n w sh p v k h can. (shown n w can.table c.parts_that_are_read_are_shown.ensures.text sh p can.before can.after v can.read).ready k h can.fits can.sizes
