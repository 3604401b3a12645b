use Rattle.cm_machine_calls.proofs.Borrows.{met_borrows}
use Rattle.cm_machine_calls.proofs.laws.lifts_keep_borrows.Goals as goal

pub returns : goal.returns
returns c = met_borrows c.borrows_are_counted.ensures.release c.borrows_are_counted.ensures.lend
