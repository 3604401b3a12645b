use Rattle.cm_machine_laws.proofs.LendCases.{lends_stand}
use Rattle.cm_machine_laws.proofs.Borrowing.{borrows_stand}
use Rattle.cm_machine_laws.proofs.GoneCases.{keeps_gone}
use Rattle.cm_machine_laws.proofs.OnTheWay.{each_has_one_place}
use Rattle.cm_machine_laws.proofs.owners.owners_are_told.Goals as goal

pub returns-clause-one_place : goal.returns-clause-one_place
returns-clause-one_place c = each_has_one_place c.histories_are_valid.ensures c.histories_are_told.ensures c.values_are_followed.ensures

pub returns-clause-stays_gone : goal.returns-clause-stays_gone
returns-clause-stays_gone c = keeps_gone c.what_is_met_is_the_values_handles.ensures c.histories_are_valid.ensures

pub returns-clause-borrows_stand : goal.returns-clause-borrows_stand
returns-clause-borrows_stand c = borrows_stand c.histories_are_valid.ensures c.histories_are_told.ensures c.what_is_borrowed_is_backed.ensures

pub returns-clause-lends_stand : goal.returns-clause-lends_stand
returns-clause-lends_stand c = lends_stand c.what_is_met_is_the_values_handles.ensures c.histories_are_valid.ensures c.histories_are_told.ensures
