use Rattle.cm_machine_laws.proofs.Resumes.{resumes_with_what_was_returned}
use Rattle.cm_machine_laws.proofs.KeepFew.{keeps_few}
use Rattle.cm_machine_laws.proofs.FollowAlong.{asks_for_what_is_wanted, receives_what_was_sent, gets_the_flat_result}
use Rattle.cm_machine_laws.proofs.values.values_are_passed.Goals as goal

pub returns-clause-entries : goal.returns-clause-entries
returns-clause-entries c = receives_what_was_sent c.one_value_is_carried.ensures c.histories_are_valid.ensures c.histories_are_told.ensures c.values_are_followed.ensures

pub returns-clause-resumptions : goal.returns-clause-resumptions
returns-clause-resumptions c = resumes_with_what_was_returned c.what_is_received_stays.ensures c.one_value_is_carried.ensures c.histories_are_valid.ensures c.histories_are_told.ensures c.values_are_followed.ensures

pub returns-clause-tidies : goal.returns-clause-tidies
returns-clause-tidies c = gets_the_flat_result c.one_value_is_carried.ensures c.histories_are_valid.ensures c.histories_are_told.ensures c.values_are_followed.ensures

pub returns-clause-asks : goal.returns-clause-asks
returns-clause-asks c = asks_for_what_is_wanted c.values_are_followed.ensures

pub returns-clause-bounded : goal.returns-clause-bounded
returns-clause-bounded c = keeps_few c.histories_are_valid.ensures c.histories_are_told.ensures c.values_are_followed.ensures
