use Rattle.cm_abi_running.proofs.SlotPutLaws.{both_passed, cases_passed, moved_one, placed_passed}
use Rattle.cm_abi_running.proofs.laws.slot_puts_run_in_turn.Goals as goal

pub returns-clause-moved : goal.returns-clause-moved
returns-clause-moved c = moved_one

pub returns-clause-both : goal.returns-clause-both
returns-clause-both c = both_passed

pub returns-clause-placed : goal.returns-clause-placed
returns-clause-placed c = placed_passed

pub returns-clause-cases : goal.returns-clause-cases
returns-clause-cases c = cases_passed
