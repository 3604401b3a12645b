use Rattle.cm_abi_running.proofs.PutLemmas.{cases_written, moved_written, placed_written, row_written, with_written}
use Rattle.cm_abi_running.proofs.laws.puts_run_in_turn.Goals as goal

pub returns-clause-behind : goal.returns-clause-behind
returns-clause-behind c = with_written

pub returns-clause-moved : goal.returns-clause-moved
returns-clause-moved c = moved_written

pub returns-clause-placed : goal.returns-clause-placed
returns-clause-placed c = placed_written

pub returns-clause-row : goal.returns-clause-row
returns-clause-row c = row_written

pub returns-clause-cases : goal.returns-clause-cases
returns-clause-cases c w g b d cs p q k h small = cases_written w g small b d cs p q k h
