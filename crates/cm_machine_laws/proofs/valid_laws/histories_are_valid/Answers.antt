use Rattle.cm_machine_laws.proofs.HistoryValid.{history_valid}
use Rattle.cm_machine_laws.proofs.valid_laws.histories_are_valid.Goals as goal

pub returns : goal.returns
returns c = history_valid (record {
  fresh = c.machine_starts_valid.ensures.fresh;
  begun = c.machine_starts_valid.ensures.begun;
  stays = c.machine_stays_valid.ensures;
})
