use Rattle.cm_machine_laws.proofs.OneCarried.{one_carried}
use Rattle.cm_machine_laws.proofs.SoundTables.{TableLaws}
use Rattle.cm_machine_laws.proofs.StaysValid.{stays_valid}
use Rattle.cm_machine_laws.proofs.valid_laws.machine_stays_valid.Goals as goal

pub returns : goal.returns
returns c =
    let laws : TableLaws = record {
      add = c.tables_change_in_one_place.ensures.add;
      release = c.tables_change_in_one_place.ensures.release;
      lend = c.tables_change_in_one_place.ensures.lend;
      unlend = c.tables_change_in_one_place.ensures.unlend;
      close = c.tables_change_in_one_place.ensures.close;
    } in
    stays_valid laws (one_carried c.one_value_is_on_its_way.ensures)
