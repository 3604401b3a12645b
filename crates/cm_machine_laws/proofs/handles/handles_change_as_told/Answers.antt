use Rattle.cm_machine_laws.proofs.FreeAlong.{next_index_is_the_last_freed}
use Rattle.cm_machine_laws.proofs.HandlesAlong.{handles_change_by_moves}
use Rattle.cm_machine_laws.proofs.handles.handles_change_as_told.Goals as goal

pub returns-clause-changes : goal.returns-clause-changes
returns-clause-changes c = handles_change_by_moves (record {
  carried = c.one_value_is_carried.ensures;
  adds = c.tables_change_in_one_place.ensures.add;
  releases = c.tables_change_in_one_place.ensures.release;
  hands = c.what_is_handed_over_is_counted.ensures;
  there = c.what_is_met_stands.ensures;
}) c.histories_are_valid.ensures c.histories_are_told.ensures c.values_are_followed.ensures

pub returns-clause-next_index : goal.returns-clause-next_index
returns-clause-next_index c = next_index_is_the_last_freed (record {
  carried = c.one_value_is_carried.ensures;
  adds = c.tables_change_in_one_place.ensures.add;
  releases = c.tables_change_in_one_place.ensures.release;
  hands = c.what_is_handed_over_is_counted.ensures;
  there = c.what_is_met_stands.ensures;
}) c.histories_are_valid.ensures c.histories_are_told.ensures c.values_are_followed.ensures
