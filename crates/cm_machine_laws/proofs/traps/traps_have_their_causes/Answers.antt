use Rattle.std.proofs.Common.{refl}
use Rattle.cm_machine_laws.proofs.TrapsAlong.{causes_trap, traps_have_causes}
use Rattle.cm_machine_laws.proofs.traps.traps_have_their_causes.Goals as goal

pub returns-clause-traps : goal.returns-clause-traps
returns-clause-traps c = traps_have_causes (record {
  one_stop = c.first_faults_are_told.ensures.one;
  beside = c.first_faults_are_told.ensures.beside_no_value;
  number = c.first_faults_are_told.ensures.number;
  denoted = c.denotations_are_unique.ensures.denoted;
  few = c.handles_are_counted.ensures;
}) (record {
  hands = c.what_is_handed_over_is_counted.ensures;
  stands = c.what_is_met_stands.ensures;
  there = c.what_is_met_is_the_values_handles.ensures;
}) c.each_part_is_asked_for.ensures.tuple c.one_value_is_carried.ensures c.histories_are_valid.ensures c.histories_are_told.ensures c.values_are_followed.ensures

pub returns-clause-refusals : goal.returns-clause-refusals
returns-clause-refusals c = causes_trap (record {
  one_stop = c.first_faults_are_told.ensures.one;
  beside = c.first_faults_are_told.ensures.beside_no_value;
  number = c.first_faults_are_told.ensures.number;
  denoted = c.denotations_are_unique.ensures.denoted;
  few = c.handles_are_counted.ensures;
}) c.each_part_is_asked_for.ensures.tuple c.one_value_is_carried.ensures c.histories_are_valid.ensures c.histories_are_told.ensures c.values_are_followed.ensures

pub returns-clause-names : goal.returns-clause-names
returns-clause-names c = record {
  pointer_bounds = refl;
  misaligned = refl;
  bad_char = refl;
  bad_case = refl;
  bad_text = refl;
  too_large = refl;
  no_handle = refl;
  wrong_resource = refl;
  still_lent = refl;
  not_owned = refl;
  table_full = refl;
  overlap = refl;
  engine_memory = refl;
}
