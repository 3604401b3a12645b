use Rattle.cm_machine_laws.proofs.MemoryAlong.{memory_changes_by_moves}
use Rattle.cm_machine_laws.proofs.memories.memory_changes_as_told.Goals as goal

pub returns : goal.returns
returns c = memory_changes_by_moves (record {
  carried = c.one_value_is_carried.ensures;
  exact = c.requests_end_exact.ensures;
  each = c.each_part_is_asked_for.ensures.each;
  inside = c.what_is_stored_lies_in_regions.ensures;
  spelled = c.what_is_denoted_can_be_lowered.ensures.tagged;
}) c.histories_are_valid.ensures c.histories_are_told.ensures c.values_are_followed.ensures
