use Rattle.cm_abi_copy.proofs.PutCallLemmas.{Below, flat_put, spilled_put}
use Rattle.cm_abi_copy.proofs.put_laws.what_is_denoted_can_be_put.Goals as goal

below : goal.After-what_is_ready_is_ready_for_puts → Below
below c = record {
  laid = c.layouts.ensures.laid;
  marked = c.layouts.ensures.marked;
  sized = c.numbers_are_sized.ensures.sized;
  spilled_copy = c.what_is_denoted_is_copied.ensures.spilled;
  flat_copy = c.what_is_denoted_is_copied.ensures.flat;
  shown = c.what_is_read_is_copied.ensures.shown;
  ready = c.what_is_read_is_copied.ensures.ready;
  bytes_stay = c.handles_are_stored_as_numbers.ensures.bytes;
  puts_within = c.puts_lie_within_values.ensures.stored;
  slots_within = c.puts_lie_within_values.ensures.passed;
  stored = c.running_puts_copies_what_is_shown.ensures.stored;
  lowered = c.running_puts_copies_what_is_shown.ensures.passed;
  puts_ready = c.what_is_ready_is_ready_for_puts.ensures.stored;
  slots_ready = c.what_is_ready_is_ready_for_puts.ensures.passed;
}

pub returns-clause-spilled : goal.returns-clause-spilled
returns-clause-spilled c n m from passed types v can small over = spilled_put (below c) n m from passed types v can small over

pub returns-clause-flat : goal.returns-clause-flat
returns-clause-flat c n m from passed types v can small under = flat_put (below c) n m from passed types v can small under
