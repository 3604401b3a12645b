use Rattle.cm_abi_copy.proofs.CallLemmas.{Below, flat_copy, spilled}
use Rattle.cm_abi_copy.proofs.call_laws.what_is_denoted_is_copied.Goals as goal

below : goal.After-handles_are_passed_as_numbers → Below
below c = record {
  parts = record {
    text_read = c.parts_that_are_shown_are_read.ensures.text;
    elements_read = c.parts_that_are_shown_are_read.ensures.elements;
    text_copied = c.parts_that_are_read_are_copied.ensures.text;
    elements_copied = c.parts_that_are_read_are_copied.ensures.elements;
    parts_stay = c.handles_are_stored_as_numbers.ensures.parts;
    handles_stay = c.handles_are_stored_as_numbers.ensures.handles;
  };
  laid = c.layouts.ensures.laid;
  marked = c.layouts.ensures.marked;
  sized = c.numbers_are_sized.ensures.sized;
  read = c.what_is_shown_is_read.ensures;
  sizes = c.records_tell_sizes.ensures.call;
  slots_stay = c.handles_are_passed_as_numbers.ensures.slots;
  bytes_stay = c.handles_are_passed_as_numbers.ensures.behind;
  spilled_ready = c.spilled_tuples_are_stored.ensures.ready;
  spilled_bytes = c.spilled_tuples_are_stored.ensures.bytes;
  spilled_numbers = c.spilled_tuples_are_stored.ensures.numbers;
  flat_ready = c.flat_tuples_are_passed.ensures.ready;
  flat_bytes = c.flat_tuples_are_passed.ensures.bytes;
  flat_numbers = c.flat_tuples_are_passed.ensures.numbers;
}

pub returns-clause-spilled : goal.returns-clause-spilled
returns-clause-spilled c = spilled (below c)

pub returns-clause-flat : goal.returns-clause-flat
returns-clause-flat c = flat_copy (below c)
