use Rattle.cm_abi_copy.proofs.PutsShown.{PutsBelow, SlotPutsBelow, lowered_put, stored_put}
use Rattle.cm_abi_copy.proofs.put_laws.running_puts_copies_what_is_shown.Goals as goal

below : goal.After-running_puts_is_storing → PutsBelow
below c = record {
  behind = c.puts_run_in_turn.ensures.behind;
  joined = c.puts_run_in_turn.ensures.placed;
  row = c.puts_run_in_turn.ensures.row;
  cases = c.puts_run_in_turn.ensures.cases;
  stored = c.running_puts_is_storing.ensures;
}

slots_below : goal.After-running_puts_is_storing → SlotPutsBelow
slots_below c = record {
  both = c.slot_puts_run_in_turn.ensures.both;
  joined = c.slot_puts_run_in_turn.ensures.placed;
  cases = c.slot_puts_run_in_turn.ensures.cases;
}

pub returns-clause-stored : goal.returns-clause-stored
returns-clause-stored c from x p q k h small sized = stored_put (below c) from small x sized p q k h

pub returns-clause-passed : goal.returns-clause-passed
returns-clause-passed c from slots x s k h small sized = lowered_put (below c) (slots_below c) from slots small x sized s k h
