use Rattle.cm_abi_copy.proofs.PutsAreReady.{JoinsBelow, SlotJoinsBelow, puts_ready, slots_ready}
use Rattle.cm_abi_copy.proofs.put_laws.what_is_ready_is_ready_for_puts.Goals as goal

below : goal.After-running_puts_copies_what_is_shown → JoinsBelow
below c = record {
  behind = c.puts_run_in_turn.ensures.behind;
  moved = c.puts_run_in_turn.ensures.moved;
  joined = c.puts_run_in_turn.ensures.placed;
}

slots_below : goal.After-running_puts_copies_what_is_shown → SlotJoinsBelow
slots_below c = record {
  moved = c.slot_puts_run_in_turn.ensures.moved;
  joined = c.slot_puts_run_in_turn.ensures.placed;
}

pub returns-clause-stored : goal.returns-clause-stored
returns-clause-stored c n from x p q k h small sized ready =
    puts_ready (below c) n from (λ x p q k h sized. c.running_puts_copies_what_is_shown.ensures.stored from x p q k h small sized) x sized p q k h ready

pub returns-clause-passed : goal.returns-clause-passed
returns-clause-passed c n from slots x s k h small sized ready =
    slots_ready (below c) (slots_below c) n from slots (λ x p q k h sized. c.running_puts_copies_what_is_shown.ensures.stored from x p q k h small sized)
    (λ x s k h sized. c.running_puts_copies_what_is_shown.ensures.passed from slots x s k h small sized) x sized s k h ready
