use Rattle.cm_abi_lift.proofs.PassedLaws.{AllLaws, passed_shows}
use Rattle.cm_abi_lift.proofs.laws.what_is_passed_is_met.Goals as goal

all_laws : goal.After-handing_over_goes_in_turn → AllLaws
all_laws c = record {
  flat = record {
    text_shown = c.parts_that_are_read_are_shown.ensures.text;
    elements_shown = c.parts_that_are_read_are_shown.ensures.elements;
    own_shown = c.parts_that_are_read_are_shown.ensures.own;
    borrow_shown = c.parts_that_are_read_are_shown.ensures.borrow;
    nothing = c.parts_that_are_read_are_shown.ensures.nothing;
    both = c.parts_that_are_read_are_shown.ensures.both;
    text_read = c.parts_that_are_shown_are_read.ensures.text;
    elements_read = c.parts_that_are_shown_are_read.ensures.elements;
    own_read = c.parts_that_are_shown_are_read.ensures.own;
    borrow_read = c.parts_that_are_shown_are_read.ensures.borrow;
  };
  turn = c.handing_over_goes_in_turn.ensures;
  shown = c.what_is_read_is_shown.ensures.shown;
  met = c.what_is_read_is_shown.ensures.met;
  read = c.what_is_shown_is_read.ensures;
}

pub returns-clause-denoted : goal.returns-clause-denoted
returns-clause-denoted c = λ w way types slots s after v e. (passed_shows (all_laws c) w way types slots s after v e).0

pub returns-clause-met : goal.returns-clause-met
returns-clause-met c = λ w way types slots s after v e. (passed_shows (all_laws c) w way types slots s after v e).1
