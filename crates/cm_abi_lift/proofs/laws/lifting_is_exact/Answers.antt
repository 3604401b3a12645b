use Rattle.cm_abi_lift.proofs.PassedLaws.{AllLaws, lifts_view, must_lift_view}
use Rattle.cm_abi_lift.proofs.laws.lifting_is_exact.Goals as goal

all_laws : goal.After-handing_over_goes_in_turn → AllLaws
all_laws c = record {
  flat = record {
    text_shown = c.parts_that_are_read_are_shown.ensures.text;
    elements_shown = c.parts_that_are_read_are_shown.ensures.elements;
    own_shown = c.parts_that_are_read_are_shown.ensures.own;
    borrow_shown = c.parts_that_are_read_are_shown.ensures.borrow;
    nothing = c.parts_that_are_read_are_shown.ensures.nothing;
    both = c.parts_that_are_read_are_shown.ensures.both;
    text_read = c.parts_that_are_shown_are_read.ensures.text;
    elements_read = c.parts_that_are_shown_are_read.ensures.elements;
    own_read = c.parts_that_are_shown_are_read.ensures.own;
    borrow_read = c.parts_that_are_shown_are_read.ensures.borrow;
  };
  turn = c.handing_over_goes_in_turn.ensures;
  shown = c.what_is_read_is_shown.ensures.shown;
  met = c.what_is_read_is_shown.ensures.met;
  read = c.what_is_shown_is_read.ensures;
}

pub returns-clause-lifts : goal.returns-clause-lifts
returns-clause-lifts c = lifts_view (all_laws c)

pub returns-clause-only : goal.returns-clause-only
returns-clause-only c = must_lift_view (all_laws c)
