use Rattle.cm_abi_lift.proofs.PassedLaws.{AllLaws}
use Rattle.cm_abi_lift.proofs.PassedFaults.{beside_no_value, either, one, told}
use Rattle.cm_abi_lift.proofs.StopNumbers.{number}
use Rattle.cm_abi_lift.proofs.laws.first_faults_are_told.Goals as goal

all_laws : goal.After-handing_over_goes_in_turn → AllLaws
all_laws c = record {
  flat = record {
    text_shown = c.parts_that_are_read_are_shown.ensures.text;
    elements_shown = c.parts_that_are_read_are_shown.ensures.elements;
    own_shown = c.parts_that_are_read_are_shown.ensures.own;
    borrow_shown = c.parts_that_are_read_are_shown.ensures.borrow;
    nothing = c.parts_that_are_read_are_shown.ensures.nothing;
    both = c.parts_that_are_read_are_shown.ensures.both;
    text_read = c.parts_that_are_shown_are_read.ensures.text;
    elements_read = c.parts_that_are_shown_are_read.ensures.elements;
    own_read = c.parts_that_are_shown_are_read.ensures.own;
    borrow_read = c.parts_that_are_shown_are_read.ensures.borrow;
  };
  turn = c.handing_over_goes_in_turn.ensures;
  shown = c.what_is_read_is_shown.ensures.shown;
  met = c.what_is_read_is_shown.ensures.met;
  read = c.what_is_shown_is_read.ensures;
}

pub returns-clause-told : goal.returns-clause-told
returns-clause-told c = told (all_laws c)

pub returns-clause-one : goal.returns-clause-one
returns-clause-one c = one (all_laws c)

pub returns-clause-beside_no_value : goal.returns-clause-beside_no_value
returns-clause-beside_no_value c = beside_no_value (all_laws c)

pub returns-clause-number : goal.returns-clause-number
returns-clause-number c = number

pub returns-clause-either : goal.returns-clause-either
returns-clause-either c = either (all_laws c)
