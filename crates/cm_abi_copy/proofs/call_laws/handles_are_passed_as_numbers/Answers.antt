use Rattle.cm_abi_copy.proofs.HandleLemmas.{bytes_stay, passed_stay}
use Rattle.cm_abi_copy.proofs.call_laws.handles_are_passed_as_numbers.Goals as goal

pub returns-clause-slots : goal.returns-clause-slots
returns-clause-slots c = passed_stay c.handles_are_stored_as_numbers.ensures.parts c.handles_are_stored_as_numbers.ensures.handles c.handles_are_stored_as_numbers.ensures.bytes

pub returns-clause-behind : goal.returns-clause-behind
returns-clause-behind c = bytes_stay c.handles_are_stored_as_numbers.ensures.parts c.handles_are_stored_as_numbers.ensures.handles c.handles_are_stored_as_numbers.ensures.bytes
