use Rattle.cm_abi_copy.proofs.NothingLaws.{nothing_is_kept}
use Rattle.cm_abi_copy.proofs.scan_call_laws.what_has_nothing_keeps_nothing.Goals as goal

pub returns : goal.returns
returns c = nothing_is_kept c.lifting_is_exact.ensures.only c.records_tell_what_is_passed.ensures.tells c.what_is_passed_is_met.ensures.met c.handles_that_are_met_are_the_values.ensures.wanted c.handles_that_are_met_are_the_values.ensures.found
