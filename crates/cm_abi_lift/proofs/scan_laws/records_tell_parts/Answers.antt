use Rattle.cm_abi_lift.proofs.TellLaws.{shown_tells}
use Rattle.cm_abi_lift.proofs.scan_laws.records_tell_parts.Goals as goal

pub returns : goal.returns
returns c = λ w target t p v h. shown_tells c.numbers_are_sized.ensures.aligned w target t p v h
