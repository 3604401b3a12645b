use Rattle.std.proofs.Common.{refl, inl}
use Rattle.cm_match.proofs.walk.walk_component.Goals as goal

pub returns-in-Err-clause-fault : goal.returns-in-Err-clause-fault
returns-in-Err-clause-fault c = inl (refl, c.requires.before.served)
