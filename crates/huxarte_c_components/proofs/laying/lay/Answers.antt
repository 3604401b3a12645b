use Rattle.std.proofs.Common.{inl, inr, refl}
use Rattle.huxarte_c_components.proofs.laying.lay.Goals as goal

pub returns-in-Ok : goal.returns-in-Ok
returns-in-Ok c = inl (c.in-Ok.ensures.found, c.fine.ensures)

pub returns-in-Err : goal.returns-in-Err
returns-in-Err c = inr (c.in-Err.fault, c.in-Err.ensures.refused, c.verdict.ensures, refl)
