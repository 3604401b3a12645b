use Rattle.std.proofs.Common.{inl, inr, refl}
use Rattle.huxarte_c_components.proofs.FuncLaws.{room_stays}
use Rattle.huxarte_c_components.proofs.copying.copy.Goals as goal

pub returns-in-Ok : goal.returns-in-Ok
returns-in-Ok c = inl (c.in-Ok.ensures.copied, c.fine.ensures)

pub returns-in-Err : goal.returns-in-Err
returns-in-Err c = inr (c.in-Err.fault, c.in-Err.ensures.refused, c.verdict.ensures, room_stays _ _ _ _ _ _ c.in-Err.ensures.memory c.in-Err.ensures.slots c.in-Err.ensures.numbers, refl)
