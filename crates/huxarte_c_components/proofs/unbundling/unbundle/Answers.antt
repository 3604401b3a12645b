use Rattle.std.proofs.Common.{inl, inr, refl}
use Rattle.huxarte_c_components.proofs.unbundling.unbundle.Goals as goal

pub returns-in-Ok : goal.returns-in-Ok
returns-in-Ok c = inl (c.in-Ok.ensures.out, c.fine.ensures)

pub returns-in-Err : goal.returns-in-Err
returns-in-Err c =
    let stays = c.in-Err.ensures.stays in
    inr (c.in-Err.refusal, c.in-Err.ensures.refused, c.verdict.ensures, refl, stays.0, stays.1, stays.2)
