use Rattle.std.proofs.Common.{refl}
use Rattle.huxarte_c.proofs.moving.make_move.Goals as goal

pub returns-in-Ok : goal.returns-in-Ok
returns-in-Ok c =
    (c.in-Ok.led_to, (c.args.made.now, refl, c.in-Ok.ensures.step), c.of.ensures)

pub returns-in-Err : goal.returns-in-Err
returns-in-Err c = (c.in-Err.ensures.stays, refl, c.in-Err.ensures.refused)
