use Rattle.std.proofs.Common.{[], refl}
use Rattle.cm_machine_model.specs.declared.event.Event.TheVariants as event
use Rattle.huxarte_c.proofs.moving.begin_told.Goals as goal

pub returns-in-Ok : goal.returns-in-Ok
returns-in-Ok c = (event.Resume c.args.instance [], (refl, c.in-Ok.ensures.begins), c.resumed.ensures)

pub returns-in-Err : goal.returns-in-Err
returns-in-Err c = (c.in-Err.ensures.stays, refl, c.in-Err.ensures.refused)
