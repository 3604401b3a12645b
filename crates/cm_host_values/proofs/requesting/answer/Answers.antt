use Rattle.std.proofs.Common.{refl}
use Rattle.cm_host_values.proofs.RequestingLaws.{no_room}
use Rattle.cm_host_values.proofs.requesting.answer.Goals as goal

pub returns-in-Grow : goal.returns-in-Grow
returns-in-Grow c =
    let none = no_room c.args.regions.now c.args.request.now.size c.args.request.now.align _ _ c.allocate.new.self c.in-Grow.is refl c.allocate.ensures in
    record { ok = tt; err = (refl, none.0); stays = none.1 }
