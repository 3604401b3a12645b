use Rattle.std.proofs.Common.{refl}
use Rattle.cm_machine_model.specs.Moves.{WritesAt}
use Rattle.huxarte_c.proofs.SetLaws.{list_why, moved_by}
use Rattle.huxarte_c.specs.Kept.{IsNoListMove, IsNoMoveBy}
use Rattle.huxarte_c.proofs.moving.write_bytes.Goals as goal

pub returns-in-Ok : goal.returns-in-Ok
returns-in-Ok c =
    let old = c.args.set.now.kept in
    moved_by (WritesAt c.args.at c.args.bytes.now) (IsNoMoveBy c.in-Ok.made old) (IsNoListMove old) c.in-Ok.made old _ _ _ c.make_move.result c.in-Ok.ensures (list_why c.in-Ok.made old) c.make_move.ensures

pub returns-in-Err : goal.returns-in-Err
returns-in-Err c = (refl, refl, tt)
