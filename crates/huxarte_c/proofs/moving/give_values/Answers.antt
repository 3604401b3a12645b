use Rattle.std.proofs.Common.{map, refl}
use Rattle.cm_machine_model.specs.Moves.{ReturnsWith}
use Rattle.cm_machine_model.specs.declared.moves.Move.TheVariants as Move
use Rattle.huxarte_c.proofs.SetLaws.{cores_why, moved_by, return_why}
use Rattle.huxarte_c.specs.Cores.{value_of}
use Rattle.huxarte_c.specs.Kept.{IsNoCoreMove, IsNoMoveBy}
use Rattle.huxarte_c.proofs.moving.give_values.Goals as goal

pub returns-in-Ok : goal.returns-in-Ok
returns-in-Ok c =
    let old = c.args.set.now.kept in
    let cores = c.args.values.now in
    let m = Move.Return c.in-Ok.values in
    moved_by (ReturnsWith (map value_of c.args.values.now)) (IsNoMoveBy m old) (IsNoCoreMove cores old) m old _ _ _ c.make_move.result c.in-Ok.ensures.values
    (return_why cores old c.in-Ok.values c.in-Ok.ensures.values c.in-Ok.ensures.kinds) c.make_move.ensures

pub returns-in-Err : goal.returns-in-Err
returns-in-Err c = (refl, refl, cores_why c.args.values.now c.args.set.now.kept c.in-Err.refusal c.in-Err.ensures.refused)
