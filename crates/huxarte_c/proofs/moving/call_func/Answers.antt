use Rattle.std.proofs.Common.{map, refl}
use Rattle.cm_machine_model.specs.Moves.{CallsWith}
use Rattle.cm_machine_model.specs.declared.moves.Move.TheVariants as Move
use Rattle.huxarte_c.proofs.SetLaws.{core_why, cores_why, moved_by, plain_why}
use Rattle.huxarte_c.specs.Cores.{value_of}
use Rattle.huxarte_c.specs.Kept.{IsNoCoreMove, IsNoMoveBy}
use Rattle.huxarte_c.proofs.moving.call_func.Goals as goal

pub returns-in-Ok : goal.returns-in-Ok
returns-in-Ok c =
    let old = c.args.set.now.kept in
    let cores = c.args.args.now in
    let m = Move.Call c.args.func c.in-Ok.args in
    moved_by (CallsWith c.args.func (map value_of c.args.args.now)) (IsNoMoveBy m old) (IsNoCoreMove cores old) m old _ _ _ c.make_move.result (refl, c.in-Ok.ensures.values)
    (λ e why. core_why cores old c.in-Ok.ensures.kinds e (plain_why m old refl e why)) c.make_move.ensures

pub returns-in-Err : goal.returns-in-Err
returns-in-Err c = (refl, refl, cores_why c.args.args.now c.args.set.now.kept c.in-Err.refusal c.in-Err.ensures.refused)
