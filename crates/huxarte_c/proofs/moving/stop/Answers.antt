use Rattle.std.proofs.Common.{◌≡◌, refl}
use Rattle.cm_machine_model.specs.declared.moves.Move.{Move}
use Rattle.cm_machine_model.specs.declared.moves.Move.TheVariants as move
use Rattle.huxarte_c.proofs.SetLaws.{moved_by, plain_why}
use Rattle.huxarte_c.specs.Kept.{IsNoMove, IsNoMoveBy}
use Rattle.huxarte_c.proofs.moving.stop.Goals as goal

pub returns : goal.returns
returns c =
    let old = c.args.set.now.kept in
    let m : Move = move.Unreachable in
    (c.make_move.result, moved_by (λ (x : Move). x ≡ m) (IsNoMoveBy m old) (IsNoMove old) m old _ _ _ c.make_move.result refl (plain_why m old refl) c.make_move.ensures, c.verdict.ensures)
