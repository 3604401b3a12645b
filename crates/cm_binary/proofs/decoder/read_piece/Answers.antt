use Rattle.std.proofs.Common.{◌≡◌, ◌++◌}
use Rattle.std.proofs.lemmas.Grind.{common_steps}
use Rattle.std.proofs.Common.{arith}
use Rattle.std.proofs.lemmas.Result.{err_from_is_err_and}
use Rattle.cm_binary.specs.Views.{progress}
use Rattle.cm_binary.proofs.PieceLaws.{err_passes}
use Rattle.cm_binary.proofs.decoder.read_piece.Goals as goal

pub returns-in_err-taken-clause-err : goal.returns-in_err-taken-clause-err
returns-in_err-taken-clause-err c =
    let p = err_from_is_err_and c.from_residual.result c.from_residual.ensures.1 in
    let all : c.deref.result.now ≡ c.args.kept.now.items ++ c.args.piece.now = grind (arith, common_steps) in
    err_passes (progress c.args.front.now) c.deref.result.now _ c.from_residual.result c.in_err-taken.field-0.0 p.0 all p.1 p.2 c.in_err-taken.ensures.err
