use Rattle.std.proofs.lemmas.Result.{err_from_is_err_and}
use Rattle.std.proofs.lemmas.Grind.{common_steps}
use Rattle.std.proofs.Common.{arith, ◌≡◌, ◌++◌, sym, ap, List, ℕ, drop}
use Rattle.cm_binary.specs.Views.{progress}
use Rattle.cm_binary.proofs.PieceLaws.{err_passes, goes_on_behind_none}
use Rattle.cm_binary.proofs.decoder.read_where_it_stands.Goals as goal

pub returns-in_err-taken-clause-err : goal.returns-in_err-taken-clause-err
returns-in_err-taken-clause-err c =
    let p = err_from_is_err_and c.from_residual.result c.from_residual.ensures.1 in
    let all : c.args.piece.now ≡ c.args.kept.now.items ++ c.args.piece.now = sym (ap (λ (k : List ℕ). k ++ c.args.piece.now) c.requires.none) in
    err_passes (progress c.args.front.now) c.args.piece.now _ c.from_residual.result c.in_err-taken.field-0.0 p.0 all p.1 p.2 c.in_err-taken.ensures.err

pub returns-clause-ok : goal.returns-clause-ok
returns-clause-ok c =
    let kept : c.extend_from_slice.new.self.items ≡ c.args.kept.now.items ++ drop c.in_ok-taken.taken c.args.piece.now = grind (arith, common_steps) in
    goes_on_behind_none (progress c.args.front.now) (progress c.read_within_limit.new.front) c.args.kept.now.items c.extend_from_slice.new.self.items c.args.piece.now (drop c.in_ok-taken.taken c.args.piece.now) c.requires.none kept c.in_ok-taken.ensures.ok.1
