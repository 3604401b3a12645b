use Rattle.std.proofs.Common.{take_all, arith}
use Rattle.cm_binary.proofs.ComeLaws.{joined_grown}
use Rattle.cm_binary.proofs.pieces.join.Goals as goal

pub loop-piece-preserved : goal.loop-piece-preserved
loop-piece-preserved c = joined_grown c.args.pieces.now c.loop-piece.piece-index _ _ _ c.loop-piece-test.true c.in_ok-extend_from_slice.ensures.items c.loop-piece.invariant

pub returns : goal.returns
returns c = rw (take_all c.loop-piece.piece-index c.args.pieces.now (omega arith)) at c.loop-piece.invariant
