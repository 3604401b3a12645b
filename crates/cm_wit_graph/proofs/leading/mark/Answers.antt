use Rattle.std.proofs.Common.{arith}
use Rattle.cm_wit_graph.proofs.MarkLaws.{is_unmarked, marked_now}
use Rattle.cm_wit_graph.proofs.leading.mark.Goals as goal

pub returns-in_ok-push-clause-marked : goal.returns-in_ok-push-clause-marked
returns-in_ok-push-clause-marked c =
    rw c.in_ok-push.ensures.items (marked_now c.args.node c.args.marks.now.items c.args.pending.now.items (omega arith) (is_unmarked c.args.marks.now.items c.args.node c.index.result.now (omega arith) c.index.ensures c.if-not-index.true))
