use Rattle.std.proofs.Common.{◌-◌, arith}
use Rattle.cm_validate_instances.proofs.ItemNameLaws.{put_before}
use Rattle.cm_validate_instances.proofs.resources.resources.Goals as goal

pub loop-index-preserved : goal.loop-index-preserved
loop-index-preserved c =
    put_before c.args.items.now (c.loop-index.index - 1) c.loop-index.index c.index-items-index.result c.loop-index.resources c.put.new.resources (omega arith) (omega arith) c.index-items-index.is
    c.in_ok-put.ensures c.loop-index.invariant
