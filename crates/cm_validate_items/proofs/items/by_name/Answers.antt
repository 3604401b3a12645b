use Rattle.std.proofs.Common.{◌-◌, arith}
use Rattle.cm_validate_items.proofs.ItemLaws.{put_before}
use Rattle.cm_validate_items.proofs.items.by_name.Goals as goal

pub loop-number-preserved : goal.loop-number-preserved
loop-number-preserved c =
    put_before c.args.items.now (c.loop-number.number - 1) c.loop-number.number c.index-items-number.result c.loop-number.named c.put.new.named (omega arith) (omega arith) c.index-items-number.is
    c.in_ok-put.ensures c.loop-number.invariant
