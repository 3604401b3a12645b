use Rattle.std.proofs.Common.{◌∙◌}
use Rattle.cm_abi_programs.specs.CodedPuts.{puts_in}
use Rattle.cm_abi_programs.proofs.PutMakingLemmas.{moved_end, moved_next}
use Rattle.cm_abi_programs.proofs.listed_puts.push_moved.Goals as goal

pub loop-put-preserved : goal.loop-put-preserved
loop-put-preserved c =
    moved_next c.args.puts.now c.loop-put.put-index c.args.by c.put-item.result c.in_ok-moved.moved c.loop-put.all.items c.push_put.new.all.items c.loop-put-test.true c.put-item.is c.in_ok-moved.ensures c.in_ok-push_put.ensures
    ∙ c.loop-put.invariant

pub returns : goal.returns
returns c = moved_end c.args.puts.now c.loop-put.put-index c.args.by (puts_in c.loop-put.all.items) c.loop-put-test.false ∙ c.loop-put.invariant
