use Rattle.cm_abi_programs.proofs.MakingLemmas.{moved_end, moved_next}
use Rattle.cm_abi_programs.proofs.listed_checks.push_moved.Goals as goal
use Rattle.std.proofs.Common.{◌∙◌}

pub loop-check-preserved : goal.loop-check-preserved
loop-check-preserved c =
    moved_next c.args.checks.now c.loop-check.check-index c.args.by c.check-item.result c.in_ok-moved.moved c.loop-check.all.items c.push.new.self.items c.loop-check-test.true c.check-item.is c.in_ok-moved.ensures c.in_ok-push.ensures.items
    ∙ c.loop-check.invariant

pub returns : goal.returns
returns c = moved_end c.args.checks.now c.loop-check.check-index c.args.by c.loop-check.all.items c.loop-check-test.false ∙ c.loop-check.invariant
