use Rattle.std.proofs.Common.{add-one}
use Rattle.huxarte.proofs.LoadingLaws.{spelled_more}
use Rattle.huxarte.proofs.loading.components_of.Goals as goal

pub loop-file-preserved : goal.loop-file-preserved
loop-file-preserved c =
    rw (add-one, c.in_ok-push-in-Ok.ensures.items)
    (spelled_more (λ f. f.now) c.args.files.now c.loop-file.file _ c.loop-file.components.items c.in-Ok.component c.loop-file-test.true c.loop-file.invariant c.in-Ok.ensures.found)
