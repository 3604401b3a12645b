use Rattle.std.proofs.Common.{add-one, refl}
use Rattle.std.proofs.lemmas.Option.{slice_get_read}
use Rattle.cm_stubs_files.proofs.StubLaws.{valid_next}
use Rattle.cm_stubs_files.proofs.read_back.valid_all.Goals as goal

pub loop-at-preserved : goal.loop-at-preserved
loop-at-preserved c =
    let there = slice_get_read c.args.components.now _ c.loop-at.at c.index-components-at.result refl
    c.loop-at-test.true c.index-components-at.is in
    rw add-one (valid_next c.loop-at.all.items c.push.new.self.items c.in_ok-validate.field-0
    c.args.components.now c.loop-at.at c.index-components-at.result c.loop-at.invariant
    c.in_ok-push.ensures.items c.in_ok-validate.ensures.held there)
