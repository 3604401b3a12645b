use Rattle.cm_hux_diff.specs.Views.{entry_view, standing_of}
use Rattle.cm_hux_diff.proofs.Bindings.{noted_next}
use Rattle.cm_hux_diff.proofs.bound.Bound.note_all.Goals as goal

pub loop-entry-preserved : goal.loop-entry-preserved
loop-entry-preserved c = λ w o n. noted_next (entry_view w o) (standing_of c.args.offered.now) c.args.entries.now c.loop-entry.entry-index c.entry-item.result n _ _ _ c.loop-entry-test.true c.entry-item.is (c.loop-entry.invariant w o n) (c.in_ok-note.ensures w o n)
