use Rattle.cm_lemmas.proofs.Lists.{element_again}
use Rattle.cm_hux_diff.proofs.Entries.{entries_end, entries_next}
use Rattle.cm_hux_diff.proofs.walk.entries_of.Goals as goal

pub loop-place-preserved : goal.loop-place-preserved
loop-place-preserved c = λ w o facing is. entries_next w o facing c.args.wanted.now c.args.offered.now c.args.faces.now c.loop-place.place _ _ _ is c.loop-place-test.true (element_again c.args.faces.now c.loop-place.place _ _ c.loop-place-test.true) (c.loop-place.invariant w o facing is) (c.in_ok-add_extern.ensures w o)

pub returns : goal.returns
returns c = λ w o facing is. entries_end w o facing c.args.wanted.now c.args.offered.now c.args.faces.now c.loop-place.place _ is c.loop-place-test.false (c.loop-place.invariant w o facing is)
