use Rattle.std.proofs.Common.{map, sym, subst}
use Rattle.std.proofs.lemmas.List.{take_all}
use Rattle.cm_hux_diff.specs.Breaking.{AreBreaks}
use Rattle.cm_hux_diff.specs.Views.{entry_view, standing_of}
use Rattle.cm_hux_diff.proofs.Places.{mapped_next}
use Rattle.cm_hux_diff.proofs.judging.breaks_of.Goals as goal

pub loop-entry-init : goal.loop-entry-init
loop-entry-init c = (c.new-tables.ensures c.args.wanted.now c.args.offered.now, c.new-breaks.ensures.items)

pub loop-entry-preserved : goal.loop-entry-preserved
loop-entry-preserved c =
    let w = c.args.wanted.now in
    let o = c.args.offered.now in
    let view = entry_view w.types.now o.types.now in (
      c.in_ok-judge.ensures.known,
      subst (λ es. AreBreaks (standing_of w) (standing_of o) es c.judge.new.breaks.items) (sym (mapped_next view c.args.entries.now c.loop-entry.entry-index c.entry-item.result c.loop-entry-test.true c.entry-item.is))
          (c.in_ok-judge.ensures.breaks _ c.loop-entry.invariant.1),
    )

pub returns : goal.returns
returns c =
    let w = c.args.wanted.now in
    let o = c.args.offered.now in
    let view = entry_view w.types.now o.types.now in
    subst (λ es. AreBreaks (standing_of w) (standing_of o) (map view es) c.loop-entry.breaks.items) (take_all c.loop-entry.entry-index c.args.entries.now c.loop-entry-test.false) c.loop-entry.invariant.1
