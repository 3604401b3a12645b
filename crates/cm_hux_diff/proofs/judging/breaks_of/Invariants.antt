use Rattle.std.proofs.Common.{map, take}
use Rattle.cm_hux_diff.specs.Breaking.{AreBreaks}
use Rattle.cm_hux_diff.specs.Views.{AreKnown, entry_view, standing_of}
use Rattle.cm_hux_diff.proofs.judging.breaks_of.Given as goal

abbrev pub invariant-loop-entry : goal.invariant-loop-entry
invariant-loop-entry l = AreKnown l.wanted l.offered l.tables × AreBreaks (standing_of l.wanted) (standing_of l.offered) (map (entry_view l.wanted.types.now l.offered.types.now) (take l.entry-index l.entries)) l.breaks.items
