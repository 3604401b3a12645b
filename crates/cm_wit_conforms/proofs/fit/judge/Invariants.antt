use Rattle.std.proofs.Common.{List, map, take}
use Rattle.cm_wit_conforms.specs.Comparisons.{Entry}
use Rattle.cm_wit_conforms.specs.Conformance.{AllFit}
use Rattle.cm_wit_conforms.specs.Judging.{AreKnown, AreSides}
use Rattle.cm_wit_conforms.specs.Views.{entry_of}
use Rattle.cm_wit_conforms.proofs.fit.judge.Given as goal

abbrev pub invariant-loop-each : goal.invariant-loop-each
invariant-loop-each l = ((all : List Entry) → AreSides all l.have l.world → AllFit all (map (entry_of l.have.types.now l.world.types.now) (take l.each-index l.judged))) × AreKnown l.have l.world l.tables
