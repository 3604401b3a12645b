use Rattle.std.proofs.Common.{length}
use Rattle.cm_text.proofs.TextLemmas.{Read}
use Rattle.cm_text.proofs.source.Source.scalars.Given as goal

abbrev pub invariant-loop-rest : goal.invariant-loop-rest
invariant-loop-rest g l = Read g.Self.Source.has g.Self.Source.spell l.out.items l.bytes l.rest

abbrev pub decreases-loop-rest : goal.decreases-loop-rest
decreases-loop-rest g l = length l.rest
