use Rattle.std.proofs.Common.{◌-◌, length}
use Rattle.std.specs.Char.{IsScalar}
use Rattle.cm_text.specs.Utf16.{spell_utf16}
use Rattle.cm_text.specs.Utf8.{spell_utf8}
use Rattle.cm_text.proofs.MidwayLemmas.{Midway}
use Rattle.cm_text.proofs.writes.utf16_to_utf8.Given as goal

abbrev pub invariant-loop-at : goal.invariant-loop-at
invariant-loop-at l = Midway IsScalar spell_utf16 spell_utf8 l.bytes l.at l.out l.to

abbrev pub decreases-loop-at : goal.decreases-loop-at
decreases-loop-at l = length l.bytes - l.at
