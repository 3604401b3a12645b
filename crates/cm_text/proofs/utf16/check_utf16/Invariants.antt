use Rattle.std.proofs.Common.{length}
use Rattle.std.specs.Char.{IsScalar}
use Rattle.cm_text.specs.Utf16.{spell_utf16}
use Rattle.cm_text.proofs.TextLemmas.{ReadSome}
use Rattle.cm_text.proofs.utf16.check_utf16.Given as goal

abbrev pub invariant-loop-rest : goal.invariant-loop-rest
invariant-loop-rest l = ReadSome IsScalar spell_utf16 l.bytes l.rest

abbrev pub decreases-loop-rest : goal.decreases-loop-rest
decreases-loop-rest l = length l.rest
