use Rattle.std.proofs.Common.{length}
use Rattle.cm_binary_grammar.proofs.cursor.Cursor.+fixed.Given as goal

abbrev pub decreases-fixed : goal.decreases-fixed
decreases-fixed g l = length l.literal.now
