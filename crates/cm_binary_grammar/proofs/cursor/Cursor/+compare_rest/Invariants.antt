use Rattle.std.proofs.Common.{length}
use Rattle.cm_binary_grammar.proofs.cursor.Cursor.+compare_rest.Given as goal

abbrev pub decreases-compare_rest : goal.decreases-compare_rest
decreases-compare_rest g l = length l.literal.now
