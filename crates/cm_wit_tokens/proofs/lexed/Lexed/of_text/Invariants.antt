use Rattle.std.proofs.Common.{length}
use denote.Shadow.{shadow}
use denote.Text.{Utf8}
use Rattle.cm_wit_tokens.specs.Tokens.{lexed}
use Rattle.cm_wit_tokens.proofs.LexedLaws.{Goes}
use Rattle.cm_wit_tokens.proofs.lexed.Lexed.of_text.Given as goal

abbrev pub invariant-loop-behind_at : goal.invariant-loop-behind_at
invariant-loop-behind_at l = shadow (Utf8 l.rest) × Goes l.tokens.items l.behind_at l.rest (lexed l.text)

abbrev pub decreases-loop-behind_at : goal.decreases-loop-behind_at
decreases-loop-behind_at l = length l.rest
