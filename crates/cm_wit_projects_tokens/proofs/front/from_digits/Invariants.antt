use Rattle.cm_wit_tokens.specs.Tokens.{from_digits}
use Rattle.cm_wit_projects_tokens.proofs.DigitLaws.{Grows}
use Rattle.cm_wit_projects_tokens.proofs.front.from_digits.Given as goal

abbrev pub invariant-loop-digit : goal.invariant-loop-digit
invariant-loop-digit l = Grows (from_digits 0 l.digits) l.number l.digits l.digit-index
