use Rattle.std.proofs.Common.{◌-◌}
use Rattle.cm_wit_projects_tokens.specs.Tokens.{lexed}
use Rattle.cm_wit_projects_tokens.proofs.LexedLaws.{Goes}
use Rattle.cm_wit_projects_tokens.proofs.tokens.lexed.Given as goal

abbrev pub invariant-loop-turn : goal.invariant-loop-turn
invariant-loop-turn l = Goes (l._turn-end - l._turn) l.tokens.items l.standing l.rest (lexed l.text)
