-- Where tokens stand, as to gates (WIT.md, "Feature Gates"): `@` word `(` field `=` value `)`.
use Rattle.cm_wit_tokens.specs.declared.operator.Operator.{Operator}
use Rattle.cm_wit_tokens.specs.declared.operator.Operator.TheVariants as operator
use Rattle.cm_wit_tokens.specs.declared.token.Form.{Form}
use Rattle.cm_wit_tokens.specs.declared.token.Form.TheVariants as form
use Rattle.cm_wit_projects_tokens.specs.declared.standing.Standing.{Standing}
use Rattle.cm_wit_projects_tokens.specs.declared.standing.Standing.TheVariants as standing

-- where the token behind a mark stands
abbrev pub behind_mark : Standing → Operator → Standing
behind_mark s operator.At = standing.BehindAt
behind_mark standing.BehindWord operator.LeftParenthesis = standing.InGate
behind_mark standing.InGate operator.RightParenthesis = standing.Plain
behind_mark standing.InGate o = standing.InGate
behind_mark s o = standing.Plain

-- where the token behind a token stands
abbrev pub standing_behind : Standing → Form → Standing
standing_behind s (form.Operator o) = behind_mark s o
standing_behind standing.BehindAt (form.Identifier text) = standing.BehindWord
standing_behind standing.InGate f = standing.InGate
standing_behind s f = standing.Plain
