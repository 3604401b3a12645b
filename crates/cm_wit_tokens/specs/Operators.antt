-- The operators of WIT texts (WIT.md, "Operators and Packages delimiters").
use Rattle.std.specs.Prelude.{ℕ, List, Option, Some, None, if◌then◌else◌, ◌==◌, codes}
use Rattle.cm_wit_tokens.specs.declared.operator.Operator.{Operator}
use Rattle.cm_wit_tokens.specs.declared.operator.Operator.TheVariants as operator

-- the operator that one byte is, if it is one: = , : ; ( ) { } < > / . @ _
abbrev pub operator_of : ℕ → Option Operator
operator_of b =
    if b == 0x3D then Some operator.Equals
    else if b == 0x2C then Some operator.Comma
    else if b == 0x3A then Some operator.Colon
    else if b == 0x3B then Some operator.Semicolon
    else if b == 0x28 then Some operator.LeftParenthesis
    else if b == 0x29 then Some operator.RightParenthesis
    else if b == 0x7B then Some operator.LeftBrace
    else if b == 0x7D then Some operator.RightBrace
    else if b == 0x3C then Some operator.LessThan
    else if b == 0x3E then Some operator.GreaterThan
    else if b == 0x2F then Some operator.Slash
    else if b == 0x2E then Some operator.Period
    else if b == 0x40 then Some operator.At
    else if b == 0x5F then Some operator.Underscore
    else None

-- how an operator is spelled
abbrev pub operator_spelling : Operator → List ℕ
operator_spelling operator.Equals = codes "="
operator_spelling operator.Comma = codes ","
operator_spelling operator.Colon = codes ":"
operator_spelling operator.Semicolon = codes ";"
operator_spelling operator.LeftParenthesis = codes "("
operator_spelling operator.RightParenthesis = codes ")"
operator_spelling operator.LeftBrace = codes "{"
operator_spelling operator.RightBrace = codes "}"
operator_spelling operator.LessThan = codes "<"
operator_spelling operator.GreaterThan = codes ">"
operator_spelling operator.Arrow = codes "->"
operator_spelling operator.Slash = codes "/"
operator_spelling operator.Period = codes "."
operator_spelling operator.At = codes "@"
operator_spelling operator.Underscore = codes "_"
