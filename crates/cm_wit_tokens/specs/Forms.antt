-- Tests on tokens. Operators and keywords are the same where their texts are.
use Rattle.std.specs.Prelude.{Bool, false}
use Rattle.std.specs.Str.{bytes_eq}
use Rattle.cm_wit_tokens.specs.declared.keyword.Keyword.{Keyword}
use Rattle.cm_wit_tokens.specs.declared.operator.Operator.{Operator}
use Rattle.cm_wit_tokens.specs.declared.token.Form.{Form}
use Rattle.cm_wit_tokens.specs.declared.token.Form.TheVariants as form
use Rattle.cm_wit_tokens.specs.Keywords.{spelling}
use Rattle.cm_wit_tokens.specs.Operators.{operator_spelling}

abbrev pub is_operator : Operator → Form → Bool
is_operator o (form.Operator p) = bytes_eq (operator_spelling p) (operator_spelling o)
is_operator o _ = false

abbrev pub is_keyword : Keyword → Form → Bool
is_keyword k (form.Keyword l) = bytes_eq (spelling l) (spelling k)
is_keyword k _ = false
