-- Single tokens, as tables (WIT.md, "Lexical structure").
use Rattle.std.specs.Prelude.{ℕ, ◌==◌, if◌then◌else◌, List, [], ◌∷◌, Result}
use Rattle.std.specs.Prelude.{Ok, Err}
use Rattle.cm_wit_tokens.specs.declared.keyword.Keyword.{Keyword}
use Rattle.cm_wit_tokens.specs.declared.keyword.Keyword.TheVariants as word
use Rattle.cm_wit_tokens.specs.declared.operator.Operator.{Operator}
use Rattle.cm_wit_tokens.specs.declared.operator.Operator.TheVariants as operator
use Rattle.cm_wit_tokens.specs.declared.token.Token.{Token}
use Rattle.cm_wit_tokens.specs.declared.token.Form.{Form}
use Rattle.cm_wit_tokens.specs.declared.token.Form.TheVariants as form
use Rattle.cm_wit_tokens.specs.Forms.{is_keyword, is_operator}
use Rattle.cm_wit_tokens.specs.declared.fault.ReadError.{ReadError}
use Rattle.cm_wit_tokens.specs.declared.fault.ReadError.TheVariants as errors
use Rattle.cm_wit_tokens.specs.declared.fault.WitReason.{WitReason}
use Rattle.cm_wit_tokens.specs.declared.fault.WitReason.TheVariants as reason
use Rattle.cm_wit_tokens.specs.Grammar.{Grammar, token}

-- the keywords of forms that are not read (this project's own choice)
abbrev pub keyword_fault : Keyword → WitReason
keyword_fault word.Include = reason.Unsupported
keyword_fault word.Own = reason.Unsupported
keyword_fault word.F32 = reason.Unsupported
keyword_fault word.F64 = reason.Unsupported
keyword_fault word.Stream = reason.Unsupported
keyword_fault word.Future = reason.Unsupported
keyword_fault word.Async = reason.Unsupported
keyword_fault word.From = reason.Unsupported
keyword_fault _ = reason.Unexpected

-- why a token is no part of what is wanted
abbrev pub other_fault : Form → WitReason
other_fault (form.Keyword k) = keyword_fault k
other_fault _ = reason.Unexpected

-- why a token begins no item: `@` begins a gate, and gates are not read (this project's own choice)
abbrev pub no_item : Form → WitReason
no_item (form.Operator operator.At) = reason.Unsupported
no_item f = other_fault f

-- why a token begins no item of a file, where `use` is not read either (this project's own choice)
abbrev pub no_file_item : Form → WitReason
no_file_item (form.Keyword word.Use) = reason.Unsupported
no_file_item f = no_item f

-- the faults of the next token, or of its want
abbrev pub unexpected : List Token → ReadError
unexpected [] = errors.Fault reason.Unexpected
unexpected (t ∷ ts) = errors.Fault (other_fault t.form)

abbrev pub unexpected_item : List Token → ReadError
unexpected_item [] = errors.Fault reason.Unexpected
unexpected_item (t ∷ ts) = errors.Fault (no_item t.form)

abbrev pub unexpected_file_item : List Token → ReadError
unexpected_file_item [] = errors.Fault reason.Unexpected
unexpected_file_item (t ∷ ts) = errors.Fault (no_file_item t.form)

-- reads this operator
abbrev pub expect : Operator → Grammar (Unit {0})
expect o = token (λ f. if is_operator o f then Ok tt else Err (other_fault f))

-- reads this keyword
abbrev pub expect_word : Keyword → Grammar (Unit {0})
expect_word k = token (λ f. if is_keyword k f then Ok tt else Err (other_fault f))

-- an identifier
abbrev pub identifier_of : Form → Result (List ℕ) WitReason
identifier_of (form.Identifier text) = Ok text
identifier_of f = Err (other_fault f)

abbrev pub identifier : Grammar (List ℕ)
identifier = token identifier_of

-- the length of a list of fixed length, above 0
abbrev pub length_of : Form → Result ℕ WitReason
length_of (form.Integer n) = if n == 0 then Err reason.Unexpected else Ok n
length_of f = Err (other_fault f)

abbrev pub length : Grammar ℕ
length = token length_of

-- the version of a package
abbrev pub version_of : Form → Result (List ℕ) WitReason
version_of (form.Version text) = Ok text
version_of f = Err (other_fault f)
