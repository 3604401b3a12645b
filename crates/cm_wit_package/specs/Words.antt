-- Tokens but for operators.
use Rattle.std.specs.Prelude.{Bool, true, false, if◌then◌else◌, List, [], ◌∷◌}
use Rattle.cm_wit_tokens.specs.declared.token.Form.{Form}
use Rattle.cm_wit_tokens.specs.declared.token.Form.TheVariants as form

abbrev pub is_word : Form → Bool
is_word (form.Operator o) = false
is_word (form.Keyword k) = true
is_word (form.Identifier text) = true
is_word (form.Version text) = true
is_word (form.Integer n) = true

-- keywords, identifiers, versions and integers, in order
abbrev pub words : List Form → List Form
words [] = []
words (f ∷ fs) = if is_word f then f ∷ words fs else words fs
