-- Numbers, texts and names in component files (Binary.md, "Component Definitions"). A production
-- says which bytes spell which value, and what is the first fault of bytes that spell none.
-- `x ← g` reads one thing, and the next line what stands behind it.
use Rattle.std.specs.Prelude.{ℕ, List, [], ◌∷◌}
use Rattle.std.specs.Str.{is_utf8}
use Rattle.cm_binary_grammar.specs.Grammar.{Grammar, ◌>>=◌, number, raw, check, fixed, vec}
use Rattle.cm_binary_grammar.specs.Whole.{Whole}
use Rattle.cm_types.specs.Names.{is_label}
use Rattle.cm_types.specs.ExternNames.{is_extern_name}
use Rattle.cm_binary_forms.specs.declared.fault.DecodeReason.{DecodeReason}
use Rattle.cm_binary_forms.specs.declared.fault.DecodeReason.TheVariants.{BadNumber, UnknownCode}
use Rattle.cm_binary_forms.specs.declared.fault.DecodeReason.TheVariants.{BadUtf8, BadName}

-- A production of the grammar, and one of bytes to their end.
abbrev pub Production : Type 0 → Type 1
Production A = Grammar DecodeReason A

abbrev pub WholeProduction : Type 0 → Type 1
WholeProduction A = Whole DecodeReason A

-- An index, a count or a size.
abbrev pub index : Production ℕ
index = number BadNumber

-- A count, and so many.
abbrev pub vector : {A : Type 0} → Production A → Production (List A)
vector g = vec BadNumber g

-- A length in bytes, and as many bytes of UTF-8.
unfoldable pub text : Production (List ℕ)
text = do
  n ← index
  check is_utf8 BadUtf8 (raw n)

-- A text that is a label.
unfoldable pub label : Production (List ℕ)
label = do
  n ← index
  check is_label BadName (check is_utf8 BadUtf8 (raw n))

-- A text that is an extern name.
unfoldable pub plain_name : Production (List ℕ)
plain_name = do
  n ← index
  check is_extern_name BadName (check is_utf8 BadUtf8 (raw n))

-- The byte 00, and a text that is an extern name (`importname`, `exportname`).
unfoldable pub extern_name : Production (List ℕ)
extern_name = do
  plain ← fixed (0x00 ∷ []) UnknownCode
  plain_name
