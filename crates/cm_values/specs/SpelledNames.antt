-- Names in the text of a value (WAVE, "Labels").
use Rattle.std.specs.Prelude.{ℕ, ◌||◌, Bool, if◌then◌else◌, List, ◌∷◌, codes}
use Rattle.std.specs.Str.{bytes_eq}
use Rattle.cm_types.specs.Types.{CasesKind, variant_type, enum_type, option_type, result_type}

-- whether a label is a word of the notation itself
abbrev pub is_keyword : List ℕ → Bool
is_keyword l =
    bytes_eq l (codes "true") || (bytes_eq l (codes "false")
    || (bytes_eq l (codes "inf") || (bytes_eq l (codes "nan")
    || (bytes_eq l (codes "some") || (bytes_eq l (codes "none")
    || (bytes_eq l (codes "ok") || bytes_eq l (codes "err")))))))

-- a label, with `%` (0x25) before it where it would be a keyword
abbrev pub name_spelling : List ℕ → List ℕ
name_spelling l = if is_keyword l then 0x25 ∷ l else l

-- The name of a case: those of options and results are keywords, `err` for the case `error`.
abbrev pub case_word : CasesKind → List ℕ → List ℕ
case_word variant_type l = name_spelling l
case_word enum_type l = name_spelling l
case_word option_type l = l
case_word result_type l = if bytes_eq l (codes "error") then codes "err" else l
