-- Strings in memory: a pointer and a tagged length (CanonicalABI.md, "Loading" of strings).
use Rattle.std.specs.Prelude.{◌≡◌, ℕ, ◌+◌, ◌*◌, ◌-◌, ◌≤◌, List, [], ◌∷◌, take, drop, not, nat_lt}
use Rattle.std.specs.Prelude.{if◌then◌else◌, Bool, length}
use Rattle.std.specs.Char.{IsScalar}
use Rattle.cm_text.specs.Text.{IsText}
use Rattle.cm_text.specs.Utf8.{spell_utf8}
use Rattle.cm_text.specs.Utf16.{spell_utf16}
use Rattle.cm_text.specs.Latin1.{HasLatin1, spell_latin1}
use Rattle.cm_abi_model.specs.declared.encoding.TheConstants as constants
use Rattle.cm_abi_model.specs.declared.encoding.StringEncoding.{StringEncoding}
use Rattle.cm_abi_model.specs.declared.encoding.StringEncoding.TheVariants as encoding

-- what the bytes of one string are in
pub data Charset : Type 0 where
  utf8 : Charset
  utf16 : Charset
  latin1 : Charset

-- the scalars that it spells, and the bytes of each
abbrev pub Has : Charset → ℕ → Type 0
Has utf8 c = IsScalar c
Has utf16 c = IsScalar c
Has latin1 c = HasLatin1 c

abbrev pub spell : Charset → ℕ → List ℕ
spell utf8 c = spell_utf8 c
spell utf16 c = spell_utf16 c
spell latin1 c = spell_latin1 c

-- how many bytes a unit of it has
abbrev pub unit_size : Charset → ℕ
unit_size utf8 = 1
unit_size utf16 = 2
unit_size latin1 = 1

-- the bit of a length that says UTF-16, where strings are in Latin-1 or in UTF-16
abbrev pub UTF16_TAG : ℕ
UTF16_TAG = constants.UTF16_TAG

-- what the string of this length is in
abbrev pub charset_of : StringEncoding → ℕ → Charset
charset_of encoding.Utf8 n = utf8
charset_of encoding.Utf16 n = utf16
charset_of encoding.Latin1OrUtf16 n = if nat_lt n UTF16_TAG then latin1 else utf16

-- how many units that length counts
abbrev pub units_of : StringEncoding → ℕ → ℕ
units_of encoding.Utf8 n = n
units_of encoding.Utf16 n = n
units_of encoding.Latin1OrUtf16 n = if nat_lt n UTF16_TAG then n else n - UTF16_TAG

-- the tag of that length, whether it says UTF-16; none where strings are in one encoding alone
abbrev pub tag_of : StringEncoding → ℕ → List Bool
tag_of encoding.Utf8 n = []
tag_of encoding.Utf16 n = []
tag_of encoding.Latin1OrUtf16 n = not (nat_lt n UTF16_TAG) ∷ []

-- how many bytes the string of that length has
abbrev pub text_size : StringEncoding → ℕ → ℕ
text_size e n = unit_size (charset_of e n) * units_of e n

-- the alignment of a string's pointer
abbrev pub text_align : StringEncoding → ℕ
text_align encoding.Utf8 = 1
text_align encoding.Utf16 = 2
text_align encoding.Latin1OrUtf16 = 2

-- so many bytes from an address on
abbrev pub bytes_from : List ℕ → ℕ → ℕ → List ℕ
bytes_from memory at size = take size (drop at memory)

-- an address is a multiple of an alignment
abbrev pub IsAligned : ℕ → ℕ → Type 0
IsAligned align at = (k : ℕ) × (at ≡ k * align)

-- the bytes in memory at this pointer, of this tagged length, are the text of these scalars; the
-- pointer is aligned and all bytes lie in the memory, of an empty string too
pub record ShowsText (e : StringEncoding) (memory : List ℕ) (at n : ℕ) (scalars : List ℕ)
    : Type 0 where
  pub aligned : IsAligned (text_align e) at
  pub inside : at + text_size e n ≤ length memory
  pub text : IsText (Has (charset_of e n)) (spell (charset_of e n)) scalars
      (bytes_from memory at (text_size e n))
