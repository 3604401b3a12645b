-- How many characters a text has, as its first ones are taken.
use Rattle.std.proofs.Common.{◌≡◌, ℕ, List, [], ◌++◌, length, Ok, Err, refl}
use Rattle.std.specs.Char.{encode_utf8}
use Rattle.std.specs.Str.{chars, IsUtf8}
use Rattle.std.proofs.lemmas.Str.{chars-nil, chars_past_char, IsUtf8-past_char}
use Rattle.cm_lemmas.proofs.Lists.{empty_list}
use Rattle.cm_values.specs.declared.value_fault.ValueReason.TheVariants as reason
use Rattle.cm_values.specs.Quoted.{one_char}

no_chars : (bs : List ℕ) → length bs ≡ 0 → chars bs ≡ []
no_chars bs none = rw (empty_list bs none) chars-nil

pub none_is : (bs : List ℕ) → length bs ≡ 0 → one_char bs ≡ Err reason.NotOneChar
none_is bs none = rw (no_chars bs none) refl

pub one_is : (bs rest : List ℕ) (c : ℕ) → IsUtf8 bs → bs ≡ encode_utf8 c ++ rest → length rest ≡ 0 → one_char bs ≡ Ok c
one_is bs rest c utf8 e none = rw (chars_past_char bs rest c utf8 e, no_chars rest none) refl

pub more_are : (bs rest more : List ℕ) (c d : ℕ) → IsUtf8 bs → bs ≡ encode_utf8 c ++ rest → rest ≡ encode_utf8 d ++ more → one_char bs ≡ Err reason.NotOneChar
more_are bs rest more c d utf8 e f = rw (chars_past_char bs rest c utf8 e, chars_past_char rest more d (IsUtf8-past_char bs rest c utf8 e) f) refl
