-- UTF-8 as the libraries speak of it.
use Rattle.std.proofs.Common.{◌≡◌, ℕ, ◌≤◌, List, [], ◌∷◌, ◌++◌, length, take, drop, refl, sym, ap, ◌∙◌, arith, Some, None, length-append}
use Rattle.std.specs.Char.{IsScalar, encode_utf8}
use Rattle.std.specs.List.{flat_map}
use Rattle.std.specs.Str.{IsUtf8, IsValidUpTo, encode_utf8_all}
use Rattle.bstr.specs.Utf8.{Decoded, decoded, good}
use Rattle.bstr.proofs.lemmas.EncodeLemmas.{decoded-encode}
use Rattle.bstr.proofs.lemmas.SoundLemmas.{SpellsChar-decoded}
use Rattle.cm_text.specs.Text.{IsText, IsSomeText, IsTextUpTo}
use Rattle.cm_text.specs.Utf8.{spell_utf8}
use Rattle.cm_text.specs.Utf8Laws.{spell_utf8-encode}
use Rattle.cm_lemmas.proofs.Lists.{from_all, to_all}

pub spelled : (cs : List ℕ) → encode_utf8_all cs ≡ flat_map spell_utf8 cs
spelled [] = refl
spelled (c ∷ cs) = ap (λ ys. ys ++ encode_utf8_all cs) (sym (spell_utf8-encode c)) ∙ ap (λ ys. spell_utf8 c ++ ys) (spelled cs)

pub text_of : (bytes : List ℕ) → IsUtf8 bytes → IsSomeText IsScalar spell_utf8 bytes
text_of bytes is = (is.0, record { all = to_all is.0 is.1.0; is = sym (spelled is.0) ∙ is.1.1 })

utf8_of : (cs bytes : List ℕ) → IsText IsScalar spell_utf8 cs bytes → IsUtf8 bytes
utf8_of cs bytes text = (cs, (from_all cs text.all, spelled cs ∙ text.is))

pub text_up_to : (bytes : List ℕ) (n : ℕ) → IsValidUpTo bytes n → IsTextUpTo IsScalar spell_utf8 bytes n
text_up_to bytes n up = record
    { short = up.short; front = text_of (take n bytes) up.front; longest = λ m cs past text. up.longest m past (utf8_of cs (take m bytes) text) }

-- what a decoder found is the first scalar
pub found : (bytes : List ℕ) (c size : ℕ) → Some c ≡ (decoded bytes).char → size ≡ (decoded bytes).size
    → IsScalar c × (bytes ≡ spell_utf8 c ++ drop size bytes) × (size ≤ length bytes)
found bytes c size char_is size_is =
    let s = SpellsChar-decoded bytes c (sym char_is) in
    let split : bytes ≡ spell_utf8 c ++ drop size bytes =
    s.bytes ∙ ap (λ n. encode_utf8 c ++ drop n bytes) (sym size_is) ∙ ap (λ ys. ys ++ drop size bytes) (sym (spell_utf8-encode c)) in (
      s.scalar,
      split,
      omega (arith, ap length split, length-append (spell_utf8 c) (drop size bytes), ap length (spell_utf8-encode c), s.width, size_is),
    )

pub not_found : (bytes : List ℕ) → None ≡ (decoded bytes).char → (c : ℕ) (rest : List ℕ) → IsScalar c → bytes ≡ spell_utf8 c ++ rest → ⊥
not_found bytes none c rest is split =
    let same : decoded bytes ≡ good c (length (encode_utf8 c)) = ap decoded (split ∙ ap (λ ys. ys ++ rest) (spell_utf8-encode c)) ∙ decoded-encode c rest is in
    let char_is : (decoded bytes).char ≡ Some c = ap (λ (d : Decoded). d.char) same in
    cc
