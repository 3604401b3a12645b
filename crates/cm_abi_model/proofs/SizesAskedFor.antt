-- The last size that is asked for a part is the one that it takes.
use Rattle.std.proofs.Common.{◌≡◌, ℕ, ◌*◌, ◌/◌, ◌≤◌, List, [], ◌∷◌, length, refl, sym, ap, ◌∙◌, arith, length-append, inl, inr}
use Rattle.std.specs.Prelude.{nat_lt, if◌then◌else◌}
use Rattle.std.proofs.lemmas.Bool.{cases_Bool, ltb-false}
use Rattle.std.proofs.lemmas.Bool.Decides.{nat_tests}
use Rattle.std.specs.Char.Escape.{encode_utf16}
use Rattle.std.specs.List.{AllByRecursion, flat_map}
use Rattle.cm_text.specs.Latin1.{HasLatin1, spell_latin1}
use Rattle.cm_text.specs.Utf8.{spell_utf8}
use Rattle.cm_text.specs.Utf16.{spell_utf16}
use Rattle.cm_text.specs.Utf16Laws.{length_of_units}
use Rattle.cm_text.specs.Utf8Laws.{utf8_grows, utf8_units}
use Rattle.cm_abi_model.specs.declared.encoding.StringEncoding.{StringEncoding}
use Rattle.cm_abi_model.specs.declared.encoding.StringEncoding.TheVariants as encoding
use Rattle.cm_abi_model.specs.Parts.{Part, text_part, element_part}
use Rattle.cm_abi_model.specs.Regions.{part_size}
use Rattle.cm_abi_model.specs.Requests.{IsStored, HasScalars, last_size, shrunk, text_sizes, text_bytes, text_units, part_sizes, stored_charset}
use Rattle.cm_abi_model.specs.Texts.{Charset, Has, utf8, utf16, latin1}

-- strings are kept in it
abbrev IsKept : Charset → Type 0
IsKept utf8 = Unit {0}
IsKept utf16 = Unit {0}
IsKept latin1 = ⊥

-- a text takes as many bytes of UTF-8 as units of UTF-16 or more, and at most three times as many
one_8_16 : (c : ℕ) → (length (spell_utf16 c) ≤ 2 * length (spell_utf8 c)) × (2 * length (spell_utf8 c) ≤ 3 * length (spell_utf16 c))
one_8_16 c =
    (omega (arith, length_of_units (encode_utf16 c), (utf8_units c).1, (utf8_units c).2), omega (arith, length_of_units (encode_utf16 c), utf8_grows c))

texts_8_16 : (cs : List ℕ) → (length (flat_map spell_utf16 cs) ≤ 2 * length (flat_map spell_utf8 cs))
    × (2 * length (flat_map spell_utf8 cs) ≤ 3 * length (flat_map spell_utf16 cs))
texts_8_16 [] = (omega arith, omega arith)
texts_8_16 (c ∷ cs) =
    let one = one_8_16 c in
    let rest = texts_8_16 cs in
    let len_8 = length-append (spell_utf8 c) (flat_map spell_utf8 cs) in
    let len_16 = length-append (spell_utf16 c) (flat_map spell_utf16 cs) in
    (omega (arith, one.0, rest.0, len_8, len_16), omega (arith, one.1, rest.1, len_8, len_16))

-- UTF-16 has two bytes a unit
half : (cs : List ℕ) → 2 * (length (flat_map spell_utf16 cs) / 2) ≡ length (flat_map spell_utf16 cs)
half [] = refl
half (c ∷ cs) =
    omega (arith, half cs, length_of_units (encode_utf16 c), length-append (spell_utf16 c) (flat_map spell_utf16 cs))

-- a text of Latin-1 takes one or two bytes of UTF-8 a byte
one_latin1 : (c : ℕ) → HasLatin1 c → (1 ≤ length (spell_utf8 c)) × (length (spell_utf8 c) ≤ 2)
one_latin1 c small = (grind (arith, nat_tests), grind (arith, nat_tests))

latin1_8 : (cs : List ℕ) → AllByRecursion HasLatin1 cs
    → (length (flat_map spell_latin1 cs) ≤ length (flat_map spell_utf8 cs))
    × (length (flat_map spell_utf8 cs) ≤ 2 * length (flat_map spell_latin1 cs))
latin1_8 [] all = (omega arith, omega arith)
latin1_8 (c ∷ cs) all =
    let one = one_latin1 c all.0 in
    let rest = latin1_8 cs all.1 in
    let len = length-append (spell_utf8 c) (flat_map spell_utf8 cs) in
    (omega (arith, one.0, rest.0, len), omega (arith, one.1, rest.1, len))

-- the last of one or two sizes
last_shrunk : (size exact : ℕ) → exact ≤ size → last_size (shrunk size exact) ≡ exact
last_shrunk size exact le = elim (cases_Bool (nat_lt exact size)) [
  | inl less ↦ ap (λ b. last_size (if b then size ∷ exact ∷ [] else size ∷ [])) less
  | inr not_less ↦ ap (λ b. last_size (if b then size ∷ exact ∷ [] else size ∷ [])) not_less
      ∙ omega (arith, le, ltb-false exact size not_less)
]

-- the last of what is asked for a text that may have to grow
last_grown : (units most exact : ℕ) → units ≤ exact → exact ≤ most
    → last_size (if nat_lt units exact then units ∷ shrunk most exact else units ∷ []) ≡ exact
last_grown units most exact low high = elim (cases_Bool (nat_lt units exact)) [
  | inl less ↦ ap (λ b. last_size (if b then units ∷ shrunk most exact else units ∷ [])) less
      ∙ behind units most exact ∙ last_shrunk most exact high
  | inr not_less ↦ ap (λ b. last_size (if b then units ∷ shrunk most exact else units ∷ [])) not_less
      ∙ omega (arith, low, ltb-false units exact not_less)
]
  where
    behind : (units most exact : ℕ) → last_size (units ∷ shrunk most exact) ≡ last_size (shrunk most exact)
    behind units most exact = elim (cases_Bool (nat_lt exact most)) [
      | inl less ↦ ap (λ b. last_size (units ∷ (if b then most ∷ exact ∷ [] else most ∷ []))) less
          ∙ sym (ap (λ b. last_size (if b then most ∷ exact ∷ [] else most ∷ [])) less)
      | inr not_less ↦ ap (λ b. last_size (units ∷ (if b then most ∷ exact ∷ [] else most ∷ []))) not_less
          ∙ sym (ap (λ b. last_size (if b then most ∷ exact ∷ [] else most ∷ [])) not_less)
    ]

text_ends : (source target : Charset) (cs : List ℕ) → IsKept target → AllByRecursion (Has source) cs
    → last_size (text_sizes source target (text_units source cs) (length (text_bytes target cs))) ≡ length (text_bytes target cs)
text_ends utf8 utf8 cs kept all = refl
text_ends utf8 utf16 cs kept all =
    last_shrunk (2 * (length (flat_map spell_utf8 cs) / 1)) (length (flat_map spell_utf16 cs)) (omega (arith, (texts_8_16 cs).0))
text_ends utf16 utf8 cs kept all =
    last_grown (length (flat_map spell_utf16 cs) / 2) (3 * (length (flat_map spell_utf16 cs) / 2)) (length (flat_map spell_utf8 cs))
    (omega (arith, (texts_8_16 cs).0, half cs)) (omega (arith, (texts_8_16 cs).1, half cs))
text_ends utf16 utf16 cs kept all = refl
text_ends latin1 utf8 cs kept all =
    last_grown (length (flat_map spell_latin1 cs) / 1) (2 * (length (flat_map spell_latin1 cs) / 1)) (length (flat_map spell_utf8 cs))
    (omega (arith, (latin1_8 cs all).0)) (omega (arith, (latin1_8 cs all).1))
text_ends latin1 utf16 cs kept all = refl
text_ends source latin1 cs kept all = absurd kept

kept_in : (target : StringEncoding) → IsKept (stored_charset target)
kept_in encoding.Utf8 = tt
kept_in encoding.Utf16 = tt
kept_in encoding.Latin1OrUtf16 = tt

pub ends_exact : (source : Charset) (target : StringEncoding) (part : Part) → HasScalars source part
    → last_size (part_sizes source (stored_charset target) part) ≡ part_size target part
ends_exact source target (text_part cs) all = text_ends source (stored_charset target) cs (kept_in target) all
ends_exact source target (element_part count size align) all = refl
