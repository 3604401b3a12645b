-- ASCII in each encoding.
use Rattle.std.proofs.Common.{◌≡◌, ℕ, ◌+◌, ◌*◌, ◌/◌, ◌%◌, ◌<◌, Bool, true, false, cond, List, [], ◌∷◌, ◌++◌, length, take, drop, refl, sym, ap, subst, ◌∙◌, arith, suc}
use Rattle.std.proofs.lemmas.Bool.Decides.{nat_tests}
use Rattle.std.proofs.lemmas.List.{take-append-drop, length-take-le}
use Rattle.std.proofs.lemmas.List.Sums.{prefix_len-le-length}
use Rattle.std.specs.Char.{IsScalar, is_ascii}
use Rattle.std.specs.List.{AllByRecursion, flat_map, prefix_len}
use lib.Utf8.{low_scalar}
use Rattle.cm_text.specs.Ascii.{wide}
use Rattle.cm_text.specs.Utf16.{bytes_of_unit, spell_utf16}
use Rattle.cm_text.specs.Utf16Laws.{one_unit, utf16_one_spelling, utf16_some_byte}
use Rattle.cm_text.specs.Utf8Laws.{utf8_one_spelling, utf8_some_byte}
use Rattle.cm_text.specs.Latin1Laws.{latin1_one_spelling, latin1_some_byte}
use Rattle.cm_text.specs.Latin1.{HasLatin1, spell_latin1}
use Rattle.cm_text.specs.Utf8.{spell_utf8}
use Rattle.cm_text.proofs.TextLemmas.{Laws}

abbrev pub AreAscii : List ℕ → Type 0
AreAscii xs = AllByRecursion (λ x. x < 128) xs

-- a run is ASCII
below_128 : (x : ℕ) → is_ascii x ≡ true → x < 128
below_128 x is = grind (arith, nat_tests)

run_step : (x : ℕ) (xs : List ℕ) (b : Bool) → is_ascii x ≡ b → AreAscii (take (prefix_len is_ascii xs) xs)
    → AreAscii (take (cond b (1 + prefix_len is_ascii xs) 0) (x ∷ xs))
run_step x xs false is so_far = tt
run_step x xs true is so_far =
    subst (λ n. AreAscii (take n (x ∷ xs))) {x = suc (prefix_len is_ascii xs)} {y = 1 + prefix_len is_ascii xs} (omega arith) (below_128 x is, so_far)

pub ascii_in_run : (xs : List ℕ) → AreAscii (take (prefix_len is_ascii xs) xs)
ascii_in_run [] = tt
ascii_in_run (x ∷ xs) = run_step x xs (is_ascii x) refl (ascii_in_run xs)

pub ascii_scalars : (xs : List ℕ) → AreAscii xs → AllByRecursion IsScalar xs
ascii_scalars [] all = tt
ascii_scalars (x ∷ xs) all = (low_scalar x (omega (arith, all.0)), ascii_scalars xs all.1)

ascii_utf8_one : (x : ℕ) → x < 128 → spell_utf8 x ≡ x ∷ []
ascii_utf8_one x below = grind (arith, nat_tests)

latin1_utf16_one : (x : ℕ) → x < 256 → spell_utf16 x ≡ x ∷ 0 ∷ []
latin1_utf16_one x below =
    let low : x % 256 ≡ x = omega arith in
    let high : x / 256 ≡ 0 = omega arith in
    ap (flat_map bytes_of_unit) (one_unit x (omega arith)) ∙ ap (λ a. a ∷ (x / 256) ∷ []) low ∙ ap (λ b. x ∷ b ∷ []) high

pub latin1_utf16 : (xs : List ℕ) → AllByRecursion HasLatin1 xs → flat_map spell_utf16 xs ≡ flat_map wide xs
latin1_utf16 [] all = refl
latin1_utf16 (x ∷ xs) all = ap (λ ys. ys ++ flat_map spell_utf16 xs) (latin1_utf16_one x all.0) ∙ ap (λ ys. x ∷ 0 ∷ ys) (latin1_utf16 xs all.1)

pub ascii_latin1 : (xs : List ℕ) → AreAscii xs → AllByRecursion HasLatin1 xs
ascii_latin1 [] all = tt
ascii_latin1 (x ∷ xs) all = (omega (arith, all.0), ascii_latin1 xs all.1)

pub ascii_utf8 : (xs : List ℕ) → AreAscii xs → flat_map spell_utf8 xs ≡ xs
ascii_utf8 [] all = refl
ascii_utf8 (x ∷ xs) all = ap (λ ys. ys ++ flat_map spell_utf8 xs) (ascii_utf8_one x all.0) ∙ ap (λ ys. x ∷ ys) (ascii_utf8 xs all.1)

pub ascii_utf16 : (xs : List ℕ) → AreAscii xs → flat_map spell_utf16 xs ≡ flat_map wide xs
ascii_utf16 xs all = latin1_utf16 xs (ascii_latin1 xs all)

pub length-wide : (xs : List ℕ) → length (flat_map wide xs) ≡ 2 * length xs
length-wide [] = refl
length-wide (x ∷ xs) = omega (arith, length-wide xs)

pub utf8_laws : Laws IsScalar spell_utf8
utf8_laws = record { some_byte = λ c _. utf8_some_byte c; one_spelling = λ c d x y _ _ same. utf8_one_spelling c d x y same }

pub utf16_laws : Laws IsScalar spell_utf16
utf16_laws = record { some_byte = λ c _. utf16_some_byte c; one_spelling = utf16_one_spelling }

pub latin1_laws : Laws HasLatin1 spell_latin1
latin1_laws = record { some_byte = λ c _. latin1_some_byte c; one_spelling = λ c d x y _ _ same. latin1_one_spelling c d x y same }

-- a run of ASCII at the front of bytes, as scalars in UTF-8 and in UTF-16
pub record Run (ys : List ℕ) (n : ℕ) : Type 0 where
  pub all : AllByRecursion IsScalar (take n ys)
  pub split : ys ≡ flat_map spell_utf8 (take n ys) ++ drop n ys
  pub size : length (flat_map spell_utf8 (take n ys)) ≡ n
  pub as_wide : flat_map spell_utf16 (take n ys) ≡ flat_map wide (take n ys)
  pub size_wide : length (flat_map spell_utf16 (take n ys)) ≡ 2 * n

pub run_of : (ys : List ℕ) (n : ℕ) → n ≡ prefix_len is_ascii ys → Run ys n
run_of ys n is =
    let xs = take n ys in
    let all : AreAscii xs = subst (λ k. AreAscii (take k ys)) (sym is) (ascii_in_run ys) in
    let long : length xs ≡ n = length-take-le n ys (omega (arith, prefix_len-le-length is_ascii ys)) in
    record {
      all = ascii_scalars xs all;
      split = sym (take-append-drop n ys) ∙ ap (λ zs. zs ++ drop n ys) (sym (ascii_utf8 xs all));
      size = ap length (ascii_utf8 xs all) ∙ long;
      as_wide = ascii_utf16 xs all;
      size_wide = ap length (ascii_utf16 xs all) ∙ length-wide xs ∙ ap (λ k. 2 * k) long;
    }
