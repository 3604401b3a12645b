-- The tokens of numbers.
use Rattle.std.proofs.Common.{◌≡◌, ℕ, zero, suc, ◌+◌, ◌-◌, ◌*◌, ◌/◌, ◌%◌, ◌^◌, ◌<◌, ◌≤◌, Bool, true, false, ◌==◌, if◌then◌else◌, List, [], ◌∷◌, ◌++◌, length, take, get_or, Some, None, refl, sym, ap, subst, ◌∙◌, arith}
use Rattle.std.specs.Prelude.{nat_lt}
use Rattle.std.specs.Fmt.{decimal}
use Rattle.std.proofs.lemmas.Fmt.{decimal_digit, first_decimal, decimal_nonempty, decimal_by_steps}
use Rattle.std.proofs.Math.Seq.{take-append_seam, drop-append_seam}
use Rattle.std.proofs.lemmas.Bool.Decides.{nat_tests}
use Rattle.std.proofs.lemmas.Bool.{lt-ltb}
use Rattle.std.specs.Option.{option_map}
use Rattle.std.specs.Char.{is_ascii_alphabetic, is_ascii_digit}
use Rattle.cm_wit_tokens.specs.declared.run.Run.TheVariants as run
use Rattle.cm_wit_tokens.specs.declared.token.Form.TheVariants as form
use Rattle.cm_wit_tokens.specs.declared.front.Front.TheVariants as front_is
use Rattle.cm_wit_tokens.specs.Runs.{goes_on, run_length}
use Rattle.cm_wit_tokens.specs.Tokens.{from_digits, integer_of, token_front, integer_front, is_blank, front}
use Rattle.cm_wit_package.proofs.Lexing.{Lexes, token_first}
use Rattle.cm_wit_package.proofs.Goods.{IsWhole}
use Rattle.cm_wit_package.proofs.WordLaws.{whole_by, run_of_whole, shorter}
use Rattle.cm_lemmas.proofs.Options.{some_number}

digits_by : (fits : Bool) (n d k : ℕ) (ds : List ℕ) → (if fits then from_digits n ds else None) ≡ Some k → (from_digits n ds ≡ Some k → from_digits n (ds ++ d ∷ []) ≡ Some (k * 10 + (d - 48))) → (if fits then from_digits n (ds ++ d ∷ []) else None) ≡ Some (k * 10 + (d - 48))
digits_by true n d k ds e h = h e
digits_by false n d k ds e h = absurd cc

one_more : (ds : List ℕ) (n d k : ℕ) → from_digits n ds ≡ Some k → k * 10 + (d - 48) < 2 ^ 32 → from_digits n (ds ++ d ∷ []) ≡ Some (k * 10 + (d - 48))
unfolding from_digits
one_more [] n d k e lt = rw (some_number n k e, lt-ltb (k * 10 + (d - 48)) (2 ^ 32) lt) refl
one_more (b ∷ ds) n d k e lt = digits_by (nat_lt (n * 10 + (b - 0x30)) (2 ^ 32)) (n * 10 + (b - 0x30)) d k ds e (λ h. one_more ds (n * 10 + (b - 0x30)) d k h lt)

whole_more : (ds : List ℕ) (d : ℕ) → is_ascii_digit d ≡ true → IsWhole run.Digits ds → IsWhole run.Digits (ds ++ d ∷ [])
unfolding run_length
whole_more [] d h w = rw h refl
whole_more (b ∷ ds) d h w =
    let p = whole_by run.Digits b ds (is_ascii_digit b) refl w in
    rw p.0 (ap suc (whole_more ds d h p.1))

digit : (n : ℕ) → n < 10 → is_ascii_digit (48 + n) ≡ true
digit n lt = grind (arith, nat_tests)

one_digit : (n : ℕ) → n < 10 → IsWhole run.Digits ((48 + n) ∷ [])
unfolding run_length
one_digit n lt = rw (digit n lt) refl

one_value : (n : ℕ) → n < 10 → from_digits 0 ((48 + n) ∷ []) ≡ Some n
unfolding from_digits
one_value n lt =
    let e : 0 * 10 + (48 + n - 48) ≡ n = omega (arith) in
    rw (e, lt-ltb n (2 ^ 32) (omega (arith, lt))) refl

last_digit : (n : ℕ) → n / 10 * 10 + (48 + n % 10 - 48) ≡ n
last_digit n = omega arith

fewer : (n : ℕ) → n / 10 ≤ n
fewer n = omega arith

below_ten : (n : ℕ) → n % 10 < 10
below_ten n = omega arith

Reads : ℕ → List ℕ → Type 0
Reads n ds = IsWhole run.Digits ds × (n < 2 ^ 32 → from_digits 0 ds ≡ Some n)

decimal_reads : (n : ℕ) → n < 2 ^ 64 → Reads n (decimal n)
unfolding Reads
decimal_reads n lt =
    decimal_by_steps Reads
    (λ m few. (one_digit m few, λ fits. one_value m few))
    (λ m ds many h. (
      whole_more ds (48 + m % 10) (digit (m % 10) (below_ten m)) h.0,
      λ fits.
          let e = last_digit m in
          one_more ds 0 (48 + m % 10) (m / 10) (h.1 (omega (arith, fits, fewer m))) (omega (arith, e, fits)) ∙ ap Some e,
    ))
    n lt

no_zero : (n d e : ℕ) (ds : List ℕ) → decimal n ≡ d ∷ e ∷ ds → n < 2 ^ 64 → (d == 0x30) ≡ false
no_zero zero d e ds is lt = absurd (omega (arith, ap length (sym is ∙ decimal_digit 0 (omega arith))))
no_zero (suc n) d e ds is lt =
    let some : 48 < d = subst (λ (bs : List ℕ). 48 < get_or bs 0 0) is (first_decimal (suc n) (omega arith) lt) in
    grind (arith, nat_tests)

integer_by : (n : ℕ) (ds : List ℕ) → decimal n ≡ ds → n < 2 ^ 64 → from_digits 0 ds ≡ Some n → integer_of ds ≡ Some n
integer_by n [] is lt h = h
integer_by n (d ∷ []) is lt h = h
integer_by n (d ∷ e ∷ ds) is lt h = rw (no_zero n d e ds is lt) h

digit_front : (b : ℕ) (rest : List ℕ) → is_ascii_digit b ≡ true → front (b ∷ rest) ≡ integer_front (b ∷ rest)
digit_front b rest h =
    let blank : is_blank b ≡ false = grind (arith, nat_tests) in
    let slash : (b == 0x2F) ≡ false = grind (arith, nat_tests) in
    let hyphen : (b == 0x2D) ≡ false = grind (arith, nat_tests) in
    let percent : (b == 0x25) ≡ false = grind (arith, nat_tests) in
    let letter : is_ascii_alphabetic b ≡ false = grind (arith, nat_tests) in
    rw (blank, slash, hyphen, percent, letter, h) refl

integer_is : (ds rest : List ℕ) (n : ℕ) → IsWhole run.Digits ds → goes_on run.Digits rest ≡ false → integer_of ds ≡ Some n → integer_front (ds ++ rest) ≡ front_is.Token (form.Integer n) (length ds)
integer_is ds rest n w s e =
    ap (λ k. token_front (option_map (λ m. form.Integer m) (integer_of (take k (ds ++ rest)))) k) (run_of_whole run.Digits ds rest w s)
    ∙ (ap (λ text. token_front (option_map (λ m. form.Integer m) (integer_of text)) (length ds)) (take-append_seam ds rest)
    ∙ ap (λ o. token_front (option_map (λ m. form.Integer m) o) (length ds)) e)

digits_lexes : (ds : List ℕ) (n : ℕ) → 0 < length ds → IsWhole run.Digits ds → integer_of ds ≡ Some n → Lexes ds (form.Integer n ∷ []) true
digits_lexes [] n some w e = absurd (omega (arith, some))
digits_lexes (b ∷ bs) n some w e = record {
  at = λ rest gs stops l.
      token_first false ((b ∷ bs) ++ rest) rest (form.Integer n) (length (b ∷ bs)) gs
      (digit_front b (bs ++ rest) (whole_by run.Digits b bs (is_ascii_digit b) refl w).0 ∙ integer_is (b ∷ bs) rest n w stops.1 e)
      (drop-append_seam (b ∷ bs) rest) (shorter b bs rest) l;
}

pub number_lexes : (n : ℕ) → n < 2 ^ 32 → Lexes (decimal n) (form.Integer n ∷ []) true
unfolding Reads
number_lexes n lt =
    let wide : n < 2 ^ 64 = omega (arith, lt) in
    let r = decimal_reads n wide in
    digits_lexes (decimal n) n (decimal_nonempty n wide) r.0 (integer_by n (decimal n) refl wide (r.1 lt))
