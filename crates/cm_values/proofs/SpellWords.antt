-- Texts that are read back: blanks, marks, names and numbers.
use Rattle.std.proofs.Common.{◌≡◌, ℕ, zero, suc, ◌^◌, ◌<◌, ◌==◌, ◌||◌, Bool, true, false, not, List, [], ◌∷◌, length, get_or, Option, Some, None, Ok, refl, sym, ap, ◌∙◌, arith, rules, inl, inr, nat_lt}
use Rattle.std.specs.Char.{is_ascii_digit}
use Rattle.std.specs.Fmt.{decimal}
use Rattle.std.specs.List.{list_all}
use Rattle.std.proofs.lemmas.Bool.{and_parts, lt-ltb, eqb-true, false≢true, ne_eqb}
use Rattle.std.proofs.lemmas.Fmt.{decimal_digit, decimal_nonempty, digits_decimal, digits_value-decimal, first_decimal}
use Rattle.std.proofs.lemmas.Str.Parse.{FoldsDigits, IsDigitsTest, IsNumeralModel, numerals_by_fold}
use Rattle.cm_values.specs.declared.kind.Kind.TheVariants as kind
use Rattle.cm_values.specs.Grammar.{first_or, passes}
use Rattle.cm_values.specs.Premises.{is_wordy}
use Rattle.cm_values.specs.Words.{belongs, gap, is, is_plain, known, magnitude, mark, mark_gap, name, number_below, place_in, read_on, some_word, this_byte, word}

-- ---- tests

pub or_false : (a b : Bool) → (a || b) ≡ false → (a ≡ false) × (b ≡ false)
or_false true b e = absurd cc
or_false false b e = (refl, e)

pub not_true : (a : Bool) → not a ≡ true → a ≡ false
not_true true e = absurd cc
not_true false e = refl

-- a byte that passes a test is none that does not
pub differs : (test : ℕ → Bool) (b c : ℕ) → test b ≡ true → test c ≡ false → (b == c) ≡ false
differs test b c passed failed = by (b == c) refl
  where
    by : (r : Bool) → (b == c) ≡ r → r ≡ false
    by true e = absurd (false≢true (sym failed ∙ (ap test (sym (eqb-true b c e)) ∙ passed)))
    by false e = refl

-- whether a byte may begin a thing: it is no blank, no comma, and closes nothing
abbrev pub opens : ℕ → Bool
opens b = not (belongs kind.Blank b || ((b == 0x2C) || ((b == 0x5D) || ((b == 0x7D) || (b == 0x29)))))

-- so it is none of these
pub opens_apart : (b : ℕ) → opens b ≡ true → (belongs kind.Blank b ≡ false) × ((b == 0x2C) ≡ false) × ((b == 0x5D) ≡ false) × ((b == 0x7D) ≡ false) × ((b == 0x29) ≡ false)
opens_apart b e =
    let blank = or_false (belongs kind.Blank b) ((b == 0x2C) || ((b == 0x5D) || ((b == 0x7D) || (b == 0x29)))) (not_true (belongs kind.Blank b || ((b == 0x2C) || ((b == 0x5D) || ((b == 0x7D) || (b == 0x29))))) e) in
    let comma = or_false (b == 0x2C) ((b == 0x5D) || ((b == 0x7D) || (b == 0x29))) blank.1 in
    let bracket = or_false (b == 0x5D) ((b == 0x7D) || (b == 0x29)) comma.1 in
    let brace = or_false (b == 0x7D) (b == 0x29) bracket.1 in
    (blank.0, comma.0, bracket.0, brace.0, brace.1)

pub record Opens (text : List ℕ) : Type 0 where
  pub byte : ℕ
  pub rest : List ℕ
  pub is : text ≡ byte ∷ rest
  pub test : opens byte ≡ true

-- what follows does not go on with a word
abbrev pub Ends : Option ℕ → Type 0
Ends next = passes (belongs kind.Word) next ≡ false

-- ---- steps

pub gap_none : (next : Option ℕ) → passes (belongs kind.Blank) next ≡ false → gap.Spells tt [] next
gap_none next e = ([], [], [], (refl, refl, e), (refl, refl), refl)

pub gap_blank : (next : Option ℕ) → passes (belongs kind.Blank) next ≡ false → gap.Spells tt (0x20 ∷ []) next
gap_blank next e = (0x20 ∷ [], 0x20 ∷ [], [], (refl, refl, e), (refl, refl), refl)

pub no_blank : (text : List ℕ) (next : Option ℕ) → Opens text → passes (belongs kind.Blank) (first_or text next) ≡ false
no_blank text next o = ap (λ (t : List ℕ). passes (belongs kind.Blank) (first_or t next)) o.is ∙ (or_false _ _ (not_true _ o.test)).0

pub mark_spelled : (b : ℕ) (next : Option ℕ) → belongs kind.Blank b ≡ false → this_byte b b ≡ Ok tt → (mark b).Spells tt (b ∷ []) next
mark_spelled b next e h = (tt, [], b ∷ [], gap_none (Some b) e, (b, refl, h), refl)

-- a mark and a blank behind it
pub mark_blank : (b : ℕ) (next : Option ℕ) → this_byte b b ≡ Ok tt → passes (belongs kind.Blank) next ≡ false → (mark_gap b).Spells tt (b ∷ 0x20 ∷ []) next
mark_blank b next h e = (tt, b ∷ [], 0x20 ∷ [], (b, refl, h), gap_blank next e, refl)

-- ---- words and names

wordy_cons : (w : List ℕ) → is_wordy w ≡ true → (b : ℕ) × (bs : List ℕ) × (w ≡ b ∷ bs) × (belongs kind.Word b ≡ true)
wordy_cons [] e = absurd cc
wordy_cons (b ∷ bs) e = (b, bs, refl, (and_parts _ _ e).0)

wordy_all : (w : List ℕ) → is_wordy w ≡ true → (list_all (belongs kind.Word) w ≡ true) × (some_word w ≡ Ok w)
wordy_all [] e = absurd cc
wordy_all (b ∷ bs) e = (e, refl)

pub word_spelled : (w : List ℕ) (next : Option ℕ) → is_wordy w ≡ true → Ends next → word.Spells w w next
word_spelled w next e ends = let p = wordy_all w e in (w, (refl, p.0, ends), p.1)

pub wordy_opens : (w : List ℕ) → is_wordy w ≡ true → Opens w
wordy_opens w e =
    let p = wordy_cons w e in
    record { byte = p.0; rest = p.1; is = p.2; test = word_opens p.0 p.3 }
  where
    word_opens : (b : ℕ) → belongs kind.Word b ≡ true → opens b ≡ true
    word_opens b w =
        let other = λ (c : ℕ) (failed : belongs kind.Word c ≡ false). differs (belongs kind.Word) b c w failed in
        rw (other 0x20 refl, other 0x09 refl, other 0x0D refl, other 0x0A refl, other 0x2C refl, other 0x5D refl, other 0x7D refl, other 0x29 refl) refl

pub plain_name : (l : List ℕ) (next : Option ℕ) → is_wordy l ≡ true → Ends next → name.Spells l l next
plain_name l next e ends =
    let p = wordy_cons l e in
    inr (ap (λ (t : List ℕ). passes (is 0x25) (first_or t next)) p.2 ∙ differs (belongs kind.Word) p.0 0x25 p.3 refl, word_spelled l next e ends)

pub escaped_name : (l : List ℕ) (next : Option ℕ) → is_wordy l ≡ true → Ends next → name.Spells l (0x25 ∷ l) next
escaped_name l next e ends = inl (refl, (tt, 0x25 ∷ [], l, (0x25, refl, refl), word_spelled l next e ends, refl))

pub known_spelled : (names : List (List ℕ)) (l text : List ℕ) (i : ℕ) (next : Option ℕ) → Opens text → name.Spells l text next → place_in names l ≡ Ok i → (known names).Spells i text next
known_spelled names l text i next o s e = (tt, [], text, gap_none (first_or text next) (no_blank text next o), (l, s, e), refl)

-- ---- numbers

folds : FoldsDigits (read_on 10)
unfolding read_on
folds = record {
  empty = λ n. refl;
  more = λ n c cs within. let small : nat_lt c 0x3A ≡ true = lt-ltb c 0x3A (omega arith) in rw small refl;
}

abbrev AreDigits : List ℕ → Type 0
AreDigits ds = list_all is_ascii_digit ds ≡ true

tells_digits : IsDigitsTest AreDigits
tells_digits = search rules

own : IsNumeralModel AreDigits (read_on 10 0)
own = numerals_by_fold AreDigits tells_digits (read_on 10) folds

plain_digits : (ds : List ℕ) → 0 < length ds → 48 < get_or ds 0 0 → is_plain ds ≡ true
plain_digits [] some h = absurd (omega arith)
plain_digits (d ∷ []) some h = refl
plain_digits (d ∷ e ∷ ds) some h = let more : 48 < d = h in ap not (ne_eqb d 0x30 (λ same. omega arith))

pub decimal_plain : (n : ℕ) → n < 2 ^ 64 → is_plain (decimal n) ≡ true
decimal_plain zero small = ap is_plain (decimal_digit 0 (omega arith))
decimal_plain (suc n) small = plain_digits (decimal (suc n)) (decimal_nonempty (suc n) small) (first_decimal (suc n) (omega arith) small)

pub decimal_below : (limit n : ℕ) → n < limit → n < 2 ^ 64 → number_below limit (decimal n) ≡ Ok n
decimal_below limit n lt small =
    let value : read_on 10 0 (decimal n) ≡ n = digits_value-decimal own n small in
    rw (decimal_plain n small, value, lt-ltb n limit lt) refl

-- what follows does not go on with digits
pub ends_digits : (next : Option ℕ) → Ends next → passes (belongs kind.Digits) next ≡ false
ends_digits None e = refl
ends_digits (Some b) e = (or_false _ _ (or_false _ _ (or_false _ _ e).0).0).0

pub magnitude_spelled : (limit n : ℕ) (next : Option ℕ) → n < limit → n < 2 ^ 64 → Ends next → (magnitude limit).Spells n (decimal n) next
magnitude_spelled limit n next lt small ends = (decimal n, (refl, digits_decimal own n small, ends_digits next ends), decimal_below limit n lt small)

digit_opens : (d : ℕ) → is_ascii_digit d ≡ true → opens d ≡ true
digit_opens d e =
    let other = λ (c : ℕ) (failed : is_ascii_digit c ≡ false). differs is_ascii_digit d c e failed in
    rw (other 0x20 refl, other 0x09 refl, other 0x0D refl, other 0x0A refl, other 0x2C refl, other 0x5D refl, other 0x7D refl, other 0x29 refl) refl

digits_open : (ds : List ℕ) → AreDigits ds → 0 < length ds → (d : ℕ) × (rest : List ℕ) × (ds ≡ d ∷ rest) × (is_ascii_digit d ≡ true)
digits_open [] all some = absurd (omega arith)
digits_open (d ∷ ds) all some = (d, ds, refl, (and_parts _ _ all).0)

-- the first digit of a number
pub decimal_first : (n : ℕ) → n < 2 ^ 64 → (d : ℕ) × (rest : List ℕ) × (decimal n ≡ d ∷ rest) × (is_ascii_digit d ≡ true)
decimal_first n small = digits_open (decimal n) (digits_decimal own n small) (decimal_nonempty n small)

pub decimal_opens : (n : ℕ) → n < 2 ^ 64 → Opens (decimal n)
decimal_opens n small =
    let p = decimal_first n small in
    record { byte = p.0; rest = p.1; is = p.2; test = digit_opens p.0 p.3 }

-- a number has no sign in front
pub no_sign : (n : ℕ) (next : Option ℕ) → n < 2 ^ 64 → passes (is 0x2D) (first_or (decimal n) next) ≡ false
no_sign n next small =
    let p = decimal_first n small in
    ap (λ (t : List ℕ). passes (is 0x2D) (first_or t next)) p.2 ∙ differs is_ascii_digit p.0 0x2D p.3 refl
