-- What `hex` decodes is what the digits spell.
use Rattle.std.proofs.Common.{◌≡◌, ◌≢◌, ℕ, ◌+◌, ◌*◌, ◌%◌, ◌==◌, if◌then◌else◌, true, false, List}
use Rattle.std.proofs.Common.{[], ◌∷◌, length, Option, Some, None, Result, Ok, Err, refl, ap, ◌∙◌}
use Rattle.std.proofs.Common.{arith, inl, inr, ◌-◌, ◌&&◌}
use Rattle.std.specs.Char.{is_ascii_hexdigit}
use Rattle.std.specs.List.{list_all}
use Rattle.std.proofs.lemmas.Bool.{and_parts, cases_lt}
use Rattle.hex.specs.Hex.{decode_of, decode_pairs, digit_or_error, hex_digit_value, pair_value}
use Rattle.hex.specs.Hex.{value_at, ◌>>=◌}
use Rattle.hex.specs.declared.error.FromHexError.{FromHexError}
use Rattle.hex.specs.declared.error.FromHexError.TheVariants.{OddLength}
use Rattle.hex.proofs.HexLemmas.{decode_of-even}
use Rattle.hex.proofs.Pairs.{cons_byte, decode_pairs-ok_pair}
use Rattle.cm_tool_script.specs.HexBytes.{IsDigit, ArePairs}

-- a character that reads as a value is its digit
pub IsDigit-read : (c v : ℕ) → hex_digit_value c ≡ Some v → IsDigit c v
IsDigit-read c v h = grind arith

-- a digit reads as its value
pub hex_digit_value-digit : (c v : ℕ) → IsDigit c v → hex_digit_value c ≡ Some v
hex_digit_value-digit c v h = grind arith

-- pairs of digits are decoded as their bytes
pub decode_pairs-pairs : (i : ℕ) (text bytes : List ℕ) → ArePairs text bytes → decode_pairs i text ≡ Ok bytes
unfolding decode_pairs
decode_pairs-pairs i [] [] h = refl
decode_pairs-pairs i [] (b ∷ bytes) h = absurd h
decode_pairs-pairs i (c ∷ []) bytes h = absurd h
decode_pairs-pairs i (c ∷ d ∷ text) [] h = absurd h
decode_pairs-pairs i (c ∷ d ∷ text) (b ∷ bytes) ((high, low, hc, hd, e), rest) =
    let first : value_at c i ≡ Ok high = ap (digit_or_error c i) (hex_digit_value-digit c high hc) in
    let second : value_at d (i + 1) ≡ Ok low = ap (digit_or_error d (i + 1)) (hex_digit_value-digit d low hd) in
    let pair : pair_value c d i ≡ Ok (high * 16 + low) = rw (first, second) refl in
    let value : high * 16 + low ≡ b = omega (arith, e) in
    let ih = decode_pairs-pairs (i + 2) text bytes rest in
    decode_pairs-ok_pair i c d (high * 16 + low) text pair ∙ ap (cons_byte (high * 16 + low)) ih ∙ ap (λ (v : ℕ). Ok (v ∷ bytes)) value

-- two digits a byte
pub length-pairs : (text bytes : List ℕ) → ArePairs text bytes → length text ≡ 2 * length bytes
length-pairs [] [] h = refl
length-pairs [] (b ∷ bytes) h = absurd h
length-pairs (c ∷ []) bytes h = absurd h
length-pairs (c ∷ d ∷ text) [] h = absurd h
length-pairs (c ∷ d ∷ text) (b ∷ bytes) (pair, rest) = let ih = length-pairs text bytes rest in omega (arith, ih)

-- pairs of digits are decoded
pub decode_of-pairs : (text bytes : List ℕ) → ArePairs text bytes → decode_of text ≡ Ok bytes
decode_of-pairs text bytes h =
    let len = length-pairs text bytes h in
    decode_of-even text (omega (arith, len)) ∙ decode_pairs-pairs 0 text bytes h

-- what an `Ok` after `>>=` shows
bind_ok : {A B : Type 0} (r : Result A FromHexError) (f : A → Result B FromHexError) (y : B) → (r >>= f) ≡ Ok y → (x : A) × (r ≡ Ok x) × (f x ≡ Ok y)
bind_ok (Ok x) f y h = (x, refl, h)
bind_ok (Err e) f y h = absurd (cc)

-- what a digit that read shows
digit_ok : (c i v : ℕ) (o : Option ℕ) → digit_or_error c i o ≡ Ok v → o ≡ Some v
digit_ok c i v (Some w) h = cc
digit_ok c i v None h = absurd (cc)

-- a digit that read
digit_at : (c i v : ℕ) → value_at c i ≡ Ok v → IsDigit c v
digit_at c i v h = IsDigit-read c v (digit_ok c i v (hex_digit_value c) h)

-- two digits that read as a byte
pair_at : (c d i b : ℕ) → pair_value c d i ≡ Ok b → (high low : ℕ) × IsDigit c high × IsDigit d low × (b ≡ 16 * high + low)
pair_at c d i b h =
    let first = bind_ok (value_at c i) _ b h in
    let second = bind_ok (value_at d (i + 1)) _ b first.2 in
    let value : first.0 * 16 + second.0 ≡ b = cc in
    (first.0, second.0, digit_at c i first.0 first.1, digit_at d (i + 1) second.0 second.1, omega (arith, value))

-- what is decoded is the bytes of pairs of digits
pub ArePairs-decode_pairs : (i : ℕ) (text bytes : List ℕ) → decode_pairs i text ≡ Ok bytes → ArePairs text bytes
unfolding decode_pairs
ArePairs-decode_pairs i [] [] h = tt
ArePairs-decode_pairs i [] (b ∷ bytes) h = absurd (cc)
ArePairs-decode_pairs i (c ∷ []) bytes h = absurd (cc)
ArePairs-decode_pairs i (c ∷ d ∷ text) [] h =
    let pair = bind_ok (pair_value c d i) _ [] h in
    let rest = bind_ok (decode_pairs (i + 2) text) _ [] pair.2 in
    absurd (cc)
ArePairs-decode_pairs i (c ∷ d ∷ text) (b ∷ bytes) h =
    let pair = bind_ok (pair_value c d i) _ (b ∷ bytes) h in
    let rest = bind_ok (decode_pairs (i + 2) text) _ (b ∷ bytes) pair.2 in
    let byte : pair.0 ≡ b = cc in
    let others : rest.0 ≡ bytes = cc in
    (pair_at c d i b (rw byte at pair.1), ArePairs-decode_pairs (i + 2) text bytes (rw others at rest.1))

-- a text that decodes has pairs of digits
pub ArePairs-decode_of : (text bytes : List ℕ) → decode_of text ≡ Ok bytes → ArePairs text bytes
ArePairs-decode_of text bytes h = elim (length text % 2 == 1) as (λ odd. (if odd then Err OddLength else decode_pairs 0 text) ≡ Ok bytes → ArePairs text bytes) [
  | true ↦ λ e. absurd (cc)
  | false ↦ λ e. ArePairs-decode_pairs 0 text bytes e
] h

-- the bytes of a text that is not empty are some
pub some-bytes : (text bytes : List ℕ) → text ≢ [] → ArePairs text bytes → bytes ≢ []
some-bytes [] bytes h pairs = absurd (h refl)
some-bytes (c ∷ []) bytes h pairs = absurd pairs
some-bytes (c ∷ d ∷ text) [] h pairs = absurd pairs
some-bytes (c ∷ d ∷ text) (b ∷ bytes) h pairs = λ e. absurd (cc)

-- a hex digit has a value
digit_value_of : (c : ℕ) → is_ascii_hexdigit c ≡ true → (v : ℕ) × IsDigit c v
digit_value_of c h = elim (cases_lt c 58) [
  | inl low ↦ (c - 48, grind arith)
  | inr high ↦ elim (cases_lt c 71) [
    | inl upper ↦ (c - 55, grind arith)
    | inr lower ↦ (c - 87, grind arith)
  ]
]

-- and what has one is a hex digit
digit_is : (c v : ℕ) → IsDigit c v → is_ascii_hexdigit c ≡ true
digit_is c v h = grind arith

-- an even number of hex digits are pairs of some bytes
pub pairs_of : (text : List ℕ) → length text % 2 ≡ 0 → list_all is_ascii_hexdigit text ≡ true
    → (bytes : List ℕ) × ArePairs text bytes
pairs_of [] even digits = ([], tt)
pairs_of (c ∷ []) even digits = absurd (omega (arith, even))
pairs_of (c ∷ d ∷ text) even digits =
    let first = and_parts (is_ascii_hexdigit c) (is_ascii_hexdigit d && list_all is_ascii_hexdigit text) digits in
    let second = and_parts (is_ascii_hexdigit d) (list_all is_ascii_hexdigit text) first.1 in
    let high = digit_value_of c first.0 in
    let low = digit_value_of d second.0 in
    let rest = pairs_of text (omega (arith, even)) second.1 in
    ((16 * high.0 + low.0) ∷ rest.0, ((high.0, low.0, high.1, low.1, refl), rest.1))

-- and the other way round
pub digits_of : (text bytes : List ℕ) → ArePairs text bytes
    → (length text % 2 ≡ 0) × (list_all is_ascii_hexdigit text ≡ true)
digits_of [] [] h = (refl, refl)
digits_of [] (b ∷ bytes) h = absurd h
digits_of (c ∷ []) bytes h = absurd h
digits_of (c ∷ d ∷ text) [] h = absurd h
digits_of (c ∷ d ∷ text) (b ∷ bytes) ((high, low, hc, hd, e), rest) =
    let more = digits_of text bytes rest in
    (omega (arith, more.0), rw (digit_is c high hc, digit_is d low hd) more.1)

-- a text of some bytes is not empty
pub some-text : (text bytes : List ℕ) → bytes ≢ [] → ArePairs text bytes → text ≢ []
some-text [] [] h pairs = absurd (h refl)
some-text [] (b ∷ bytes) h pairs = absurd pairs
some-text (c ∷ text) bytes h pairs = λ e. absurd (cc)

-- a text whose length is not 0 is not empty
pub text-of-length : (text : List ℕ) → (length text == 0) ≡ false → text ≢ []
text-of-length [] h = absurd (cc)
text-of-length (c ∷ text) h = λ e. absurd (cc)
