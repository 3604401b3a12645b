-- Texts in quotes that are read back.
use Rattle.std.proofs.Common.{◌≡◌, ℕ, zero, suc, ◌/◌, ◌%◌, ◌<◌, ◌≤◌, ◌==◌, ◌||◌, ◌&&◌, Bool, true, false, if◌then◌else◌, List, [], ◌∷◌, ◌++◌, length, get_or, Option, Some, Ok, ◌⊎◌, refl, sym, ap, ◌∙◌, append-nil, arith, inl, inr, nat_lt}
use Rattle.std.specs.Prelude.{codes}
use Rattle.std.specs.Char.{encode_utf8}
use Rattle.std.specs.List.{flat_map, list_all}
use Rattle.std.specs.Str.{encode_utf8_all}
use Rattle.std.proofs.lemmas.Bool.{and_parts, lt-ltb, eqb-true, ne_eqb, cases_Bool, cases_eq, cases_lt, ltb-true}
use Rattle.std.proofs.lemmas.Str.{encode_ascii, inside_one}
use Rattle.cm_values.specs.declared.kind.Kind.TheVariants as kind
use Rattle.cm_values.specs.declared.piece.Piece.{Piece}
use Rattle.cm_values.specs.declared.piece.Piece.TheVariants as piece_is
use Rattle.cm_values.specs.Grammar.{first_or, StepsSpell}
use Rattle.cm_values.specs.Quoted.{escaped, next_piece, pieces_bytes, quoted, scalar_of}
use Rattle.cm_values.specs.Words.{belongs, read_on, this_byte}
use Rattle.cm_values.specs.Quotes as Quotes
use Rattle.cm_values.specs.Quotes.{hex_digit, in_quotes}
use Rattle.cm_values.proofs.SpellWords.{or_false}

-- a quote: a byte that is no `\`, stands for itself behind one, and is ASCII
pub record IsQuote (q : ℕ) : Type 0 where
  pub other : (0x5C == q) ≡ false
  pub self : escaped q ≡ Ok q
  pub no_u : (q == 0x75) ≡ false
  pub small : q < 128
  pub this : this_byte q q ≡ Ok tt
  pub same : (q == q) ≡ true

abbrev pub Steps : ℕ → List Piece → List ℕ → Option ℕ → Type 0
Steps q ps text next = StepsSpell (next_piece q) ps text next

one_step : (q : ℕ) (p : Piece) (ps : List Piece) (front text : List ℕ) (next : Option ℕ) → (next_piece q).Spells (Some p) front (first_or text next) → Steps q ps text next → Steps q (p ∷ ps) (front ++ text) next
one_step q p ps front text next a b = (front, text, a, b, refl)

plain_step : (q b : ℕ) (ps : List Piece) (text : List ℕ) (next : Option ℕ) → (b == q) ≡ false → (b == 0x5C) ≡ false → Steps q ps text next → Steps q (piece_is.Byte b ∷ ps) (b ∷ text) next
plain_step q b ps text next e f s =
    one_step q (piece_is.Byte b) ps (b ∷ []) text next
    (inr (e, inr (f, (piece_is.Byte b, b ∷ [], [], (b, b ∷ [], [], (b, refl, refl), (refl, refl), refl), (refl, refl), refl)))) s

letter_step : (q a b : ℕ) (ps : List Piece) (text : List ℕ) (next : Option ℕ) → IsQuote q → escaped a ≡ Ok b → (a == 0x75) ≡ false → Steps q ps text next → Steps q (piece_is.Byte b ∷ ps) (0x5C ∷ a ∷ text) next
letter_step q a b ps text next k e f s =
    one_step q (piece_is.Byte b) ps (0x5C ∷ a ∷ []) text next
    (inr (
      k.other,
      inl (
        refl,
        (
          piece_is.Byte b,
          0x5C ∷ a ∷ [],
          [],
          (tt, 0x5C ∷ [], a ∷ [], (0x5C, refl, refl), inr (f, (b, a ∷ [], [], (a, refl, e), (refl, refl), refl)), refl),
          (refl, refl),
          refl,
        ),
      ),
    )) s

unicode_step : (q c g h : ℕ) (ps : List Piece) (text : List ℕ) (next : Option ℕ) → IsQuote q → list_all (belongs kind.HexDigits) (g ∷ h ∷ []) ≡ true → scalar_of (g ∷ h ∷ []) ≡ Ok c → Steps q ps text next → Steps q (piece_is.Scalar c ∷ ps) (0x5C ∷ 0x75 ∷ 0x7B ∷ g ∷ h ∷ 0x7D ∷ text) next
unicode_step q c g h ps text next k all e s =
    one_step q (piece_is.Scalar c) ps (0x5C ∷ 0x75 ∷ 0x7B ∷ g ∷ h ∷ 0x7D ∷ []) text next
    (inr (
      k.other,
      inl (
        refl,
        (
          piece_is.Scalar c,
          0x5C ∷ 0x75 ∷ 0x7B ∷ g ∷ h ∷ 0x7D ∷ [],
          [],
          (
            tt,
            0x5C ∷ [],
            0x75 ∷ 0x7B ∷ g ∷ h ∷ 0x7D ∷ [],
            (0x5C, refl, refl),
            inl (
              refl,
              (
                tt,
                0x75 ∷ [],
                0x7B ∷ g ∷ h ∷ 0x7D ∷ [],
                (0x75, refl, refl),
                (
                  tt,
                  0x7B ∷ [],
                  g ∷ h ∷ 0x7D ∷ [],
                  (0x7B, refl, refl),
                  (
                    c,
                    g ∷ h ∷ [],
                    0x7D ∷ [],
                    (g ∷ h ∷ [], (refl, all, refl), e),
                    (tt, 0x7D ∷ [], [], (0x7D, refl, refl), (refl, refl), refl),
                    refl,
                  ),
                  refl,
                ),
                refl,
              ),
            ),
            refl,
          ),
          (refl, refl),
          refl,
        ),
      ),
    )) s

-- ---- bytes that are no quotes

abbrev plain_bytes : List ℕ → List Piece → List Piece
plain_bytes [] ps = ps
plain_bytes (b ∷ bs) ps = piece_is.Byte b ∷ plain_bytes bs ps

abbrev IsPlain : ℕ → ℕ → Type 0
IsPlain q b = ((b == q) ≡ false) × ((b == 0x5C) ≡ false)

abbrev ArePlain : ℕ → List ℕ → Type 0
ArePlain q [] = Unit {0}
ArePlain q (b ∷ bs) = IsPlain q b × ArePlain q bs

plain_steps : (q : ℕ) (bs : List ℕ) (ps : List Piece) (text : List ℕ) (next : Option ℕ) → ArePlain q bs → Steps q ps text next → Steps q (plain_bytes bs ps) (bs ++ text) next
plain_steps q [] ps text next h s = s
plain_steps q (b ∷ bs) ps text next h s = plain_step q b (plain_bytes bs ps) (bs ++ text) next h.0.0 h.0.1 (plain_steps q bs ps text next h.1 s)

plain_are : (bs : List ℕ) (ps : List Piece) → pieces_bytes (plain_bytes bs ps) ≡ bs ++ pieces_bytes ps
plain_are [] ps = refl
plain_are (b ∷ bs) ps = ap (λ (z : List ℕ). b ∷ z) (plain_are bs ps)

high_plain : (q : ℕ) (bs : List ℕ) → q < 128 → ((k : ℕ) → k < length bs → 128 ≤ get_or bs k 0) → ArePlain q bs
high_plain q [] small h = tt
high_plain q (b ∷ bs) small h =
    let high : 128 ≤ b = h 0 (omega arith) in
    ((ne_eqb b q (λ e. omega arith), ne_eqb b 0x5C (λ e. omega arith)), high_plain q bs small (λ k below. h (suc k) (omega arith)))

-- the bytes of a character from 128 on are no quotes
high_encode : (c : ℕ) → 128 ≤ c → (k : ℕ) → k < length (encode_utf8 c) → 128 ≤ get_or (encode_utf8 c) k 0
high_encode c big k below = elim (cases_lt (get_or (encode_utf8 c) k 0) 128) [
  | inl low ↦ absurd (omega (arith, inside_one c [] (encode_utf8 c) k (sym (append-nil _)) below low))
  | inr h ↦ h
]

-- ---- characters that are not to be seen

abbrev pair : ℕ → List ℕ
pair c = hex_digit (c / 16) ∷ hex_digit (c % 16) ∷ []

code_fits : ℕ → Bool
code_fits c = list_all (belongs kind.HexDigits) (pair c) && (read_on 16 0 (pair c) == c)

fit_below : ℕ → Bool
fit_below zero = true
fit_below (suc n) = code_fits n && fit_below n

all_fit : fit_below 128 ≡ true
unfolding fit_below code_fits read_on
all_fit = refl

fits : (n : ℕ) → fit_below n ≡ true → (c : ℕ) → c < n → code_fits c ≡ true
unfolding fit_below
fits zero e c lt = absurd (omega arith)
fits (suc n) e c lt =
    let p = and_parts _ _ e in
    elim (cases_eq c n) [ inl same ↦ rw same p.0 | inr other ↦ fits n p.1 c (omega arith) ]

code_reads : (c : ℕ) → c < 128 → (list_all (belongs kind.HexDigits) (pair c) ≡ true) × (scalar_of (pair c) ≡ Ok c)
unfolding code_fits
code_reads c small =
    let p : (list_all (belongs kind.HexDigits) (pair c) ≡ true) × ((read_on 16 0 (pair c) == c) ≡ true) = and_parts _ _ (fits 128 all_fit c small) in
    let value : read_on 16 0 (pair c) ≡ c = eqb-true _ _ p.1 in
    let low : nat_lt c 0x110000 ≡ true = lt-ltb c 0x110000 (omega arith) in
    let lower : nat_lt c 0xD800 ≡ true = lt-ltb c 0xD800 (omega arith) in
    (p.0, rw (value, low, lower) refl)

-- ---- one character

abbrev Reads : ℕ → ℕ → List ℕ → List Piece → List ℕ → Option ℕ → Type 0
Reads q c front ps text next = (more : List Piece) × Steps q more (front ++ text) next × (pieces_bytes more ≡ encode_utf8 c ++ pieces_bytes ps)

by_letter : (q a c : ℕ) (ps : List Piece) (text : List ℕ) (next : Option ℕ) → IsQuote q → escaped a ≡ Ok c → (a == 0x75) ≡ false → c < 128 → Steps q ps text next → Reads q c (0x5C ∷ a ∷ []) ps text next
by_letter q a c ps text next k e f small s =
    (piece_is.Byte c ∷ ps, letter_step q a c ps text next k e f s, rw (encode_ascii c small) refl)

by_code : (q c : ℕ) (ps : List Piece) (text : List ℕ) (next : Option ℕ) → IsQuote q → c < 128 → Steps q ps text next → Reads q c (codes "\\u{" ++ hex_digit (c / 16) ∷ hex_digit (c % 16) ∷ codes "}") ps text next
by_code q c ps text next k small s =
    let p = code_reads c small in
    (piece_is.Scalar c ∷ ps, unicode_step q c (hex_digit (c / 16)) (hex_digit (c % 16)) ps text next k p.0 p.1 s, refl)

as_it_is : (q c : ℕ) (ps : List Piece) (text : List ℕ) (next : Option ℕ) → IsQuote q → (c == q) ≡ false → (c == 0x5C) ≡ false → Steps q ps text next → Reads q c (encode_utf8 c) ps text next
as_it_is q c ps text next k e f s =
    let plain : ArePlain q (encode_utf8 c) = elim (cases_lt c 128) [
      | inl small ↦ rw (encode_ascii c small) ((e, f), tt)
      | inr big ↦ high_plain q (encode_utf8 c) k.small (high_encode c big)
    ] in
    (plain_bytes (encode_utf8 c) ps, plain_steps q (encode_utf8 c) ps text next plain s, plain_are (encode_utf8 c) ps)

or_true : (a b : Bool) → (a || b) ≡ true → (a ≡ true) ⊎ (b ≡ true)
or_true true b e = inl refl
or_true false b e = inr e

itself : (q c : ℕ) (ps : List Piece) (text : List ℕ) (next : Option ℕ) → IsQuote q → ((c == q) || (c == 0x5C)) ≡ true → Steps q ps text next → Reads q c (0x5C ∷ c ∷ []) ps text next
itself q c ps text next k e s = elim (or_true (c == q) (c == 0x5C) e) [
  | inl f ↦ rw (eqb-true c q f) (by_letter q q q ps text next k k.self k.no_u k.small s)
  | inr f ↦ rw (eqb-true c 0x5C f) (by_letter q 0x5C 0x5C ps text next k refl refl (omega arith) s)
]

unseen_small : (c : ℕ) → (nat_lt c 0x20 || (c == 0x7F)) ≡ true → c < 128
unseen_small c e = elim (or_true (nat_lt c 0x20) (c == 0x7F) e) [
  | inl f ↦ omega (arith, ltb-true c 0x20 f)
  | inr f ↦ omega (arith, eqb-true c 0x7F f)
]

seen_or_not : (q c : ℕ) (ps : List Piece) (text : List ℕ) (next : Option ℕ) → IsQuote q → (c == q) ≡ false → (c == 0x5C) ≡ false → Steps q ps text next → Reads q c (if nat_lt c 0x20 || (c == 0x7F) then codes "\\u{" ++ hex_digit (c / 16) ∷ hex_digit (c % 16) ∷ codes "}" else encode_utf8 c) ps text next
seen_or_not q c ps text next k e f s = elim (cases_Bool (nat_lt c 0x20 || (c == 0x7F))) [
  | inl g ↦ rw g (by_code q c ps text next k (unseen_small c g) s)
  | inr g ↦ rw g (as_it_is q c ps text next k e f s)
]

pub one_char : (q c : ℕ) (ps : List Piece) (text : List ℕ) (next : Option ℕ) → IsQuote q → Steps q ps text next → Reads q c (in_quotes q c) ps text next
one_char q c ps text next k s = elim (cases_Bool ((c == q) || (c == 0x5C))) [
  | inl e ↦ rw e (itself q c ps text next k e s)
  | inr e ↦
      let n = or_false (c == q) (c == 0x5C) e in
      rw e (elim (cases_Bool (c == 0x09)) [
        | inl f ↦ rw f (rw (eqb-true c 0x09 f) (by_letter q 0x74 0x09 ps text next k refl refl (omega arith) s))
        | inr f ↦ rw f (elim (cases_Bool (c == 0x0A)) [
          | inl g ↦ rw g (rw (eqb-true c 0x0A g) (by_letter q 0x6E 0x0A ps text next k refl refl (omega arith) s))
          | inr g ↦ rw g (elim (cases_Bool (c == 0x0D)) [
            | inl h ↦ rw h (rw (eqb-true c 0x0D h) (by_letter q 0x72 0x0D ps text next k refl refl (omega arith) s))
            | inr h ↦ rw h (seen_or_not q c ps text next k n.0 n.1 s)
          ])
        ])
      ])
]

-- ---- all of them

abbrev ReadsAll : ℕ → List ℕ → List ℕ → Option ℕ → Type 0
ReadsAll q cs text next = (ps : List Piece) × Steps q ps text next × (pieces_bytes ps ≡ encode_utf8_all cs)

all_chars : (q : ℕ) (cs : List ℕ) → IsQuote q → ReadsAll q cs (flat_map (in_quotes q) cs) (Some q)
all_chars q [] k = ([], inl (k.same, (refl, refl)), refl)
all_chars q (c ∷ cs) k =
    let rest = all_chars q cs k in
    let here = one_char q c rest.0 (flat_map (in_quotes q) cs) (Some q) k rest.1 in
    (here.0, here.1, here.2 ∙ ap (λ (z : List ℕ). encode_utf8 c ++ z) rest.2)

pub quoted_spelled : (q : ℕ) (cs : List ℕ) (next : Option ℕ) → IsQuote q → (quoted q).Spells (encode_utf8_all cs) (Quotes.quoted q cs) next
quoted_spelled q cs next k =
    let all = all_chars q cs k in
    let text = flat_map (in_quotes q) cs in (
      tt,
      q ∷ [],
      text ++ q ∷ [],
      (q, refl, k.this),
      (
        encode_utf8_all cs,
        text,
        q ∷ [],
        (all.0, text, [], all.1, (sym all.2, refl), sym (append-nil text)),
        (tt, q ∷ [], [], (q, refl, k.this), (refl, refl), refl),
        refl,
      ),
      refl,
    )
