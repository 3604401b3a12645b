-- A number that is spelled shortest has one spelling.
use Rattle.std.proofs.Common.{◌≡◌, ℕ, suc, ◌+◌, ◌*◌, ◌/◌, ◌%◌, ◌^◌, ◌<◌, List, [], ◌∷◌, length, refl, sym, ap, ◌∙◌, arith}
use Rattle.cm_leb.specs.Numbers.{IsGroup, digits_value}
use Rattle.cm_leb.specs.NumbersWritten.{group_of, unsigned_length, shortest_unsigned}
use Rattle.cm_leb.proofs.ShortestLaws.{shortest_unsigned-spells, shortest_unsigned-length}
use Rattle.cm_binary_grammar.proofs.WrittenLaws.{Spelled}
use Rattle.cm_lemmas.proofs.Lists.{both_cons}
use Rattle.cm_lemmas.proofs.Numbers.{eq_of, eq_true}
use Rattle.cm_bundle.specs.Grammar.{short, this_number}

-- The bytes of a number are its digits.
group_digits : (bytes : List ℕ) → IsGroup bytes → bytes ≡ group_of (length bytes) (digits_value bytes)
group_digits [] g = absurd g
group_digits (b ∷ []) g = both_cons b ((b % 128 + 128 * 0) % 128) [] [] (omega (arith, g)) refl
group_digits (b ∷ c ∷ bytes) g =
    let d : ℕ = digits_value (c ∷ bytes) in
    let digit : b ≡ 128 + (b % 128 + 128 * d) % 128 = omega (arith, g.0, g.1) in
    let rest : (b % 128 + 128 * d) / 128 ≡ d = omega arith in
    both_cons b (128 + (b % 128 + 128 * d) % 128) (c ∷ bytes) (group_of (suc (length bytes)) ((b % 128 + 128 * d) / 128)) digit (rw rest (group_digits (c ∷ bytes) g.2))

pub short_is : (n : ℕ) (bytes : List ℕ) → short.Spells n bytes → (bytes ≡ shortest_unsigned n) × (n < 2 ^ 32)
unfolding short
short_is n bytes s =
    let size : length bytes ≡ unsigned_length n = eq_of (length bytes) (unsigned_length n) s.1 in
    let digits : bytes ≡ group_of (length bytes) (digits_value bytes) = group_digits bytes s.0.group in
    (digits ∙ ap (λ (v : ℕ). group_of (length bytes) v) (sym s.0.digits) ∙ ap (λ (k : ℕ). group_of k n) size, s.0.fits)

pub short_written : (n : ℕ) → n < 2 ^ 32 → Spelled short n (shortest_unsigned n)
unfolding short
short_written n lt = record { spells = (shortest_unsigned-spells n lt, eq_true (length (shortest_unsigned n)) (unsigned_length n) (shortest_unsigned-length n)) }

pub this_is : (wanted n : ℕ) (bytes : List ℕ) → (this_number wanted).Spells n bytes → (bytes ≡ shortest_unsigned wanted) × (n ≡ wanted)
unfolding this_number
this_is wanted n bytes s =
    let same : n ≡ wanted = eq_of n wanted s.1 in
    let one = short_is n bytes s.0 in
    (one.0 ∙ ap (λ (m : ℕ). shortest_unsigned m) same, same)

pub this_written : (n : ℕ) → n < 2 ^ 32 → Spelled (this_number n) n (shortest_unsigned n)
unfolding this_number
this_written n lt = let s = short_written n lt in record { spells = (s.spells, eq_true n n refl) }
