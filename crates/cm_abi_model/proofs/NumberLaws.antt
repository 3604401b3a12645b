-- Numbers that stand in bytes.
use Rattle.std.proofs.Common.{◌≡◌, ℕ, zero, suc, ℤ, pos, negsuc, ◌+◌, ◌*◌, ◌-◌, ◌/◌, ◌%◌, ◌^◌, ◌<◌, ◌≤◌, ◌⊎◌, inl, inr, Bool, true, false, List, slice_index, refl, sym, ap, subst, ◌∙◌, arith}
use Rattle.std.proofs.Math.Nat.{div-div-eq-div-mul}
use Rattle.std.proofs.lemmas.Bool.Decides.{nat_tests}
use Rattle.std.proofs.lemmas.Int.{ints}
use Rattle.std.specs.Prelude.{nat_lt, if◌then◌else◌, neg_ℤ, ◌≤ℤ◌, ◌<ℤ◌, ◌+ℤ◌}
use Rattle.cm_types.specs.Types.{Width, bits_8, bits_16, bits_32, bits_64, width_bytes}
use Rattle.cm_types.specs.Values.{FitsSignedWidth}
use Rattle.cm_abi_model.specs.Numbers.{number_at, as_signed}
use Rattle.cm_abi_model.specs.Stores.{placed, bytes_of, from_signed, Holds}
use Rattle.cm_abi_model.specs.Bytes.{byte_of, AreBytes, StandsAt, IsTwosComplement}

byte_up : (n j : ℕ) → byte_of (n / 256) j ≡ byte_of n (suc j)
byte_up n j = ap (λ x. x % 256) (div-div-eq-div-mul n 256 (256 ^ j)) ∙ ap (λ x. n / x % 256) (omega arith)

byte_low : (n : ℕ) → byte_of n 0 ≡ n % 256
byte_low n = omega arith

-- ---- read

number_below : (n : ℕ) (m : List ℕ) (p : ℕ) → AreBytes m → number_at n m p < 256 ^ n
unfolding number_at
number_below zero m p h = omega arith
number_below (suc n) m p h = let rest = number_below n m (p + 1) h in omega (arith, rest, h p)

number_bytes : (n : ℕ) (m : List ℕ) (p : ℕ) → AreBytes m → (i : ℕ) → i < n → slice_index m (p + i) ≡ byte_of (number_at n m p) i
unfolding number_at
number_bytes zero m p h i lt = absurd (omega (arith, lt))
number_bytes (suc n) m p h zero lt =
    let byte = h p in
    ap (slice_index m) {x = p + 0} {y = p} (omega arith)
    ∙ (omega (arith, byte) ∙ sym (byte_low (slice_index m p + 256 * number_at n m (p + 1))))
number_bytes (suc n) m p h (suc j) lt =
    let byte = h p in
    let rest : (slice_index m p + 256 * number_at n m (p + 1)) / 256 ≡ number_at n m (p + 1) = omega (arith, byte) in
    ap (slice_index m) {x = p + suc j} {y = (p + 1) + j} (omega arith)
    ∙ number_bytes n m (p + 1) h j (omega (arith, lt))
    ∙ ap (λ x. byte_of x j) (sym rest)
    ∙ byte_up (slice_index m p + 256 * number_at n m (p + 1)) j

pub number_stands : (n : ℕ) (m : List ℕ) (p : ℕ) → AreBytes m → StandsAt m p n (number_at n m p)
number_stands n m p h = record { below = number_below n m p h; each = number_bytes n m p h }

pub stands_number : (n : ℕ) (m : List ℕ) (p x : ℕ) → StandsAt m p n x → x ≡ number_at n m p
unfolding number_at
stands_number zero m p x s = omega (arith, s.below)
stands_number (suc n) m p x s =
    let low : slice_index m p ≡ x % 256 = ap (slice_index m) {x = p} {y = p + 0} (omega arith) ∙ s.each 0 (omega arith) ∙ byte_low x in
    let rest = stands_number n m (p + 1) (x / 256) (record {
      below = omega (arith, s.below);
      each = λ i lt. ap (slice_index m) {x = (p + 1) + i} {y = p + suc i} (omega arith) ∙ s.each (suc i) (omega (arith, lt)) ∙ sym (byte_up x i);
    }) in
    omega (arith, low, rest)

-- ---- stored

bytes_stand : (n : ℕ) (m : List ℕ) (p x : ℕ) → Holds m (placed p (bytes_of n x)) → (i : ℕ) → i < n → slice_index m (p + i) ≡ byte_of x i
unfolding bytes_of
bytes_stand zero m p x h i lt = absurd (omega (arith, lt))
bytes_stand (suc n) m p x h zero lt = ap (slice_index m) {x = p + 0} {y = p} (omega arith) ∙ h.0 ∙ sym (byte_low x)
bytes_stand (suc n) m p x h (suc j) lt =
    ap (slice_index m) {x = p + suc j} {y = (p + 1) + j} (omega arith) ∙ bytes_stand n m (p + 1) (x / 256) h.1 j (omega (arith, lt)) ∙ byte_up x j

pub held_stands : (n : ℕ) (m : List ℕ) (p x : ℕ) → x < 256 ^ n → Holds m (placed p (bytes_of n x)) → StandsAt m p n x
held_stands n m p x small h = record { below = small; each = bytes_stand n m p x h }

-- ---- two's complement

read_in : (bits half all n : ℕ) → all ≡ half + half → n < all → 2 ^ (bits - 1) ≡ half → 2 ^ bits ≡ all → (z : ℤ) → z ≡ (if nat_lt n half then pos n else neg_ℤ (pos (all - n))) → IsTwosComplement bits n z
read_in bits half all n e lt h a z is = elim (split (nat_lt n half)) [
  | inl low ↦
      let small : n < half = grind (arith, nat_tests, low) in
      let same : z ≡ pos n = is ∙ ap (λ b. if b then pos n else neg_ℤ (pos (all - n))) low in
      record { lowest = rw (h, same) (grind (arith, ints)); highest = rw (h, same) (grind (arith, ints, small)); same = inl (sym same) }
  | inr high ↦
      let big : half ≤ n = grind (arith, nat_tests, high) in
      let same : z ≡ neg_ℤ (pos (all - n)) = is ∙ ap (λ b. if b then pos n else neg_ℤ (pos (all - n))) high in
      record { lowest = rw (h, same) (grind (arith, ints, big, e)); highest = rw (h, same) (grind (arith, ints, lt, big, e)); same = inr (rw (a, same) (grind (arith, ints, lt))) }
]
  where
    split : (b : Bool) → (b ≡ true) ⊎ (b ≡ false)
    split true = inl refl
    split false = inr refl

pub signed_read : (k : Width) (n : ℕ) → n < 256 ^ width_bytes k → IsTwosComplement (8 * width_bytes k) n (as_signed (width_bytes k) n)
signed_read bits_8 n lt = read_in 8 (2 ^ 7) (2 ^ 8) n refl lt refl refl _ refl
signed_read bits_16 n lt = read_in 16 (2 ^ 15) (2 ^ 16) n refl lt refl refl _ refl
signed_read bits_32 n lt = read_in 32 (2 ^ 31) (2 ^ 32) n refl lt refl refl _ refl
signed_read bits_64 n lt = read_in 64 (2 ^ 63) (2 ^ 64) n refl lt refl refl _ refl

abbrev lowered : ℕ → ℤ → ℕ
lowered all (pos n) = n
lowered all (negsuc n) = all - (n + 1)

put_in : (bits half all : ℕ) (z : ℤ) → all ≡ half + half → 2 ^ (bits - 1) ≡ half → 2 ^ bits ≡ all → (neg_ℤ (pos half) ≤ℤ z) × (z <ℤ pos half) → (m : ℕ) → (m ≡ lowered all z) → (m < all) × IsTwosComplement bits m z
put_in bits half all (pos n) e h a fits m is =
    let small : n < half = grind (arith, ints, fits.1) in
    (omega (arith, small, e, is), record { lowest = rw h fits.0; highest = rw h fits.1; same = inl (ap pos is) })
put_in bits half all (negsuc n) e h a fits m is =
    let small : n + 1 ≤ half = grind (arith, ints, fits.0) in
    (omega (arith, small, e, is), record { lowest = rw h fits.0; highest = rw h fits.1; same = inr (rw (a, is) (grind (arith, ints, small, e))) })

from_is : (bytes : ℕ) (z : ℤ) → from_signed bytes z ≡ lowered (2 ^ (8 * bytes)) z
from_is bytes (pos n) = refl
from_is bytes (negsuc n) = refl

pub signed_stored : (k : Width) (z : ℤ) → FitsSignedWidth k z → (from_signed (width_bytes k) z < 256 ^ width_bytes k) × IsTwosComplement (8 * width_bytes k) (from_signed (width_bytes k) z) z
signed_stored bits_8 z fits = put_in 8 (2 ^ 7) (2 ^ 8) z refl refl refl fits _ (from_is 1 z)
signed_stored bits_16 z fits = put_in 16 (2 ^ 15) (2 ^ 16) z refl refl refl fits _ (from_is 2 z)
signed_stored bits_32 z fits = put_in 32 (2 ^ 31) (2 ^ 32) z refl refl refl fits _ (from_is 4 z)
signed_stored bits_64 z fits = put_in 64 (2 ^ 63) (2 ^ 64) z refl refl refl fits _ (from_is 8 z)

-- a number is two's complement of one signed number alone
one_signed : (bits half all n : ℕ) → all ≡ half + half → 2 ^ (bits - 1) ≡ half → 2 ^ bits ≡ all → (y z : ℤ) → IsTwosComplement bits n y → IsTwosComplement bits n z → z ≡ y
one_signed bits half all n e h a y z u v =
    let y_low : neg_ℤ (pos half) ≤ℤ y = subst (λ x. neg_ℤ (pos x) ≤ℤ y) h u.lowest in
    let y_high : y <ℤ pos half = subst (λ x. y <ℤ pos x) h u.highest in
    let z_low : neg_ℤ (pos half) ≤ℤ z = subst (λ x. neg_ℤ (pos x) ≤ℤ z) h v.lowest in
    let z_high : z <ℤ pos half = subst (λ x. z <ℤ pos x) h v.highest in
    elim u.same [
      | inl p ↦ elim v.same [
        | inl q ↦ sym q ∙ p
        | inr q ↦ let q : pos n ≡ z +ℤ pos all = q ∙ ap (λ x. z +ℤ pos x) a in absurd (grind (arith, ints, p, q, y_high, z_low, e))
      ]
      | inr p ↦ let p : pos n ≡ y +ℤ pos all = p ∙ ap (λ x. y +ℤ pos x) a in elim v.same [
        | inl q ↦ absurd (grind (arith, ints, p, q, z_high, y_low, e))
        | inr q ↦ let q : pos n ≡ z +ℤ pos all = q ∙ ap (λ x. z +ℤ pos x) a in grind (arith, ints, p, q)
      ]
    ]

pub signed_only : (k : Width) (n : ℕ) (z : ℤ) → n < 256 ^ width_bytes k → IsTwosComplement (8 * width_bytes k) n z → z ≡ as_signed (width_bytes k) n
signed_only bits_8 n z lt h = one_signed 8 (2 ^ 7) (2 ^ 8) n refl refl refl (as_signed 1 n) z (signed_read bits_8 n lt) h
signed_only bits_16 n z lt h = one_signed 16 (2 ^ 15) (2 ^ 16) n refl refl refl (as_signed 2 n) z (signed_read bits_16 n lt) h
signed_only bits_32 n z lt h = one_signed 32 (2 ^ 31) (2 ^ 32) n refl refl refl (as_signed 4 n) z (signed_read bits_32 n lt) h
signed_only bits_64 n z lt h = one_signed 64 (2 ^ 63) (2 ^ 64) n refl refl refl (as_signed 8 n) z (signed_read bits_64 n lt) h
