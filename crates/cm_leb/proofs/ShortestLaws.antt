-- The shortest spelling spells its number, and no spelling is shorter.
use Rattle.std.proofs.Common.{◌≡◌, ℕ, zero, suc, ◌+◌, ◌-◌, ◌*◌, ◌/◌, ◌%◌, ◌^◌, ◌<◌, ◌≤◌, Bool, true, false, cond, ltb, List, [], ◌∷◌, ◌++◌, length, take, drop, Result, refl, sym, ap, subst, ◌∙◌, arith, inl, inr, ◌⊎◌}
use Rattle.std.specs.Prelude.{ℤ, pos, negsuc, slice_range, OnOk}
use Rattle.std.proofs.lemmas.List.{length-append, take_all, drop_at}
use Rattle.std.proofs.lemmas.Result.{on_ok_weaker}
use Rattle.std.proofs.lemmas.Bool.{cases_Bool, ltb-true, ltb-false, lt-ltb, le-ltb}
use Rattle.std.proofs.lemmas.Bool.Decides.{nat_tests}
use Rattle.std.proofs.lemmas.Int.{ints}
use Rattle.std.proofs.Math.Nat.{pow-suc}
use lib.Pow.{pow-add}
use Rattle.cm_leb.specs.Numbers.{IsGroup, digits_value, two_complement, IsWithin, SpellsUnsigned, SpellsSigned, StandsUnsigned, StandsSigned}
use Rattle.cm_leb.specs.NumbersRead.{is_within}
use Rattle.cm_leb.specs.NumbersWritten.{group_of, unsigned_length, shortest_unsigned, signed_length, to_two_complement, shortest_signed}
use Rattle.cm_leb.proofs.Powers.{pow_room}
use Rattle.cm_leb.proofs.SignedLaws.{within_from_test, test_from_within, IsGroup-some}

group_of-length : (k v : ℕ) → length (group_of k v) ≡ k
group_of-length zero v = refl
group_of-length (suc zero) v = refl
group_of-length (suc (suc k)) v = ap suc (group_of-length (suc k) (v / 128))

group_of-group : (k v : ℕ) → 1 ≤ k → IsGroup (group_of k v)
group_of-group zero v h = absurd (omega arith)
group_of-group (suc zero) v h = omega arith
group_of-group (suc (suc zero)) v h = (omega arith, omega arith, omega arith)
group_of-group (suc (suc (suc k))) v h = (omega arith, omega arith, group_of-group (suc (suc k)) (v / 128) (omega arith))

group_of-value : (k v : ℕ) → v < 128 ^ k → digits_value (group_of k v) ≡ v
group_of-value zero v h = omega (arith, h)
group_of-value (suc zero) v h = let b : v < 128 = h in omega arith
group_of-value (suc (suc k)) v h =
    let small : v / 128 < 128 ^ suc k = omega (arith, h, pow_room (suc k)) in
    omega (arith, group_of-value (suc k) (v / 128) small)

-- So many digits stand for less than that power of 128.
pub digits_below : (bytes : List ℕ) → digits_value bytes < 128 ^ length bytes
digits_below [] = omega arith
digits_below (b ∷ bytes) = omega (arith, digits_below bytes, pow_room (length bytes))

-- ---- without a sign

unsigned_length-some : (n : ℕ) → 1 ≤ unsigned_length n
unsigned_length-some n = grind (arith, nat_tests)

unsigned_length-few : (n : ℕ) → unsigned_length n ≤ 5
unsigned_length-few n = grind (arith, nat_tests)

unsigned_length-fits : (n : ℕ) → n < 2 ^ 32 → n < 128 ^ unsigned_length n
unsigned_length-fits n h = grind (arith, nat_tests)

pub shortest_unsigned-spells : (n : ℕ) → n < 2 ^ 32 → SpellsUnsigned 32 (shortest_unsigned n) n
shortest_unsigned-spells n h = record {
  group = group_of-group (unsigned_length n) n (unsigned_length-some n);
  short = omega (arith, group_of-length (unsigned_length n) n, unsigned_length-few n);
  digits = sym (group_of-value (unsigned_length n) n (unsigned_length-fits n h));
  fits = h;
}

unsigned_length-least : (n k : ℕ) → 1 ≤ k → n < 128 ^ k → unsigned_length n ≤ k
unsigned_length-least n zero h l = absurd (omega arith)
unsigned_length-least n (suc zero) h l = let b : n < 128 = l in grind (arith, nat_tests)
unsigned_length-least n (suc (suc zero)) h l = let b : n < 16384 = l in grind (arith, nat_tests)
unsigned_length-least n (suc (suc (suc zero))) h l = let b : n < 2097152 = l in grind (arith, nat_tests)
unsigned_length-least n (suc (suc (suc (suc zero)))) h l = let b : n < 268435456 = l in grind (arith, nat_tests)
unsigned_length-least n (suc (suc (suc (suc (suc k))))) h l = omega (arith, unsigned_length-few n)

pub shortest_unsigned-length : (n : ℕ) → length (shortest_unsigned n) ≡ unsigned_length n
shortest_unsigned-length n = group_of-length (unsigned_length n) n

-- No spelling is shorter.
pub shortest_unsigned-least : (n : ℕ) (bytes : List ℕ) → SpellsUnsigned 32 bytes n → length (shortest_unsigned n) ≤ length bytes
shortest_unsigned-least n bytes s =
    let below : n < 128 ^ length bytes = subst (λ (v : ℕ). v < 128 ^ length bytes) (sym s.digits) (digits_below bytes) in
    omega (arith, group_of-length (unsigned_length n) n, unsigned_length-least n (length bytes) (IsGroup-some bytes s.group) below)

-- ---- with a sign

pow_half : (bits : ℕ) → 1 ≤ bits → 2 ^ bits ≡ 2 * 2 ^ (bits - 1)
pow_half zero h = absurd (omega arith)
pow_half (suc k) h = let e : suc k - 1 ≡ k = omega arith in rw e (omega (arith, pow-suc 2 k))

pow_seven : (k : ℕ) → 128 ^ k ≡ 2 ^ (7 * k)
pow_seven zero = refl
pow_seven (suc k) =
    let e : 7 * suc k ≡ 7 + 7 * k = omega arith in
    rw e (omega (arith, pow_room k, pow_seven k, pow-add 2 7 (7 * k)))

to_two_complement-below : (bits : ℕ) (z : ℤ) → 1 ≤ bits → IsWithin bits z → to_two_complement bits z < 2 ^ bits
to_two_complement-below bits (pos n) h w = omega (arith, ints, pow_half bits h, w.low, w.high)
to_two_complement-below bits (negsuc n) h w = omega (arith, ints, pow_half bits h, w.low, w.high)

two_complement-to : (bits : ℕ) (z : ℤ) → 1 ≤ bits → IsWithin bits z → two_complement bits (to_two_complement bits z) ≡ z
two_complement-to bits (pos n) h w =
    let small : n < 2 ^ (bits - 1) = omega (arith, ints, w.high) in
    let t : ltb n (2 ^ (bits - 1)) ≡ true = lt-ltb _ _ small in rw t refl
two_complement-to bits (negsuc n) h w =
    let p = pow_half bits h in
    let small : n + 1 ≤ 2 ^ (bits - 1) = omega (arith, ints, w.low) in
    let t : ltb (2 ^ bits - (n + 1)) (2 ^ (bits - 1)) ≡ false = le-ltb _ _ (omega arith) in
    rw t (omega (arith, ints))

two_complement-within : (bits v : ℕ) → 1 ≤ bits → v < 2 ^ bits → IsWithin bits (two_complement bits v)
two_complement-within bits v h l =
    let p = pow_half bits h in
    elim (cases_Bool (ltb v (2 ^ (bits - 1)))) [
      | inl t ↦ let b = ltb-true _ _ t in rw t (record { low = omega (arith, ints); high = omega (arith, ints) })
      | inr f ↦ let b = ltb-false _ _ f in rw f (record { low = omega (arith, ints); high = omega (arith, ints) })
    ]

signed_length-some : (z : ℤ) → 1 ≤ signed_length z
signed_length-some z = grind arith

signed_length-few : (z : ℤ) → signed_length z ≤ 5
signed_length-few z = grind arith

within_wider : (z : ℤ) → IsWithin 33 z → IsWithin 35 z
within_wider z w = record { low = omega (arith, ints, w.low); high = omega (arith, ints, w.high) }

signed_length-fits : (z : ℤ) → IsWithin 33 z → IsWithin (7 * signed_length z) z
signed_length-fits z w =
    elim (cases_Bool (is_within 7 z)) [
      | inl t ↦ rw t (within_from_test 7 z t)
      | inr f ↦
          elim (cases_Bool (is_within 14 z)) [
            | inl t ↦ rw (f, t) (within_from_test 14 z t)
            | inr g ↦
                elim (cases_Bool (is_within 21 z)) [
                  | inl t ↦ rw (f, g, t) (within_from_test 21 z t)
                  | inr h ↦
                      elim (cases_Bool (is_within 28 z)) [
                        | inl t ↦ rw (f, g, h, t) (within_from_test 28 z t)
                        | inr i ↦ rw (f, g, h, i) (within_wider z w)
                      ]
                ]
          ]
    ]

length_at : (z : ℤ) → Bool → Bool → Bool → Bool → ℕ
length_at z a b c d = cond a 1 (cond b 2 (cond c 3 (cond d 4 5)))

signed_length-least : (z : ℤ) (k : ℕ) → 1 ≤ k → IsWithin (7 * k) z → signed_length z ≤ k
signed_length-least z zero h w = absurd (omega arith)
signed_length-least z (suc zero) h w = let t : is_within 7 z ≡ true = test_from_within 7 z w in rw t (omega arith)
signed_length-least z (suc (suc zero)) h w = let t : is_within 14 z ≡ true = test_from_within 14 z w in grind arith
signed_length-least z (suc (suc (suc zero))) h w = let t : is_within 21 z ≡ true = test_from_within 21 z w in grind arith
signed_length-least z (suc (suc (suc (suc zero)))) h w = let t : is_within 28 z ≡ true = test_from_within 28 z w in grind arith
signed_length-least z (suc (suc (suc (suc (suc k))))) h w = omega (arith, signed_length-few z)

pub shortest_signed-spells : (z : ℤ) → IsWithin 33 z → SpellsSigned 33 (shortest_signed z) z
shortest_signed-spells z w =
    let k = signed_length z in
    let some = signed_length-some z in
    let len : length (shortest_signed z) ≡ k = group_of-length k (to_two_complement (7 * k) z) in
    let within : IsWithin (7 * k) z = signed_length-fits z w in
    let small : to_two_complement (7 * k) z < 128 ^ k = subst (λ (p : ℕ). to_two_complement (7 * k) z < p) (sym (pow_seven k)) (to_two_complement-below (7 * k) z (omega arith) within) in
    let value : digits_value (shortest_signed z) ≡ to_two_complement (7 * k) z = group_of-value k (to_two_complement (7 * k) z) small in
    record {
      group = group_of-group k (to_two_complement (7 * k) z) some;
      short = omega (arith, len, signed_length-few z);
      digits = sym (ap (λ (l : ℕ). two_complement (7 * l) (digits_value (shortest_signed z))) len ∙ ap (λ (v : ℕ). two_complement (7 * k) v) value ∙ two_complement-to (7 * k) z (omega arith) within);
      fits = w;
    }

-- No spelling is shorter.
pub shortest_signed-least : (z : ℤ) (bytes : List ℕ) → SpellsSigned 33 bytes z → length (shortest_signed z) ≤ length bytes
shortest_signed-least z bytes s =
    let some = IsGroup-some bytes s.group in
    let below : digits_value bytes < 2 ^ (7 * length bytes) = subst (λ (p : ℕ). digits_value bytes < p) (pow_seven (length bytes)) (digits_below bytes) in
    let within : IsWithin (7 * length bytes) z = subst (λ (y : ℤ). IsWithin (7 * length bytes) y) (sym s.digits) (two_complement-within (7 * length bytes) (digits_value bytes) (omega arith) below) in
    omega (arith, group_of-length (signed_length z) (to_two_complement (7 * signed_length z) z), signed_length-least z (length bytes) some within)

-- The bytes begin with one below 40, or with one that says that another follows.
pub record BeginsApart (bytes : List ℕ) : Type 0 where
  pub first : ℕ
  pub rest : List ℕ
  pub parts : bytes ≡ first ∷ rest
  pub apart : (first < 64) ⊎ (128 ≤ first)

group_of-one : (v : ℕ) → v < 64 → BeginsApart (group_of 1 v)
group_of-one v h = record { first = v % 128; rest = []; parts = refl; apart = inl (omega arith) }

group_of-long : (k v : ℕ) → 2 ≤ k → BeginsApart (group_of k v)
group_of-long zero v h = absurd (omega arith)
group_of-long (suc zero) v h = absurd (omega arith)
group_of-long (suc (suc k)) v h = record { first = 128 + v % 128; rest = group_of (suc k) (v / 128); parts = refl; apart = inr (omega arith) }

signed_length-long : (z : ℤ) → is_within 7 z ≡ false → 2 ≤ signed_length z
signed_length-long z f = rw f (grind arith)

-- The shortest spelling of a number that is not below 0.
pub shortest_signed-apart : (n : ℕ) → BeginsApart (shortest_signed (pos n))
shortest_signed-apart n =
    elim (cases_Bool (is_within 7 (pos n))) [
      | inl t ↦ let w = within_from_test 7 (pos n) t in rw t (group_of-one n (omega (arith, ints, w.high)))
      | inr f ↦ group_of-long (signed_length (pos n)) n (signed_length-long (pos n) f)
    ]

-- What was appended stands at the old end.
pub unsigned_stands : (bits : ℕ) (old text : List ℕ) (n : ℕ) → SpellsUnsigned bits text n → StandsUnsigned bits (old ++ text) (length old) n (length (old ++ text))
unsigned_stands bits old text n s =
    let len : length (old ++ text) - length old ≡ length text = omega (arith, length-append old text) in
    let same : slice_range (old ++ text) (length old) (length (old ++ text)) ≡ text = ap (λ (m : ℕ). take m (drop (length old) (old ++ text))) len ∙ ap (λ (r : List ℕ). take (length text) r) (drop_at old text (length old) refl) ∙ take_all (length text) text (omega arith) in
    record { starts = omega (arith, length-append old text); ends = omega arith; spells = subst (λ (f : List ℕ). SpellsUnsigned bits f n) (sym same) s }

pub unsigned_appended : (bits : ℕ) (old new text : List ℕ) (n : ℕ) {X E : Type 0} (r : Result X E) → SpellsUnsigned bits text n → OnOk r (new ≡ old ++ text) → OnOk r (StandsUnsigned bits new (length old) n (length new))
unsigned_appended bits old new text n r s given = on_ok_weaker r (λ e. subst (λ (xs : List ℕ). StandsUnsigned bits xs (length old) n (length xs)) (sym e) (unsigned_stands bits old text n s)) given

-- What was appended stands at the old end.
pub signed_stands : (bits : ℕ) (old text : List ℕ) (n : ℤ) → SpellsSigned bits text n → StandsSigned bits (old ++ text) (length old) n (length (old ++ text))
signed_stands bits old text n s =
    let len : length (old ++ text) - length old ≡ length text = omega (arith, length-append old text) in
    let same : slice_range (old ++ text) (length old) (length (old ++ text)) ≡ text = ap (λ (m : ℕ). take m (drop (length old) (old ++ text))) len ∙ ap (λ (r : List ℕ). take (length text) r) (drop_at old text (length old) refl) ∙ take_all (length text) text (omega arith) in
    record { starts = omega (arith, length-append old text); ends = omega arith; spells = subst (λ (f : List ℕ). SpellsSigned bits f n) (sym same) s }

pub signed_appended : (bits : ℕ) (old new text : List ℕ) (n : ℤ) {X E : Type 0} (r : Result X E) → SpellsSigned bits text n → OnOk r (new ≡ old ++ text) → OnOk r (StandsSigned bits new (length old) n (length new))
signed_appended bits old new text n r s given = on_ok_weaker r (λ e. subst (λ (xs : List ℕ). StandsSigned bits xs (length old) n (length xs)) (sym e) (signed_stands bits old text n s)) given
