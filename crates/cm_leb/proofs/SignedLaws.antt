-- Signed numbers: the laws of reading them, in the words of Numbers.
use Rattle.std.proofs.Common.{◌≡◌, ℕ, ◌-◌, ◌*◌, ◌^◌, ◌<◌, ◌≤◌, true, false, List, [], ◌∷◌, ◌++◌, length, drop, Result, Ok, Err, refl, sym, ap, subst, ◌∙◌, arith, inl, inr, ◌↔◌}
use Rattle.std.specs.Prelude.{ℤ, pos, neg_ℤ, int_le, int_lt}
use Rattle.std.proofs.lemmas.Bool.{cases_Bool, and_parts, and_from}
use Rattle.std.proofs.lemmas.Int.{ints}
use Rattle.std.specs.Prelude.{IfOk, IsOkAnd, slice_range}
use Rattle.std.specs.Result.{IsErrOf}
use Rattle.std.proofs.lemmas.List.{length-append, length-drop, take_at, take-append-drop, drop_all}
use Rattle.cm_leb.specs.declared.fault.LebFault.{LebFault}
use Rattle.cm_leb.specs.declared.fault.LebFault.TheVariants.{Truncated, TooLong, BadLastBits}
use Rattle.cm_leb.specs.Numbers.{IsGroup, digits_value, greatest_length, two_complement, IsWithin, SpellsSigned, BeginsSigned, StandsSigned, IsSignedFault}
use Rattle.cm_leb.specs.NumbersRead.{group_at, is_within, in_signed_range, signed_at, signed_from, Finds}
use Rattle.cm_leb.proofs.GroupLaws.{IsDigitsFault, ok_is, bind_ok, bind_err, group_takes, group_again, group_faulty, group_truncated, group_too_long}
use Rattle.cm_lemmas.proofs.Lists.{IsBytes, IsBytes-drop}

-- The test says what it is named for.
pub within_from_test : (bits : ℕ) (z : ℤ) → is_within bits z ≡ true → IsWithin bits z
within_from_test bits z e =
    let p = and_parts (int_le (neg_ℤ (pos (2 ^ (bits - 1)))) z) (int_lt z (pos (2 ^ (bits - 1)))) e in
    record { low = grind (arith, ints, p.0); high = grind (arith, ints, p.1) }

pub test_from_within : (bits : ℕ) (z : ℤ) → IsWithin bits z → is_within bits z ≡ true
test_from_within bits z w = and_from (int_le (neg_ℤ (pos (2 ^ (bits - 1)))) z) (int_lt z (pos (2 ^ (bits - 1)))) (grind (arith, ints, w.low)) (grind (arith, ints, w.high))

in_range_ok : (bits : ℕ) (x y : ℤ × List ℕ) → in_signed_range bits x ≡ Ok y → IsWithin bits x.0 × (x ≡ y)
in_range_ok bits x y e =
    elim (cases_Bool (is_within bits x.0)) [
      | inl t ↦ let q : in_signed_range bits x ≡ Ok x = rw t refl in (within_from_test bits x.0 t, ok_is x y (sym q ∙ e))
      | inr f ↦ let q : in_signed_range bits x ≡ Err BadLastBits = rw f refl in absurd cc
    ]

in_range_err : (bits : ℕ) (x : ℤ × List ℕ) (f : LebFault) → in_signed_range bits x ≡ Err f → (is_within bits x.0 ≡ false) × (f ≡ BadLastBits)
in_range_err bits x d e =
    elim (cases_Bool (is_within bits x.0)) [
      | inl t ↦ let q : in_signed_range bits x ≡ Ok x = rw t refl in absurd cc
      | inr f ↦ let q : in_signed_range bits x ≡ Err BadLastBits = rw f refl in (f, cc)
    ]

not_within : (bits : ℕ) (z : ℤ) → is_within bits z ≡ false → ¬ IsWithin bits z
not_within bits z f w = let t = test_from_within bits z w in absurd cc

taken_length : (bytes front rest : List ℕ) → bytes ≡ front ++ rest → length bytes - length rest ≡ length front
taken_length bytes front rest e = omega (arith, simp length-append at (ap length e))

number_is : (bytes front rest : List ℕ) (v : ℕ) → bytes ≡ front ++ rest → v ≡ digits_value front → two_complement (7 * (length bytes - length rest)) v ≡ two_complement (7 * length front) (digits_value front)
number_is bytes front rest v parts digits = rw (taken_length bytes front rest parts, digits) refl

pub signed_takes : (bits : ℕ) (bytes : List ℕ) (z : ℤ) (rest : List ℕ) → IsBytes bytes → signed_at bits bytes ≡ Ok (z, rest) → BeginsSigned bits bytes z rest
unfolding signed_at
signed_takes bits bytes z rest fits e =
    let q = bind_ok (group_at (greatest_length bits) bytes) (λ x. in_signed_range bits (two_complement (7 * (length bytes - length x.1)) x.0, x.1)) (z, rest) e in
    let p = in_range_ok bits (two_complement (7 * (length bytes - length q.0.1)) q.0.0, q.0.1) (z, rest) q.2 in
    let t = group_takes (greatest_length bits) bytes q.0.0 q.0.1 fits q.1 in
    let number : two_complement (7 * (length bytes - length q.0.1)) q.0.0 ≡ two_complement (7 * length t.front) (digits_value t.front) = number_is bytes t.front q.0.1 q.0.0 t.parts t.digits in
    subst (λ (x : ℤ × List ℕ). BeginsSigned bits bytes x.0 x.1) p.1 (record { front = t.front; spells = record { group = t.group; short = t.short; digits = number; fits = p.0 }; parts = t.parts })

pub signed_again : (bits : ℕ) (front : List ℕ) (z : ℤ) (rest : List ℕ) → SpellsSigned bits front z → signed_at bits (front ++ rest) ≡ Ok (z, rest)
unfolding signed_at
signed_again bits front z rest s =
    let t : is_within bits z ≡ true = test_from_within bits z s.fits in
    rw (group_again (greatest_length bits) front rest s.group s.short, taken_length (front ++ rest) front rest refl, ← s.digits, t) refl

digits_fault : (bits : ℕ) (bytes : List ℕ) (f : LebFault) → IsDigitsFault f (greatest_length bits) bytes → IsSignedFault bits f bytes
digits_fault bits bytes Truncated h = h
digits_fault bits bytes TooLong h = h
digits_fault bits bytes BadLastBits h = absurd h

pub signed_faulty : (bits : ℕ) (bytes : List ℕ) (f : LebFault) → IsBytes bytes → signed_at bits bytes ≡ Err f → IsSignedFault bits f bytes
unfolding signed_at
signed_faulty bits bytes f fits e =
    elim (bind_err (group_at (greatest_length bits) bytes) (λ x. in_signed_range bits (two_complement (7 * (length bytes - length x.1)) x.0, x.1)) f e) [
      | inl q ↦ digits_fault bits bytes f (group_faulty (greatest_length bits) bytes f q)
      | inr q ↦
          let t = group_takes (greatest_length bits) bytes q.0.0 q.0.1 fits q.1 in
          let p = in_range_err bits (two_complement (7 * (length bytes - length q.0.1)) q.0.0, q.0.1) f q.2 in
          let number : two_complement (7 * (length bytes - length q.0.1)) q.0.0 ≡ two_complement (7 * length t.front) (digits_value t.front) = number_is bytes t.front q.0.1 q.0.0 t.parts t.digits in
          let outside = subst (λ (v : ℤ). is_within bits v ≡ false) number p.0 in
          subst (λ (x : LebFault). IsSignedFault bits x bytes) (sym p.1) (record { front = t.front; rest = q.0.1; parts = t.parts; group = t.group; short = t.short; outside = not_within bits _ outside })
    ]

test_fails : (bits : ℕ) (z : ℤ) → ¬ IsWithin bits z → is_within bits z ≡ false
test_fails bits z h =
    elim (cases_Bool (is_within bits z)) [
      | inl t ↦ absurd (h (within_from_test bits z t))
      | inr f ↦ f
    ]

pub signed_faulty_again : (bits : ℕ) (bytes : List ℕ) (f : LebFault) → IsSignedFault bits f bytes → signed_at bits bytes ≡ Err f
unfolding signed_at
signed_faulty_again bits bytes Truncated h = rw (group_truncated (greatest_length bits) bytes h.0 h.1) refl
signed_faulty_again bits bytes TooLong h = rw (group_too_long (greatest_length bits) bytes h.0 h.1) refl
signed_faulty_again bits bytes BadLastBits h =
    let f = test_fails bits _ h.outside in
    rw (h.parts, group_again (greatest_length bits) h.front h.rest h.group h.short, taken_length (h.front ++ h.rest) h.front h.rest refl, f) refl

-- ---- in the words of the contracts

pub is_found : {X : Type 0} (bits : ℕ) (bytes : List ℕ) (view : X → ℤ × List ℕ) (r : Result X LebFault) → IsBytes bytes → Finds view r (signed_at bits bytes) → IfOk r (λ x. BeginsSigned bits bytes (view x).0 (view x).1)
is_found bits bytes view (Ok x) fits given = signed_takes bits bytes (view x).0 (view x).1 fits given
is_found bits bytes view (Err e) fits given = tt {0}

begins : (bits : ℕ) (bytes : List ℕ) (n : ℤ) (rest : List ℕ) → BeginsSigned bits bytes n rest → signed_at bits bytes ≡ Ok (n, rest)
begins bits bytes n rest b = rw b.parts (signed_again bits b.front n rest b.spells)

pub is_only : {X : Type 0} (bits : ℕ) (bytes : List ℕ) (view : X → ℤ × List ℕ) (r : Result X LebFault) → Finds view r (signed_at bits bytes) → (n : ℤ) (rest : List ℕ) → BeginsSigned bits bytes n rest → IsOkAnd r (λ x. ((view x).0 ≡ n) × ((view x).1 ≡ rest))
is_only bits bytes view (Ok x) given n rest b =
    let e = ok_is (view x) (n, rest) (sym given ∙ begins bits bytes n rest b) in
    (ap (λ (p : ℤ × List ℕ). p.0) e, ap (λ (p : ℤ × List ℕ). p.1) e)
is_only bits bytes view (Err e) given n rest b = let p = begins bits bytes n rest b in absurd cc

given_err : {X : Type 0} (bits : ℕ) (bytes : List ℕ) (view : X → ℤ × List ℕ) (r : Result X LebFault) (f : LebFault) → Finds view r (signed_at bits bytes) → signed_at bits bytes ≡ Err f → r ≡ Err f
given_err bits bytes view (Ok x) f given e = absurd cc
given_err bits bytes view (Err d) f given e = cc

pub is_fault : {X : Type 0} (bits : ℕ) (bytes : List ℕ) (view : X → ℤ × List ℕ) (r : Result X LebFault) (f : LebFault) → IsBytes bytes → Finds view r (signed_at bits bytes) → IsErrOf r f ↔ IsSignedFault bits f bytes
is_fault bits bytes view r f fits given = (
  λ e. signed_faulty bits bytes f fits (subst (λ (x : Result _ LebFault). Finds view x (signed_at bits bytes)) e given),
  λ h. given_err bits bytes view r f given (signed_faulty_again bits bytes f h),
)

-- ---- at a place

pub signed_nothing : (bits : ℕ) → 0 < greatest_length bits → signed_at bits [] ≡ Err Truncated
signed_nothing bits h = signed_faulty_again bits [] Truncated (h, tt)

pub signed_from_past : (bytes : List ℕ) (at : ℕ) → length bytes ≤ at → signed_from 33 bytes at ≡ Err Truncated
unfolding signed_from
signed_from_past bytes at h = rw (drop_all at bytes h, signed_nothing 33 (omega arith)) refl

pub IsGroup-some : (bytes : List ℕ) → IsGroup bytes → 1 ≤ length bytes
IsGroup-some [] g = absurd g
IsGroup-some (b ∷ bytes) g = omega arith

-- A number in front of what follows a place stands there.
pub begins_stands : (bits : ℕ) (bytes : List ℕ) (at : ℕ) (n : ℤ) (rest : List ℕ) → BeginsSigned bits (drop at bytes) n rest → StandsSigned bits bytes at n (length bytes - length rest)
begins_stands bits bytes at n rest b =
    let some = IsGroup-some b.front b.spells.group in
    let lengths = simp (length-drop, length-append) at (ap length b.parts) in
    let taken : length bytes - length rest - at ≡ length b.front = omega (arith, lengths) in
    let same : slice_range bytes at (length bytes - length rest) ≡ b.front = rw (taken, b.parts) (take_at b.front rest (length b.front) refl) in
    record { starts = omega (arith, lengths); ends = omega arith; spells = subst (λ (f : List ℕ). SpellsSigned bits f n) (sym same) b.spells }

pub stands_from : (bits : ℕ) (bytes : List ℕ) (at : ℕ) (n : ℤ) (end : ℕ) → StandsSigned bits bytes at n end → signed_from bits bytes at ≡ Ok (n, end)
unfolding signed_from
stands_from bits bytes at n end s =
    let rest = drop (end - at) (drop at bytes) in
    let parts : drop at bytes ≡ slice_range bytes at end ++ rest = sym (take-append-drop (end - at) (drop at bytes)) in
    let reads : signed_at bits (drop at bytes) ≡ Ok (n, rest) = begins bits (drop at bytes) n rest (record { front = slice_range bytes at end; spells = s.spells; parts = parts }) in
    let len : length rest ≡ length bytes - at - (end - at) = length-drop (end - at) (drop at bytes) ∙ ap (λ (m : ℕ). m - (end - at)) (length-drop at bytes) in
    let place : length bytes - length rest ≡ end = omega (arith, len, s.starts, s.ends) in
    rw (reads, place) refl

pub from_is_found : (bits : ℕ) (bytes : List ℕ) (at : ℕ) (r : Result (ℤ × ℕ) LebFault) → IsBytes bytes → r ≡ signed_from bits bytes at → IfOk r (λ x. StandsSigned bits bytes at x.0 x.1)
unfolding signed_from
from_is_found bits bytes at (Ok x) fits given =
    let q = bind_ok (signed_at bits (drop at bytes)) (λ y. Ok (y.0, length bytes - length y.1)) x (sym given) in
    let b = signed_takes bits (drop at bytes) q.0.0 q.0.1 (IsBytes-drop at bytes fits) q.1 in
    subst (λ (y : ℤ × ℕ). StandsSigned bits bytes at y.0 y.1) (ok_is (q.0.0, length bytes - length q.0.1) x q.2) (begins_stands bits bytes at q.0.0 q.0.1 b)
from_is_found bits bytes at (Err e) fits given = tt {0}

from_err : (bits : ℕ) (bytes : List ℕ) (at : ℕ) (f : LebFault) → signed_from bits bytes at ≡ Err f → signed_at bits (drop at bytes) ≡ Err f
unfolding signed_from
from_err bits bytes at f e =
    elim (bind_err (signed_at bits (drop at bytes)) (λ y. Ok (y.0, length bytes - length y.1)) f e) [
      | inl q ↦ q
      | inr q ↦ let p = q.2 in absurd cc
    ]

err_from : (bits : ℕ) (bytes : List ℕ) (at : ℕ) (f : LebFault) → signed_at bits (drop at bytes) ≡ Err f → signed_from bits bytes at ≡ Err f
unfolding signed_from
err_from bits bytes at f e = rw e refl

pub from_is_fault : (bits : ℕ) (bytes : List ℕ) (at : ℕ) (r : Result (ℤ × ℕ) LebFault) (f : LebFault) → IsBytes bytes → r ≡ signed_from bits bytes at → IsErrOf r f ↔ IsSignedFault bits f (drop at bytes)
from_is_fault bits bytes at r f fits given = (
  λ e. signed_faulty bits (drop at bytes) f (IsBytes-drop at bytes fits) (from_err bits bytes at f (sym given ∙ e)),
  λ h. given ∙ err_from bits bytes at f (signed_faulty_again bits (drop at bytes) f h),
)
