-- Unsigned numbers: the laws of reading them, in the words of Numbers.
use Rattle.std.proofs.Common.{◌≡◌, ℕ, ◌-◌, ◌^◌, ◌<◌, ◌≤◌, true, false, ltb, List, [], ◌++◌, length, drop, Result, Ok, Err, refl, sym, ap, subst, ◌∙◌, arith, inl, inr, ◌↔◌}
use Rattle.std.proofs.lemmas.Bool.{ltb-true, ltb-false, lt-ltb, le-ltb, cases_Bool}
use Rattle.std.specs.Prelude.{IfOk, IsOkAnd, slice_range}
use Rattle.std.specs.Result.{IsErrOf}
use Rattle.std.proofs.lemmas.List.{length-append, length-drop, take_at, take-append-drop, drop_all}
use Rattle.cm_leb.specs.declared.fault.LebFault.{LebFault}
use Rattle.cm_leb.specs.declared.fault.LebFault.TheVariants.{Truncated, TooLong, BadLastBits}
use Rattle.cm_leb.specs.Numbers.{digits_value, greatest_length, SpellsUnsigned, BeginsUnsigned, StandsUnsigned, IsUnsignedFault}
use Rattle.cm_leb.specs.NumbersRead.{group_at, in_range, unsigned_at, unsigned_from, Finds}
use Rattle.cm_leb.proofs.GroupLaws.{IsDigitsFault, ok_is, bind_ok, bind_err, group_takes, group_again, group_faulty, group_truncated, group_too_long}
use Rattle.cm_lemmas.proofs.Lists.{IsBytes, IsBytes-drop}
use Rattle.cm_leb.proofs.SignedLaws.{IsGroup-some}

in_range_ok : (bits : ℕ) (x y : ℕ × List ℕ) → in_range bits x ≡ Ok y → (x.0 < 2 ^ bits) × (x ≡ y)
in_range_ok bits x y e =
    elim (cases_Bool (ltb x.0 (2 ^ bits))) [
      | inl t ↦ let q : in_range bits x ≡ Ok x = rw t refl in (ltb-true _ _ t, ok_is x y (sym q ∙ e))
      | inr f ↦ let q : in_range bits x ≡ Err BadLastBits = rw f refl in absurd cc
    ]

in_range_err : (bits : ℕ) (x : ℕ × List ℕ) (f : LebFault) → in_range bits x ≡ Err f → (2 ^ bits ≤ x.0) × (f ≡ BadLastBits)
in_range_err bits x d e =
    elim (cases_Bool (ltb x.0 (2 ^ bits))) [
      | inl t ↦ let q : in_range bits x ≡ Ok x = rw t refl in absurd cc
      | inr f ↦ let q : in_range bits x ≡ Err BadLastBits = rw f refl in (ltb-false _ _ f, cc)
    ]

pub unsigned_takes : (bits : ℕ) (bytes : List ℕ) (n : ℕ) (rest : List ℕ) → IsBytes bytes → unsigned_at bits bytes ≡ Ok (n, rest) → BeginsUnsigned bits bytes n rest
unfolding unsigned_at
unsigned_takes bits bytes n rest fits e =
    let q = bind_ok (group_at (greatest_length bits) bytes) (λ x. in_range bits x) (n, rest) e in
    let p = in_range_ok bits q.0 (n, rest) q.2 in
    let t = group_takes (greatest_length bits) bytes q.0.0 q.0.1 fits q.1 in
    subst (λ (x : ℕ × List ℕ). BeginsUnsigned bits bytes x.0 x.1) p.1 (record { front = t.front; spells = record { group = t.group; short = t.short; digits = t.digits; fits = p.0 }; parts = t.parts })

pub unsigned_again : (bits : ℕ) (front : List ℕ) (n : ℕ) (rest : List ℕ) → SpellsUnsigned bits front n → unsigned_at bits (front ++ rest) ≡ Ok (n, rest)
unfolding unsigned_at
unsigned_again bits front n rest s =
    let lt : ltb n (2 ^ bits) ≡ true = lt-ltb _ _ s.fits in
    rw (group_again (greatest_length bits) front rest s.group s.short, ← s.digits, lt) refl

digits_fault : (bits : ℕ) (bytes : List ℕ) (f : LebFault) → IsDigitsFault f (greatest_length bits) bytes → IsUnsignedFault bits f bytes
digits_fault bits bytes Truncated h = h
digits_fault bits bytes TooLong h = h
digits_fault bits bytes BadLastBits h = absurd h

pub unsigned_faulty : (bits : ℕ) (bytes : List ℕ) (f : LebFault) → IsBytes bytes → unsigned_at bits bytes ≡ Err f → IsUnsignedFault bits f bytes
unfolding unsigned_at
unsigned_faulty bits bytes f fits e =
    elim (bind_err (group_at (greatest_length bits) bytes) (λ x. in_range bits x) f e) [
      | inl q ↦ digits_fault bits bytes f (group_faulty (greatest_length bits) bytes f q)
      | inr q ↦
          let t = group_takes (greatest_length bits) bytes q.0.0 q.0.1 fits q.1 in
          let p = in_range_err bits q.0 f q.2 in
          subst (λ (x : LebFault). IsUnsignedFault bits x bytes) (sym p.1) (record { front = t.front; rest = q.0.1; parts = t.parts; group = t.group; short = t.short; outside = subst (λ (v : ℕ). 2 ^ bits ≤ v) t.digits p.0 })
    ]

pub unsigned_faulty_again : (bits : ℕ) (bytes : List ℕ) (f : LebFault) → IsUnsignedFault bits f bytes → unsigned_at bits bytes ≡ Err f
unfolding unsigned_at
unsigned_faulty_again bits bytes Truncated h = rw (group_truncated (greatest_length bits) bytes h.0 h.1) refl
unsigned_faulty_again bits bytes TooLong h = rw (group_too_long (greatest_length bits) bytes h.0 h.1) refl
unsigned_faulty_again bits bytes BadLastBits h =
    let ge : ltb (digits_value h.front) (2 ^ bits) ≡ false = le-ltb _ _ h.outside in
    rw (h.parts, group_again (greatest_length bits) h.front h.rest h.group h.short, ge) refl

-- ---- in the words of the contracts

pub is_found : {X : Type 0} (bits : ℕ) (bytes : List ℕ) (view : X → ℕ × List ℕ) (r : Result X LebFault) → IsBytes bytes → Finds view r (unsigned_at bits bytes) → IfOk r (λ x. BeginsUnsigned bits bytes (view x).0 (view x).1)
is_found bits bytes view (Ok x) fits given = unsigned_takes bits bytes (view x).0 (view x).1 fits given
is_found bits bytes view (Err e) fits given = tt {0}

begins : (bits : ℕ) (bytes : List ℕ) (n : ℕ) (rest : List ℕ) → BeginsUnsigned bits bytes n rest → unsigned_at bits bytes ≡ Ok (n, rest)
begins bits bytes n rest b = rw b.parts (unsigned_again bits b.front n rest b.spells)

pub is_only : {X : Type 0} (bits : ℕ) (bytes : List ℕ) (view : X → ℕ × List ℕ) (r : Result X LebFault) → Finds view r (unsigned_at bits bytes) → (n : ℕ) (rest : List ℕ) → BeginsUnsigned bits bytes n rest → IsOkAnd r (λ x. ((view x).0 ≡ n) × ((view x).1 ≡ rest))
is_only bits bytes view (Ok x) given n rest b =
    let e = ok_is (view x) (n, rest) (sym given ∙ begins bits bytes n rest b) in
    (ap (λ (p : ℕ × List ℕ). p.0) e, ap (λ (p : ℕ × List ℕ). p.1) e)
is_only bits bytes view (Err e) given n rest b = let p = begins bits bytes n rest b in absurd cc

given_err : {X : Type 0} (bits : ℕ) (bytes : List ℕ) (view : X → ℕ × List ℕ) (r : Result X LebFault) (f : LebFault) → Finds view r (unsigned_at bits bytes) → unsigned_at bits bytes ≡ Err f → r ≡ Err f
given_err bits bytes view (Ok x) f given e = absurd cc
given_err bits bytes view (Err d) f given e = cc

pub is_fault : {X : Type 0} (bits : ℕ) (bytes : List ℕ) (view : X → ℕ × List ℕ) (r : Result X LebFault) (f : LebFault) → IsBytes bytes → Finds view r (unsigned_at bits bytes) → IsErrOf r f ↔ IsUnsignedFault bits f bytes
is_fault bits bytes view r f fits given = (
  λ e. unsigned_faulty bits bytes f fits (subst (λ (x : Result _ LebFault). Finds view x (unsigned_at bits bytes)) e given),
  λ h. given_err bits bytes view r f given (unsigned_faulty_again bits bytes f h),
)

-- ---- at a place

pub unsigned_nothing : (bits : ℕ) → 0 < greatest_length bits → unsigned_at bits [] ≡ Err Truncated
unsigned_nothing bits h = unsigned_faulty_again bits [] Truncated (h, tt)

pub unsigned_from_past : (bytes : List ℕ) (at : ℕ) → length bytes ≤ at → unsigned_from 32 bytes at ≡ Err Truncated
unfolding unsigned_from
unsigned_from_past bytes at h = rw (drop_all at bytes h, unsigned_nothing 32 (omega arith)) refl

-- A number in front of what follows a place stands there.
pub begins_stands : (bits : ℕ) (bytes : List ℕ) (at : ℕ) (n : ℕ) (rest : List ℕ) → BeginsUnsigned bits (drop at bytes) n rest → StandsUnsigned bits bytes at n (length bytes - length rest)
begins_stands bits bytes at n rest b =
    let some = IsGroup-some b.front b.spells.group in
    let lengths = simp (length-drop, length-append) at (ap length b.parts) in
    let taken : length bytes - length rest - at ≡ length b.front = omega (arith, lengths) in
    let same : slice_range bytes at (length bytes - length rest) ≡ b.front = rw (taken, b.parts) (take_at b.front rest (length b.front) refl) in
    record { starts = omega (arith, lengths); ends = omega arith; spells = subst (λ (f : List ℕ). SpellsUnsigned bits f n) (sym same) b.spells }

pub stands_from : (bits : ℕ) (bytes : List ℕ) (at : ℕ) (n : ℕ) (end : ℕ) → StandsUnsigned bits bytes at n end → unsigned_from bits bytes at ≡ Ok (n, end)
unfolding unsigned_from
stands_from bits bytes at n end s =
    let rest = drop (end - at) (drop at bytes) in
    let parts : drop at bytes ≡ slice_range bytes at end ++ rest = sym (take-append-drop (end - at) (drop at bytes)) in
    let reads : unsigned_at bits (drop at bytes) ≡ Ok (n, rest) = begins bits (drop at bytes) n rest (record { front = slice_range bytes at end; spells = s.spells; parts = parts }) in
    let len : length rest ≡ length bytes - at - (end - at) = length-drop (end - at) (drop at bytes) ∙ ap (λ (m : ℕ). m - (end - at)) (length-drop at bytes) in
    let place : length bytes - length rest ≡ end = omega (arith, len, s.starts, s.ends) in
    rw (reads, place) refl

pub from_is_found : (bits : ℕ) (bytes : List ℕ) (at : ℕ) (r : Result (ℕ × ℕ) LebFault) → IsBytes bytes → r ≡ unsigned_from bits bytes at → IfOk r (λ x. StandsUnsigned bits bytes at x.0 x.1)
unfolding unsigned_from
from_is_found bits bytes at (Ok x) fits given =
    let q = bind_ok (unsigned_at bits (drop at bytes)) (λ y. Ok (y.0, length bytes - length y.1)) x (sym given) in
    let b = unsigned_takes bits (drop at bytes) q.0.0 q.0.1 (IsBytes-drop at bytes fits) q.1 in
    subst (λ (y : ℕ × ℕ). StandsUnsigned bits bytes at y.0 y.1) (ok_is (q.0.0, length bytes - length q.0.1) x q.2) (begins_stands bits bytes at q.0.0 q.0.1 b)
from_is_found bits bytes at (Err e) fits given = tt {0}

from_err : (bits : ℕ) (bytes : List ℕ) (at : ℕ) (f : LebFault) → unsigned_from bits bytes at ≡ Err f → unsigned_at bits (drop at bytes) ≡ Err f
unfolding unsigned_from
from_err bits bytes at f e =
    elim (bind_err (unsigned_at bits (drop at bytes)) (λ y. Ok (y.0, length bytes - length y.1)) f e) [
      | inl q ↦ q
      | inr q ↦ let p = q.2 in absurd cc
    ]

err_from : (bits : ℕ) (bytes : List ℕ) (at : ℕ) (f : LebFault) → unsigned_at bits (drop at bytes) ≡ Err f → unsigned_from bits bytes at ≡ Err f
unfolding unsigned_from
err_from bits bytes at f e = rw e refl

pub from_is_fault : (bits : ℕ) (bytes : List ℕ) (at : ℕ) (r : Result (ℕ × ℕ) LebFault) (f : LebFault) → IsBytes bytes → r ≡ unsigned_from bits bytes at → IsErrOf r f ↔ IsUnsignedFault bits f (drop at bytes)
from_is_fault bits bytes at r f fits given = (
  λ e. unsigned_faulty bits (drop at bytes) f (IsBytes-drop at bytes fits) (from_err bits bytes at f (sym given ∙ e)),
  λ h. given ∙ err_from bits bytes at f (unsigned_faulty_again bits (drop at bytes) f h),
)
