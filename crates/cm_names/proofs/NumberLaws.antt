-- The numbers of texts that are there once.
use Rattle.std.proofs.Common.{◌≡◌, ◌∙◌, ℕ, zero, suc, ◌+◌, false, cond, List, [], ◌∷◌, ◌++◌, length, slice_get, Some, Result, Ok, Err, sym, ap, subst, arith, inl, inr}
use Rattle.std.proofs.lemmas.Bool.{cases_Bool}
use Rattle.std.proofs.lemmas.Slice.Eq.{bytes_eq-Decides}
use Rattle.std.specs.List.{list_any, position_from}
use Rattle.std.specs.Prelude.{OnErr, OnOk, ⊤}
use Rattle.std.specs.Str.{bytes_eq}
use Rattle.cm_names.specs.Distinct.{AreDistinct}
use Rattle.cm_names.specs.TextNumbers.{number_in}
use Rattle.cm_names.proofs.TextLaws.{last_there}
use Rattle.cm_lemmas.proofs.Lists.{absent, old_or_last}
use Rattle.cm_lemmas.proofs.Options.{none_some, some_is}

-- the text of a number that is counted from another one on
record StandsAt (text : List ℕ) (start n : ℕ) (texts : List (List ℕ)) : Type 0 where
  behind : ℕ
  is : n ≡ start + behind
  there : slice_get texts behind ≡ Some text

stands_at : (text : List ℕ) (i n : ℕ) (ts : List (List ℕ)) → position_from (bytes_eq text) i ts ≡ Some n → StandsAt text i n ts
stands_at text i n [] e = none_some n e
stands_at text i n (x ∷ ts) e = elim (cases_Bool (bytes_eq text x)) [
  | inl y ↦ record {
    behind = 0;
    is = let same = some_is i n (sym (ap (λ b. cond b (Some i) (position_from (bytes_eq text) (i + 1) ts)) y) ∙ e) in omega (arith, same);
    there = ap (λ (t : List ℕ). Some t) (sym ((bytes_eq-Decides text x).0 y));
  }
  | inr k ↦
      let rest = stands_at text (i + 1) n ts (sym (ap (λ b. cond b (Some i) (position_from (bytes_eq text) (i + 1) ts)) k) ∙ e) in
      record { behind = suc rest.behind; is = omega (arith, rest.is); there = rest.there }
]

-- a text that is there is found
record HasPlace (text : List ℕ) (start : ℕ) (texts : List (List ℕ)) : Type 0 where
  place : ℕ
  is : position_from (bytes_eq text) start texts ≡ Some place

has_place : (text : List ℕ) (i m : ℕ) (ts : List (List ℕ)) → slice_get ts m ≡ Some text → HasPlace text i ts
has_place text i m [] e = none_some text e
has_place text i zero (x ∷ ts) e = record {
  place = i;
  is = ap (λ b. cond b (Some i) (position_from (bytes_eq text) (i + 1) ts)) ((bytes_eq-Decides text x).1 (sym (some_is x text e)));
}
has_place text i (suc m) (x ∷ ts) e = elim (cases_Bool (bytes_eq text x)) [
  | inl y ↦ record { place = i; is = ap (λ b. cond b (Some i) (position_from (bytes_eq text) (i + 1) ts)) y }
  | inr k ↦
      let rest = has_place text (i + 1) m ts e in
      record { place = rest.place; is = ap (λ b. cond b (Some i) (position_from (bytes_eq text) (i + 1) ts)) k ∙ rest.is }
]

-- the text that has a number
pub numbered : (ts : List (List ℕ)) (text : List ℕ) (n : ℕ) → number_in ts text ≡ Some n → slice_get ts n ≡ Some text
numbered ts text n e =
    let s = stands_at text 0 n ts e in
    let same : n ≡ s.behind = omega (arith, s.is) in
    ap (slice_get ts) same ∙ s.there

-- no two texts have one number
pub one_text : (ts : List (List ℕ)) (a b : List ℕ) (n : ℕ) → number_in ts a ≡ Some n → number_in ts b ≡ Some n → a ≡ b
one_text ts a b n e f = some_is a b (sym (numbered ts a n e) ∙ numbered ts b n f)

-- where each text is there once, a place is the number of its text
pub has_number : (ts : List (List ℕ)) (text : List ℕ) (n : ℕ) → AreDistinct ts → slice_get ts n ≡ Some text → number_in ts text ≡ Some n
has_number ts text n d e =
    let p = has_place text 0 n ts e in
    p.is ∙ ap (λ m. Some m) (d text p.place n (numbered ts text p.place p.is) e)

stays_from : (text : List ℕ) (i n : ℕ) (ts us : List (List ℕ)) → position_from (bytes_eq text) i ts ≡ Some n → position_from (bytes_eq text) i (ts ++ us) ≡ Some n
stays_from text i n [] us e = none_some n e
stays_from text i n (x ∷ ts) us e = elim (cases_Bool (bytes_eq text x)) [
  | inl y ↦
      ap (λ b. cond b (Some i) (position_from (bytes_eq text) (i + 1) (ts ++ us))) y
      ∙ (sym (ap (λ b. cond b (Some i) (position_from (bytes_eq text) (i + 1) ts)) y) ∙ e)
  | inr k ↦
      ap (λ b. cond b (Some i) (position_from (bytes_eq text) (i + 1) (ts ++ us))) k
      ∙ stays_from text (i + 1) n ts us (sym (ap (λ b. cond b (Some i) (position_from (bytes_eq text) (i + 1) ts)) k) ∙ e)
]

-- a text keeps its number where more are added behind
pub number_stays : (ts us : List (List ℕ)) (text : List ℕ) (n : ℕ) → number_in ts text ≡ Some n → number_in (ts ++ us) text ≡ Some n
number_stays ts us text n e = stays_from text 0 n ts us e

-- a text that is not there may be added
pub distinct_more : (ts : List (List ℕ)) (t : List ℕ) → list_any (bytes_eq t) ts ≡ false → AreDistinct ts → AreDistinct (ts ++ t ∷ [])
distinct_more ts t a d = λ u i j e f. elim (old_or_last ts t i u e) [
  | inl p ↦ elim (old_or_last ts t j u f) [
    | inl q ↦ d u i j p q
    | inr q ↦ let g = sym (absent ts t u i a p) ∙ (bytes_eq-Decides u t).1 q.1 in absurd cc
  ]
  | inr p ↦ elim (old_or_last ts t j u f) [
    | inl q ↦ let g = sym (absent ts t u j a q) ∙ (bytes_eq-Decides u t).1 p.1 in absurd cc
    | inr q ↦ p.0 ∙ sym q.0
  ]
]

-- what is added behind has the next number
pub number_added : (old new : List (List ℕ)) (t : List ℕ) (n : ℕ) → list_any (bytes_eq t) old ≡ false → AreDistinct old → new ≡ old ++ t ∷ [] → n ≡ length old → number_in new t ≡ Some n
number_added old new t n a d added is =
    subst (λ ts. number_in ts t ≡ Some n) (sym added)
    (has_number (old ++ t ∷ []) t (length old) (distinct_more old t a d) (last_there old t) ∙ ap (λ m. Some m) (sym is))

-- a text that was to be added is there once, or is not there
pub distinct_after : {E : Type 0} (old new : List (List ℕ)) (t : List ℕ) (r : Result ⊤ E) → list_any (bytes_eq t) old ≡ false → AreDistinct old → OnOk r (new ≡ old ++ t ∷ []) → OnErr r (new ≡ old) → AreDistinct new
distinct_after old new t (Ok u) a d added kept = subst AreDistinct (sym added) (distinct_more old t a d)
distinct_after old new t (Err e) a d added kept = subst AreDistinct (sym kept) d
