-- What is kept of a row after one more export.
use Rattle.std.proofs.Common.{◌≡◌, ◌∙◌, ℕ, true, false, Option, Some, None, refl, sym, ap, inl, inr}
use Rattle.std.proofs.lemmas.Bool.{cases_Bool}
use Rattle.std.specs.Prelude.{not}
use Rattle.semver.specs.Identifiers.{parts_of}
use Rattle.semver.specs.Parse.{Parts}
use Rattle.semver.specs.declared.Version.{Version}
use Rattle.cm_match_model.specs.declared.candidates.Candidate.{Candidate}
use Rattle.cm_match_model.specs.declared.candidates.Candidate.TheVariants as candidate
use Rattle.cm_match_serving.specs.declared.greatest.Greatest.{Greatest}
use Rattle.cm_match_serving.specs.Greatest.{from_greatest, has_from, if_not_below}
use Rattle.cm_match_model.specs.Fitting.{and_also}
use Rattle.cm_match_serving.specs.Readings.{is_below}
use Rattle.cm_match_serving.proofs.VersionOrders.{below_later, below_trans, not_below}

abbrev pub kept : Version → ℕ → ℕ → Option Version → Greatest
kept version component export next = record { version = version; component = component; export = export; next = next }

pub and_none : (c : Candidate) → and_also c candidate.None ≡ c
and_none candidate.None = refl
and_none (candidate.One a b) = refl
and_none candidate.Several = refl

-- a version in front of the greatest
pub added_first : (g v : Version) (n : Option Version) (a b x y : ℕ) (w : Parts) → is_below (parts_of g) (parts_of v) ≡ true
    → from_greatest (kept v x y (Some g)) w ≡ and_also (from_greatest (kept g a b n) w) (if_not_below (is_below (parts_of v) w) (candidate.One x y))
added_first g v n a b x y w p = elim (cases_Bool (is_below (parts_of v) w)) [
  | inl t ↦ rw (t, below_trans (parts_of g) (parts_of v) w p t) refl
  | inr f ↦ elim (cases_Bool (is_below (parts_of g) w)) [
    | inl t ↦ rw (f, t) refl
    | inr e ↦ elim (cases_Bool (has_from w n)) [
      | inl h ↦ rw (f, e, h) refl
      | inr h ↦ rw (f, e, h) refl
    ]
  ]
]

-- no next version that is not before v: none that is not before what v is before
none_next : (v : Version) (n : Option Version) (w : Parts) → has_from (parts_of v) n ≡ false → is_below (parts_of v) w ≡ true → has_from w n ≡ false
none_next v None w h t = refl
none_next v (Some m) w h t = elim (cases_Bool (is_below (parts_of m) (parts_of v))) [
  | inl y ↦ ap not (below_trans (parts_of m) (parts_of v) w y t)
  | inr e ↦ absurd (cc (sym h ∙ ap not e))
]

-- a version behind the greatest
pub added_next : (g v : Version) (n : Option Version) (a b x y : ℕ) (w : Parts) → is_below (parts_of g) (parts_of v) ≡ false → has_from (parts_of v) n ≡ false
    → from_greatest (kept g a b (Some v)) w ≡ and_also (from_greatest (kept g a b n) w) (if_not_below (is_below (parts_of v) w) (candidate.One x y))
added_next g v n a b x y w p h = elim (cases_Bool (is_below (parts_of g) w)) [
  | inl t ↦ rw (t, below_later (parts_of g) (parts_of v) w p t) refl
  | inr f ↦ elim (cases_Bool (is_below (parts_of v) w)) [
    | inl t ↦ rw (f, t, none_next v n w h t) refl
    | inr e ↦ elim (cases_Bool (has_from w n)) [
      | inl k ↦ rw (f, e, k) refl
      | inr k ↦ rw (f, e, k) refl
    ]
  ]
]

some_next : (v : Version) (n : Option Version) (w : Parts) → has_from (parts_of v) n ≡ true → is_below (parts_of v) w ≡ false → has_from w n ≡ true
some_next v None w h f = cc h
some_next v (Some m) w h f = elim (cases_Bool (is_below (parts_of m) (parts_of v))) [
  | inl y ↦ absurd (cc (sym h ∙ ap not y))
  | inr e ↦ ap not (not_below (parts_of m) (parts_of v) w e f)
]

-- a version behind the next
pub added_later : (g v : Version) (n : Option Version) (a b x y : ℕ) (w : Parts) → is_below (parts_of g) (parts_of v) ≡ false → has_from (parts_of v) n ≡ true
    → from_greatest (kept g a b n) w ≡ and_also (from_greatest (kept g a b n) w) (if_not_below (is_below (parts_of v) w) (candidate.One x y))
added_later g v n a b x y w p h = elim (cases_Bool (is_below (parts_of v) w)) [
  | inl t ↦ rw t (sym (and_none (from_greatest (kept g a b n) w)))
  | inr f ↦ rw (not_below (parts_of g) (parts_of v) w p f, some_next v n w h f, f) refl
]
