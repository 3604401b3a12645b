-- What marks find, and what they find after a change.
use Rattle.std.proofs.Common.{◌≡◌, ◌≢◌, ◌<◌, ◌≤◌, ◌+◌, ℕ, zero, suc, Bool, true, false, List, length, get_or, ◌-◌, set, Option, Some, None, is_some, IfSome, subst, refl, sym, ap, ◌∙◌, inl, inr, arith, if◌then◌else◌}
use Rattle.std.proofs.lemmas.Bool.{cases_Bool, cases_eq, cases_lt}
use Rattle.std.proofs.lemmas.List.{get_or_past, get_or-set_same, get_or-set_other, length-set}
use Rattle.cm_names.specs.Finding.{IsFound, IsFoundOf, KeepsFound, KeepsFoundOf, found, found_at, found_from, is_text, marked, window}
use Rattle.cm_names.specs.Hash.{home_of}
use Rattle.cm_names.specs.Places.{IsRoom}

-- ---- how many places are looked at

pub window_is : window ≡ 16
unfolding window
window_is = refl

pub found_by : (ms : List ℕ) (ts : List (List ℕ)) (t : List ℕ) → found ms ts t ≡ found_from ms ts t (home_of t (length ms)) window
unfolding found
found_by ms ts t = refl

-- ---- marks that are there stay what they find

abbrev Stay : List ℕ → List ℕ → Type 0
Stay ms ns = (i m : ℕ) → marked (get_or ms i 0) ≡ Some m → marked (get_or ns i 0) ≡ Some m

module _ (ms ns : List ℕ) (ts us : List (List ℕ)) (u : List ℕ) (stay : Stay ms ns) (more : (m : ℕ) → is_text ts u m ≡ true → is_text us u m ≡ true) where
  by_text : (m : ℕ) (r s : Option ℕ) (b : Bool) → is_text ts u m ≡ b → (is_some r ≡ true → is_some s ≡ true) → is_some (if b then Some m else r) ≡ true → is_some (if is_text us u m then Some m else s) ≡ true
  by_text m r s true e rest h = rw (more m e) refl
  by_text m r s false e rest h = elim (cases_Bool (is_text us u m)) [ inl y ↦ rw y refl | inr n ↦ rw n (rest h) ]

  by_mark : (i : ℕ) (r s : Option ℕ) (o : Option ℕ) → marked (get_or ms i 0) ≡ o → (is_some r ≡ true → is_some s ≡ true) → is_some (found_at ts u o r) ≡ true → is_some (found_at us u (marked (get_or ns i 0)) s) ≡ true
  by_mark i r s None e rest h = absurd cc
  by_mark i r s (Some m) e rest h = rw (stay i m e) (by_text m r s (is_text ts u m) refl rest h)

  pub kept_from : (i c : ℕ) → is_some (found_from ms ts u i c) ≡ true → is_some (found_from ns us u i c) ≡ true
  kept_from i zero h = absurd cc
  kept_from i (suc c) h = by_mark i (found_from ms ts u (i + 1) c) (found_from ns us u (i + 1) c) (marked (get_or ms i 0)) refl (kept_from (i + 1) c) h

-- ---- a text is found behind marks, where a place of its window is marked with it

marked_some : (x : ℕ) → x ≢ 0 → (m : ℕ) × (marked x ≡ Some m)
marked_some zero h = absurd (h refl)
marked_some (suc m) h = (m, refl)

module _ (ns : List ℕ) (us : List (List ℕ)) (u : List ℕ) (n e : ℕ) (here : marked (get_or ns e 0) ≡ Some n) (is : is_text us u n ≡ true) where
  pub filled_from : (i c : ℕ) → i ≤ e → e < i + c → ((j : ℕ) → i ≤ j → j < e → get_or ns j 0 ≢ 0) → is_some (found_from ns us u i c) ≡ true
  filled_from i zero le lt between = absurd (omega arith)
  filled_from i (suc c) le lt between = elim (cases_eq i e) [
    | inl y ↦ rw (y, here, is) refl
    | inr d ↦
        let m = marked_some (get_or ns i 0) (between i (omega arith) (omega arith)) in
        rw m.1 (elim (cases_Bool (is_text us u m.0)) [
          | inl y ↦ rw y refl
          | inr o ↦ rw o (filled_from (i + 1) c (omega arith) (omega arith) (λ j a b. between j (omega arith) b))
        ])
  ]

-- ---- one more mark

stay_set : (ms : List ℕ) (e x : ℕ) → get_or ms e 0 ≡ 0 → Stay ms (set ms e x)
stay_set ms e x empty i m h = elim (cases_eq i e) [
  | inl y ↦ let k : marked (get_or ms e 0) ≡ Some m = ap (λ j. marked (get_or ms j 0)) (sym y) ∙ h in let n = rw empty at k in absurd cc
  | inr d ↦ ap marked (get_or-set_other ms e i x 0 d) ∙ h
]

kept_set : (ms : List ℕ) (e x : ℕ) → get_or ms e 0 ≡ 0 → KeepsFound ms (set ms e x)
kept_set ms e x empty = λ ts t h.
    ap is_some (found_by (set ms e x) ts t)
    ∙ ap (λ n. is_some (found_from (set ms e x) ts t (home_of t n) window)) (length-set ms e x)
    ∙ kept_from ms (set ms e x) ts ts t (stay_set ms e x empty) (λ m i. i) (home_of t (length ms)) window (ap is_some (sym (found_by ms ts t)) ∙ h)

-- a place with room, marked with a number
pub put_keeps : (ms ns : List ℕ) (home e n : ℕ) → IsRoom ms home e → ns ≡ set ms e (suc n) → KeepsFound ms ns
put_keeps ms ns home e n r is = λ ts t h. ap (λ xs. is_some (found xs ts t)) is ∙ kept_set ms e (suc n) r.empty ts t h

pub put_found : (ms ns : List ℕ) (text : List ℕ) (e n : ℕ) → IsRoom ms (home_of text (length ms)) e → ns ≡ set ms e (suc n) → IsFound ns text n
put_found ms ns text e n r is = λ ts t.
    let here : marked (get_or (set ms e (suc n)) e 0) ≡ Some n = ap marked (get_or-set_same ms e (suc n) 0 r.there) in
    ap (λ xs. is_some (found xs ts text)) is
    ∙ ap is_some (found_by (set ms e (suc n)) ts text)
    ∙ ap (λ m. is_some (found_from (set ms e (suc n)) ts text (home_of text m) window)) (length-set ms e (suc n))
    ∙ filled_from (set ms e (suc n)) ts text n e here t (home_of text (length ms)) window r.behind (omega (arith, window_is, r.near)) (λ j a b. other j a b)
  where
    other : (j : ℕ) → home_of text (length ms) ≤ j → j < e → get_or (set ms e (suc n)) j 0 ≢ 0
    other j a b z = r.first j a b (sym (get_or-set_other ms e j (suc n) 0 (omega arith)) ∙ z)

-- ---- one place more

pub found_step : (ms : List ℕ) (ts : List (List ℕ)) (t : List ℕ) (i e : ℕ) → i < e → found_from ms ts t i (e - i) ≡ found_at ts t (marked (get_or ms i 0)) (found_from ms ts t (i + 1) (e - (i + 1)))
found_step ms ts t i e lt = let c : e - i ≡ suc (e - (i + 1)) = omega arith in ap (found_from ms ts t i) c

-- ---- all places again

abbrev pub PlaceOf : List ℕ → List (List ℕ) → List ℕ → Type 0
PlaceOf ms ts t = (j : ℕ) × (m : ℕ) × (j < length ms) × (marked (get_or ms j 0) ≡ Some m) × (is_text ts t m ≡ true)

marked_within : (ms : List ℕ) (j m : ℕ) → marked (get_or ms j 0) ≡ Some m → j < length ms
marked_within ms j m h = elim (cases_lt j (length ms)) [
  | inl lt ↦ lt
  | inr le ↦ let n = rw (get_or_past ms j 0 le) at h in absurd cc
]

found_place : (ms : List ℕ) (ts : List (List ℕ)) (t : List ℕ) (i c : ℕ) → is_some (found_from ms ts t i c) ≡ true → PlaceOf ms ts t
found_place ms ts t i zero h = absurd cc
found_place ms ts t i (suc c) h = by_mark (marked (get_or ms i 0)) refl h (found_place ms ts t (i + 1) c)
  where
    by_text : (m : ℕ) → marked (get_or ms i 0) ≡ Some m → (b : Bool) → is_text ts t m ≡ b → is_some (if b then Some m else found_from ms ts t (i + 1) c) ≡ true → (is_some (found_from ms ts t (i + 1) c) ≡ true → PlaceOf ms ts t) → PlaceOf ms ts t
    by_text m e true f h rest = (i, m, marked_within ms i m e, e, f)
    by_text m e false f h rest = rest h

    by_mark : (o : Option ℕ) → marked (get_or ms i 0) ≡ o → is_some (found_at ts t o (found_from ms ts t (i + 1) c)) ≡ true → (is_some (found_from ms ts t (i + 1) c) ≡ true → PlaceOf ms ts t) → PlaceOf ms ts t
    by_mark None e h rest = absurd cc
    by_mark (Some m) e h rest = by_text m e (is_text ts t m) refl h rest

-- the texts of the marks below a place are found by other marks
abbrev pub AreFoundBelow : List ℕ → List (List ℕ) → List ℕ → ℕ → Type 0
AreFoundBelow ms ts ns place = (j m : ℕ) (t : List ℕ) → j < place → marked (get_or ms j 0) ≡ Some m → is_text ts t m ≡ true → is_some (found ns ts t) ≡ true

found_here : (ts : List (List ℕ)) (ns : List ℕ) (o : Option ℕ) (m : ℕ) → o ≡ Some m → IfSome o (IsFoundOf ts ns) → IsFoundOf ts ns m
found_here ts ns None m e h = absurd cc
found_here ts ns (Some n) m e h = let s : n ≡ m = cc in subst (IsFoundOf ts ns) s h

pub below_more : (ms : List ℕ) (ts : List (List ℕ)) (ns os : List ℕ) (place : ℕ) → AreFoundBelow ms ts ns place → KeepsFound ns os → IfSome (marked (get_or ms place 0)) (IsFoundOf ts os) → AreFoundBelow ms ts os (place + 1)
below_more ms ts ns os place b k new = λ j m t lt e is. elim (cases_eq j place) [
  | inl y ↦ found_here ts os (marked (get_or ms place 0)) m (ap (λ i. marked (get_or ms i 0)) (sym y) ∙ e) new t is
  | inr d ↦ k ts t (b j m t (omega arith) e is)
]

pub all_below : (ms : List ℕ) (ts : List (List ℕ)) (ns : List ℕ) (place : ℕ) → length ms ≤ place → AreFoundBelow ms ts ns place → KeepsFoundOf ts ms ns
all_below ms ts ns place le b = λ t h.
    let p = found_place ms ts t (home_of t (length ms)) window (ap is_some (sym (found_by ms ts t)) ∙ h) in
    b p.0 p.1 t (omega (arith, p.2)) p.3 p.4
