-- Names that meet others.
use Rattle.std.proofs.Common.{◌≡◌, ◌⊎◌, ℕ, zero, suc, ◌+◌, Bool, true, cond, if◌then◌else◌, List, [], ◌∷◌, ◌++◌, map, inl, inr, Option, Some, None, refl, sym, ap, subst, ◌∙◌, arith}
use Rattle.std.specs.BTreeMap.{get}
use Rattle.std.specs.List.{filter_map, position_from}
use Rattle.std.specs.Option.{option_and_then, option_map}
use Rattle.std.specs.Ordering.{nat_cmp}
use Rattle.std.specs.Prelude.{slice_get}
use Rattle.std.specs.Str.{bytes_eq}
use Rattle.std.proofs.lemmas.Bool.{cases_Bool}
use Rattle.std.proofs.lemmas.Option.{slice_get-map}
use Rattle.cm_wit_conforms.specs.Hits.{is_place, repeats_from}
use Rattle.cm_wit_conforms.specs.Known.{AreKnown, AreMet, StandsIn, found_at}
use Rattle.cm_wit_conforms.specs.Places.{place_in}
use Rattle.cm_wit_conforms.specs.declared.known.KnownItems.{KnownItems}
use Rattle.cm_wit_conforms.specs.declared.known.Meeting.{Meeting}
use Rattle.cm_lemmas.proofs.Bools.{bools}
use Rattle.cm_lemmas.proofs.Numbers.{eq_true, eq_of}
use Rattle.cm_lemmas.proofs.Lists.{same_text, text_same}

-- ---- the first that passes a test

-- it stands there, and passes the test
seen : {X : Type 0} (test : X → Bool) (i p : ℕ) (xs : List X) → position_from test i xs ≡ Some p → (j : ℕ) × (i + j ≡ p) × ((x : X) × (slice_get xs j ≡ Some x) × (test x ≡ true))
seen test i p [] e = absurd cc
seen {X} test i p (x ∷ xs) e = elim (cases_Bool (test x)) [
  | inl t ↦
      let at : Some i ≡ Some p = sym (ap (λ (b : Bool). cond b (Some i) (position_from test (i + 1) xs)) t) ∙ e in
      let is : i ≡ p = cc in
      (0, omega (arith, is), (x, refl, t))
  | inr f ↦
      let r = seen test (i + 1) p xs (sym (ap (λ (b : Bool). cond b (Some i) (position_from test (i + 1) xs)) f) ∙ e) in
      (suc r.0, omega (arith, r.1), r.2)
]

-- where one passes the test, a first is found
found_some : {X : Type 0} (test : X → Bool) (i k : ℕ) (x : X) (xs : List X) → slice_get xs k ≡ Some x → test x ≡ true → (p : ℕ) × (position_from test i xs ≡ Some p)
found_some test i k x [] e t = absurd cc
found_some test i zero x (y ∷ xs) e t =
    let same : y ≡ x = cc in
    (i, ap (λ (b : Bool). cond b (Some i) (position_from test (i + 1) xs)) (ap test same ∙ t))
found_some test i (suc k) x (y ∷ xs) e t = elim (cases_Bool (test y)) [
  | inl h ↦ (i, ap (λ (b : Bool). cond b (Some i) (position_from test (i + 1) xs)) h)
  | inr h ↦
      let r = found_some test (i + 1) k x xs e t in
      (r.0, ap (λ (b : Bool). cond b (Some i) (position_from test (i + 1) xs)) h ∙ r.1)
]

-- ---- texts that are found at one place

place_is : (c : ℕ) (o : Option ℕ) → is_place c o ≡ true → o ≡ Some c
place_is c None e = absurd cc
place_is c (Some n) e = ap (λ (x : ℕ). let y : Option ℕ = Some x in y) (sym (eq_of c n e))

one_at : {X : Type 0} (xs : List X) (i j : ℕ) (x y : X) → i ≡ j → slice_get xs i ≡ Some x → slice_get xs j ≡ Some y → x ≡ y
one_at xs i j x y e f g = cc

same_place : (texts : List (List ℕ)) (t o : List ℕ) (c : ℕ) → place_in texts t ≡ Some c → is_place c (place_in texts o) ≡ bytes_eq t o
same_place texts t o c e = bools (is_place c (place_in texts o)) (bytes_eq t o)
    (λ h.
    let a = seen (bytes_eq t) 0 c texts e in
    let b = seen (bytes_eq o) 0 c texts (place_is c (place_in texts o) h) in
    let x = a.2 in
    let y = b.2 in
    let same : x.0 ≡ y.0 = one_at texts a.0 b.0 x.0 y.0 (omega (arith, a.1, b.1)) x.1 y.1 in
    text_same t o (same_text t x.0 x.2 ∙ same ∙ sym (same_text o y.0 y.2)))
    (λ h.
    ap (is_place c) (ap (place_in texts) (sym (same_text t o h)) ∙ e) ∙ eq_true c c refl)

met : (texts : List (List ℕ)) (t : List ℕ) (c : ℕ) → place_in texts t ≡ Some c → (i : ℕ) (others : List (List ℕ)) → position_from (is_place c) i (map (place_in texts) others) ≡ position_from (bytes_eq t) i others
met texts t c e i [] = refl
met texts t c e i (o ∷ others) =
    ap (λ (b : Bool). cond b (Some i) (position_from (is_place c) (i + 1) (map (place_in texts) others))) (same_place texts t o c e)
    ∙ ap (λ (r : Option ℕ). cond (bytes_eq t o) (Some i) r) (met texts t c e (i + 1) others)

-- ---- places that are listed

stands_left : (p n : ℕ) (xs ys : List ℕ) → slice_get xs n ≡ Some p → slice_get (xs ++ ys) n ≡ Some p
stands_left p n [] ys e = absurd cc
stands_left p zero (x ∷ xs) ys e = e
stands_left p (suc n) (x ∷ xs) ys e = stands_left p n xs ys e

stands_right : (p : ℕ) (xs ys : List ℕ) → StandsIn p ys → StandsIn p (xs ++ ys)
stands_right p [] ys s = s
stands_right p (x ∷ xs) ys s = let r = stands_right p xs ys s in (suc r.0, r.1)

listed_some : (j n : ℕ) (fs : List (Option ℕ)) → slice_get fs j ≡ Some (Some n) → StandsIn n (filter_map (λ f. f) fs)
listed_some j n [] e = absurd cc
listed_some zero n (None ∷ fs) e = absurd cc
listed_some zero n (Some x ∷ fs) e = (0, cc)
listed_some (suc j) n (None ∷ fs) e = listed_some j n fs e
listed_some (suc j) n (Some x ∷ fs) e = let r = listed_some j n fs e in (suc r.0, r.1)

-- a place that is found first is listed
listed_first : (c place n : ℕ) (found : List (Option ℕ)) (others : List ℕ) → c ≡ place → position_from (is_place c) 0 found ≡ Some n → StandsIn place (filter_map (λ f. f) found ++ others)
listed_first c place n found others same e =
    let s = seen (is_place c) 0 n found e in
    let x = s.2 in
    let at : slice_get found s.0 ≡ Some (Some place) = x.1 ∙ ap (λ (y : Option ℕ). let z : Option (Option ℕ) = Some y in z) (place_is c x.0 x.2 ∙ ap (λ (y : ℕ). let z : Option ℕ = Some y in z) same) in
    let r = listed_some s.0 place found at in
    (r.0, stands_left place r.0 (filter_map (λ f. f) found) others r.1)

-- a place at which another was found repeats
repeated : (i k n p : ℕ) (fs : List (Option ℕ)) → i + k ≡ p → slice_get fs k ≡ Some (Some n) → (n ≡ p) ⊎ StandsIn p (repeats_from i fs)
repeated i k n p [] at e = absurd cc
repeated i zero n p (f ∷ fs) at e = elim (cases_Bool (is_place i f)) [
  | inl t ↦
      let is : f ≡ Some i = place_is i f t in
      let same : n ≡ i = cc in
      inl (omega (arith, same, at))
  | inr h ↦
      let is : i ≡ p = omega (arith, at) in
      inr (0, ap (λ (b : Bool). slice_get (if b then repeats_from (i + 1) fs else i ∷ repeats_from (i + 1) fs) 0) h ∙ ap (λ (x : ℕ). let y : Option ℕ = Some x in y) is)
]
repeated i (suc k) n p (f ∷ fs) at e = elim (repeated (i + 1) k n p fs (omega (arith, at)) e) [
  | inl same ↦ inl same
  | inr s ↦ elim (cases_Bool (is_place i f)) [
    | inl t ↦ inr (s.0, ap (λ (b : Bool). slice_get (if b then repeats_from (i + 1) fs else i ∷ repeats_from (i + 1) fs) s.0) t ∙ s.1)
    | inr h ↦ inr (suc s.0, ap (λ (b : Bool). slice_get (if b then repeats_from (i + 1) fs else i ∷ repeats_from (i + 1) fs) (suc s.0)) h ∙ s.1)
  ]
]

-- ---- a meeting

found_there : (m : Meeting) (place n : ℕ) (o : Option (Option ℕ)) → slice_get m.firsts.now place ≡ o → found_at m place ≡ Some n → (c : ℕ) × (slice_get m.firsts.now place ≡ Some (Some c)) × (get nat_cmp m.hits c ≡ Some n)
found_there m place n None e f = absurd cc
found_there m place n (Some None) e f = absurd cc
found_there m place n (Some (Some c)) e f =
    (c, e, sym (ap (λ (x : Option (Option ℕ)). option_and_then (get nat_cmp m.hits) (option_and_then (λ y. y) x)) e) ∙ f)

pub met_by : (texts others : List (List ℕ)) (k : KnownItems) (m : Meeting) (found : List (Option ℕ)) → AreKnown texts k → m.firsts.now ≡ k.firsts.items → found ≡ map (place_in texts) others → ((p : ℕ) → get nat_cmp m.hits p ≡ position_from (is_place p) 0 found) → m.places.items ≡ filter_map (λ f. f) found ++ k.repeats.items → AreMet texts others m
met_by texts others k m found known firsts is hits places = record { found = λ place. by place (slice_get texts place) refl; among = among }
  where
    view : Option (Option ℕ) → Option ℕ
    view x = option_and_then (get nat_cmp m.hits) (option_and_then (λ y. y) x)

    first_at : (place : ℕ) → slice_get m.firsts.now place ≡ option_map (place_in texts) (slice_get texts place)
    first_at place = ap (λ (fs : List (Option ℕ)). slice_get fs place) (firsts ∙ known.firsts) ∙ slice_get-map (place_in texts) texts place

    there : (place : ℕ) (t : List ℕ) (c : ℕ) → slice_get texts place ≡ Some t → place_in texts t ≡ Some c → found_at m place ≡ option_and_then (place_in others) (slice_get texts place)
    there place t c e f =
        ap view (first_at place ∙ ap (option_map (place_in texts)) e)
        ∙ (ap (option_and_then (get nat_cmp m.hits)) f
        ∙ (hits c
        ∙ (ap (λ (fs : List (Option ℕ)). position_from (is_place c) 0 fs) is
        ∙ (met texts t c f 0 others ∙ sym (ap (option_and_then (place_in others)) e)))))

    by : (place : ℕ) (o : Option (List ℕ)) → slice_get texts place ≡ o → found_at m place ≡ option_and_then (place_in others) (slice_get texts place)
    by place None e =
        ap view (first_at place ∙ ap (option_map (place_in texts)) e)
        ∙ sym (ap (option_and_then (place_in others)) e)
    by place (Some t) e =
        let c = found_some (bytes_eq t) 0 place t texts e (text_same t t refl) in
        there place t c.0 e c.1

    among : (place n : ℕ) → found_at m place ≡ Some n → StandsIn place m.places.items
    among place n e =
        let c = found_there m place n (slice_get m.firsts.now place) refl e in
        let first : slice_get k.firsts.items place ≡ Some (Some c.0) = sym (ap (λ (fs : List (Option ℕ)). slice_get fs place) firsts) ∙ c.1 in
        subst (StandsIn place) (sym places)
        (elim (repeated 0 place c.0 place k.firsts.items (omega arith) first) [
          | inl same ↦ listed_first c.0 place n found k.repeats.items same (sym (hits c.0) ∙ c.2)
          | inr s ↦ stands_right place (filter_map (λ f. f) found) k.repeats.items (subst (StandsIn place) (sym known.repeats) s)
        ])
