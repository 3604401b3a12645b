-- Fronts have one number exactly where they are equal.
use Rattle.std.proofs.Common.{◌≡◌, ℕ, zero, suc, ◌+◌, ◌<◌, ◌==◌, Bool, true, cond, List, [], ◌∷◌, length, map, get_or, inl, inr, Option, Some, None, refl, sym, ap, ◌∙◌, arith}
use Rattle.std.specs.List.{position_from}
use Rattle.std.specs.Option.{option_and_then, unwrap_or}
use Rattle.std.specs.Str.{bytes_eq}
use Rattle.std.proofs.lemmas.Bool.{cases_Bool, and_from}
use Rattle.cm_names.specs.Keys.{Key, first_key, is_key}
use Rattle.cm_wit_conforms.specs.Parts.{FrontKey}
use Rattle.cm_wit_conforms.specs.Numbers.{first_number, first_of, number_in, second_number, second_of, version_of}
use Rattle.cm_lemmas.proofs.Bools.{both_left, both_right}
use Rattle.cm_lemmas.proofs.Numbers.{eq_true, eq_of}
use Rattle.cm_lemmas.proofs.Lists.{same_text, text_same}
use Rattle.cm_lemmas.proofs.Options.{some_turned}

pair_is : (a : ℕ) (x : List ℕ) (k : Key) → is_key a x k ≡ true → k ≡ (a, x)
pair_is a x k h =
    let n : a ≡ k.0 = eq_of a k.0 (both_left (a == k.0) (bytes_eq x k.1) h) in
    let t : x ≡ k.1 = same_text x k.1 (both_right (a == k.0) (bytes_eq x k.1) h) in
    ap (λ (m : ℕ). let p : Key = (m, k.1) in p) (sym n) ∙ ap (λ (y : List ℕ). let p : Key = (a, y) in p) (sym t)

own_key : (k : Key) → is_key k.0 k.1 k ≡ true
own_key k = and_from (k.0 == k.0) (bytes_eq k.1 k.1) (eq_true k.0 k.0 refl) (text_same k.1 k.1 refl)

module _ {X : Type 0} (key : X → Key) where
  -- the key of each is found
  pub found_some : (xs : List X) (i k : ℕ) (d : X) → k < length xs → (p : ℕ) × (position_from (is_key (key (get_or xs k d)).0 (key (get_or xs k d)).1) i (map key xs) ≡ Some p)
  found_some [] i k d lt = absurd (omega (arith, lt))
  found_some (x ∷ xs) i zero d lt = (i, ap (λ (b : Bool). cond b (Some i) (position_from (is_key (key x).0 (key x).1) (i + 1) (map key xs))) (own_key (key x)))
  found_some (x ∷ xs) i (suc k) d lt =
      let y = key (get_or xs k d) in
      let later = found_some xs (i + 1) k d (omega (arith, lt)) in
      elim (cases_Bool (is_key y.0 y.1 (key x))) [
        | inl h ↦ (i, ap (λ (b : Bool). cond b (Some i) (position_from (is_key y.0 y.1) (i + 1) (map key xs))) h)
        | inr h ↦ (later.0, ap (λ (b : Bool). cond b (Some i) (position_from (is_key y.0 y.1) (i + 1) (map key xs))) h ∙ later.1)
      ]

  abbrev At : List X → ℕ → ℕ → Key → Type 0
  At xs i p y = (k : ℕ) × (p ≡ i + k) × (k < length xs) × ((d : X) → key (get_or xs k d) ≡ y)

  -- what is found has the key
  pub found_is : (xs : List X) (i p a : ℕ) (x : List ℕ) → position_from (is_key a x) i (map key xs) ≡ Some p → At xs i p (a, x)
  found_is [] i p a x e = absurd cc
  found_is (z ∷ xs) i p a x e = elim (cases_Bool (is_key a x (key z))) [
    | inl h ↦
        let here : p ≡ i = some_turned i p (sym (ap (λ (b : Bool). cond b (Some i) (position_from (is_key a x) (i + 1) (map key xs))) h) ∙ e) in
        (zero, omega (arith, here), omega arith, λ d. pair_is a x (key z) h)
    | inr h ↦
        let f : At xs (i + 1) p (a, x) = found_is xs (i + 1) p a x (sym (ap (λ (b : Bool). cond b (Some i) (position_from (is_key a x) (i + 1) (map key xs))) h) ∙ e) in
        (suc f.0, omega (arith, f.1), omega (arith, f.2), f.3)
  ]

  -- what is found at one place is one key
  pub one_key : (xs : List X) (p a b : ℕ) (x y : List ℕ) → position_from (is_key a x) 0 (map key xs) ≡ Some p → position_from (is_key b y) 0 (map key xs) ≡ Some p → (a ≡ b) × (x ≡ y)
  one_key [] p a b x y e f = absurd cc
  one_key (z ∷ zs) p a b x y e f =
      let m = found_is (z ∷ zs) 0 p a x e in
      let n = found_is (z ∷ zs) 0 p b y f in
      let same : m.0 ≡ n.0 = omega (arith, m.1, n.1) in
      let k : (a, x) ≡ (b, y) = sym (m.3 z) ∙ (ap (λ (i : ℕ). key (get_or (z ∷ zs) i z)) same ∙ n.3 z) in
      (ap (λ (q : Key). q.0) k, ap (λ (q : Key). q.1) k)

and_then_some : {A B : Type 0} (h : A → Option B) (o : Option A) (n : B) → option_and_then h o ≡ Some n → (a : A) × (o ≡ Some a) × (h a ≡ Some n)
and_then_some h None n e = absurd cc
and_then_some h (Some a) n e = (a, refl, e)

same_front : (f g : FrontKey) → f.form ≡ g.form → f.first ≡ g.first → f.second ≡ g.second → f.version ≡ g.version → f ≡ g
same_front f g a b c d =
    ap (λ (x : ℕ). let r : FrontKey = record { form = x; first = f.first; second = f.second; version = f.version } in r) a
    ∙ (ap (λ (x : List ℕ). let r : FrontKey = record { form = g.form; first = x; second = f.second; version = f.version } in r) b
    ∙ (ap (λ (x : List ℕ). let r : FrontKey = record { form = g.form; first = g.first; second = x; version = f.version } in r) c
    ∙ ap (λ (x : List ℕ). let r : FrontKey = record { form = g.form; first = g.first; second = g.second; version = x } in r) d))

module _ {X : Type 0} (view : X → FrontKey) (xs : List X) (firsts seconds versions : List Key)
    (e1 : firsts ≡ map (λ x. first_of (view x)) xs)
    (e2 : seconds ≡ map (λ x. second_of firsts (view x)) xs)
    (e3 : versions ≡ map (λ x. version_of firsts seconds (view x)) xs) where
  abbrev number : FrontKey → Option ℕ
  number f = number_in firsts seconds versions f

  in_firsts : (n p : ℕ) (t : List ℕ) → first_key firsts n t ≡ Some p → position_from (is_key n t) 0 (map (λ x. first_of (view x)) xs) ≡ Some p
  in_firsts n p t h = ap (λ (l : List Key). first_key l n t) (sym e1) ∙ h

  in_seconds : (n p : ℕ) (t : List ℕ) → first_key seconds n t ≡ Some p → position_from (is_key n t) 0 (map (λ x. second_of firsts (view x)) xs) ≡ Some p
  in_seconds n p t h = ap (λ (l : List Key). first_key l n t) (sym e2) ∙ h

  in_versions : (n p : ℕ) (t : List ℕ) → first_key versions n t ≡ Some p → position_from (is_key n t) 0 (map (λ x. version_of firsts seconds (view x)) xs) ≡ Some p
  in_versions n p t h = ap (λ (l : List Key). first_key l n t) (sym e3) ∙ h

  -- fronts of one number are equal
  pub one_front : (f g : FrontKey) (n : ℕ) → number f ≡ Some n → number g ≡ Some n → f ≡ g
  one_front f g n hf hg =
      let vf = and_then_some (λ b. first_key versions b f.version) (second_number firsts seconds f) n hf in
      let vg = and_then_some (λ b. first_key versions b g.version) (second_number firsts seconds g) n hg in
      let v = one_key (λ x. version_of firsts seconds (view x)) xs n vf.0 vg.0 f.version g.version (in_versions vf.0 n f.version vf.2) (in_versions vg.0 n g.version vg.2) in
      let sf = and_then_some (λ a. first_key seconds a f.second) (first_number firsts f) vf.0 vf.1 in
      let sg = and_then_some (λ a. first_key seconds a g.second) (first_number firsts g) vg.0 vg.1 in
      let s = one_key (λ x. second_of firsts (view x)) xs vf.0 sf.0 sg.0 f.second g.second (in_seconds sf.0 vf.0 f.second sf.2) (in_seconds sg.0 vf.0 g.second (sg.2 ∙ ap (λ (b : ℕ). let o : Option ℕ = Some b in o) (sym v.0))) in
      let r = one_key (λ x. first_of (view x)) xs sf.0 f.form g.form f.first g.first (in_firsts f.form sf.0 f.first sf.1) (in_firsts g.form sf.0 g.first (sg.1 ∙ ap (λ (a : ℕ). let o : Option ℕ = Some a in o) (sym s.0))) in
      same_front f g r.0 r.1 s.1 v.1

  -- each of the fronts has a number
  pub has_number : (k : ℕ) (d : X) → k < length xs → (n : ℕ) × (number (view (get_or xs k d)) ≡ Some n)
  has_number k d lt =
      let f = view (get_or xs k d) in
      let a = found_some (λ x. first_of (view x)) xs 0 k d lt in
      let first : first_number firsts f ≡ Some a.0 = ap (λ (l : List Key). first_key l f.form f.first) e1 ∙ a.1 in
      let b = found_some (λ x. second_of firsts (view x)) xs 0 k d lt in
      let second : second_number firsts seconds f ≡ Some b.0 =
      ap (option_and_then (λ n. first_key seconds n f.second)) first
      ∙ (ap (λ (n : ℕ). first_key seconds n f.second) (sym (ap (λ (o : Option ℕ). unwrap_or o 0) first))
      ∙ (ap (λ (l : List Key). first_key l (unwrap_or (first_number firsts f) 0) f.second) e2 ∙ b.1)) in
      let c = found_some (λ x. version_of firsts seconds (view x)) xs 0 k d lt in (
        c.0,
        ap (option_and_then (λ n. first_key versions n f.version)) second
            ∙ (ap (λ (n : ℕ). first_key versions n f.version) (sym (ap (λ (o : Option ℕ). unwrap_or o 0) second))
            ∙ (ap (λ (l : List Key). first_key l (unwrap_or (second_number firsts seconds f) 0) f.version) e3 ∙ c.1)),
      )
