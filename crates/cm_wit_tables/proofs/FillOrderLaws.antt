-- Declarations in an order are ranked by their first places in it, and then none uses itself.
use Rattle.std.proofs.Common.{◌≡◌, ℕ, zero, suc, ◌+◌, ◌<◌, ◌≤◌, nat_eq, Bool, true, false, cond, List, [], ◌∷◌, length, take, get_or, Option, inl, inr, refl, sym, ap, subst, ◌∙◌, arith}
use Rattle.std.specs.List.{All, AllByRecursion, Contains, filter_map}
use Rattle.std.specs.Option.{option_map_or}
use Rattle.std.proofs.lemmas.Bool.{cases_lt}
use Rattle.std.proofs.lemmas.Bool.Decides.{nat_tests}
use Rattle.std.proofs.lemmas.List.{get_or-take, get_or_default, length-take}
use Rattle.std.proofs.lemmas.List.Elements.{All-from_recursion, recursion_from_All}
use Rattle.std.proofs.lemmas.Option.{slice_get_past}
use Rattle.cm_wit_graph.specs.Orders.{Needs, Walk, IsOrder, IsBehind}
use Rattle.cm_wit_tables.specs.Declarations.{Declaration, HasTypeCycle, IsRanked, refers, target, uses}
use Rattle.cm_lemmas.proofs.Numbers.{nat_eq_of}

-- ---- the first place of a number

abbrev pub first : ℕ → List ℕ → ℕ
first k [] = 0
first k (x ∷ xs) = cond (nat_eq k x) 0 (suc (first k xs))

eq_self : (k : ℕ) → nat_eq k k ≡ true
eq_self k = grind (arith, nat_tests)

later_least : (t : Bool) (m i : ℕ) → m ≤ i → cond t 0 (suc m) ≤ suc i
later_least true m i p = omega arith
later_least false m i p = omega (arith, p)

first_least : (k : ℕ) (xs : List ℕ) (i : ℕ) → i < length xs → get_or xs i 0 ≡ k → first k xs ≤ i
first_least k [] i lt e = absurd (omega (arith, lt))
first_least k (x ∷ xs) zero lt e =
    let here : nat_eq k x ≡ true = ap (nat_eq k) e ∙ eq_self k in
    subst (λ (t : Bool). cond t 0 (suc (first k xs)) ≤ 0) (sym here) (omega arith)
first_least k (x ∷ xs) (suc i) lt e = later_least (nat_eq k x) (first k xs) i (first_least k xs i (omega (arith, lt)) e)

-- a number stands at its first place
abbrev StandsAt : ℕ → List ℕ → ℕ → Type 0
StandsAt k xs i = (i < length xs) × (get_or xs i 0 ≡ k)

first_by : (k x : ℕ) (xs : List ℕ) (t : Bool) → nat_eq k x ≡ t → (nat_eq k x ≡ false → StandsAt k xs (first k xs)) → StandsAt k (x ∷ xs) (cond t 0 (suc (first k xs)))
first_by k x xs true f rest = (omega arith, sym (nat_eq_of k x f))
first_by k x xs false f rest = let p = rest f in let q = p.0 in (omega (arith, q), p.1)

not_self : (k x : ℕ) → x ≡ k → nat_eq k x ≡ false → ⊥
not_self k x e f = let same : nat_eq k x ≡ true = ap (nat_eq k) e ∙ eq_self k in cc

first_there : (k : ℕ) (xs : List ℕ) (i : ℕ) → i < length xs → get_or xs i 0 ≡ k → StandsAt k xs (first k xs)
first_there k [] i lt e = absurd (omega (arith, lt))
first_there k (x ∷ xs) zero lt e = first_by k x xs (nat_eq k x) refl (λ f. absurd (not_self k x e f))
first_there k (x ∷ xs) (suc i) lt e = first_by k x xs (nat_eq k x) refl (λ f. first_there k xs i (omega (arith, lt)) e)

contained : (xs : List ℕ) (k : ℕ) → Contains xs k → (i : ℕ) × (i < length xs) × (get_or xs i 0 ≡ k)
contained xs k (i, lt, e) = (i, lt, get_or_default xs i 0 k lt ∙ e)

-- ---- ranks

module _ (needs : Needs) (order : List ℕ) (behind : IsBehind needs order) where
  below : (i : ℕ) → i < length order → (j : ℕ) → Contains (take i order) j → first j order < i
  below i lt j h =
      let p = contained (take i order) j h in
      let n = length-take i order in
      let small : p.0 < i = let q = p.1 in omega (arith, q, n, lt) in
      let least = first_least j order p.0 (omega (arith, small, lt)) (sym (get_or-take i order p.0 0 small) ∙ p.2) in
      omega (arith, least, small)

  pub lower : (k : ℕ) → Contains order k → AllByRecursion (λ j. first j order < first k order) (needs k)
  lower k h =
      let q = contained order k h in
      let p = first_there k order q.0 q.1 q.2 in
      let all = subst (λ (n : ℕ). All (Contains (take (first k order) order)) (needs n)) p.1 (behind (first k order) p.0) in
      recursion_from_All (λ j. first j order < first k order) (needs k) (λ n d lt. below (first k order) p.0 (get_or (needs k) n d) (all n d lt))

pub ordered_ranks : (ds : List Declaration) (order : List ℕ) → IsOrder (length ds) (uses ds) order → (rank : ℕ → ℕ) × IsRanked ds rank
ordered_ranks ds order h = ((λ k. first k order), ranks)
  where
    ranks : (k : ℕ) → AllByRecursion (λ j. first j order < first k order) (uses ds k)
    ranks k = elim (cases_lt k (length ds)) [
      | inl less ↦ lower (uses ds) order h.behind k (h.whole k less)
      | inr le ↦ subst (λ (o : Option Declaration). AllByRecursion (λ j. first j order < first k order) (filter_map (target ds) (option_map_or refers o []))) (sym (slice_get_past ds k le)) tt
    ]

-- ---- none uses itself

module _ (ds : List Declaration) (rank : ℕ → ℕ) (ranked : IsRanked ds rank) where
  lower_one : (a c : ℕ) → Contains (uses ds a) c → rank c < rank a
  lower_one a c (p, lt, e) = subst (λ (j : ℕ). rank j < rank a) e (All-from_recursion (λ j. rank j < rank a) (uses ds a) (ranked a) p c lt)

  falls : (n a b : ℕ) → Walk (uses ds) a b n → rank b + n ≤ rank a
  falls zero a b w = let e = ap rank w in omega (arith, e)
  falls (suc n) a b (c, h, w) = let p = lower_one a c h in let q = falls n c b w in omega (arith, p, q)

  pub acyclic : HasTypeCycle ds → ⊥
  acyclic (k, (n, w)) = let p = falls (suc n) k k w in omega (arith, p)
