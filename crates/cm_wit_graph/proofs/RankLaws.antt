-- Where no node needs itself, nodes can be ranked above those that they need.
use Rattle.std.proofs.Common.{◌≡◌, ℕ, zero, suc, ◌<◌, ◌≤◌, Bool, true, false, ◌&&◌, ◌||◌, ◌⊎◌, inl, inr, cond, nat_eq, List, [], ◌∷◌, length, get_or, refl, sym, subst, arith}
use Rattle.std.specs.List.{Contains, list_any}
use Rattle.std.proofs.lemmas.Bool.{cases_lt, and_from, or_left, or_right}
use Rattle.std.proofs.lemmas.Bool.Decides.{nat_tests}
use Rattle.cm_wit_graph.specs.Orders.{Needs, Walk, NeedsItself, IsWithin, IsRanked}
use Rattle.cm_lemmas.proofs.Bools.{both_true, not_both}
use Rattle.cm_lemmas.proofs.Numbers.{nat_eq_of}

or_split : (p q : Bool) → (p || q) ≡ true → (p ≡ true) ⊎ (q ≡ true)
or_split true q e = inl refl
or_split false q e = inr e

is_eq : (a b : ℕ) → a ≡ b → nat_eq a b ≡ true
is_eq a b e = grind (arith, nat_tests)

some_name : (b : ℕ) (xs : List ℕ) → list_any (nat_eq b) xs ≡ true → Contains xs b
some_name b [] e = absurd cc
some_name b (x ∷ xs) e = elim (or_split (nat_eq b x) (list_any (nat_eq b) xs) e) [
  | inl f ↦ (0, omega arith, sym (nat_eq_of b x f))
  | inr f ↦ (let p = some_name b xs f in (suc p.0, omega (arith, p.1), p.2))
]

name_some : (b : ℕ) (xs : List ℕ) → Contains xs b → list_any (nat_eq b) xs ≡ true
name_some b [] (k, lt, e) = absurd (omega (arith, lt))
name_some b (x ∷ xs) (zero, lt, e) = or_left (nat_eq b x) (list_any (nat_eq b) xs) (is_eq b x (sym e))
name_some b (x ∷ xs) (suc k, lt, e) = or_right (nat_eq b x) (list_any (nat_eq b) xs) (name_some b xs (k, omega (arith, lt), e))

-- how many numbers below one pass a test
abbrev pub count_below : (ℕ → Bool) → ℕ → ℕ
count_below p zero = 0
count_below p (suc n) = cond (p n) (suc (count_below p n)) (count_below p n)

fewer_step : (a b : Bool) (m n : ℕ) → (a ≡ true → b ≡ true) → m ≤ n → cond a (suc m) m ≤ cond b (suc n) n
fewer_step true true m n h le = omega (arith, le)
fewer_step true false m n h le = absurd (not_both false (h refl) refl)
fewer_step false true m n h le = omega (arith, le)
fewer_step false false m n h le = le

no_fewer : (p q : ℕ → Bool) → ((x : ℕ) → p x ≡ true → q x ≡ true) → (n : ℕ) → count_below p n ≤ count_below q n
no_fewer p q h zero = omega arith
no_fewer p q h (suc n) = fewer_step (p n) (q n) (count_below p n) (count_below q n) (h n) (no_fewer p q h n)

less_here : (a b : Bool) (m n : ℕ) → a ≡ false → b ≡ true → m ≤ n → cond a (suc m) m < cond b (suc n) n
less_here true b m n e f le = absurd (not_both true refl e)
less_here false true m n e f le = omega (arith, le)
less_here false false m n e f le = absurd (not_both false f refl)

less_step : (a b : Bool) (m n : ℕ) → (a ≡ true → b ≡ true) → m < n → cond a (suc m) m < cond b (suc n) n
less_step true true m n h lt = omega (arith, lt)
less_step true false m n h lt = absurd (not_both false (h refl) refl)
less_step false true m n h lt = omega (arith, lt)
less_step false false m n h lt = lt

fewer : (p q : ℕ → Bool) → ((x : ℕ) → p x ≡ true → q x ≡ true) → (x : ℕ) → p x ≡ false → q x ≡ true → (n : ℕ) → x < n → count_below p n < count_below q n
fewer p q h x e f zero lt = absurd (omega (arith, lt))
fewer p q h x e f (suc n) lt = elim (cases_lt x n) [
  | inl less ↦ less_step (p n) (q n) (count_below p n) (count_below q n) (h n) (fewer p q h x e f n less)
  | inr le ↦ (let same : x ≡ n = omega (arith, lt, le) in
      less_here (p n) (q n) (count_below p n) (count_below q n) (subst (λ (y : ℕ). p y ≡ false) same e) (subst (λ (y : ℕ). q y ≡ true) same f) (no_fewer p q h n))
]

module _ (needs : Needs) where
  -- whether a node needs another by way of nodes below a number alone
  pub by_way_of : ℕ → ℕ → ℕ → Bool
  by_way_of zero a b = list_any (nat_eq b) (needs a)
  by_way_of (suc m) a b = by_way_of m a b || (by_way_of m a m && by_way_of m m b)

  -- a walk of one step or more
  abbrev pub Far : ℕ → ℕ → Type 0
  Far a b = (n : ℕ) × Walk needs a b (suc n)

  far_then : (m a c b : ℕ) → Walk needs a c m → Far c b → Far a b
  far_then zero a c b e w = subst (λ (x : ℕ). Far x b) (sym e) w
  far_then (suc m) a c b (d, h, v) w = let p = far_then m d c b v w in (suc p.0, (d, h, p.1))

  module _ (m : ℕ) where
    direct : (a b : ℕ) → by_way_of m a b ≡ true → by_way_of (suc m) a b ≡ true
    unfolding by_way_of
    direct a b e = or_left (by_way_of m a b) (by_way_of m a m && by_way_of m m b) e

    through : (a b : ℕ) → by_way_of m a m ≡ true → by_way_of m m b ≡ true → by_way_of (suc m) a b ≡ true
    unfolding by_way_of
    through a b e f = or_right (by_way_of m a b) (by_way_of m a m && by_way_of m m b) (and_from (by_way_of m a m) (by_way_of m m b) e f)

    split : (a b : ℕ) → by_way_of (suc m) a b ≡ true → (by_way_of m a b ≡ true) ⊎ ((by_way_of m a m ≡ true) × (by_way_of m m b ≡ true))
    unfolding by_way_of
    split a b e = elim (or_split (by_way_of m a b) (by_way_of m a m && by_way_of m m b) e) [
      | inl f ↦ inl f
      | inr f ↦ inr (both_true (by_way_of m a m) (by_way_of m m b) f)
    ]

    to_last : (a : ℕ) → by_way_of (suc m) a m ≡ true → by_way_of m a m ≡ true
    to_last a e = elim (split a m e) [ inl f ↦ f | inr f ↦ f.0 ]

    from_last : (b : ℕ) → by_way_of (suc m) m b ≡ true → by_way_of m m b ≡ true
    from_last b e = elim (split m b e) [ inl f ↦ f | inr f ↦ f.1 ]

    -- what is joined below joins
    module _ (joins : (a c b : ℕ) → c < m → by_way_of m a c ≡ true → by_way_of m c b ≡ true → by_way_of m a b ≡ true) where
      joins_below : (a c b : ℕ) → c < m → by_way_of (suc m) a c ≡ true → by_way_of (suc m) c b ≡ true → by_way_of (suc m) a b ≡ true
      joins_below a c b lt e f = elim (split a c e) [
        | inl p ↦ elim (split c b f) [
          | inl q ↦ direct a b (joins a c b lt p q)
          | inr q ↦ through a b (joins a c m lt p q.0) q.1
        ]
        | inr p ↦ elim (split c b f) [
          | inl q ↦ through a b p.0 (joins m c b lt p.1 q)
          | inr q ↦ through a b p.0 q.1
        ]
      ]

      joins_last : (a c b : ℕ) → c ≡ m → by_way_of (suc m) a c ≡ true → by_way_of (suc m) c b ≡ true → by_way_of (suc m) a b ≡ true
      joins_last a c b same e f =
          through a b (to_last a (subst (λ (x : ℕ). by_way_of (suc m) a x ≡ true) same e)) (from_last b (subst (λ (x : ℕ). by_way_of (suc m) x b ≡ true) same f))

  joined : (m a c b : ℕ) → c < m → by_way_of m a c ≡ true → by_way_of m c b ≡ true → by_way_of m a b ≡ true
  joined zero a c b lt e f = absurd (omega (arith, lt))
  joined (suc m) a c b lt e f = elim (cases_lt c m) [
    | inl less ↦ joins_below m (joined m) a c b less e f
    | inr le ↦ joins_last m (joined m) a c b (omega (arith, lt, le)) e f
  ]

  one_step : (m a b : ℕ) → Contains (needs a) b → by_way_of m a b ≡ true
  unfolding by_way_of
  one_step zero a b h = name_some b (needs a) h
  one_step (suc m) a b h = or_left (by_way_of m a b) (by_way_of m a m && by_way_of m m b) (one_step m a b h)

  no_step : (a b : ℕ) → by_way_of 0 a b ≡ true → Contains (needs a) b
  unfolding by_way_of
  no_step a b e = some_name b (needs a) e

  is_walk : (m a b : ℕ) → by_way_of m a b ≡ true → Far a b
  is_walk zero a b e = (0, (b, no_step a b e, refl))
  is_walk (suc m) a b e = elim (split m a b e) [
    | inl f ↦ is_walk m a b f
    | inr f ↦ (let p = is_walk m a m f.0 in far_then (suc p.0) a m b p.1 (is_walk m m b f.1))
  ]

  -- how many nodes a node needs
  pub rank_of : ℕ → ℕ → ℕ
  rank_of count k = count_below (by_way_of count k) count

  false_by : (b : Bool) → (b ≡ true → ⊥) → b ≡ false
  false_by true h = absurd (h refl)
  false_by false h = refl

  module _ (count : ℕ) (within : IsWithin count needs) where
    needed_within : (a b : ℕ) → Contains (needs a) b → b < count
    needed_within a b (k, lt, e) = subst (λ (x : ℕ). x < count) e (within a k b lt)

    ranked_above : ((k : ℕ) → NeedsItself needs k → ⊥) → (a b : ℕ) → Contains (needs a) b → rank_of count b < rank_of count a
    unfolding rank_of
    ranked_above acyclic a b h =
        let low = needed_within a b h in
        fewer (by_way_of count b) (by_way_of count a) (λ x e. joined count a b x low (one_step count a b h) e) b (false_by (by_way_of count b b) (λ e. acyclic b (is_walk count b b e))) (one_step count a b h) count low

    pub ranks : ((k : ℕ) → NeedsItself needs k → ⊥) → (rank : ℕ → ℕ) × IsRanked needs rank
    ranks acyclic = (rank_of count, λ k i d lt. ranked_above acyclic k (get_or (needs k) i d) (i, lt, get_or_self (needs k) i d lt))
      where
        get_or_self : (xs : List ℕ) (i d : ℕ) → i < length xs → get_or xs i (get_or xs i d) ≡ get_or xs i d
        get_or_self [] i d lt = absurd (omega (arith, lt))
        get_or_self (x ∷ xs) zero d lt = refl
        get_or_self (x ∷ xs) (suc i) d lt = get_or_self xs i d (omega (arith, lt))

    -- ---- some node needs itself, or none

    abbrev Some : ℕ → Type 0
    Some m = (k : ℕ) × NeedsItself needs k

    known : (m : ℕ) → ((k : ℕ) × NeedsItself needs k) ⊎ ((k : ℕ) → k < m → by_way_of count k k ≡ false)
    known zero = inr (λ k lt. absurd (omega (arith, lt)))
    known (suc m) = elim (known m) [
      | inl h ↦ inl h
      | inr h ↦ at_last (by_way_of count m m) refl h
    ]
      where
        at_last : (b : Bool) → by_way_of count m m ≡ b → ((k : ℕ) → k < m → by_way_of count k k ≡ false) → ((k : ℕ) × NeedsItself needs k) ⊎ ((k : ℕ) → k < suc m → by_way_of count k k ≡ false)
        at_last true e h = inl (m, is_walk count m m e)
        at_last false e h = inr (λ k lt. elim (cases_lt k m) [
          | inl less ↦ h k less
          | inr le ↦ subst (λ (x : ℕ). by_way_of count x x ≡ false) (let same : m ≡ k = omega (arith, lt, le) in same) e
        ])

    far_leads : (n a b : ℕ) → Walk needs a b (suc n) → by_way_of count a b ≡ true
    far_leads zero a b (c, h, e) = subst (λ (x : ℕ). by_way_of count a x ≡ true) e (one_step count a c h)
    far_leads (suc n) a b (c, h, w) = joined count a c b (needed_within a c h) (one_step count a c h) (far_leads n c b w)

    last_within : (n a b : ℕ) → Walk needs a b (suc n) → b < count
    last_within zero a b (c, h, e) = subst (λ (x : ℕ). x < count) e (needed_within a c h)
    last_within (suc n) a b (c, h, w) = last_within n c b w

    pub some_or_none : ((k : ℕ) × NeedsItself needs k) ⊎ ((k : ℕ) → NeedsItself needs k → ⊥)
    some_or_none = elim (known count) [
      | inl h ↦ inl h
      | inr h ↦ inr (λ k (p : NeedsItself needs k). not_both (by_way_of count k k) (far_leads p.0 k k p.1) (h k (last_within p.0 k k p.1)))
    ]
