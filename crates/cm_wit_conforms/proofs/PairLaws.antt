-- The pairs of resources.
use Rattle.std.proofs.Common.{◌≡◌, ℕ, zero, suc, ◌+◌, ◌<◌, Bool, true, cond, List, [], ◌∷◌, length, get_or, inl, inr, Option, Some, None, sym, ap, subst, ◌∙◌, arith}
use Rattle.std.specs.List.{position_from}
use Rattle.std.proofs.lemmas.Bool.{cases_Bool}
use Rattle.cm_types.specs.declared.resource.ResourceId.{ResourceId}
use Rattle.cm_wit_conforms.specs.Comparisons.{Comparison, nothing, two_sorts, two_funcs, two_types, two_resources, Entry}
use Rattle.cm_wit_conforms.specs.Conformance.{meets_have, meets_world, have_pair, world_pair, Correspond}
use Rattle.cm_types.proofs.ResourceLaws.{resource_sound}
use Rattle.cm_lemmas.proofs.Options.{some_turned}

-- the test holds at a position that was found
abbrev pub Found : {X : Type 0} → (X → Bool) → ℕ → List X → ℕ → Type 0
Found {X} t i xs n = (k : ℕ) × (n ≡ i + k) × (k < length xs) × ((d : X) → t (get_or xs k d) ≡ true)

later : {X : Type 0} (t : X → Bool) (i : ℕ) (x : X) (xs : List X) (n : ℕ) → Found t (i + 1) xs n → Found t i (x ∷ xs) n
later t i x xs n f = (suc f.0, omega (arith, f.1), omega (arith, f.2), f.3)

pub found_at : {X : Type 0} (t : X → Bool) (i : ℕ) (xs : List X) (n : ℕ) → position_from t i xs ≡ Some n → Found t i xs n
found_at t i [] n e = absurd cc
found_at {X} t i (x ∷ xs) n e = elim (cases_Bool (t x)) [
  | inl y ↦ (zero, (let is : n ≡ i = some_turned i n (sym (ap (λ (b : Bool). cond b (Some i) (position_from t (i + 1) xs)) y) ∙ e) in omega (arith, is)), omega arith, λ d. y)
  | inr m ↦ later t i x xs n (found_at t (i + 1) xs n (sym (ap (λ (b : Bool). cond b (Some i) (position_from t (i + 1) xs)) m) ∙ e))
]

met_world : (what : Comparison) (b c : ResourceId) → meets_have b what ≡ true → meets_have c what ≡ true → b ≡ c
met_world nothing b c h k = absurd cc
met_world two_sorts b c h k = absurd cc
met_world (two_funcs f g) b c h k = absurd cc
met_world (two_types f g) b c h k = absurd cc
met_world (two_resources x y) b c h k = resource_sound b y h ∙ sym (resource_sound c y k)

met_have : (what : Comparison) (b c : ResourceId) → meets_world b what ≡ true → meets_world c what ≡ true → b ≡ c
met_have nothing b c h k = absurd cc
met_have two_sorts b c h k = absurd cc
met_have (two_funcs f g) b c h k = absurd cc
met_have (two_types f g) b c h k = absurd cc
met_have (two_resources x y) b c h k = resource_sound b x h ∙ sym (resource_sound c x k)

number_of : Option ℕ → ℕ
number_of None = 0
number_of (Some n) = n

one_number : (m n : ℕ) (o : Option ℕ) → o ≡ Some m → o ≡ Some n → m ≡ n
unfolding number_of
one_number m n o h k = ap number_of (sym h ∙ k)

pub one_of_the_world : (all : List Entry) (a b c : ResourceId) → Correspond all a b → Correspond all a c → b ≡ c
one_of_the_world all a b c h k =
    let same : h.0 ≡ k.0 = one_number h.0 k.0 (have_pair all a) h.1 k.1 in
    let f = found_at (λ e. meets_have b e.what) 0 all h.0 h.2 in
    let g = found_at (λ e. meets_have c e.what) 0 all k.0 k.2 in
    let at : f.0 ≡ g.0 = omega (arith, f.1, g.1, same) in
    by_entry all b c f.0 f.2 f.3 (λ d. subst (λ (i : ℕ). meets_have c (get_or all i d).what ≡ true) (sym at) (g.3 d))
  where
    by_entry : (all : List Entry) (b c : ResourceId) (i : ℕ) → i < length all → ((d : Entry) → meets_have b (get_or all i d).what ≡ true) → ((d : Entry) → meets_have c (get_or all i d).what ≡ true) → b ≡ c
    by_entry [] b c i lt f g = absurd (omega (arith, lt))
    by_entry (e ∷ es) b c i lt f g = met_world (get_or (e ∷ es) i e).what b c (f e) (g e)

pub one_of_the_signature : (all : List Entry) (a b c : ResourceId) → Correspond all a c → Correspond all b c → a ≡ b
one_of_the_signature all a b c h k =
    let same : h.0 ≡ k.0 = one_number h.0 k.0 (world_pair all c) h.2 k.2 in
    let f = found_at (λ e. meets_world a e.what) 0 all h.0 h.1 in
    let g = found_at (λ e. meets_world b e.what) 0 all k.0 k.1 in
    let at : f.0 ≡ g.0 = omega (arith, f.1, g.1, same) in
    by_entry all a b f.0 f.2 f.3 (λ d. subst (λ (i : ℕ). meets_world b (get_or all i d).what ≡ true) (sym at) (g.3 d))
  where
    by_entry : (all : List Entry) (b c : ResourceId) (i : ℕ) → i < length all → ((d : Entry) → meets_world b (get_or all i d).what ≡ true) → ((d : Entry) → meets_world c (get_or all i d).what ≡ true) → b ≡ c
    by_entry [] b c i lt f g = absurd (omega (arith, lt))
    by_entry (e ∷ es) b c i lt f g = met_have (get_or (e ∷ es) i e).what b c (f e) (g e)
