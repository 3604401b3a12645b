-- Resources that are numbered in order.
use Rattle.std.proofs.Common.{◌≡◌, ℕ, zero, suc, ◌+◌, ◌<◌, ◌≤◌, Bool, true, false, cond, List, [], ◌∷◌, ◌++◌, length, map, take, get_or, Some, slice_get, inl, inr, refl, sym, ap, subst, ◌∙◌, arith}
use Rattle.std.specs.Prelude.{filter}
use Rattle.std.proofs.lemmas.List.{length-append, length_push, map-append, take_more, take-map}
use Rattle.std.proofs.lemmas.Bool.{cases_lt}
use Rattle.cm_types.specs.declared.resource.ResourceId.{ResourceId}
use Rattle.cm_wit_tables.specs.Declarations.{Declaration}
use Rattle.cm_wit_tables.specs.Tables.{declares_resource, resource_of}

module _ {A : Type 0} (view : A → Declaration) (xs : List A) where
  -- how many of the first i declare a resource
  abbrev pub count : ℕ → ℕ
  count i = length (filter declares_resource (map view (take i xs)))

  -- The first i are numbered, and so many of them declare a resource.
  pub record Numbered (i number : ℕ) (ids : List ResourceId) : Type 0 where
    pub counted : number ≡ count i
    pub few : number ≤ i
    pub size : length ids ≡ i
    pub each : (k : ℕ) → k < i → slice_get ids k ≡ Some (record { component = 0; number = count k })

  pub numbered_none : Numbered 0 0 []
  numbered_none = record { counted = refl; few = omega arith; size = refl; each = λ k lt. absurd (omega (arith, lt)) }

  cond_append : (t : Bool) (a : Declaration) (fs gs all : List Declaration) → all ≡ fs ++ gs → cond t (a ∷ all) all ≡ cond t (a ∷ fs) fs ++ gs
  cond_append true a fs gs all e = ap (λ (l : List Declaration). a ∷ l) e
  cond_append false a fs gs all e = e

  filter-append : (p : Declaration → Bool) (ds bs : List Declaration) → filter p (ds ++ bs) ≡ filter p ds ++ filter p bs
  filter-append p [] bs = refl
  filter-append p (d ∷ ds) bs = cond_append (p d) d (filter p ds) (filter p bs) (filter p (ds ++ bs)) (filter-append p ds bs)

  got_left : (ids : List ResourceId) (id : ResourceId) (k : ℕ) → k < length ids → slice_get (ids ++ id ∷ []) k ≡ slice_get ids k
  got_left [] id k lt = absurd (omega (arith, lt))
  got_left (x ∷ ids) id zero lt = refl
  got_left (x ∷ ids) id (suc k) lt = got_left ids id k (omega (arith, lt))

  got_last : (ids : List ResourceId) (id : ResourceId) → slice_get (ids ++ id ∷ []) (length ids) ≡ Some id
  got_last [] id = refl
  got_last (x ∷ ids) id = got_last ids id

  counts : (i : ℕ) (x : A) → i < length xs → x ≡ get_or xs i x → count (i + 1) ≡ count i + length (cond (declares_resource (view x)) (view x ∷ []) [])
  counts i x lt is =
      let more : map view (take (i + 1) xs) ≡ map view (take i xs) ++ view x ∷ [] = ap (map view) (take_more xs i x lt ∙ ap (λ (y : A). take i xs ++ y ∷ []) (sym is)) ∙ map-append view (take i xs) (x ∷ []) in
      ap (λ (l : List Declaration). length (filter declares_resource l)) more
      ∙ (ap length (filter-append declares_resource (map view (take i xs)) (view x ∷ []))
      ∙ length-append (filter declares_resource (map view (take i xs))) (cond (declares_resource (view x)) (view x ∷ []) []))

  pub numbered_next : (i number next : ℕ) (ids : List ResourceId) (x : A) (t : Bool) → i < length xs → x ≡ get_or xs i x → t ≡ declares_resource (view x) → next ≡ number + cond t 1 0 → Numbered i number ids → Numbered (i + 1) next (ids ++ (record { component = 0; number = number }) ∷ [])
  numbered_next i number next ids x t lt is tested n h = record {
    counted = n ∙ (by_test t ∙ (ap (λ (m : ℕ). m + length (cond t (view x ∷ []) [])) h.counted ∙ (ap (λ (b : Bool). count i + length (cond b (view x ∷ []) [])) tested ∙ sym (counts i x lt is))));
    few = at_most t n;
    size = length_push ids (record { component = 0; number = number }) ∙ ap (λ (m : ℕ). m + 1) h.size;
    each = λ k below. elim (cases_lt k i) [
      | inl less ↦ (got_left ids (record { component = 0; number = number }) k (subst (λ (m : ℕ). k < m) (sym h.size) less) ∙ h.each k less)
      | inr le ↦ (let same : k ≡ length ids = omega (arith, le, below, h.size) in
          let here : k ≡ i = omega (arith, le, below) in
          ap (slice_get (ids ++ (record { component = 0; number = number }) ∷ [])) same
          ∙ (got_last ids (record { component = 0; number = number })
          ∙ ap (λ (m : ℕ). Some (record { component = 0; number = m })) (h.counted ∙ ap count (sym here))))
    ];
  }
    where
      by_test : (b : Bool) → number + cond b 1 0 ≡ number + length (cond b (view x ∷ []) [])
      by_test true = refl
      by_test false = refl

      at_most : (b : Bool) → next ≡ number + cond b 1 0 → next ≤ i + 1
      at_most true e = let f = h.few in omega (arith, e, f)
      at_most false e = let f = h.few in omega (arith, e, f)

  pub numbered_all : (i number : ℕ) (ids : List ResourceId) → length xs ≤ i → i ≤ length xs → Numbered i number ids → (k : ℕ) → k < length xs → slice_get ids k ≡ Some (resource_of (map view xs) k)
  numbered_all i number ids le ge h k lt =
      h.each k (omega (arith, le, lt))
      ∙ ap (λ (l : List Declaration). Some (record { component = 0; number = length (filter declares_resource l) })) (sym (take-map view k xs))

  pub numbered_push : (i number next : ℕ) (ids new : List ResourceId) (x : A) (t : Bool) → i < length xs → x ≡ get_or xs i x → t ≡ declares_resource (view x) → next ≡ number + cond t 1 0 → new ≡ ids ++ (record { component = 0; number = number }) ∷ [] → Numbered i number ids → Numbered (i + 1) next new
  numbered_push i number next ids new x t lt is tested n e h = subst (Numbered (i + 1) next) (sym e) (numbered_next i number next ids x t lt is tested n h)
