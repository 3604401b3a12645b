-- Just the declarations that lead to one of a resource are of resources.
use Rattle.std.proofs.Common.{◌≡◌, ◌↔◌, ℕ, zero, suc, ◌+◌, ◌<◌, Bool, true, List, [], ◌∷◌, length, map, get_or, Option, Some, None, slice_get, refl, sym, ap, subst, ◌∙◌, arith}
use Rattle.std.specs.List.{Contains, cons_option}
use Rattle.std.specs.Option.{option_map}
use Rattle.std.proofs.lemmas.List.{length-map, get_or_default}
use Rattle.std.proofs.lemmas.Option.{slice_get_within, same_Some}
use Rattle.cm_wit_graph.specs.Graphs.{Edges, HasEdge, Walk, LeadsToMarked, IsMarked, IsWithin}
use Rattle.cm_names.specs.Keys.{Key}
use Rattle.cm_wit_tables.specs.Declarations.{Declaration, Declared, brought, defined, keys_of}
use Rattle.cm_wit_tables.specs.Tables.{defines_resource, declares_resource}
use Rattle.cm_wit_tables.specs.TypeFaults.{IsResource, own_one, brought_one}
use Rattle.cm_wit_tables.specs.Leading.{found, brought_target}
use Rattle.cm_wit_tables.specs.Resources.{brought_edges}
use Rattle.cm_wit_tables.proofs.RankLaws.{target_below}

-- ---- what stands in the lists of edges

-- the declaration at a place, counted from where the list begins
abbrev From : List Declaration → ℕ → ℕ → Declaration → Type 0
From ds start k d = (n : ℕ) × (k ≡ start + n) × (slice_get ds n ≡ Some d)

further : (ds : List Declaration) (x d : Declaration) (start k : ℕ) → From ds (start + 1) k d → From (x ∷ ds) start k d
further ds x d start k (n, e, h) = (suc n, omega (arith, e), h)

module _ (keys : List Key) where
  -- an edge is that of a declaration
  abbrev Brings : List Declaration → ℕ → ℕ → ℕ → Type 0
  Brings ds start a b = (d : Declaration) × From ds start a d × (brought_target keys d.is ≡ Some b)

  pair_is : (a b c d : ℕ) → ◌≡◌ {A = ℕ × ℕ} (a, b) (c, d) → (a ≡ c) × (b ≡ d)
  pair_is a b c d e = (ap (λ (p : ℕ × ℕ). p.0) e, ap (λ (p : ℕ × ℕ). p.1) e)

  -- the edges of a list, given those of its rest
  edge_first : (start : ℕ) (x : Declaration) (ds : List Declaration) (a b : ℕ) → (HasEdge (brought_edges keys (start + 1) ds) a b → Brings ds (start + 1) a b) → (o : Option ℕ) → brought_target keys x.is ≡ o → Contains (cons_option (option_map (λ j. (start, j)) o) (brought_edges keys (start + 1) ds)) (a, b) → Brings (x ∷ ds) start a b
  edge_first start x ds a b rest None t g = let p = rest g in (p.0, further ds x p.0 start a p.1, p.2)
  edge_first start x ds a b rest (Some j) t (zero, lt, e) = let p = pair_is start j a b e in (x, (0, sym p.0 ∙ omega arith, refl), t ∙ ap Some p.1)
  edge_first start x ds a b rest (Some j) t (suc n, lt, e) = let p = rest (n, omega (arith, lt), e) in (p.0, further ds x p.0 start a p.1, p.2)

  edge_of : (start : ℕ) (ds : List Declaration) (a b : ℕ) → HasEdge (brought_edges keys start ds) a b → Brings ds start a b
  edge_of start [] a b (n, lt, e) = absurd (omega (arith, lt))
  edge_of start (x ∷ ds) a b h = edge_first start x ds a b (edge_of (start + 1) ds a b) (brought_target keys x.is) refl h

  later : (start : ℕ) (ds : List Declaration) (a b : ℕ) (o : Option ℕ) → HasEdge (brought_edges keys (start + 1) ds) a b → Contains (cons_option (option_map (λ j. (start, j)) o) (brought_edges keys (start + 1) ds)) (a, b)
  later start ds a b None g = g
  later start ds a b (Some j) (m, lt, f) = (suc m, omega (arith, lt), f)

  here : (start : ℕ) (x d : Declaration) (ds : List Declaration) (a b : ℕ) → a ≡ start → x ≡ d → brought_target keys d.is ≡ Some b → HasEdge (brought_edges keys start (x ∷ ds)) a b
  here start x d ds a b same is t =
      let first : brought_target keys x.is ≡ Some b = ap (λ (y : Declaration). brought_target keys y.is) is ∙ t in
      subst (λ (o : Option ℕ). Contains (cons_option (option_map (λ j. (start, j)) o) (brought_edges keys (start + 1) ds)) (a, b)) (sym first) (0, omega arith, ap (λ (n : ℕ). (n, b)) (sym same))

  has_edge : (start : ℕ) (ds : List Declaration) (a b : ℕ) (d : Declaration) (n : ℕ) → a ≡ start + n → slice_get ds n ≡ Some d → brought_target keys d.is ≡ Some b → HasEdge (brought_edges keys start ds) a b
  has_edge start [] a b d n e h t = absurd cc
  has_edge start (x ∷ ds) a b d zero e h t = here start x d ds a b (omega (arith, e)) (same_Some x d h) t
  has_edge start (x ∷ ds) a b d (suc n) e h t = later start ds a b (brought_target keys x.is) (has_edge (start + 1) ds a b d n (omega (arith, e)) h t)

from_start : (ds : List Declaration) (k : ℕ) (d : Declaration) → From ds 0 k d → slice_get ds k ≡ Some d
from_start ds k d (n, e, h) = let same : k ≡ n = omega (arith, e) in ap (slice_get ds) same ∙ h

-- ---- what a key leads to is there

-- ---- edges are between declarations

by_brought : (keys : List Key) (is : Declared) (j : ℕ) → brought_target keys is ≡ Some j → (key : Key) × (is ≡ brought (Some key)) × (found keys key ≡ Some j)
by_brought keys (brought None) j e = absurd cc
by_brought keys (brought (Some key)) j e = (key, refl, e)
by_brought keys (defined t) j e = absurd cc

module _ (ds : List Declaration) where
  edge_within : (a b : ℕ) → HasEdge (brought_edges (keys_of ds) 0 ds) a b → (a < length ds) × (b < length ds)
  edge_within a b h =
      let p = edge_of (keys_of ds) 0 ds a b h in
      let q = by_brought (keys_of ds) p.0.is b p.2 in
      (slice_get_within ds a p.0 (from_start ds a p.0 p.1), target_below ds q.0 b q.2)

  pub edges_within : IsWithin (length ds) (brought_edges (keys_of ds) 0 ds)
  edges_within k e lt =
      let x = get_or (brought_edges (keys_of ds) 0 ds) k e in
      edge_within x.0 x.1 (k, lt, get_or_default (brought_edges (keys_of ds) 0 ds) k (x.0, x.1) e lt)

-- ---- leading to a declaration that defines a resource

own_at : (ds : List Declaration) (k : ℕ) → IsMarked (map declares_resource ds) k → (d : Declaration) × (slice_get ds k ≡ Some d) × (declares_resource d ≡ true)
own_at [] k e = absurd cc
own_at (x ∷ ds) zero e = (x, refl, e)
own_at (x ∷ ds) (suc k) e = own_at ds k e

at_own : (ds : List Declaration) (k : ℕ) (d : Declaration) → slice_get ds k ≡ Some d → declares_resource d ≡ true → IsMarked (map declares_resource ds) k
at_own [] k d e h = absurd cc
at_own (x ∷ ds) zero d e h = let same : x ≡ d = cc in ap declares_resource same ∙ h
at_own (x ∷ ds) (suc k) d e h = at_own ds k d e h

module _ (ds : List Declaration) where
  own_is : (k : ℕ) (d : Declaration) → slice_get ds k ≡ Some d → (is : Declared) → d.is ≡ is → defines_resource is ≡ true → IsResource ds k
  own_is k d e (brought key) f h = absurd cc
  own_is k d e (defined t) f h = own_one k t (d, e, f) h

  own_leads : (k : ℕ) → IsMarked (map declares_resource ds) k → IsResource ds k
  own_leads k h = let p = own_at ds k h in own_is k p.0 p.1 p.0.is refl p.2

  walks : (n a b : ℕ) → Walk (brought_edges (keys_of ds) 0 ds) a b n → IsMarked (map declares_resource ds) b → IsResource ds a
  walks zero a b w h = own_leads a (subst (IsMarked (map declares_resource ds)) (sym w) h)
  walks (suc n) a b (c, e, w) h =
      let p = edge_of (keys_of ds) 0 ds a c e in
      let q = by_brought (keys_of ds) p.0.is c p.2 in
      brought_one a c q.0 (p.0, from_start ds a p.0 p.1, q.1) q.2 (walks n c b w h)

  leads : (k : ℕ) → IsResource ds k → LeadsToMarked (brought_edges (keys_of ds) 0 ds) (map declares_resource ds) k
  leads _ (own_one k t d h) = (k, (0, refl), at_own ds k d.0 d.1 (ap defines_resource d.2 ∙ h))
  leads _ (brought_one k j key d e h) =
      let p = leads j h in
      let edge = has_edge (keys_of ds) 0 ds k j d.0 k (omega arith) d.1 (ap (brought_target (keys_of ds)) d.2 ∙ e) in
      (p.0, (suc p.1.0, (j, edge, p.1.1)), p.2)

  pub resources_lead : (k : ℕ) → LeadsToMarked (brought_edges (keys_of ds) 0 ds) (map declares_resource ds) k ↔ IsResource ds k
  resources_lead k = ((λ h. walks h.1.0 k h.0 h.1.1 h.2), leads k)

-- ---- the same of what the code lists

module _ {A : Type 0} (view : A → Declaration) (xs : List A) (keys : List Key) (es : Edges) (e : keys ≡ keys_of (map view xs)) (f : es ≡ brought_edges keys 0 (map view xs)) where
  told : es ≡ brought_edges (keys_of (map view xs)) 0 (map view xs)
  told = f ∙ ap (λ (ks : List Key). brought_edges ks 0 (map view xs)) e

  pub edges_fit : IsWithin (length xs) es
  edges_fit = subst (IsWithin (length xs)) (sym told) (subst (λ (n : ℕ). IsWithin n (brought_edges (keys_of (map view xs)) 0 (map view xs))) (length-map xs view) (edges_within (map view xs)))

  pub marks_told : (graph : Edges) (own all : List Bool) → graph ≡ es → own ≡ map declares_resource (map view xs) → ((a : ℕ) → IsMarked all a ↔ LeadsToMarked graph own a) → (k : ℕ) → IsMarked all k ↔ IsResource (map view xs) k
  marks_told graph own all g o h k =
      let same = subst (λ (bs : List Bool). IsMarked all k ↔ LeadsToMarked (brought_edges (keys_of (map view xs)) 0 (map view xs)) bs k) o (subst (λ (gs : Edges). IsMarked all k ↔ LeadsToMarked gs own k) (g ∙ told) (h k)) in
      let is = resources_lead (map view xs) k in
      ((λ x. is.0 (same.0 x)), (λ x. same.1 (is.1 x)))
