-- What leads to what, by the edges and by their rows.
use Rattle.std.proofs.Common.{◌≡◌, ◌==◌, ◌↔◌, if◌then◌else◌, ℕ, zero, suc, ◌+◌, ◌<◌, ◌≤◌, Bool, true, false, ◌⊎◌, inl, inr, List, [], ◌∷◌, ◌++◌, length, map, get_or, refl, sym, ap, subst, ◌∙◌, arith, All}
use Rattle.std.proofs.lemmas.List.{get_or_default, length-map}
use Rattle.std.proofs.Math.ListN.{get_or-eq_default}
use Rattle.std.proofs.lemmas.Bool.{cases_lt}
use Rattle.std.specs.List.{Contains}
use Rattle.std.specs.Global.{Vec}
use Rattle.cm_wit_graph.specs.Graphs.{Edges, HasEdge, IsWithin, Walk, Leads, IsMarked, LeadsToMarked}
use Rattle.cm_wit_graph.specs.Marking.{WalkBy, LeadsBy, IsInto}
use Rattle.cm_wit_graph.specs.Rows.{row_of, sources}
use Rattle.cm_lemmas.proofs.Lists.{cons_in, in_head, in_cons, none_in}
use Rattle.cm_lemmas.proofs.Numbers.{eq_self, eq_of}

-- ---- membership by steps

-- ---- edges and sources

source_head : (t : Bool) (x : ℕ) (xs : List ℕ) → t ≡ true → Contains (if t then x ∷ xs else xs) x
source_head t x xs e = rw e (in_head x xs)

source_tail : (t : Bool) (x a : ℕ) (xs : List ℕ) → Contains xs a → Contains (if t then x ∷ xs else xs) a
source_tail true x a xs c = cons_in a x xs c
source_tail false x a xs c = c

source_cases : (t : Bool) (x a : ℕ) (xs : List ℕ) → Contains (if t then x ∷ xs else xs) a → ((t ≡ true) × (x ≡ a)) ⊎ Contains xs a
source_cases true x a xs c = elim (in_cons a x xs c) [ inl e ↦ inl (refl, e) | inr d ↦ inr d ]
source_cases false x a xs c = inr c

pub edge_source : (es : Edges) (a b : ℕ) → HasEdge es a b → Contains (sources es b) a
edge_source [] a b c = absurd (none_in (a, b) c)
edge_source (e ∷ es) a b c = elim (in_cons (a, b) e es c) [
  | inl q ↦ rw (← (ap (λ (p : ℕ × ℕ). p.0) q)) (source_head (e.1 == b) e.0 (sources es b) (ap (λ (y : ℕ). e.1 == y) (sym (ap (λ (p : ℕ × ℕ). p.1) q)) ∙ eq_self e.1))
  | inr d ↦ source_tail (e.1 == b) e.0 a (sources es b) (edge_source es a b d)
]

pair_is : (e : ℕ × ℕ) (a b : ℕ) → e.0 ≡ a → e.1 ≡ b → e ≡ (a, b)
pair_is e a b p q = rw (← p, ← q) refl

pub source_edge : (es : Edges) (a b : ℕ) → Contains (sources es b) a → HasEdge es a b
source_edge [] a b c = absurd (none_in a c)
source_edge (e ∷ es) a b c = elim (source_cases (e.1 == b) e.0 a (sources es b) c) [
  | inl q ↦ let same = eq_of e.1 b q.0 in subst (λ (p : ℕ × ℕ). Contains (e ∷ es) p) (pair_is e a b q.1 same) (in_head e es)
  | inr d ↦ cons_in (a, b) e es (source_edge es a b d)
]

-- ---- walks

row_past : (rows : List (Vec ℕ)) (b : ℕ) → length rows ≤ b → row_of rows b ≡ []
row_past rows b le = let past : length (map (λ (r : Vec ℕ). r.items) rows) ≤ b = omega (arith, le, length-map rows (λ (r : Vec ℕ). r.items)) in get_or-eq_default (map (λ (r : Vec ℕ). r.items) rows) [] past

pub row_edge : (rows : List (Vec ℕ)) (es : Edges) (a b : ℕ) → ((b : ℕ) → b < length rows → row_of rows b ≡ sources es b) → Contains (row_of rows b) a → HasEdge es a b
row_edge rows es a b h c = elim (cases_lt b (length rows)) [
  | inl lt ↦ source_edge es a b (subst (λ (xs : List ℕ). Contains xs a) (h b lt) c)
  | inr le ↦ absurd (none_in a (subst (λ (xs : List ℕ). Contains xs a) (row_past rows b le) c))
]

within_edge : (n : ℕ) (es : Edges) (a b : ℕ) → IsWithin n es → HasEdge es a b → (a < n) × (b < n)
within_edge n es a b w c = let p = w c.0 (a, b) c.1 in let q = c.2 in
    (subst (λ (x : ℕ). x < n) (ap (λ (p : ℕ × ℕ). p.0) q) p.0, subst (λ (x : ℕ). x < n) (ap (λ (p : ℕ × ℕ). p.1) q) p.1)

edge_row : (rows : List (Vec ℕ)) (es : Edges) (a b : ℕ) → IsWithin (length rows) es → ((b : ℕ) → b < length rows → row_of rows b ≡ sources es b) → HasEdge es a b → Contains (row_of rows b) a
edge_row rows es a b w h c = subst (λ (xs : List ℕ). Contains xs a) (sym (h b (within_edge (length rows) es a b w c).1)) (edge_source es a b c)

walk_by : (rows : List (Vec ℕ)) (es : Edges) → IsWithin (length rows) es → ((b : ℕ) → b < length rows → row_of rows b ≡ sources es b) → (n : ℕ) (a b : ℕ) → Walk es a b n → WalkBy (row_of rows) a b n
walk_by rows es w h zero a b p = p
walk_by rows es w h (suc n) a b p = (p.0, edge_row rows es a p.0 w h p.1, walk_by rows es w h n p.0 b p.2)

by_walk : (rows : List (Vec ℕ)) (es : Edges) → ((b : ℕ) → b < length rows → row_of rows b ≡ sources es b) → (n : ℕ) (a b : ℕ) → WalkBy (row_of rows) a b n → Walk es a b n
by_walk rows es h zero a b p = p
by_walk rows es h (suc n) a b p = (p.0, row_edge rows es a p.0 h p.1, by_walk rows es h n p.0 b p.2)

pub leads_by : (rows : List (Vec ℕ)) (es : Edges) (marks : List Bool) → IsWithin (length rows) es → ((b : ℕ) → b < length rows → row_of rows b ≡ sources es b) → (a : ℕ) → LeadsToMarked es marks a → LeadsBy (row_of rows) marks a
leads_by rows es marks w h a l = (l.0, l.1.0, walk_by rows es w h l.1.0 a l.0 l.1.1, l.2)

pub by_leads : (rows : List (Vec ℕ)) (es : Edges) (marks : List Bool) → ((b : ℕ) → b < length rows → row_of rows b ≡ sources es b) → (a : ℕ) → LeadsBy (row_of rows) marks a → LeadsToMarked es marks a
by_leads rows es marks h a l = (l.0, (l.1, by_walk rows es h l.1 a l.0 l.2), l.3)

-- sources are nodes
pub rows_into : (rows : List (Vec ℕ)) (es : Edges) → IsWithin (length rows) es → ((b : ℕ) → b < length rows → row_of rows b ≡ sources es b) → IsInto (length rows) (row_of rows)
rows_into rows es w h b k d lt = (within_edge (length rows) es (get_or (row_of rows b) k d) b w (row_edge rows es (get_or (row_of rows b) k d) b h (k, lt, get_or_default (row_of rows b) k (get_or (row_of rows b) k d) d lt))).0

pub ruleset graph_laws = (leads_by, by_leads, rows_into)

pub leads_both : (rows given : List (Vec ℕ)) (es edges : Edges) (marks all : List Bool) → given ≡ rows → es ≡ edges → IsWithin (length rows) es → ((b : ℕ) → b < length rows → row_of rows b ≡ sources es b) → ((a : ℕ) → IsMarked all a ↔ LeadsBy (row_of given) marks a) → (a : ℕ) → IsMarked all a ↔ LeadsToMarked edges marks a
leads_both rows given es edges marks all r e w h k a = (
  λ m. subst (λ (x : Edges). LeadsToMarked x marks a) e (by_leads rows es marks h a (subst (λ (x : List (Vec ℕ)). LeadsBy (row_of x) marks a) r ((k a).0 m))),
  λ l. (k a).1 (subst (λ (x : List (Vec ℕ)). LeadsBy (row_of x) marks a) (sym r) (leads_by rows es marks w h a (subst (λ (x : Edges). LeadsToMarked x marks a) (sym e) l))),
)
