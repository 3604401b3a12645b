-- Edges and marks, made part by part.
use Rattle.std.proofs.Common.{◌≡◌, ◌↔◌, ℕ, zero, suc, ◌+◌, ◌<◌, ◌≤◌, inl, inr, Bool, true, false, nat_lt, cond, if◌then◌else◌, List, [], ◌∷◌, ◌++◌, length, map, drop, get_or, Option, Some, None, refl, sym, ap, subst, ◌∙◌, append_assoc, append-nil, arith, All}
use Rattle.std.proofs.Math.ListN.{set, replicate}
use Rattle.std.specs.List.{filter_map, cons_option, Contains}
use Rattle.std.proofs.lemmas.Bool.{cases_eq}
use Rattle.std.proofs.lemmas.Bool.Decides.{nat_tests}
use Rattle.std.proofs.lemmas.List.{drop_all, get_or-set_same, get_or-set_other, get_or_default, length-set}
use Rattle.cm_wit_graph.specs.Graphs.{Edges, IsMarked, IsWithin}
use Rattle.cm_wit_graph.specs.Marked.{marked_edges}
use Rattle.cm_wit_graph.specs.Reach.{Rows, edge, edges_from, used_by}
use Rattle.cm_lemmas.proofs.Lists.{all_cons, cons_in, rest_from, head_in, in_cons, next_element}
use Rattle.cm_lemmas.proofs.Numbers.{less_of}
use Rattle.cm_lemmas.proofs.Options.{some_number}
use Rattle.cm_lemmas.proofs.Bools.{true_not_false}

-- These stand there, and what is found in the rest makes all.
pub record Finds {A D : Type 0} (h : A → Option D) (xs : List A) (i : ℕ) (start out : List D) : Type 0 where
  pub is : out ++ filter_map h (drop i xs) ≡ start ++ filter_map h xs

pub finds_none : {A D : Type 0} (h : A → Option D) (xs : List A) (start : List D) → Finds h xs 0 start start
finds_none h xs start = record { is = refl }

pub finds_some : {A D : Type 0} (h : A → Option D) (xs : List A) (i : ℕ) (start out : List D) (x : A) (c : D) → i < length xs → x ≡ get_or xs i x → h x ≡ Some c → Finds h xs i start out → Finds h xs (i + 1) start (out ++ c ∷ [])
finds_some {A} {D} h xs i start out x c lt e s f = record {
  is = append_assoc out (c ∷ []) (filter_map h (drop (i + 1) xs))
      ∙ (sym (ap (λ (o : Option D). out ++ cons_option o (filter_map h (drop (i + 1) xs))) s)
      ∙ (sym (ap (λ (ys : List A). out ++ filter_map h ys) (rest_from xs i x lt e)) ∙ f.is));
}

pub finds_not : {A D : Type 0} (h : A → Option D) (xs : List A) (i : ℕ) (start out : List D) (x : A) → i < length xs → x ≡ get_or xs i x → h x ≡ None → Finds h xs i start out → Finds h xs (i + 1) start out
finds_not {A} {D} h xs i start out x lt e s f = record {
  is = sym (ap (λ (o : Option D). out ++ cons_option o (filter_map h (drop (i + 1) xs))) s) ∙ (sym (ap (λ (ys : List A). out ++ filter_map h ys) (rest_from xs i x lt e)) ∙ f.is);
}

pub finds_all : {A D : Type 0} (h : A → Option D) (xs : List A) (i : ℕ) (start out : List D) → length xs ≤ i → Finds h xs i start out → out ≡ start ++ filter_map h xs
finds_all {A} {D} h xs i start out le f = sym (append-nil out) ∙ (sym (ap (λ (ys : List A). out ++ filter_map h ys) (drop_all i xs le)) ∙ f.is)

-- the edge from an interface that is used
pub edge_inside : (count number used : ℕ) → used < count → edge count number (Some used) ≡ Some (used, number)
edge_inside count number used lt =
    let e : nat_lt used count ≡ true = grind (arith, nat_tests) in
    ap (λ (b : Bool). if b then Some (used, number) else None) e

pub edge_outside : (count number used : ℕ) → count ≤ used → edge count number (Some used) ≡ None
edge_outside count number used le =
    let e : nat_lt used count ≡ false = grind (arith, nat_tests) in
    ap (λ (b : Bool). if b then Some (used, number) else None) e

pub ruleset part_laws = (finds_none, finds_some, finds_not, finds_all)

-- The edges to the first interfaces, and those to the rest, make all.
pub record Joins {A : Type 0} (view : A → List (Option ℕ)) (count : ℕ) (xs : List A) (i : ℕ) (out : Edges) : Type 0 where
  pub is : out ++ edges_from count i (map view (drop i xs)) ≡ edges_from count 0 (map view xs)

pub joins_none : {A : Type 0} (view : A → List (Option ℕ)) (count : ℕ) (xs : List A) → Joins view count xs 0 []
joins_none view count xs = record { is = refl }

pub joins_next : {A : Type 0} (view : A → List (Option ℕ)) (count : ℕ) (xs : List A) (i : ℕ) (out next : Edges) (x : A) → i < length xs → x ≡ get_or xs i x → next ≡ out ++ filter_map (edge count i) (view x) → Joins view count xs i out → Joins view count xs (i + 1) next
joins_next {A} view count xs i out next x lt e s f = record {
  is = ap (λ (l : Edges). l ++ edges_from count (i + 1) (map view (drop (i + 1) xs))) s
      ∙ (append_assoc out (filter_map (edge count i) (view x)) (edges_from count (i + 1) (map view (drop (i + 1) xs)))
      ∙ (sym (ap (λ (ys : List (List (Option ℕ))). out ++ edges_from count i ys) (next_element view xs i x lt e)) ∙ f.is));
}

pub joins_all : {A : Type 0} (view : A → List (Option ℕ)) (count : ℕ) (xs : List A) (i : ℕ) (out : Edges) → length xs ≤ i → Joins view count xs i out → out ≡ edges_from count 0 (map view xs)
joins_all {A} view count xs i out le f = sym (append-nil out) ∙ (sym (ap (λ (ys : List A). out ++ edges_from count i (map view ys)) (drop_all i xs le)) ∙ f.is)

pub ruleset edge_laws = (joins_none, joins_next, joins_all)

-- ---- marks

-- The interfaces are marked that the first names name.
pub record Marks (count : ℕ) (named : List (Option ℕ)) (i : ℕ) (marks : List Bool) : Type 0 where
  pub size : length marks ≡ count
  pub sound : (k : ℕ) → IsMarked marks k → (k < count) × Contains named (Some k)
  pub all : (k j : ℕ) → k < count → j < i → j < length named → get_or named j None ≡ Some k → IsMarked marks k

none_marked : (count k : ℕ) (marks : List Bool) → ((d : Bool) → get_or marks k d ≡ true → ⊥) → IsMarked marks k → ⊥
none_marked count k marks h m = h false m

pub marks_start : (count : ℕ) (named : List (Option ℕ)) (marks : List Bool) → length marks ≡ count → ((k : ℕ) → IsMarked marks k → ⊥) → Marks count named 0 marks
marks_start count named marks size off = record {
  size = size;
  sound = λ k m. absurd (off k m);
  all = λ k j lt before within e. absurd (omega (arith, before));
}

pub marks_skip : (count : ℕ) (named : List (Option ℕ)) (i : ℕ) (marks : List Bool) → ((k : ℕ) → k < count → get_or named i None ≡ Some k → ⊥) → Marks count named i marks → Marks count named (i + 1) marks
marks_skip count named i marks skip m = record {
  size = m.size;
  sound = m.sound;
  all = λ k j lt before within e. elim (cases_eq j i) [
    | inl q ↦ absurd (skip k lt (subst (λ (x : ℕ). get_or named x None ≡ Some k) q e))
    | inr d ↦ m.all k j lt (omega (arith, before, d)) within e
  ];
}

pub set_marked : (marks : List Bool) (n k : ℕ) → n < length marks → IsMarked marks k → IsMarked (set marks n true) k
set_marked marks n k lt m = elim (cases_eq k n) [
  | inl e ↦ ap (λ (b : ℕ). get_or (set marks n true) b false) e ∙ get_or-set_same marks n true false lt
  | inr d ↦ get_or-set_other marks n k true false d ∙ m
]

pub marks_set : (count : ℕ) (named : List (Option ℕ)) (i n : ℕ) (marks : List Bool) → i < length named → get_or named i None ≡ Some n → n < count → Marks count named i marks → Marks count named (i + 1) (set marks n true)
marks_set count named i n marks lt is small m = record {
  size = length-set marks n true ∙ m.size;
  sound = λ k q. elim (cases_eq k n) [
    | inl e ↦ (omega (arith, small, e), (i, lt, get_or_default named i (Some k) None lt ∙ (is ∙ ap Some (sym e))))
    | inr d ↦ m.sound k (sym (get_or-set_other marks n k true false d) ∙ q)
  ];
  all = λ k j low before within e. elim (cases_eq j i) [
    | inl q ↦ subst (λ (x : ℕ). IsMarked (set marks n true) x) (some_number n k (sym is ∙ subst (λ (x : ℕ). get_or named x None ≡ Some k) q e)) (get_or-set_same marks n true false (omega (arith, small, m.size)))
    | inr d ↦ set_marked marks n k (omega (arith, small, m.size)) (m.all k j low (omega (arith, before, d)) within e)
  ];
}

pub marks_end : (count : ℕ) (named : List (Option ℕ)) (i : ℕ) (marks : List Bool) → length named ≤ i → Marks count named i marks → (k : ℕ) → IsMarked marks k ↔ ((k < count) × Contains named (Some k))
marks_end count named i marks le m k = (
  λ q. m.sound k q,
  λ q. m.all k q.1.0 q.0 (omega (arith, q.1.1, le)) q.1.1 (get_or_default named q.1.0 None (Some k) q.1.1 ∙ q.1.2),
)

replicate_off : (n k : ℕ) → IsMarked (replicate n false) k → ⊥
replicate_off zero zero m = absurd (true_not_false m)
  where
    true_not_false : false ≡ true → ⊥
    true_not_false e = cc
replicate_off zero (suc k) m = absurd (true_not_false m)
  where
    true_not_false : false ≡ true → ⊥
    true_not_false e = cc
replicate_off (suc n) zero m = absurd (true_not_false m)
  where
    true_not_false : false ≡ true → ⊥
    true_not_false e = cc
replicate_off (suc n) (suc k) m = replicate_off n k m

pub marks_off : (n : ℕ) (k : ℕ) → IsMarked (replicate n false) k → ⊥
marks_off n k m = replicate_off n k m

pub ruleset name_laws = (marks_start, marks_end, marks_off)

-- ---- edges to marked nodes

kept_by : (marks : List Bool) (e : ℕ × ℕ) (es : Edges) (b : Bool) → get_or marks e.1 false ≡ b → marked_edges marks (e ∷ es) ≡ cond b (e ∷ marked_edges marks es) (marked_edges marks es)
kept_by marks e es true q = ap (λ (c : Bool). cons_option (if c then Some e else None) (marked_edges marks es)) q
kept_by marks e es false q = ap (λ (c : Bool). cons_option (if c then Some e else None) (marked_edges marks es)) q

from_by : (marks : List Bool) (e x : ℕ × ℕ) (es : Edges) (b : Bool) → get_or marks e.1 false ≡ b → Contains (marked_edges marks (e ∷ es)) x → (Contains (marked_edges marks es) x → Contains es x × IsMarked marks x.1) → Contains (e ∷ es) x × IsMarked marks x.1
from_by marks e x es true q c rest = elim (in_cons x e (marked_edges marks es) (subst (λ (l : Edges). Contains l x) (kept_by marks e es true q) c)) [
  | inl same ↦ (head_in x e es same, subst (λ (y : ℕ × ℕ). IsMarked marks y.1) same q)
  | inr d ↦ let p = rest d in (cons_in x e es p.0, p.1)
]
from_by marks e x es false q c rest = let p = rest (subst (λ (l : Edges). Contains l x) (kept_by marks e es false q) c) in (cons_in x e es p.0, p.1)

pub kept_from : (marks : List Bool) (es : Edges) (x : ℕ × ℕ) → Contains (marked_edges marks es) x → Contains es x × IsMarked marks x.1
kept_from marks [] x c = absurd (omega (arith, c.1))
kept_from marks (e ∷ es) x c = from_by marks e x es (get_or marks e.1 false) refl c (kept_from marks es x)

to_by : (marks : List Bool) (e x : ℕ × ℕ) (es : Edges) (b : Bool) → get_or marks e.1 false ≡ b → Contains (e ∷ es) x → IsMarked marks x.1 → (Contains es x → Contains (marked_edges marks es) x) → Contains (marked_edges marks (e ∷ es)) x
to_by marks e x es true q c m rest = subst (λ (l : Edges). Contains l x) (sym (kept_by marks e es true q)) (elim (in_cons x e es c) [
  | inl same ↦ head_in x e (marked_edges marks es) same
  | inr d ↦ cons_in x e (marked_edges marks es) (rest d)
])
to_by marks e x es false q c m rest = subst (λ (l : Edges). Contains l x) (sym (kept_by marks e es false q)) (elim (in_cons x e es c) [
  | inl same ↦ absurd (true_not_false (sym (subst (λ (y : ℕ × ℕ). IsMarked marks y.1) (sym same) m) ∙ q))
  | inr d ↦ rest d
])

pub kept_to : (marks : List Bool) (es : Edges) (x : ℕ × ℕ) → Contains es x → IsMarked marks x.1 → Contains (marked_edges marks es) x
kept_to marks [] x c m = absurd (omega (arith, c.1))
kept_to marks (e ∷ es) x c m = to_by marks e x es (get_or marks e.1 false) refl c m (λ d. kept_to marks es x d m)

all_tail : {A : Type 0} (P : A → Type 0) (x : A) (xs : List A) → All P (x ∷ xs) → All P xs
all_tail P x xs h k d lt = h (suc k) d (omega (arith, lt))

within_by : (nodes : ℕ) (marks : List Bool) (e : ℕ × ℕ) (es : Edges) (b : Bool) → get_or marks e.1 false ≡ b → (e.0 < nodes) × (e.1 < nodes) → IsWithin nodes (marked_edges marks es) → IsWithin nodes (marked_edges marks (e ∷ es))
within_by nodes marks e es true q p rest = subst (λ (l : Edges). IsWithin nodes l) (sym (kept_by marks e es true q)) (all_cons (λ (x : ℕ × ℕ). (x.0 < nodes) × (x.1 < nodes)) e (marked_edges marks es) p rest)
within_by nodes marks e es false q p rest = subst (λ (l : Edges). IsWithin nodes l) (sym (kept_by marks e es false q)) rest

pub kept_within : (nodes : ℕ) (marks : List Bool) (es : Edges) → IsWithin nodes es → IsWithin nodes (marked_edges marks es)
kept_within nodes marks [] w = w
kept_within nodes marks (e ∷ es) w = within_by nodes marks e es (get_or marks e.1 false) refl (w 0 e (omega arith)) (kept_within nodes marks es (all_tail (λ (x : ℕ × ℕ). (x.0 < nodes) × (x.1 < nodes)) e es w))

-- ---- the edges are between interfaces

all_append : {A : Type 0} (P : A → Type 0) (xs ys : List A) → All P xs → All P ys → All P (xs ++ ys)
all_append P [] ys p q = q
all_append P (x ∷ xs) ys p q = all_cons P x (xs ++ ys) (p 0 x (omega arith)) (all_append P xs ys (all_tail P x xs p) q)

abbrev Inside : ℕ → ℕ × ℕ → Type 0
Inside count e = (e.0 < count) × (e.1 < count)

none_inside : (count : ℕ) → IsWithin count []
none_inside count k d lt = absurd (omega (arith, lt))

some_within : (count k j : ℕ) (rest : Edges) (b : Bool) → nat_lt j count ≡ b → k < count → IsWithin count rest → IsWithin count (cons_option (if nat_lt j count then Some (j, k) else None) rest)
some_within count k j rest true e lt w = subst (λ (b : Bool). IsWithin count (cons_option (if b then Some (j, k) else None) rest)) (sym e) (all_cons (Inside count) (j, k) rest (less_of j count e, lt) w)
some_within count k j rest false e lt w = subst (λ (b : Bool). IsWithin count (cons_option (if b then Some (j, k) else None) rest)) (sym e) w

row_within : (count k : ℕ) (row : List (Option ℕ)) → k < count → IsWithin count (filter_map (edge count k) row)
row_within count k [] lt = none_inside count
row_within count k (None ∷ row) lt = row_within count k row lt
row_within count k (Some j ∷ row) lt = some_within count k j (filter_map (edge count k) row) (nat_lt j count) refl lt (row_within count k row lt)

edges_within : (count k : ℕ) (rows : Rows) → k + length rows ≡ count → IsWithin count (edges_from count k rows)
edges_within count k [] e = none_inside count
edges_within count k (row ∷ rows) e = all_append (Inside count) (filter_map (edge count k) row) (edges_from count (k + 1) rows) (row_within count k row (omega (arith, e))) (edges_within count (k + 1) rows (omega (arith, e)))

pub used_within : (rows : Rows) → IsWithin (length rows) (used_by rows)
used_within rows = edges_within (length rows) 0 rows (omega arith)
