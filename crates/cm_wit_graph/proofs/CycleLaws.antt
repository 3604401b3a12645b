-- What ranks show, and the search for the first node on a cycle.
use Rattle.std.proofs.Common.{◌≡◌, ◌↔◌, ℕ, zero, suc, ◌+◌, ◌<◌, ◌≤◌, Bool, true, false, ◌⊎◌, inl, inr, List, [], ◌∷◌, ◌++◌, length, take, get_or, refl, sym, ap, subst, ◌∙◌, arith, All, Option, Some, None}
use Rattle.std.proofs.lemmas.List.{get_or_default}
use Rattle.std.proofs.lemmas.Bool.{cases_eq}
use Rattle.std.specs.List.{Contains}
use Rattle.cm_wit_graph.specs.Graphs.{Edges, HasEdge, IsWithin, Walk, Leads, ReachesItself, IsMarked, LeadsToMarked, NoneBelow, IsFirstOnCycle}

-- Of the first edges no rank falls, and from below the candidate each rises.
pub record Rises (es : Edges) (ranks : List ℕ) (i least : ℕ) : Type 0 where
  pub never : (k : ℕ) → k < i → k < length es → get_or ranks (get_or es k (0, 0)).0 0 ≤ get_or ranks (get_or es k (0, 0)).1 0
  pub below : (k : ℕ) → k < i → k < length es → (get_or es k (0, 0)).0 < least → get_or ranks (get_or es k (0, 0)).0 0 < get_or ranks (get_or es k (0, 0)).1 0

pub rises_none : (es : Edges) (ranks : List ℕ) (least : ℕ) → Rises es ranks 0 least
rises_none es ranks least = record { never = λ k lt in_list. absurd (omega (arith, lt)); below = λ k lt in_list less. absurd (omega (arith, lt)) }

pub rises_more : (es : Edges) (ranks : List ℕ) (i least next : ℕ) → Rises es ranks i least → next ≤ least → get_or ranks (get_or es i (0, 0)).0 0 ≤ get_or ranks (get_or es i (0, 0)).1 0 → ((get_or es i (0, 0)).0 < next → get_or ranks (get_or es i (0, 0)).0 0 < get_or ranks (get_or es i (0, 0)).1 0) → Rises es ranks (i + 1) next
rises_more es ranks i least next r le here there = record {
  never = λ k lt in_list. elim (cases_eq k i) [
    | inl e ↦ subst (λ (j : ℕ). get_or ranks (get_or es j (0, 0)).0 0 ≤ get_or ranks (get_or es j (0, 0)).1 0) (sym e) here
    | inr n ↦ r.never k (omega (arith, lt, n)) in_list
  ];
  below = λ k lt in_list less. elim (cases_eq k i) [
    | inl e ↦ subst (λ (j : ℕ). (get_or es j (0, 0)).0 < next → get_or ranks (get_or es j (0, 0)).0 0 < get_or ranks (get_or es j (0, 0)).1 0) (sym e) there less
    | inr n ↦ r.below k (omega (arith, lt, n)) in_list (omega (arith, less, le))
  ];
}

edge_at : (es : Edges) (a b : ℕ) → HasEdge es a b → (k : ℕ) × (k < length es) × ((get_or es k (0, 0)).0 ≡ a) × ((get_or es k (0, 0)).1 ≡ b)
edge_at es a b c =
    let same : get_or es c.0 (0, 0) ≡ (a, b) = get_or_default es c.0 (0, 0) (a, b) c.1 ∙ c.2 in
    (c.0, c.1, ap (λ (e : ℕ × ℕ). e.0) same, ap (λ (e : ℕ × ℕ). e.1) same)

step_rises : (es : Edges) (ranks : List ℕ) (least : ℕ) → Rises es ranks (length es) least → (a b : ℕ) → HasEdge es a b → get_or ranks a 0 ≤ get_or ranks b 0
step_rises es ranks least r a b c =
    let e = edge_at es a b c in
    subst (λ (x : ℕ). get_or ranks x 0 ≤ get_or ranks b 0) e.2 (subst (λ (y : ℕ). get_or ranks (get_or es e.0 (0, 0)).0 0 ≤ get_or ranks y 0) e.3 (r.never e.0 e.1 e.1))

first_rises : (es : Edges) (ranks : List ℕ) (least : ℕ) → Rises es ranks (length es) least → (a b : ℕ) → a < least → HasEdge es a b → get_or ranks a 0 < get_or ranks b 0
first_rises es ranks least r a b less c =
    let e = edge_at es a b c in
    let low : (get_or es e.0 (0, 0)).0 < least = omega (arith, less, e.2) in
    subst (λ (x : ℕ). get_or ranks x 0 < get_or ranks b 0) e.2 (subst (λ (y : ℕ). get_or ranks (get_or es e.0 (0, 0)).0 0 < get_or ranks y 0) e.3 (r.below e.0 e.1 e.1 low))

walk_rises : (es : Edges) (ranks : List ℕ) (least : ℕ) → Rises es ranks (length es) least → (n : ℕ) (a b : ℕ) → Walk es a b n → get_or ranks a 0 ≤ get_or ranks b 0
walk_rises es ranks least r zero a b w = omega (arith, ap (λ (x : ℕ). get_or ranks x 0) w)
walk_rises es ranks least r (suc n) a b w = omega (arith, step_rises es ranks least r a w.0 w.1, walk_rises es ranks least r n w.0 b w.2)

pub ranks_show : (es : Edges) (ranks : List ℕ) (i least : ℕ) → Rises es ranks i least → length es ≤ i → NoneBelow es least
ranks_show es ranks i least r le a lt cycle =
    let all : Rises es ranks (length es) least = record { never = λ k q in_list. r.never k (omega (arith, q, le)) in_list; below = λ k q in_list less. r.below k (omega (arith, q, le)) in_list less } in
    omega (arith, first_rises es ranks least all a cycle.1.0 lt cycle.1.1, walk_rises es ranks least all cycle.0 cycle.1.0 a cycle.1.2)

pub none_below_zero : (es : Edges) → NoneBelow es 0
none_below_zero es a lt cycle = absurd (omega (arith, lt))

pub ruleset rank_laws = (rises_none, rises_more, ranks_show, none_below_zero)

-- ---- a search from one node

-- none of the first edges leads from a node to a marked one
pub record NoTarget (es : Edges) (node i : ℕ) (marks : List Bool) : Type 0 where
  pub none : (k : ℕ) → k < i → k < length es → (get_or es k (0, 0)).0 ≡ node → IsMarked marks (get_or es k (0, 0)).1 → ⊥

pub no_target_none : (es : Edges) (node : ℕ) (marks : List Bool) → NoTarget es node 0 marks
no_target_none es node marks = record { none = λ k lt in_list e m. omega (arith, lt) }

pub no_target_more : (es : Edges) (node i : ℕ) (marks : List Bool) → NoTarget es node i marks → ((get_or es i (0, 0)).0 ≡ node → IsMarked marks (get_or es i (0, 0)).1 → ⊥) → NoTarget es node (i + 1) marks
no_target_more es node i marks n h = record {
  none = λ k lt in_list e m. elim (cases_eq k i) [
    | inl q ↦ h (subst (λ (j : ℕ). (get_or es j (0, 0)).0 ≡ node) q e) (subst (λ (j : ℕ). IsMarked marks (get_or es j (0, 0)).1) q m)
    | inr d ↦ n.none k (omega (arith, lt, d)) in_list e m
  ];
}

pub no_target_all : (es : Edges) (node i : ℕ) (marks : List Bool) → NoTarget es node i marks → length es ≤ i → (b : ℕ) → HasEdge es node b → IsMarked marks b → ⊥
no_target_all es node i marks n le b c m =
    let e = edge_at es node b c in
    n.none e.0 (omega (arith, e.1, le)) e.1 e.2 (subst (λ (y : ℕ). IsMarked marks y) (sym e.3) m)

pub target_at : (es : Edges) (node i : ℕ) (marks : List Bool) → i < length es → (get_or es i (0, 0)).0 ≡ node → IsMarked marks (get_or es i (0, 0)).1 → (b : ℕ) × HasEdge es node b × IsMarked marks b
target_at es node i marks lt e m =
    let b = (get_or es i (0, 0)).1 in
    (b, (i, lt, get_or_default es i (node, b) (0, 0) lt ∙ rw (← e) refl), m)

pub ruleset target_laws = (no_target_none, no_target_more, no_target_all, target_at)

-- one node is marked
pub record OnlyMarked (marks : List Bool) (node : ℕ) : Type 0 where
  pub here : IsMarked marks node
  pub only : (a : ℕ) → IsMarked marks a → a ≡ node

pub reaches_by_target : (es : Edges) (marks all : List Bool) (node : ℕ) → OnlyMarked marks node → ((a : ℕ) → IsMarked all a ↔ LeadsToMarked es marks a) → ((b : ℕ) × HasEdge es node b × IsMarked all b) ↔ ReachesItself es node
reaches_by_target es marks all node o h = (
  λ t. let l = (h t.0).0 t.2 in (l.1.0, (t.0, t.1, subst (λ (y : ℕ). Walk es t.0 y l.1.0) (o.only l.0 l.2) l.1.1)),
  λ r. (r.1.0, r.1.1, (h r.1.0).1 (node, (r.0, r.1.2), o.here)),
)

-- ---- the search for the first one

pub none_below_more : (es : Edges) (n : ℕ) → NoneBelow es n → (ReachesItself es n → ⊥) → NoneBelow es (n + 1)
none_below_more es n none here a lt r = elim (cases_eq a n) [
  | inl e ↦ here (subst (λ (x : ℕ). ReachesItself es x) e r)
  | inr d ↦ none a (omega (arith, lt, d)) r
]

pub none_at_all : (es : Edges) (nodes n : ℕ) → IsWithin nodes es → NoneBelow es n → nodes ≤ n → (a : ℕ) → ReachesItself es a → ⊥
none_at_all es nodes n w none le a r =
    let e = edge_at es a r.1.0 r.1.1 in
    none a (omega (arith, (w e.0 (0, 0) e.1).0, e.2, le)) r

pub ruleset search_laws = (none_below_more, none_at_all)
