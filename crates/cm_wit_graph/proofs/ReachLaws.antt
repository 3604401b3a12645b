-- What is reached.
use Rattle.std.proofs.Common.{◌≡◌, ◌↔◌, ℕ, zero, suc, ◌+◌, ◌<◌, ◌≤◌, inl, inr, Bool, true, false, ◌||◌, List, [], ◌∷◌, length, map, get_or, Option, Some, None, refl, sym, ap, subst, ◌∙◌, arith, is_some, is_none}
use Rattle.std.specs.List.{list_any, Contains}
use Rattle.std.specs.Global.{Vec}
use Rattle.std.proofs.lemmas.Bool.{cases_eq, cases_lt}
use Rattle.std.proofs.lemmas.List.{get_or-map, length-map}
use Rattle.cm_wit_graph.specs.Graphs.{Edges, HasEdge, Walk, ReachesItself, IsMarked, LeadsToMarked, IsFirstOnCycle}
use Rattle.cm_wit_graph.specs.Marked.{marked_edges}
use Rattle.cm_wit_graph.specs.Reach.{Rows, IsReached, HasCycle, HasMissing, used_by, row_at}
use Rattle.cm_wit_graph.proofs.EdgeLaws.{kept_from, kept_to, kept_within, used_within}
use Rattle.cm_lemmas.proofs.Bools.{false_not_true}

-- ---- paths that lead nowhere

pub record NoMissing (rows : List (Vec (Option ℕ))) (marks : List Bool) (i : ℕ) : Type 0 where
  pub none : (k : ℕ) → k < i → IsMarked marks k → list_any is_none (row_at (map (λ r. r.items) rows) k) ≡ true → ⊥

pub no_missing_start : (rows : List (Vec (Option ℕ))) (marks : List Bool) → NoMissing rows marks 0
no_missing_start rows marks = record { none = λ k lt m e. omega (arith, lt) }

row_is : (rows : List (Vec (Option ℕ))) (i : ℕ) (row : Vec (Option ℕ)) → i < length rows → row ≡ get_or rows i row → row_at (map (λ r. r.items) rows) i ≡ row.items
row_is rows i row lt e = get_or-map (λ r. r.items) rows i row [] lt ∙ ap (λ (r : Vec (Option ℕ)). r.items) (sym e)

pub no_missing_next : (rows : List (Vec (Option ℕ))) (marks : List Bool) (i : ℕ) (row : Vec (Option ℕ)) → i < length rows → row ≡ get_or rows i row → (IsMarked marks i → list_any is_none row.items ≡ true → ⊥) → NoMissing rows marks i → NoMissing rows marks (i + 1)
no_missing_next rows marks i row lt e off n = record {
  none = λ k less m q. elim (cases_eq k i) [
    | inl same ↦ off (subst (λ (x : ℕ). IsMarked marks x) same m) (sym (ap (list_any is_none) (row_is rows i row lt e)) ∙ subst (λ (x : ℕ). list_any is_none (row_at (map (λ r. r.items) rows) x) ≡ true) same q)
    | inr d ↦ n.none k (omega (arith, less, d)) m q
  ];
}

pub missing_here : (rows : List (Vec (Option ℕ))) (marks : List Bool) (i : ℕ) (row : Vec (Option ℕ)) → i < length rows → row ≡ get_or rows i row → IsMarked marks i → list_any is_none row.items ≡ true → (k : ℕ) × IsMarked marks k × (list_any is_none (row_at (map (λ r. r.items) rows) k) ≡ true)
missing_here rows marks i row lt e m q = (i, m, ap (list_any is_none) (row_is rows i row lt e) ∙ q)

past : (rows : Rows) (k : ℕ) → length rows ≤ k → row_at rows k ≡ []
past [] zero le = refl
past [] (suc k) le = refl
past (r ∷ rows) zero le = absurd (omega (arith, le))
past (r ∷ rows) (suc k) le = past rows k (omega (arith, le))

pub no_missing_end : (rows : List (Vec (Option ℕ))) (marks : List Bool) (i : ℕ) → length rows ≤ i → NoMissing rows marks i → ((k : ℕ) × IsMarked marks k × (list_any is_none (row_at (map (λ r. r.items) rows) k) ≡ true)) → ⊥
no_missing_end rows marks i le n (k, m, q) = elim (cases_lt k i) [
  | inl lt ↦ n.none k lt m q
  | inr more ↦ false_not_true (sym (ap (list_any is_none) (past (map (λ r. r.items) rows) k (omega (arith, more, le, length-map rows (λ (r : Vec (Option ℕ)). r.items))))) ∙ q)
]

pub ruleset missing_laws = (no_missing_start, no_missing_next, missing_here, no_missing_end)

-- ---- cycles

abbrev Reached : Edges → List Bool → List Bool → Type 0
Reached es starts marks = (a : ℕ) → IsMarked marks a ↔ LeadsToMarked es starts a

-- a node that leads to a marked one by an edge is marked
step_marked : (es : Edges) (starts marks : List Bool) → Reached es starts marks → (a b : ℕ) → HasEdge es a b → IsMarked marks b → IsMarked marks a
step_marked es starts marks r a b e m = let l = (r b).0 m in (r a).1 (l.0, (suc l.1.0, (b, e, l.1.1)), l.2)

walk_marked : (es : Edges) (starts marks : List Bool) → Reached es starts marks → (n a k : ℕ) → Walk es a k n → IsMarked marks k → IsMarked marks a
walk_marked es starts marks r zero a k w m = subst (λ (x : ℕ). IsMarked marks x) (sym w) m
walk_marked es starts marks r (suc n) a k (c, e, w) m = step_marked es starts marks r a c e (walk_marked es starts marks r n c k w m)

kept_walk : (es : Edges) (starts marks : List Bool) → Reached es starts marks → (n a k : ℕ) → Walk es a k n → IsMarked marks k → Walk (marked_edges marks es) a k n
kept_walk es starts marks r zero a k w m = w
kept_walk es starts marks r (suc n) a k (c, e, w) m = (c, kept_to marks es (a, c) e (walk_marked es starts marks r n c k w m), kept_walk es starts marks r n c k w m)

plain_walk : (es : Edges) (marks : List Bool) → (n a k : ℕ) → Walk (marked_edges marks es) a k n → Walk es a k n
plain_walk es marks zero a k w = w
plain_walk es marks (suc n) a k (c, e, w) = (c, (kept_from marks es (a, c) e).0, plain_walk es marks n c k w)

kept_cycle : (es : Edges) (starts marks : List Bool) → Reached es starts marks → (k : ℕ) → ReachesItself (marked_edges marks es) k → IsMarked marks k × ReachesItself es k
kept_cycle es starts marks r k (n, (c, e, w)) =
    let p = kept_from marks es (k, c) e in
    (step_marked es starts marks r k c p.0 p.1, (n, (c, p.0, plain_walk es marks n c k w)))

pub cycle_found : (es : Edges) (starts marks : List Bool) (first : Option ℕ) → IsFirstOnCycle (marked_edges marks es) first → ((a : ℕ) → IsMarked marks a ↔ LeadsToMarked es starts a) → is_some first ≡ true → (k : ℕ) × IsMarked marks k × ReachesItself es k
cycle_found es starts marks None f r e = absurd (false_not_true e)
cycle_found es starts marks (Some k) f r e = let c = kept_cycle es starts marks r k f.0 in (k, c.0, c.1)

pub cycle_seen : (es : Edges) (starts marks : List Bool) (first : Option ℕ) → IsFirstOnCycle (marked_edges marks es) first → ((a : ℕ) → IsMarked marks a ↔ LeadsToMarked es starts a) → ((k : ℕ) × IsMarked marks k × ReachesItself es k) → is_some first ≡ true
cycle_seen es starts marks None f r (k, m, (n, w)) = absurd (f k (n, kept_walk es starts marks r (suc n) k k w m))
cycle_seen es starts marks (Some k) f r c = refl

pub ruleset cycle_laws = (kept_within)

-- ---- all of it

pub is_reached : (rows : Rows) (named : List (Option ℕ)) (starts marks : List Bool) → ((k : ℕ) → IsMarked starts k ↔ ((k < length rows) × Contains named (Some k))) → ((a : ℕ) → IsMarked marks a ↔ LeadsToMarked (used_by rows) starts a) → (k : ℕ) → IsMarked marks k ↔ IsReached rows named k
is_reached rows named starts marks s r k = (
  λ m. let l = (r k).0 m in (l.0, l.1, (s l.0).0 l.2),
  λ m. (r k).1 (m.0, m.1, (s m.0).1 m.2),
)

pub is_missing : (rows : Rows) (named : List (Option ℕ)) (marks : List Bool) (b : Bool) → ((k : ℕ) → IsMarked marks k ↔ IsReached rows named k) → (b ≡ true) ↔ ((k : ℕ) × IsMarked marks k × (list_any is_none (row_at rows k) ≡ true)) → (a : Bool) → list_any is_none named ≡ a → ((a || b) ≡ true) ↔ HasMissing rows named
is_missing rows named marks b r h true e = (λ t. inl e, λ m. refl)
is_missing rows named marks b r h false e = (
  λ t. let x = h.0 t in inr (x.0, (r x.0).0 x.1, x.2),
  λ m. elim m [
    | inl q ↦ absurd (false_not_true (sym e ∙ q))
    | inr x ↦ h.1 (x.0, (r x.0).1 x.1, x.2)
  ],
)

pub is_cyclic : (rows : Rows) (named : List (Option ℕ)) (marks : List Bool) (b : Bool) → ((k : ℕ) → IsMarked marks k ↔ IsReached rows named k) → (b ≡ true) ↔ ((k : ℕ) × IsMarked marks k × ReachesItself (used_by rows) k) → (b ≡ true) ↔ HasCycle rows named
is_cyclic rows named marks b r h = (
  λ t. let x = h.0 t in (x.0, (r x.0).0 x.1, x.2),
  λ x. h.1 (x.0, (r x.0).1 x.1, x.2),
)

pub ruleset reach_laws = (used_within)
