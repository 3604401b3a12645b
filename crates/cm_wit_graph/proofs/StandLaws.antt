-- How a walk goes on.
use Rattle.std.proofs.Common.{◌≡◌, ◌≢◌, ℕ, zero, suc, ◌+◌, ◌<◌, ◌≤◌, ◌⊎◌, Bool, true, false, inl, inr, List, [], ◌∷◌, ◌++◌, Some, None, length, take, get_or, refl, sym, ap, subst, ◌∙◌, arith}
use Rattle.std.proofs.Math.ListN.{set, replicate}
use Rattle.std.proofs.Math.Seq.{take-append_seam}
use Rattle.std.specs.List.{All, Contains}
use Rattle.std.proofs.lemmas.List.{get_or-set_same, get_or-set_other, get_or_default, get_or_append_left, get_or_push, length-set, take-append-le}
use Rattle.std.proofs.lemmas.List.Elements.{Contains-append_left, Contains-push, Contains-push_cases, Contains-get_or, All-contains}
use Rattle.std.proofs.lemmas.Bool.{cases_eq, cases_lt}
use Rattle.cm_wit_graph.specs.Orders.{Needs, NeedsItself, IsWithin, IsRanked, IsBehind, IsOrder}
use Rattle.cm_wit_graph.specs.Walks.{AreSameNodes, IsOpenNeed, Entry, Standing, IsMarked, AreMet, AreMetBut, unmarked, Stands, Goes, IsSettled, IsThrough}
use Rattle.cm_wit_graph.proofs.RankLaws.{ranks, some_or_none}
use Rattle.cm_lemmas.proofs.Lists.{length_push, none_in}
use Rattle.cm_lemmas.proofs.Bools.{not_both}

self_there : {A : Type 0} (xs : List A) (i : ℕ) (d : A) → i < length xs → Contains xs (get_or xs i d)
self_there xs i d lt = Contains-get_or xs i d lt

unmarked-set : (marks : List Bool) (x : ℕ) → x < length marks → get_or marks x false ≡ false → suc (unmarked (set marks x true)) ≡ unmarked marks
unmarked-set [] x lt h = absurd (omega (arith, lt))
unmarked-set (true ∷ marks) zero lt h = absurd cc
unmarked-set (false ∷ marks) zero lt h = refl
unmarked-set (true ∷ marks) (suc x) lt h = unmarked-set marks x (omega (arith, lt)) h
unmarked-set (false ∷ marks) (suc x) lt h = ap suc (unmarked-set marks x (omega (arith, lt)) h)

-- ---- going on

pub goes_none : (s : Standing) → Goes s s
goes_none s = record { count = refl; needs = refl; longer = omega arith; kept = λ i lt. refl; waits = λ j e h. h; closed = λ j h. refl; work = refl }

pub kept_in : (s t : Standing) → Goes s t → (k : ℕ) → Contains s.order k → Contains t.order k
kept_in s t g k (i, lt, e) =
    let low : i < length t.order = omega (arith, lt, g.longer) in
    (i, low, get_or_default t.order i k 0 low ∙ (g.kept i lt ∙ (get_or_default s.order i 0 k lt ∙ e)))

pub goes_then : (s t u : Standing) → Goes s t → Goes t u → Goes s u
goes_then s t u g h = record {
  count = h.count ∙ g.count;
  needs = h.needs ∙ g.needs;
  longer = omega (arith, g.longer, h.longer);
  kept = λ i lt. h.kept i (omega (arith, lt, g.longer)) ∙ g.kept i lt;
  waits = λ j e c. h.waits j e (g.waits j e c);
  closed = λ j c. h.closed j (kept_in s t g j c) ∙ g.closed j c;
  work = h.work ∙ g.work;
}

pub settled_on : (s t : Standing) → Goes s t → (k : ℕ) → IsSettled s k → IsSettled t k
settled_on s t g k (inl c) = inl (kept_in s t g k c)
settled_on s t g k (inr (j, from, c)) = inr (j, from, g.waits j (k, from) c)

pub met_on : (s t : Standing) → Goes s t → (e : Entry) → AreMet s e → AreMet t e
met_on s t g e m i lt low =
    let same : t.needs e.0 ≡ s.needs e.0 = ap (λ (f : Needs). f e.0) g.needs in
    subst (λ (x : ℕ). Contains t.order x) (ap (λ (l : List ℕ). get_or l i 0) (sym same)) (kept_in s t g (get_or (s.needs e.0) i 0) (m i lt (subst (λ (l : List ℕ). i < length l) same low)))

-- ---- a node that is placed

behind_old : (needs : Needs) (order : List ℕ) (node i : ℕ) → IsBehind needs order → i < length order → All (Contains (take i (order ++ node ∷ []))) (needs (get_or (order ++ node ∷ []) i 0))
behind_old needs order node i b lt =
    rw (get_or_append_left order (node ∷ []) 0 i lt, take-append-le i order (node ∷ []) (omega (arith, lt))) (b i lt)

behind_last : (needs : Needs) (order : List ℕ) (node : ℕ) → All (Contains order) (needs node) → All (Contains (take (length order) (order ++ node ∷ []))) (needs (get_or (order ++ node ∷ []) (length order) 0))
behind_last needs order node a =
    rw (get_or_push order node 0 (length order) refl, take-append_seam order (node ∷ [])) a

behind_push : (needs : Needs) (order : List ℕ) (node : ℕ) → IsBehind needs order → All (Contains order) (needs node) → IsBehind needs (order ++ node ∷ [])
behind_push needs order node b a i lt = elim (cases_lt i (length order)) [
  | inl less ↦ behind_old needs order node i b less
  | inr le ↦ (let same : length order ≡ i = omega (arith, lt, le, length_push order node) in
      subst (λ (n : ℕ). All (Contains (take n (order ++ node ∷ []))) (needs (get_or (order ++ node ∷ []) n 0))) same (behind_last needs order node a))
]

module _ (s : Standing) (node : ℕ) (stands : Stands s) (below : node < s.count) (met : AreMet s (node, length (s.needs node))) (is_open : get_or s.placed node false ≡ false) where
  abbrev pub placed_now : Standing
  placed_now = record s { placed = set s.placed node true; order = s.order ++ node ∷ [] }

  in_marks : node < length s.placed
  in_marks = omega (arith, below, stands.placed_size)

  marked_there : (k : ℕ) → IsMarked (set s.placed node true) k → Contains (s.order ++ node ∷ []) k
  marked_there k m = elim (cases_eq k node) [
    | inl e ↦ subst (λ (x : ℕ). Contains (s.order ++ node ∷ []) x) (sym e) (Contains-push s.order node)
    | inr d ↦ Contains-append_left s.order (node ∷ []) k ((stands.placed k).0 (sym (get_or-set_other s.placed node k true false d) ∙ m))
  ]

  still_marked : (k : ℕ) → IsMarked s.placed k → IsMarked (set s.placed node true) k
  still_marked k m = elim (cases_eq k node) [
    | inl e ↦ ap (λ (x : ℕ). get_or (set s.placed node true) x false) e ∙ get_or-set_same s.placed node true false in_marks
    | inr d ↦ get_or-set_other s.placed node k true false d ∙ m
  ]

  there_marked : (k : ℕ) → Contains (s.order ++ node ∷ []) k → IsMarked (set s.placed node true) k
  there_marked k c = elim (Contains-push_cases s.order node k c) [
    | inl h ↦ still_marked k ((stands.placed k).1 h)
    | inr e ↦ subst (λ (x : ℕ). IsMarked (set s.placed node true) x) e (get_or-set_same s.placed node true false in_marks)
  ]

  all_met : All (Contains s.order) (s.needs node)
  all_met k d lt = subst (λ (x : ℕ). Contains s.order x) (get_or_default (s.needs node) k 0 d lt) (met k lt lt)

  met_still : (j : ℕ) (e : Entry) → Contains (s.waiting j) e → AreMetBut placed_now j e
  met_still j e h i lt low = elim (stands.met j e h i lt low) [
    | inl q ↦ inl q
    | inr q ↦ inr (Contains-append_left s.order (node ∷ []) (get_or (s.needs e.0) i 0) q)
  ]

  pub place_stands : Stands placed_now
  place_stands = record {
    within = stands.within;
    placed_size = length-set s.placed node true ∙ stands.placed_size;
    waiting_size = stands.waiting_size;
    placed = λ k. (marked_there k, there_marked k);
    behind = behind_push s.needs s.order node stands.behind all_met;
    below = stands.below;
    wants = stands.wants;
    met = met_still;
  }

  pub place_goes : Goes s placed_now
  place_goes = record {
    count = refl;
    needs = refl;
    longer = omega (arith, length_push s.order node);
    kept = λ i lt. get_or_append_left s.order (node ∷ []) 0 i lt;
    waits = λ j e h. h;
    closed = λ j h. refl;
    work = omega (arith, length_push s.order node, unmarked-set s.placed node in_marks is_open);
  }

  pub place_settled : IsSettled placed_now node
  place_settled = inl (Contains-push s.order node)

-- ---- a node that waits

module _ (s : Standing) (node from place need : ℕ) (next : ℕ → List Entry) (stands : Stands s) (below : node < s.count) (met : AreMet s (node, from)) (in_row : place < length (s.needs node)) (is_need : get_or (s.needs node) place 0 ≡ need) (is_open : get_or s.placed need false ≡ false) (between : (i : ℕ) → from ≤ i → i < place → IsMarked s.placed (get_or (s.needs node) i 0)) (here : next need ≡ s.waiting need ++ (node, place + 1) ∷ []) (others : (j : ℕ) → j ≢ need → next j ≡ s.waiting j) (lists : ℕ) (same_lists : lists ≡ s.lists) where
  abbrev pub waits_now : Standing
  waits_now = record s { lists = lists; waiting = next }

  abbrev the_entry : Entry
  the_entry = (node, place + 1)

  old_or_new : (j : ℕ) (e : Entry) → Contains (next j) e → Contains (s.waiting j) e ⊎ ((j ≡ need) × (the_entry ≡ e))
  old_or_new j e h = elim (cases_eq j need) [
    | inl q ↦ elim (Contains-push_cases (s.waiting need) the_entry e (subst (λ (l : List Entry). Contains l e) (ap next q ∙ here) h)) [
      | inl c ↦ inl (subst (λ (x : ℕ). Contains (s.waiting x) e) (sym q) c)
      | inr f ↦ inr (q, f)
    ]
    | inr d ↦ inl (subst (λ (l : List Entry). Contains l e) (others j d) h)
  ]

  still_waits : (j : ℕ) (e : Entry) → Contains (s.waiting j) e → Contains (next j) e
  still_waits j e h = elim (cases_eq j need) [
    | inl q ↦ subst (λ (l : List Entry). Contains l e) (sym (ap next q ∙ here)) (Contains-append_left (s.waiting need) (the_entry ∷ []) e (subst (λ (x : ℕ). Contains (s.waiting x) e) q h))
    | inr d ↦ subst (λ (l : List Entry). Contains l e) (sym (others j d)) h
  ]

  wants_need : Contains (s.needs node) need
  wants_need = (place, in_row, get_or_default (s.needs node) place need 0 in_row ∙ is_need)

  met_before : (i : ℕ) → i < place → Contains s.order (get_or (s.needs node) i 0)
  met_before i lt = elim (cases_lt i from) [
    | inl less ↦ met i less (omega (arith, lt, in_row))
    | inr le ↦ (stands.placed (get_or (s.needs node) i 0)).0 (between i le lt)
  ]

  met_entry : AreMetBut s need the_entry
  met_entry i lt low = elim (cases_lt i place) [
    | inl less ↦ inr (met_before i less)
    | inr le ↦ inl (ap (λ (x : ℕ). get_or (s.needs node) x 0) (let same : i ≡ place = omega (arith, lt, le) in same) ∙ is_need)
  ]

  pub wait_stands : Stands waits_now
  wait_stands = record {
    within = stands.within;
    placed_size = stands.placed_size;
    waiting_size = same_lists ∙ stands.waiting_size;
    placed = stands.placed;
    behind = stands.behind;
    below = λ j e h. elim (old_or_new j e h) [
      | inl c ↦ stands.below j e c
      | inr p ↦ subst (λ (x : Entry). x.0 < s.count) p.1 below
    ];
    wants = λ j e h. elim (old_or_new j e h) [
      | inl c ↦ stands.wants j e c
      | inr p ↦ subst (λ (x : Entry). Contains (s.needs x.0) j) p.1 (subst (λ (x : ℕ). Contains (s.needs node) x) (sym p.0) wants_need)
    ];
    met = λ j e h. elim (old_or_new j e h) [
      | inl c ↦ stands.met j e c
      | inr p ↦ subst (λ (x : Entry). AreMetBut s j x) p.1 (subst (λ (x : ℕ). AreMetBut s x the_entry) (sym p.0) met_entry)
    ];
  }

  pub wait_goes : Goes s waits_now
  wait_goes = record {
    count = refl;
    needs = refl;
    longer = omega arith;
    kept = λ i lt. refl;
    waits = still_waits;
    closed = λ j h. others j (λ e. not_both (get_or s.placed j false) ((stands.placed j).1 h) (ap (λ (x : ℕ). get_or s.placed x false) e ∙ is_open));
    work = refl;
  }

  pub wait_settled : IsSettled waits_now node
  wait_settled = inr (need, place + 1, subst (λ (l : List Entry). Contains l the_entry) (sym here) (Contains-push (s.waiting need) the_entry))

-- ---- those that wait for a node of the order

module _ (s : Standing) (head node : ℕ) (through : IsThrough s head) (in_order : head < length s.order) (is : get_or s.order head 0 ≡ node) (next : ℕ → List Entry) (here : next node ≡ []) (others : (j : ℕ) → j ≢ node → next j ≡ s.waiting j) (lists : ℕ) (same_lists : lists ≡ s.lists) where
  abbrev pub freed : Standing
  freed = record s { lists = lists; waiting = next }

  node_there : Contains s.order node
  node_there = subst (λ (x : ℕ). Contains s.order x) is (self_there s.order head 0 in_order)

  was_waiting : (j : ℕ) (e : Entry) → Contains (next j) e → Contains (s.waiting j) e
  was_waiting j e h = elim (cases_eq j node) [
    | inl q ↦ absurd (none_in e (subst (λ (l : List Entry). Contains l e) (ap next q ∙ here) h))
    | inr d ↦ subst (λ (l : List Entry). Contains l e) (others j d) h
  ]

  pub freed_stands : Stands freed
  freed_stands = record {
    within = through.stands.within;
    placed_size = through.stands.placed_size;
    waiting_size = same_lists ∙ through.stands.waiting_size;
    placed = through.stands.placed;
    behind = through.stands.behind;
    below = λ j e h. through.stands.below j e (was_waiting j e h);
    wants = λ j e h. through.stands.wants j e (was_waiting j e h);
    met = λ j e h. through.stands.met j e (was_waiting j e h);
  }

  pub entries_below : All (λ (e : Entry). e.0 < s.count) (s.waiting node)
  entries_below k d lt = through.stands.below node (get_or (s.waiting node) k d) (self_there (s.waiting node) k d lt)

  pub entries_met : All (AreMet freed) (s.waiting node)
  entries_met k d lt i less low = elim (through.stands.met node (get_or (s.waiting node) k d) (self_there (s.waiting node) k d lt) i less low) [
    | inl q ↦ subst (λ (x : ℕ). Contains s.order x) (sym q) node_there
    | inr q ↦ q
  ]

  module _ (t : Standing) (stands : Stands t) (goes : Goes freed t) (settled : All (λ (e : Entry). IsSettled t e.0) (s.waiting node)) where
    old_settled : (k : ℕ) → IsSettled s k → IsSettled t k
    old_settled k (inl c) = inl (kept_in freed t goes k c)
    old_settled k (inr (j, from, c)) = elim (cases_eq j node) [
      | inl q ↦ All-contains (λ (e : Entry). IsSettled t e.0) (s.waiting node) (k, from) settled (subst (λ (x : ℕ). Contains (s.waiting x) (k, from)) q c)
      | inr d ↦ inr (j, from, goes.waits j (k, from) (subst (λ (l : List Entry). Contains l (k, from)) (sym (others j d)) c))
    ]

    freed_empty : (i : ℕ) → i < head + 1 → i < length s.order → next (get_or s.order i 0) ≡ []
    freed_empty i lt low = elim (cases_eq (get_or s.order i 0) node) [
      | inl q ↦ ap next q ∙ here
      | inr d ↦ others (get_or s.order i 0) d ∙ through.emptied i (elim (cases_lt i head) [
        | inl less ↦ less
        | inr le ↦ absurd (d (ap (λ (x : ℕ). get_or s.order x 0) (let same : i ≡ head = omega (arith, lt, le) in same) ∙ is))
      ]) low
    ]

    now_empty : (i : ℕ) → i < head + 1 → i < length t.order → t.waiting (get_or t.order i 0) ≡ []
    now_empty i lt low =
        let old : i < length s.order = omega (arith, lt, in_order) in
        ap t.waiting (goes.kept i old) ∙ (goes.closed (get_or s.order i 0) (self_there s.order i 0 old) ∙ freed_empty i lt old)

    pub through_next : IsThrough t (head + 1)
    through_next = record {
      stands = stands;
      work = goes.work ∙ (through.work ∙ sym goes.count);
      settled = λ k lt. old_settled k (through.settled k (omega (arith, lt, goes.count)));
      emptied = now_empty;
    }

-- past the end of the order nothing is left
pub through_past : (s : Standing) (head : ℕ) → length s.order ≤ head → IsThrough s head → IsThrough s (head + 1)
through_past s head le t = record { stands = t.stands; work = t.work; settled = t.settled; emptied = λ i lt low. t.emptied i (omega (arith, low, le)) low }

pub through_all : (s : Standing) (head : ℕ) → s.count ≤ head → IsThrough s head → IsThrough s (length s.order)
through_all s head le t = record { stands = t.stands; work = t.work; settled = t.settled; emptied = λ i lt low. t.emptied i (omega (arith, low, le, t.work)) low }

-- ---- the beginning

pub begins : (s : Standing) → IsWithin s.count s.needs → length s.placed ≡ s.count → s.lists ≡ s.count → ((k : ℕ) → IsMarked s.placed k → ⊥) → ((j : ℕ) → s.waiting j ≡ []) → s.order ≡ [] → Stands s
begins s within p w off empty none = record {
  within = within;
  placed_size = p;
  waiting_size = w;
  placed = λ k. (λ m. absurd (off k m), λ c. absurd (none_in k (subst (λ (l : List ℕ). Contains l k) none c)));
  behind = λ i lt. absurd (omega (arith, lt, ap length none));
  below = λ j e h. absurd (none_in e (subst (λ (l : List Entry). Contains l e) (empty j) h));
  wants = λ j e h. absurd (none_in e (subst (λ (l : List Entry). Contains l e) (empty j) h));
  met = λ j e h. absurd (none_in e (subst (λ (l : List Entry). Contains l e) (empty j) h));
}

pub all_settled : (s t : Standing) (entries : List Entry) → Stands t → Goes s t → All (λ (e : Entry). IsSettled t e.0) entries → length entries ≡ s.count → ((k : ℕ) → k < s.count → get_or entries k (0, 0) ≡ (k, 0)) → length s.order + unmarked s.placed ≡ s.count → IsThrough t 0
all_settled s t entries stands goes settled len is work = record {
  stands = stands;
  work = goes.work ∙ (work ∙ sym goes.count);
  settled = λ k lt.
      let low : k < s.count = omega (arith, lt, goes.count) in
      subst (λ (e : Entry). IsSettled t e.0) (is k low) (settled k (0, 0) (omega (arith, low, len)));
  emptied = λ i lt low. absurd (omega (arith, lt));
}

-- ---- the end

module _ (s : Standing) (through : IsThrough s (length s.order)) where
  pub is_order : ((k : ℕ) → k < length s.placed → IsMarked s.placed k) → IsOrder s.count s.needs s.order
  is_order all = record {
    whole = λ k lt. (through.stands.placed k).0 (all k (omega (arith, lt, through.stands.placed_size)));
    behind = through.stands.behind;
  }

  not_there : (j from k : ℕ) → Contains (s.waiting j) (k, from) → Contains s.order j → ⊥
  not_there j from k c (i, lt, e) =
      let same : get_or s.order i 0 ≡ j = get_or_default s.order i 0 j lt ∙ e in
      none_in (k, from) (subst (λ (l : List Entry). Contains l (k, from)) (sym (ap s.waiting same) ∙ through.emptied i lt lt) c)

  module _ (rank : ℕ → ℕ) (ranked : IsRanked s.needs rank) where
    placed_below : (m k : ℕ) → rank k < m → k < s.count → Contains s.order k
    placed_below zero k less lt = absurd (omega (arith, less))
    placed_below (suc m) k less lt = elim (through.settled k lt) [
      | inl c ↦ c
      | inr p ↦ (let want = through.stands.wants p.0 (k, p.1) p.2 in
          absurd (not_there p.0 p.1 k p.2 (placed_below m p.0 (omega (arith, less, All-contains (λ j. rank j < rank k) (s.needs k) p.0 (ranked k) want)) (All-contains (λ j. j < s.count) (s.needs k) p.0 (through.stands.within k) want))))
    ]

    ranked_marked : (k : ℕ) → k < length s.placed → IsMarked s.placed k
    ranked_marked k lt = (through.stands.placed k).1 (placed_below (suc (rank k)) k (omega arith) (omega (arith, lt, through.stands.placed_size)))

  pub needs_itself : (((k : ℕ) → k < length s.placed → IsMarked s.placed k) → ⊥) → (k : ℕ) × NeedsItself s.needs k
  needs_itself not_all = elim (some_or_none s.needs s.count through.stands.within) [
    | inl h ↦ h
    | inr none ↦ (let r = ranks s.needs s.count through.stands.within none in absurd (not_all (ranked_marked r.0 r.1)))
  ]

-- ---- entries that are settled one after another

pub record SettlesAll (s : Standing) (entries : List Entry) (i : ℕ) (t : Standing) : Type 0 where
  pub stands : Stands t
  pub goes : Goes s t
  pub settled : (k : ℕ) → k < i → k < length entries → IsSettled t (get_or entries k (0, 0)).0

pub settles_none : (s : Standing) (entries : List Entry) → Stands s → SettlesAll s entries 0 s
settles_none s entries stands = record { stands = stands; goes = goes_none s; settled = λ k lt low. absurd (omega (arith, lt)) }

pub settles_next : (s t u : Standing) (entries : List Entry) (i : ℕ) → SettlesAll s entries i t → Stands u → Goes t u → IsSettled u (get_or entries i (0, 0)).0 → SettlesAll s entries (i + 1) u
settles_next s t u entries i all stands goes here = record {
  stands = stands;
  goes = goes_then s t u all.goes goes;
  settled = λ k lt low. elim (cases_lt k i) [
    | inl less ↦ settled_on t u goes (get_or entries k (0, 0)).0 (all.settled k less low)
    | inr le ↦ subst (λ (x : ℕ). IsSettled u (get_or entries x (0, 0)).0) (let same : i ≡ k = omega (arith, lt, le) in same) here
  ];
}

pub settles_end : (s t : Standing) (entries : List Entry) (i : ℕ) → length entries ≤ i → SettlesAll s entries i t → All (λ (e : Entry). IsSettled t e.0) entries
settles_end s t entries i le all k d lt = subst (λ (e : Entry). IsSettled t e.0) (get_or_default entries k (0, 0) d lt) (all.settled k (omega (arith, lt, le)) lt)

pub entry_below : (s t : Standing) (entries : List Entry) (i : ℕ) → SettlesAll s entries i t → All (λ (e : Entry). e.0 < s.count) entries → i < length entries → (get_or entries i (0, 0)).0 < t.count
entry_below s t entries i all below lt = omega (arith, below i (0, 0) lt, all.goes.count)

pub entry_met : (s t : Standing) (entries : List Entry) (i : ℕ) → SettlesAll s entries i t → All (AreMet s) entries → i < length entries → AreMet t (get_or entries i (0, 0))
entry_met s t entries i all met lt = met_on s t all.goes (get_or entries i (0, 0)) (met i (0, 0) lt)

-- ---- one entry

pub read_settled : (s : Standing) → Stands s → (k : ℕ) (b : Bool) → k < s.count → b ≡ get_or s.placed k b → b ≡ true → IsSettled s k
read_settled s stands k b lt e t =
    let low : k < length s.placed = omega (arith, lt, stands.placed_size) in
    inl ((stands.placed k).0 (get_or_default s.placed k false b low ∙ (sym e ∙ t)))

pub read_open : (s : Standing) → Stands s → (k : ℕ) (b : Bool) → k < s.count → b ≡ get_or s.placed k b → b ≡ false → get_or s.placed k false ≡ false
read_open s stands k b lt e t =
    let low : k < length s.placed = omega (arith, lt, stands.placed_size) in
    get_or_default s.placed k false b low ∙ (sym e ∙ t)

-- the first need that is open, among the needs of a node
pub record OpensAt (s : Standing) (node from place need : ℕ) : Type 0 where
  pub in_row : place < length (s.needs node)
  pub is : get_or (s.needs node) place 0 ≡ need
  pub unmarked : get_or s.placed need false ≡ false
  pub between : (i : ℕ) → from ≤ i → i < place → IsMarked s.placed (get_or (s.needs node) i 0)

pub opens_at : (s : Standing) (node from place need : ℕ) (row : List ℕ) (marks : List Bool) → row ≡ s.needs node → marks ≡ s.placed → IsOpenNeed row from marks (Some (place, need)) → OpensAt s node from place need
opens_at s node from place need row marks e f h =
    let g : IsOpenNeed (s.needs node) from s.placed (Some (place, need)) = subst (λ (l : List ℕ). IsOpenNeed l from s.placed (Some (place, need))) e (subst (λ (m : List Bool). IsOpenNeed row from m (Some (place, need))) f h) in
    record { in_row = g.0; is = g.1; unmarked = g.2; between = g.3 }

pub none_opens : (s : Standing) (node from : ℕ) (row : List ℕ) (marks : List Bool) → Stands s → AreMet s (node, from) → row ≡ s.needs node → marks ≡ s.placed → IsOpenNeed row from marks None → AreMet s (node, length (s.needs node))
none_opens s node from row marks stands met e f h i lt low =
    let g : IsOpenNeed (s.needs node) from s.placed None = subst (λ (l : List ℕ). IsOpenNeed l from s.placed None) e (subst (λ (m : List Bool). IsOpenNeed row from m None) f h) in
    elim (cases_lt i from) [
      | inl less ↦ met i less low
      | inr le ↦ (stands.placed (get_or (s.needs node) i 0)).0 (g i le low)
    ]

pub need_listed : (s : Standing) (node from place need : ℕ) → Stands s → OpensAt s node from place need → need < s.lists
need_listed s node from place need stands at =
    let low : get_or (s.needs node) place 0 < s.count = stands.within node place 0 at.in_row in
    omega (arith, low, at.is, stands.waiting_size)

pub head_listed : (s : Standing) (head node : ℕ) → IsThrough s head → head < length s.order → get_or s.order head 0 ≡ node → node < s.lists
head_listed s head node t lt is =
    let marked : get_or s.placed node false ≡ true = (t.stands.placed node).1 (subst (λ (x : ℕ). Contains s.order x) is (self_there s.order head 0 lt)) in
    let low : node < length s.placed = marked_below s.placed node marked in
    omega (arith, low, t.stands.placed_size, t.stands.waiting_size)
  where
    marked_below : (marks : List Bool) (k : ℕ) → get_or marks k false ≡ true → k < length marks
    marked_below [] k m = absurd (not_both false m refl)
    marked_below (b ∷ marks) zero m = omega arith
    marked_below (b ∷ marks) (suc k) m = let p = marked_below marks k m in omega (arith, p)

pub goes_through : (s t : Standing) → AreSameNodes s t → (u : Standing) → AreSameNodes t u → AreSameNodes s u
goes_through s t p u q = (q.0 ∙ p.0, q.1 ∙ p.1)

pub unmarked_fresh : (n : ℕ) → unmarked (replicate n false) ≡ n
unmarked_fresh zero = refl
unmarked_fresh (suc n) = ap suc (unmarked_fresh n)
