-- The laws of marking.
use Rattle.std.proofs.Common.{◌≡◌, ◌==◌, if◌then◌else◌, map, ℕ, zero, suc, ◌+◌, ◌<◌, ◌≤◌, Bool, true, false, ◌⊎◌, inl, inr, List, [], ◌∷◌, ◌++◌, length, take, get_or, refl, sym, ap, subst, ◌∙◌, arith, All}
use Rattle.std.proofs.Math.ListN.{set}
use Rattle.std.proofs.lemmas.List.{take_more, get_or-set_same, get_or-set_other, get_or_default, get_or-map, map-set, length-map, append-nil, length-append, length-set}
use Rattle.std.proofs.lemmas.List.Elements.{Contains-append_left, Contains-append_right, Contains-append_cases, All-get_or}
use Rattle.std.proofs.lemmas.Bool.{cases_eq}
use Rattle.std.proofs.lemmas.Bool.Decides.{nat_tests}
use Rattle.std.specs.List.{Contains}
use Rattle.std.specs.Global.{Vec}
use Rattle.cm_wit_graph.specs.Graphs.{Edges, IsMarked}
use Rattle.cm_wit_graph.specs.Rows.{row_of, sources}
use Rattle.cm_wit_graph.specs.Marking.{unmarked, Marked, WalkBy, LeadsBy, IsInto}
use Rattle.cm_lemmas.proofs.Lists.{empty_list, none_in, not_past, only_in}
use Rattle.cm_lemmas.proofs.Numbers.{eq_self}
use Rattle.cm_wit_graph.proofs.EdgeLaws.{set_marked}
use Rattle.cm_lemmas.proofs.Bools.{true_is_not_false}

is_in : {A : Type 0} (x : A) → Contains (x ∷ []) x
is_in x = (0, omega arith, refl)

-- ---- one node

pub marked_before : (x : ℕ) (marks : List Bool) (pending : List ℕ) → get_or marks x false ≡ true → Marked (x ∷ []) marks marks pending pending
marked_before x marks pending h = record {
  size = refl;
  sound = λ a m. inl m;
  kept = λ a m. m;
  marked = λ a c. subst (λ (b : ℕ). IsMarked marks b) (sym (only_in a x c)) h;
  opened = λ a m. inl m;
  stays = λ a c. c;
  added = λ a c. inl c;
  work = refl;
}

unmarked-set : (marks : List Bool) (x : ℕ) → x < length marks → get_or marks x false ≡ false → suc (unmarked (set marks x true)) ≡ unmarked marks
unmarked-set [] x lt h = absurd (omega (arith, lt))
unmarked-set (true ∷ marks) zero lt h = absurd cc
unmarked-set (false ∷ marks) zero lt h = refl
unmarked-set (true ∷ marks) (suc x) lt h = unmarked-set marks x (omega (arith, lt)) h
unmarked-set (false ∷ marks) (suc x) lt h = ap suc (unmarked-set marks x (omega (arith, lt)) h)

set_sound : (marks : List Bool) (x a : ℕ) → IsMarked (set marks x true) a → IsMarked marks a ⊎ Contains (x ∷ []) a
set_sound marks x a m = elim (cases_eq a x) [
  | inl e ↦ inr (0, omega arith, sym e)
  | inr n ↦ inl (sym (get_or-set_other marks x a true false n) ∙ m)
]

set_opened : (marks : List Bool) (x a : ℕ) (pending : List ℕ) → IsMarked (set marks x true) a → IsMarked marks a ⊎ Contains (pending ++ x ∷ []) a
set_opened marks x a pending m = elim (set_sound marks x a m) [
  | inl k ↦ inl k
  | inr c ↦ inr (Contains-append_right pending (x ∷ []) a c)
]

pub marked_now : (x : ℕ) (marks : List Bool) (pending : List ℕ) → x < length marks → get_or marks x false ≡ false → Marked (x ∷ []) marks (set marks x true) pending (pending ++ x ∷ [])
marked_now x marks pending lt h = record {
  size = length-set marks x true;
  sound = λ a m. set_sound marks x a m;
  kept = λ a m. set_marked marks x a lt m;
  marked = λ a c. subst (λ (b : ℕ). IsMarked (set marks x true) b) (sym (only_in a x c)) (get_or-set_same marks x true false lt);
  opened = λ a m. set_opened marks x a pending m;
  stays = λ a c. Contains-append_left pending (x ∷ []) a c;
  added = λ a c. Contains-append_cases pending (x ∷ []) a c;
  work = omega (arith, length-append pending (x ∷ []), unmarked-set marks x lt h);
}

-- ---- several nodes

pub marked_none : (marks : List Bool) (pending : List ℕ) → Marked [] marks marks pending pending
marked_none marks pending = record {
  size = refl;
  sound = λ a m. inl m;
  kept = λ a m. m;
  marked = λ a c. absurd (none_in a c);
  opened = λ a m. inl m;
  stays = λ a c. c;
  added = λ a c. inl c;
  work = refl;
}

pub marked_then : (xs ys : List ℕ) (m1 m2 m3 : List Bool) (p1 p2 p3 : List ℕ) → Marked xs m1 m2 p1 p2 → Marked ys m2 m3 p2 p3 → Marked (xs ++ ys) m1 m3 p1 p3
marked_then xs ys m1 m2 m3 p1 p2 p3 u v = record {
  size = v.size ∙ u.size;
  sound = λ a m. elim (v.sound a m) [
    | inl k ↦ elim (u.sound a k) [ inl j ↦ inl j | inr c ↦ inr (Contains-append_left xs ys a c) ]
    | inr c ↦ inr (Contains-append_right xs ys a c)
  ];
  kept = λ a m. v.kept a (u.kept a m);
  marked = λ a c. elim (Contains-append_cases xs ys a c) [ inl d ↦ v.kept a (u.marked a d) | inr d ↦ v.marked a d ];
  opened = λ a m. elim (v.opened a m) [
    | inl k ↦ elim (u.opened a k) [ inl j ↦ inl j | inr c ↦ inr (v.stays a c) ]
    | inr c ↦ inr c
  ];
  stays = λ a c. v.stays a (u.stays a c);
  added = λ a c. elim (v.added a c) [
    | inl d ↦ elim (u.added a d) [ inl j ↦ inl j | inr e ↦ inr (Contains-append_left xs ys a e) ]
    | inr d ↦ inr (Contains-append_right xs ys a d)
  ];
  work = v.work ∙ u.work;
}

pub marked_more : (xs : List ℕ) (i x : ℕ) (m1 m2 m3 : List Bool) (p1 p2 p3 : List ℕ) → i < length xs → x ≡ get_or xs i 0 → Marked (take i xs) m1 m2 p1 p2 → Marked (x ∷ []) m2 m3 p2 p3 → Marked (take (i + 1) xs) m1 m3 p1 p3
marked_more xs i x m1 m2 m3 p1 p2 p3 lt e u v =
    subst (λ (l : List ℕ). Marked l m1 m3 p1 p3) (sym (take_more xs i 0 lt ∙ ap (λ (y : ℕ). take i xs ++ y ∷ []) (sym e)))
    (marked_then (take i xs) (x ∷ []) m1 m2 m3 p1 p2 p3 u v)

pub ruleset mark_laws = (marked_before, marked_now, marked_none, marked_more)

-- ---- all nodes that lead to marked ones

pub record Spreads (into : ℕ → List ℕ) (start now : List Bool) (pending : List ℕ) : Type 0 where
  pub size : length now ≡ length start
  pub sound : (a : ℕ) → IsMarked now a → LeadsBy into start a
  pub kept : (a : ℕ) → IsMarked start a → IsMarked now a
  pub closed : (a b : ℕ) → Contains (into b) a → IsMarked now b → IsMarked now a ⊎ Contains pending b
  pub are_marked : (a : ℕ) → Contains pending a → IsMarked now a

pub spread_begins : (into : ℕ → List ℕ) (marks : List Bool) (pending : List ℕ) → ((a : ℕ) → Contains pending a → IsMarked marks a) → ((a : ℕ) → IsMarked marks a → Contains pending a) → Spreads into marks marks pending
spread_begins into marks pending p q = record {
  size = refl;
  sound = λ a m. (a, 0, refl, m);
  kept = λ a m. m;
  closed = λ a b c m. inr (q b m);
  are_marked = p;
}

pub spread_goes_on : (into : ℕ → List ℕ) (start now next : List Bool) (rest pending : List ℕ) (x : ℕ) → Spreads into start now (rest ++ x ∷ []) → Marked (into x) now next rest pending → Spreads into start next pending
spread_goes_on into start now next rest pending x s m = record {
  size = m.size ∙ s.size;
  sound = λ a k. elim (m.sound a k) [
    | inl j ↦ s.sound a j
    | inr c ↦ let l = s.sound x (s.are_marked x (Contains-append_right rest (x ∷ []) x (is_in x))) in (l.0, suc l.1, (x, c, l.2), l.3)
  ];
  kept = λ a k. m.kept a (s.kept a k);
  closed = λ a b c k. elim (m.opened b k) [
    | inl j ↦ elim (s.closed a b c j) [
      | inl i ↦ inl (m.kept a i)
      | inr d ↦ elim (Contains-append_cases rest (x ∷ []) b d) [
        | inl e ↦ inr (m.stays b e)
        | inr e ↦ inl (m.marked a (subst (λ (y : ℕ). Contains (into y) a) (only_in b x e) c))
      ]
    ]
    | inr d ↦ inr d
  ];
  are_marked = λ a c. elim (m.added a c) [
    | inl d ↦ m.kept a (s.are_marked a (Contains-append_left rest (x ∷ []) a d))
    | inr d ↦ m.marked a d
  ];
}

spread_complete : (into : ℕ → List ℕ) (start now : List Bool) → Spreads into start now [] → (n : ℕ) (a b : ℕ) → WalkBy into a b n → IsMarked start b → IsMarked now a
spread_complete into start now s zero a b w m = s.kept a (subst (λ (y : ℕ). IsMarked start y) (sym w) m)
spread_complete into start now s (suc n) a b w m = elim (s.closed a w.0 w.1 (spread_complete into start now s n w.0 b w.2 m)) [
  | inl k ↦ k
  | inr c ↦ absurd (none_in w.0 c)
]

pub spread_ends : (into : ℕ → List ℕ) (start now : List Bool) → Spreads into start now [] → (a : ℕ) → LeadsBy into start a → IsMarked now a
spread_ends into start now s a l = spread_complete into start now s l.1 a l.0 l.2 l.3

pub ruleset spread_laws = (spread_begins, spread_goes_on, spread_ends)

-- ---- what the code reads

pub is_unmarked : (marks : List Bool) (x : ℕ) (r : Bool) → x < length marks → r ≡ get_or marks x r → r ≡ false → get_or marks x false ≡ false
is_unmarked marks x r lt e n = get_or_default marks x false r lt ∙ (sym e ∙ n)

pub pending_within : (into : ℕ → List ℕ) (start now : List Bool) (before rest : List ℕ) (x : ℕ) → Spreads into start now before → before ≡ rest ++ x ∷ [] → x < length now
pending_within into start now before rest x s e = not_past now x (s.are_marked x (subst (λ (p : List ℕ). Contains p x) (sym e) (Contains-append_right rest (x ∷ []) x (is_in x))))

pub row_is : (rows : List (Vec ℕ)) (b : ℕ) (row : Vec ℕ) → b < length rows → row ≡ get_or rows b row → row_of rows b ≡ row.items
row_is rows b row lt e = get_or-map (λ (r : Vec ℕ). r.items) rows b row [] lt ∙ ap (λ (r : Vec ℕ). r.items) (sym e)

pub spread_step : (into : ℕ → List ℕ) (start now next : List Bool) (before rest pending row : List ℕ) (x : ℕ) → Spreads into start now before → before ≡ rest ++ x ∷ [] → into x ≡ row → Marked row now next rest pending → Spreads into start next pending
spread_step into start now next before rest pending row x s e r m =
    spread_goes_on into start now next rest pending x (subst (λ (p : List ℕ). Spreads into start now p) e s) (subst (λ (p : List ℕ). Marked p now next rest pending) (sym r) m)

pub spread_empty : (into : ℕ → List ℕ) (start now : List Bool) (pending : List ℕ) → Spreads into start now pending → length pending ≡ 0 → Spreads into start now []
spread_empty into start now pending s e = subst (λ (p : List ℕ). Spreads into start now p) (empty_list pending e) s

-- ---- rows

source_front : (t : Bool) (x : ℕ) (xs ys : List ℕ) → (if t then x ∷ (xs ++ ys) else (xs ++ ys)) ≡ (if t then x ∷ xs else xs) ++ ys
source_front true x xs ys = refl
source_front false x xs ys = refl

pub sources_push : (es : Edges) (e : ℕ × ℕ) (b : ℕ) → sources (es ++ e ∷ []) b ≡ sources es b ++ (if e.1 == b then e.0 ∷ [] else [])
sources_push [] e b = refl
sources_push (d ∷ es) e b = ap (λ (xs : List ℕ). if d.1 == b then d.0 ∷ xs else xs) (sources_push es e b) ∙ source_front (d.1 == b) d.0 (sources es b) (if e.1 == b then e.0 ∷ [] else [])

eq_other : (a b : ℕ) → (a ≡ b → ⊥) → (a == b) ≡ false
eq_other a b n = grind (arith, nat_tests, n)

same_row : (rows : List (Vec ℕ)) (x : ℕ) (row : Vec ℕ) (from : ℕ) → x < length rows → row.items ≡ row_of rows x ++ from ∷ [] → row_of (set rows x row) x ≡ row_of rows x ++ (if x == x then from ∷ [] else [])
same_row rows x row from lt e =
    rw (eq_self x) (ap (λ (l : List (List ℕ)). get_or l x []) (map-set (λ (r : Vec ℕ). r.items) rows x row) ∙ (get_or-set_same (map (λ (r : Vec ℕ). r.items) rows) x row.items [] (omega (arith, lt, length-map rows (λ (r : Vec ℕ). r.items))) ∙ e))

other_row : (rows : List (Vec ℕ)) (x b : ℕ) (row : Vec ℕ) (from : ℕ) → (b ≡ x → ⊥) → row_of (set rows x row) b ≡ row_of rows b ++ (if x == b then from ∷ [] else [])
other_row rows x b row from n =
    rw (eq_other x b (λ e. n (sym e))) (ap (λ (l : List (List ℕ)). get_or l b []) (map-set (λ (r : Vec ℕ). r.items) rows x row) ∙ (get_or-set_other (map (λ (r : Vec ℕ). r.items) rows) x b row.items [] n ∙ sym (append-nil (row_of rows b))))

pub row_push : (rows : List (Vec ℕ)) (es : Edges) (i : ℕ) (e : ℕ × ℕ) (row : Vec ℕ) (b : ℕ) → i < length es → e ≡ get_or es i (0, 0) → e.1 < length rows → row.items ≡ row_of rows e.1 ++ e.0 ∷ [] → row_of rows b ≡ sources (take i es) b → row_of (set rows e.1 row) b ≡ sources (take (i + 1) es) b
row_push rows es i e row b lt is within pushed old =
    let all : sources (take (i + 1) es) b ≡ sources (take i es) b ++ (if e.1 == b then e.0 ∷ [] else []) = ap (λ (l : Edges). sources l b) (take_more es i (0, 0) lt ∙ ap (λ (x : ℕ × ℕ). take i es ++ x ∷ []) (sym is)) ∙ sources_push (take i es) e b in
    let new : row_of (set rows e.1 row) b ≡ row_of rows b ++ (if e.1 == b then e.0 ∷ [] else []) = elim (cases_eq b e.1) [
      | inl q ↦ subst (λ (y : ℕ). row_of (set rows e.1 row) y ≡ row_of rows y ++ (if e.1 == y then e.0 ∷ [] else [])) (sym q) (same_row rows e.1 row e.0 within pushed)
      | inr n ↦ other_row rows e.1 b row e.0 n
    ] in
    new ∙ (ap (λ (xs : List ℕ). xs ++ (if e.1 == b then e.0 ∷ [] else [])) old ∙ sym all)

-- ---- the marked nodes

pub record Lists (marks : List Bool) (i : ℕ) (nodes : List ℕ) : Type 0 where
  pub sound : (a : ℕ) → Contains nodes a → IsMarked marks a
  pub complete : (a : ℕ) → a < i → IsMarked marks a → Contains nodes a

pub lists_none : (marks : List Bool) → Lists marks 0 []
lists_none marks = record { sound = λ a c. absurd (none_in a c); complete = λ a lt m. absurd (omega (arith, lt)) }

pub lists_marked : (marks : List Bool) (i : ℕ) (nodes : List ℕ) → Lists marks i nodes → get_or marks i false ≡ true → Lists marks (i + 1) (nodes ++ i ∷ [])
lists_marked marks i nodes l m = record {
  sound = λ a c. elim (Contains-append_cases nodes (i ∷ []) a c) [ inl d ↦ l.sound a d | inr d ↦ subst (λ (b : ℕ). IsMarked marks b) (sym (only_in a i d)) m ];
  complete = λ a lt k. elim (cases_eq a i) [
    | inl e ↦ Contains-append_right nodes (i ∷ []) a (0, omega arith, sym e)
    | inr n ↦ let below : a < i = omega (arith, lt, n) in Contains-append_left nodes (i ∷ []) a (l.complete a below k)
  ];
}

pub lists_unmarked : (marks : List Bool) (i : ℕ) (nodes : List ℕ) → Lists marks i nodes → get_or marks i false ≡ false → Lists marks (i + 1) nodes
lists_unmarked marks i nodes l m = record {
  sound = l.sound;
  complete = λ a lt k. elim (cases_eq a i) [
    | inl e ↦ absurd (true_is_not_false (get_or marks i false) m (subst (λ (b : ℕ). IsMarked marks b) e k))
    | inr n ↦ let below : a < i = omega (arith, lt, n) in l.complete a below k
  ];
}

pub lists_all : (marks : List Bool) (i : ℕ) (nodes : List ℕ) → Lists marks i nodes → length marks ≤ i → (a : ℕ) → IsMarked marks a → Contains nodes a
lists_all marks i nodes l le a m = l.complete a (omega (arith, not_past marks a m, le)) m

pub ruleset listing_laws = (lists_none, lists_marked, lists_unmarked, lists_all)
