-- Lists of lends, and the tables after they end.
use Rattle.std.proofs.Common.{◌≡◌, ◌≢◌, ℕ, zero, suc, ◌+◌, ◌-◌, ◌<◌, ◌≤◌, ◌⊎◌, inl, inr, Bool, true, false, List, [], ◌∷◌, ◌++◌, length, take, drop, get_or, Option, Some, None, refl, sym, ap, subst, ◌∙◌, arith}
use Rattle.std.specs.Prelude.{slice_get, slice_set, Contains, ◌==◌, ◌&&◌, not, if◌then◌else◌, IsSomeAnd}
use Rattle.std.specs.Option.{option_map}
use Rattle.std.proofs.lemmas.Bool.{cases_eq, cases_lt, eq-eqb, ne_eqb, eqb-true}
use Rattle.std.proofs.lemmas.List.{get_or-set_other, length-drop, take_all}
use Rattle.std.proofs.lemmas.Option.{none-some, same_Some, slice_get_within, get_or_from_slice_get}
use Rattle.cm_handles.specs.declared.handle.Handle.{Handle}
use Rattle.cm_handles.specs.Borrows.{borrows_of}
use Rattle.cm_handles.specs.Handles.{Handles, TableState, handle_at, after_unlend, with_lends}
use Rattle.cm_machine_model.specs.declared.frame.Lend.{Lend}
use Rattle.cm_machine_model.specs.Owning.{AreCounted, count_lends, standing}
use Rattle.cm_machine_model.specs.State.{State, table_at, tables_after_unlend, tables_after_call, lends_after_call, lends_to}
use Rattle.cm_machine_parts.specs.Lends.{NeverFall, NoneAbove, lends_at, AreLentAtLeast, tables_after_unlends}
use Rattle.cm_machine_parts.specs.States.{handles_in}
use Rattle.cm_machine_parts.proofs.Tables.{handles_set, table_in}
use Rattle.cm_handles.proofs.HandlesLaws.{at_change, none_there}
use Rattle.cm_lemmas.proofs.Numbers.{hit_both}
use Rattle.cm_lemmas.proofs.Bools.{hit_by}
use Rattle.cm_lemmas.proofs.Lists.{set_past}
use Rattle.cm_machine_model.proofs.StateLaws.{table_other, table_past, table_same}

-- ---- in order

at_take : {X : Type 0} (xs : List X) (n k : ℕ) (a : X) → slice_get (take n xs) k ≡ Some a → slice_get xs k ≡ Some a
at_take [] zero k a e = e
at_take [] (suc n) k a e = e
at_take (x ∷ xs) zero k a e = absurd (none-some a e)
at_take (x ∷ xs) (suc n) zero a e = e
at_take (x ∷ xs) (suc n) (suc k) a e = at_take xs n k a e

pub never_fall_front : (lends : List Lend) (n : ℕ) → NeverFall lends → NeverFall (take n lends)
never_fall_front lends n h j k a b le at_j at_k = h j k a b le (at_take lends n j a at_j) (at_take lends n k b at_k)

-- what stands in both is of one or of the other
at_both : {X : Type 0} (xs ys : List X) (k : ℕ) (a : X) → slice_get (xs ++ ys) k ≡ Some a → ((k < length xs) × (slice_get xs k ≡ Some a)) ⊎ ((length xs ≤ k) × (slice_get ys (k - length xs) ≡ Some a))
at_both [] ys k a e = inr (omega arith, subst (λ n. slice_get ys n ≡ Some a) (omega arith) e)
at_both (x ∷ xs) ys zero a e = inl (omega arith, e)
at_both (x ∷ xs) ys (suc k) a e = elim (at_both xs ys k a e) as (λ r. ((suc k < length (x ∷ xs)) × (slice_get (x ∷ xs) (suc k) ≡ Some a)) ⊎ ((length (x ∷ xs) ≤ suc k) × (slice_get ys (suc k - length (x ∷ xs)) ≡ Some a))) [
  | inl p ↦ inl (omega (arith, p.0), p.1)
  | inr p ↦ inr (omega (arith, p.0), subst (λ n. slice_get ys n ≡ Some a) (omega arith) p.1)
]

to_frame : (frame instance : ℕ) (indices : List ℕ) (k : ℕ) (a : Lend) → slice_get (lends_to frame instance indices) k ≡ Some a → a.frame ≡ frame
to_frame frame instance [] k a e = absurd (none-some a e)
to_frame frame instance (i ∷ indices) zero a e = sym (ap (λ (l : Lend). l.frame) (same_Some _ a e))
to_frame frame instance (i ∷ indices) (suc k) a e = to_frame frame instance indices k a e

contained : (lends : List Lend) (k : ℕ) (a : Lend) → slice_get lends k ≡ Some a → Contains lends a
contained lends k a e = (k, slice_get_within lends k a e, get_or_from_slice_get lends k a a e)

pub never_fall_more : (lends : List Lend) (frame instance : ℕ) (indices : List ℕ) → NeverFall lends → NoneAbove frame lends → NeverFall (lends ++ lends_to frame instance indices)
never_fall_more lends frame instance indices h above j k a b le at_j at_k =
    elim (at_both lends (lends_to frame instance indices) k b at_k) as (λ r. a.frame ≤ b.frame) [
      | inl q ↦ elim (at_both lends (lends_to frame instance indices) j a at_j) as (λ r. a.frame ≤ b.frame) [
        | inl p ↦ h j k a b le p.1 q.1
        | inr p ↦ absurd (omega (arith, p.0, q.0, le))
      ]
      | inr q ↦
          let behind = to_frame frame instance indices (k - length lends) b q.1 in
          elim (at_both lends (lends_to frame instance indices) j a at_j) as (λ r. a.frame ≤ b.frame) [
            | inl p ↦ omega (arith, behind, above a (contained lends j a p.1))
            | inr p ↦ omega (arith, behind, to_frame frame instance indices (j - length lends) a p.1)
          ]
    ]

pub never_fall_none : NeverFall []
never_fall_none j k a b le at_j at_k = absurd (none-some a at_j)

-- one more in front of those to the call on top
pub one_more_to : (lends : List Lend) (frame first : ℕ) (x : Lend) → ((k : ℕ) (l : Lend) → first ≤ k → slice_get lends k ≡ Some l → l.frame ≡ frame) → slice_get lends (first - 1) ≡ Some x → x.frame ≡ frame → (k : ℕ) (l : Lend) → first - 1 ≤ k → slice_get lends k ≡ Some l → l.frame ≡ frame
one_more_to lends frame first x h at_first same k l le at_k = elim (cases_lt k first) as (λ r. l.frame ≡ frame) [
  | inl lt ↦
      let here : k ≡ first - 1 = omega (arith, lt, le) in
      let one : Some x ≡ Some l = sym at_first ∙ (ap (λ n. slice_get lends n) (sym here) ∙ at_k) in
      ap (λ (y : Lend). y.frame) (sym (same_Some x l one)) ∙ same
  | inr ge ↦ h k l ge at_k
]

-- where the one before is to another call, all before are to calls below
pub others_below : (lends : List Lend) (frame first : ℕ) (x : Lend) → NeverFall lends → NoneAbove frame lends → slice_get lends (first - 1) ≡ Some x → x.frame ≢ frame → (k : ℕ) (l : Lend) → k < first → slice_get lends k ≡ Some l → l.frame < frame
others_below lends frame first x h above at_first other k l lt at_k =
    let most = above x (contained lends (first - 1) x at_first) in
    let less = h k (first - 1) l x (omega (arith, lt)) at_k at_first in
    omega (arith, most, less, other)

-- ---- as the call on top ends

keeps_one : (l : Lend) (ls : List Lend) (frame : ℕ) → l.frame ≢ frame → lends_after_call frame (l ∷ ls) ≡ l ∷ lends_after_call frame ls
keeps_one l ls frame ne = ap (λ (b : Bool). if not b then l ∷ lends_after_call frame ls else lends_after_call frame ls) (ne_eqb l.frame frame ne)

ends_one : (l : Lend) (ls : List Lend) (frame : ℕ) → l.frame ≡ frame → lends_after_call frame (l ∷ ls) ≡ lends_after_call frame ls
ends_one l ls frame is = ap (λ (b : Bool). if not b then l ∷ lends_after_call frame ls else lends_after_call frame ls) (eq-eqb l.frame frame is)

abbrev Below : List Lend → ℕ → ℕ → Type 0
Below lends n frame = (k : ℕ) (l : Lend) → k < n → slice_get lends k ≡ Some l → l.frame < frame

abbrev Behind : List Lend → ℕ → ℕ → Type 0
Behind lends n frame = (k : ℕ) (l : Lend) → n ≤ k → slice_get lends k ≡ Some l → l.frame ≡ frame

-- what stays is what is in front of the lends to the call
pub lends_stay : (lends : List Lend) (n frame : ℕ) → Below lends n frame → Behind lends n frame → lends_after_call frame lends ≡ take n lends
lends_stay [] zero frame before behind = refl
lends_stay [] (suc n) frame before behind = refl
lends_stay (l ∷ ls) zero frame before behind =
    ends_one l ls frame (behind 0 l (omega arith) refl)
    ∙ lends_stay_none ls frame (λ k m at. behind (suc k) m (omega arith) at)
  where
    lends_stay_none : (ms : List Lend) (frame : ℕ) → ((k : ℕ) (m : Lend) → slice_get ms k ≡ Some m → m.frame ≡ frame) → lends_after_call frame ms ≡ []
    lends_stay_none [] frame all = refl
    lends_stay_none (m ∷ ms) frame all = ends_one m ms frame (all 0 m refl) ∙ lends_stay_none ms frame (λ k x at. all (suc k) x at)
lends_stay (l ∷ ls) (suc n) frame before behind =
    let lt = before 0 l (omega arith) refl in
    keeps_one l ls frame (omega (arith, lt))
    ∙ ap (λ xs. l ∷ xs) (lends_stay ls n frame (λ k m less at. before (suc k) m (omega (arith, less)) at) (λ k m le at. behind (suc k) m (omega (arith, le)) at))

choice : {X : Type 0} (b c : Bool) (x y : X) → b ≡ c → (if b then x else y) ≡ (if c then x else y)
choice b c x y e = ap (λ (d : Bool). if d then x else y) e

-- the lends to the call end, one after another
pub tables_unlent : (lends : List Lend) (n frame : ℕ) (tables : List Handles) → Below lends n frame → Behind lends n frame → tables_after_call frame lends tables ≡ tables_after_unlends (drop n lends) tables
tables_unlent [] zero frame tables before behind = refl
tables_unlent [] (suc n) frame tables before behind = refl
tables_unlent (l ∷ ls) zero frame tables before behind =
    ap (λ (ts : List Handles). tables_after_call frame ls ts) (choice (l.frame == frame) true (tables_after_unlend l tables) tables (eq-eqb l.frame frame (behind 0 l (omega arith) refl)))
    ∙ (tables_unlent ls zero frame (tables_after_unlend l tables) (λ k m less at. absurd (omega (arith, less))) (λ k m le at. behind (suc k) m (omega arith) at)
    ∙ same_rest ls (tables_after_unlend l tables))
  where
    same_rest : (ms : List Lend) (ts : List Handles) → tables_after_unlends (drop 0 ms) ts ≡ tables_after_unlends ms ts
    same_rest [] ts = refl
    same_rest (m ∷ ms) ts = refl
tables_unlent (l ∷ ls) (suc n) frame tables before behind =
    let lt = before 0 l (omega arith) refl in
    ap (λ (ts : List Handles). tables_after_call frame ls ts) (choice (l.frame == frame) false (tables_after_unlend l tables) tables (ne_eqb l.frame frame (omega (arith, lt))))
    ∙ tables_unlent ls n frame tables (λ k m less at. before (suc k) m (omega (arith, less)) at) (λ k m le at. behind (suc k) m (omega (arith, le)) at)

-- ---- what is lent

-- where a handle is lent there is a table
pub lent_inside : (tables : List Handles) (i k : ℕ) → 0 < lends_at (handle_at (table_at tables i) k) → i < length tables
lent_inside tables i k lent = elim (cases_lt i (length tables)) as (λ r. i < length tables) [
  | inl lt ↦ lt
  | inr le ↦
      let none : lends_at (handle_at (table_at tables i) k) ≡ 0 = ap (λ (t : Handles). lends_at (handle_at t k)) (table_past tables i le) ∙ ap (λ (o : Option Handle). lends_at o) (none_there k) in
      absurd (omega (arith, lent, none))
]

pub stands_lent : (o : Option Handle) → 0 < lends_at o → IsSomeAnd o (λ h. 0 < h.lends)
stands_lent None lt = absurd (omega (arith, lt))
stands_lent (Some h) lt = lt

abbrev hits : Lend → ℕ → ℕ → ℕ
hits l i k = if (l.instance == i) && (l.index == k) then 1 else 0

-- the first of these is lent
pub first_lent : (l : Lend) (ls : List Lend) (tables : List Handles) → AreLentAtLeast (l ∷ ls) tables → 0 < lends_at (handle_at (table_at tables l.instance) l.index)
first_lent l ls tables h =
    let one : hits l l.instance l.index ≡ 1 = hit_both (l.instance == l.instance) (l.index == l.index) (eq-eqb l.instance l.instance refl) (eq-eqb l.index l.index refl) in
    omega (arith, h l.instance l.index, one)

-- ---- one of them ends

once_less : (o : Option Handle) → lends_at (option_map (λ h. with_lends (h.lends - 1) h) o) ≡ lends_at o - 1
once_less None = refl
once_less (Some h) = refl

hits_same : (l : Lend) (k : ℕ) → k ≡ l.index → hits l l.instance k ≡ 1
hits_same l k is = hit_both (l.instance == l.instance) (l.index == k) (eq-eqb l.instance l.instance refl) (eq-eqb l.index k (sym is))

rest_here : (l : Lend) (ls : List Lend) (tables : List Handles) → AreLentAtLeast (l ∷ ls) tables → (k : ℕ) → count_lends l.instance k ls ≤ lends_at (handle_at (table_at (tables_after_unlend l tables) l.instance) k)
rest_here l ls tables h k =
    let t : Handles = table_at tables l.instance in
    let lt = lent_inside tables l.instance l.index (first_lent l ls tables h) in
    let is : lends_at (handle_at (table_at (tables_after_unlend l tables) l.instance) k) ≡ lends_at (handle_at (after_unlend t l.index) k) = ap (λ (x : Handles). lends_at (handle_at x k)) (table_same tables l.instance (after_unlend t l.index) lt) in
    elim (cases_eq k l.index) as (λ r. count_lends l.instance k ls ≤ lends_at (handle_at (table_at (tables_after_unlend l tables) l.instance) k)) [
      | inl same ↦
          let less : lends_at (handle_at (after_unlend t k) k) ≡ lends_at (handle_at t k) - 1 = ap (λ (o : Option Handle). lends_at o) (at_change t k (λ x. with_lends (x.lends - 1) x)) ∙ once_less (handle_at t k) in
          let there : lends_at (handle_at (after_unlend t l.index) k) ≡ lends_at (handle_at t k) - 1 = ap (λ n. lends_at (handle_at (after_unlend t n) k)) (sym same) ∙ less in
          omega (arith, h l.instance k, is, there, hits_same l k same)
      | inr ne ↦
          let there : lends_at (handle_at (after_unlend t l.index) k) ≡ lends_at (handle_at t k) = ap (λ (o : Option Handle). lends_at o) (get_or-set_other t.slots l.index k (option_map (λ x. with_lends (x.lends - 1) x) (handle_at t l.index)) None ne) in
          omega (arith, h l.instance k, is, there)
    ]

-- the others are lent still
pub rest_lent : (l : Lend) (ls : List Lend) (tables : List Handles) → AreLentAtLeast (l ∷ ls) tables → AreLentAtLeast ls (tables_after_unlend l tables)
rest_lent l ls tables h i k = elim (cases_eq i l.instance) as (λ r. count_lends i k ls ≤ lends_at (handle_at (table_at (tables_after_unlend l tables) i) k)) [
  | inl same ↦ subst (λ j. count_lends j k ls ≤ lends_at (handle_at (table_at (tables_after_unlend l tables) j) k)) (sym same) (rest_here l ls tables h k)
  | inr ne ↦ omega (arith, h i k, ap (λ (t : Handles). lends_at (handle_at t k)) (table_other tables l.instance i (after_unlend (table_at tables l.instance) l.index) ne))
]

-- the table of the code in place of the list's
pub unlent_table : (ts : List TableState) (l : Lend) (old new : TableState) → l.instance < length ts → old ≡ get_or ts l.instance old → new.handles ≡ after_unlend old.handles l.index → handles_in (slice_set ts l.instance new) ≡ tables_after_unlend l (handles_in ts)
unlent_table ts l old new lt is unlent =
    let here : old.handles ≡ table_at (handles_in ts) l.instance = ap (λ (x : TableState). x.handles) is ∙ sym (table_in ts l.instance old lt) in
    handles_set ts l.instance new ∙ ap (λ (t : Handles). slice_set (handles_in ts) l.instance t) (unlent ∙ ap (λ (t : Handles). after_unlend t l.index) here)

-- how many are borrowed stays
unlend_keeps : ((t : Handles) (index call : ℕ) → borrows_of call (after_unlend t index) ≡ borrows_of call t) → (l : Lend) (tables : List Handles) (call i : ℕ) → borrows_of call (table_at (tables_after_unlend l tables) i) ≡ borrows_of call (table_at tables i)
unlend_keeps law l tables call i = elim (cases_eq i l.instance) as (λ r. borrows_of call (table_at (tables_after_unlend l tables) i) ≡ borrows_of call (table_at tables i)) [
  | inl same ↦ elim (cases_lt l.instance (length tables)) as (λ r. borrows_of call (table_at (tables_after_unlend l tables) i) ≡ borrows_of call (table_at tables i)) [
    | inl lt ↦
        let is : table_at (tables_after_unlend l tables) l.instance ≡ after_unlend (table_at tables l.instance) l.index = table_same tables l.instance (after_unlend (table_at tables l.instance) l.index) lt in
        subst (λ j. borrows_of call (table_at (tables_after_unlend l tables) j) ≡ borrows_of call (table_at tables j)) (sym same) (ap (λ (t : Handles). borrows_of call t) is ∙ law (table_at tables l.instance) l.index call)
    | inr le ↦ ap (λ (ts : List Handles). borrows_of call (table_at ts i)) (set_past tables l.instance (after_unlend (table_at tables l.instance) l.index) le)
  ]
  | inr ne ↦ ap (λ (t : Handles). borrows_of call t) (table_other tables l.instance i (after_unlend (table_at tables l.instance) l.index) ne)
]

pub unlends_keep : ((t : Handles) (index call : ℕ) → borrows_of call (after_unlend t index) ≡ borrows_of call t) → (ls : List Lend) (tables : List Handles) (call i : ℕ) → borrows_of call (table_at (tables_after_unlends ls tables) i) ≡ borrows_of call (table_at tables i)
unlends_keep law [] tables call i = refl
unlends_keep law (l ∷ ls) tables call i = unlends_keep law ls (tables_after_unlend l tables) call i ∙ unlend_keeps law l tables call i

-- ---- in a state whose lends are counted

count_behind : (i k n : ℕ) (ls : List Lend) → count_lends i k (drop n ls) ≤ count_lends i k ls
count_behind i k zero [] = omega arith
count_behind i k (suc n) [] = omega arith
count_behind i k zero (l ∷ ls) = omega arith
count_behind i k (suc n) (l ∷ ls) = omega (arith, count_behind i k n ls)

-- what is counted is there
counted_one : (i k : ℕ) (ls : List Lend) → 0 < count_lends i k ls → (l : Lend) × Contains ls l × (l.instance ≡ i) × (l.index ≡ k)
counted_one i k [] lt = absurd (omega (arith, lt))
counted_one i k (l ∷ ls) lt = elim (cases_lt 0 (hits l i k)) as (λ r. (m : Lend) × Contains (l ∷ ls) m × (m.instance ≡ i) × (m.index ≡ k)) [
  | inl hit ↦ let b = hit_by (l.instance == i) (l.index == k) hit in (l, (0, omega arith, refl), eqb-true l.instance i b.0, eqb-true l.index k b.1)
  | inr none ↦ let m = counted_one i k ls (omega (arith, lt, none)) in (m.0, (suc m.1.0, omega (arith, m.1.1), m.1.2), m.2, m.3)
]

counts_at : (s : State) → AreCounted s → (i k : ℕ) (o : Option Handle) → standing s.tables i k ≡ o → count_lends i k s.lends ≤ lends_at o
counts_at s counted i k (Some h) is = omega (arith, counted.counted i k h is)
counts_at s counted i k None is = elim (cases_lt 0 (count_lends i k s.lends)) as (λ r. count_lends i k s.lends ≤ 0) [
  | inl some ↦
      let l = counted_one i k s.lends some in
      let h = counted.of_handles l.0 l.1 in
      let there : standing s.tables i k ≡ Some h.0 = ap (λ j. standing s.tables j k) (sym l.2) ∙ (ap (λ n. standing s.tables l.0.instance n) (sym l.3) ∙ h.1) in
      absurd (none-some h.0 (sym is ∙ there))
  | inr none ↦ none
]

pub all_lent : (s : State) → AreCounted s → AreLentAtLeast s.lends s.tables
all_lent s counted i k = counts_at s counted i k (standing s.tables i k) refl

-- those from a place on are lent too
pub behind_lent : (lends : List Lend) (tables : List Handles) (n : ℕ) → AreLentAtLeast lends tables → AreLentAtLeast (drop n lends) tables
behind_lent lends tables n lent i k = omega (arith, count_behind i k n lends, lent i k)

-- ---- from a place on

pub behind_all : {X : Type 0} (xs : List X) (n : ℕ) → take (length xs - n) (drop n xs) ≡ drop n xs
behind_all xs n = take_all (length xs - n) (drop n xs) (omega (arith, length-drop n xs))
