-- What the changes of a handle table leave of its handles, but for how often they are lent.
use Rattle.std.proofs.Common.{◌≡◌, ℕ, zero, suc, ◌+◌, ◌-◌, ◌<◌, ◌≤◌, inl, inr, Bool, true, false, List, []}
use Rattle.std.proofs.Common.{◌∷◌, ◌++◌, length, Option, Some, None, refl, sym, ap, subst, ◌∙◌, arith}
use Rattle.std.specs.Prelude.{Contains, slice_get, slice_set, unwrap_or, ◌==◌, if◌then◌else◌}
use Rattle.std.specs.Option.{option_map}
use Rattle.std.proofs.lemmas.Bool.{cases_eq, cases_lt}
use Rattle.std.proofs.lemmas.List.{get_or-set_other, get_or-set_same}
use Rattle.std.proofs.lemmas.Option.{none-some}
use Rattle.cm_handles.specs.Changes.{AddsTo, ReleasesFrom}
use Rattle.cm_handles.specs.Handles.{Handles, IsSoundHandles, after_add, after_unlend}
use Rattle.cm_handles.specs.Handles.{handle_at, indices_left, next_index, no_handles, with_lends}
use Rattle.cm_handles.specs.declared.handle.Handle.{Handle}
use Rattle.cm_abi_model.specs.declared.receiver.Receiver.{Receiver}
use Rattle.cm_abi_model.specs.Giving.{added_by, added_count, added_for, after_given, with_added}
use Rattle.cm_abi_model.specs.Handed.{IsHanded, times}
use Rattle.cm_abi_model.specs.Receives.{HandleLeaf}
use Rattle.cm_abi_model.specs.Taken.{CanGo, AllThere, Met, after_met, lent_of, taken_of}
use Rattle.cm_machine_model.specs.declared.frame.Lend.{Lend}
use Rattle.cm_machine_model.specs.State.{table_at, tables_after_call, tables_after_unlend}
use Rattle.cm_machine_laws.specs.HandleChanges.{AreAdded, AreGone, StandsAdded, StayBut, index_of_added, indices_given}
use Rattle.cm_machine_laws.specs.HandleChanges.{unlent}
use Rattle.cm_lemmas.proofs.Lists.{Contains-nil, set_past}
use Rattle.cm_machine_model.proofs.StateLaws.{table_same}

-- ---- what is asked of the layers below

abbrev pub Adds : Type 0
Adds = (t : Handles) (h : Handle) → IsSoundHandles t → 0 < indices_left t → AddsTo t h

abbrev pub Releases : Type 0
Releases = (t : Handles) (index : ℕ) (h : Handle) → IsSoundHandles t → handle_at t index ≡ Some h
    → ReleasesFrom t index

abbrev pub HandsOver : Type 0
HandsOver = (t : Handles) (most : ℕ) (ms : List Met) → AllThere t ms → CanGo t most ms
    → IsSoundHandles t → IsHanded t ms (after_met t ms)

-- ---- lists

pub set_length : {X : Type 0} (xs : List X) (i : ℕ) (x : X) → length (slice_set xs i x) ≡ length xs
set_length [] i x = refl
set_length (y ∷ ys) zero x = refl
set_length (y ∷ ys) (suc i) x = ap suc (set_length ys i x)

get_set_other : {X : Type 0} (xs : List X) (i j : ℕ) (x : X) → (j ≡ i → ⊥)
    → slice_get (slice_set xs i x) j ≡ slice_get xs j
get_set_other [] i j x ne = refl
get_set_other (y ∷ ys) zero zero x ne = absurd (ne refl)
get_set_other (y ∷ ys) zero (suc j) x ne = refl
get_set_other (y ∷ ys) (suc i) zero x ne = refl
get_set_other (y ∷ ys) (suc i) (suc j) x ne = get_set_other ys i j x (λ e. ne (ap suc e))

pub table_other : (ts : List Handles) (i j : ℕ) (t : Handles) → (j ≡ i → ⊥)
    → table_at (slice_set ts i t) j ≡ table_at ts j
table_other ts i j t ne =
    ap (λ (o : Option Handles). unwrap_or o no_handles) (get_set_other ts i j t ne)

-- ---- indices among some

first_among : (n i : ℕ) (ns : List ℕ) → i ≡ n → Contains (n ∷ ns) i
first_among n i ns e = (0, omega arith, sym e)

later_among : (n i : ℕ) (ns : List ℕ) → Contains ns i → Contains (n ∷ ns) i
later_among n i ns c = (suc c.0, omega (arith, c.1), c.2)

-- ---- what stays

pub stays : (t : Handles) (is : List ℕ) → StayBut t t is
stays t is = record { stay = λ index not. refl }

pub stays_both : (a b c : Handles) (is : List ℕ) → StayBut a b is → StayBut b c is → StayBut a c is
stays_both a b c is x y = record { stay = λ index not. y.stay index not ∙ x.stay index not }

-- where all stays, all but these stays
pub stays_but : (a b : Handles) (is : List ℕ) → StayBut a b [] → StayBut a b is
stays_but a b is x = record { stay = λ index not. x.stay index (Contains-nil index) }

pub stays_as : (a b : Handles) → b ≡ a → StayBut a b []
stays_as a b e = subst (λ (t : Handles). StayBut a t []) (sym e) (stays a [])

-- one index is another now
pub changes_one : (t new : Handles) (index : ℕ)
    → ((other : ℕ) → (other ≡ index → ⊥) → handle_at new other ≡ handle_at t other)
    → StayBut t new (index ∷ [])
changes_one t new index others = record {
  stay = λ other not.
      ap (λ (o : Option Handle). option_map unlent o)
      (others other (λ e. not (first_among index other [] e)));
}

-- ---- a lend ends

lent_less : (o : Option Handle)
    → option_map unlent (option_map (λ h. with_lends (h.lends - 1) h) o) ≡ option_map unlent o
lent_less None = refl
lent_less (Some h) = refl

one_unlent : (t : Handles) (k : ℕ) → StayBut t (after_unlend t k) []
one_unlent t k = record {
  stay = λ index not. elim (cases_eq index k) as (λ r. option_map unlent (handle_at (after_unlend t k) index) ≡ option_map unlent (handle_at t index)) [
    | inl same ↦ subst (λ (i : ℕ). option_map unlent (handle_at (after_unlend t k) i) ≡ option_map unlent (handle_at t i)) (sym same) here
    | inr apart ↦ ap (λ (o : Option Handle). option_map unlent o) (get_or-set_other t.slots k index less None apart)
  ];
} where
  less : Option Handle
  less = option_map (λ h. with_lends (h.lends - 1) h) (handle_at t k)

  here : option_map unlent (handle_at (after_unlend t k) k) ≡ option_map unlent (handle_at t k)
  here = elim (cases_lt k (length t.slots)) as (λ r. option_map unlent (handle_at (after_unlend t k) k) ≡ option_map unlent (handle_at t k)) [
    | inl lt ↦ ap (λ (o : Option Handle). option_map unlent o) (get_or-set_same t.slots k less None lt) ∙ lent_less (handle_at t k)
    | inr le ↦ ap (λ (xs : List (Option Handle)). option_map unlent (handle_at (record { slots = xs; freed = t.freed }) k)) (set_past t.slots k less le)
  ]

lend_ends : (ts : List Handles) (l : Lend) (i : ℕ)
    → StayBut (table_at ts i) (table_at (tables_after_unlend l ts) i) []
lend_ends ts l i = elim (cases_eq i l.instance) as (λ r. StayBut (table_at ts i) (table_at (tables_after_unlend l ts) i) []) [
  | inl same ↦ elim (cases_lt l.instance (length ts)) as (λ r. StayBut (table_at ts i) (table_at (tables_after_unlend l ts) i) []) [
    | inl lt ↦ subst (λ (j : ℕ). StayBut (table_at ts j) (table_at (tables_after_unlend l ts) j) []) (sym same)
        (subst (λ (t : Handles). StayBut (table_at ts l.instance) t []) (sym (table_same ts l.instance (after_unlend (table_at ts l.instance) l.index) lt))
        (one_unlent (table_at ts l.instance) l.index))
    | inr past ↦ stays_as (table_at ts i) (table_at (tables_after_unlend l ts) i)
        (ap (λ (xs : List Handles). table_at xs i) (set_past ts l.instance (after_unlend (table_at ts l.instance) l.index) past))
  ]
  | inr ne ↦ stays_as (table_at ts i) (table_at (tables_after_unlend l ts) i)
      (table_other ts l.instance i (after_unlend (table_at ts l.instance) l.index) ne)
]

-- once the lends of a call have ended, all stays
pub call_ends : (n : ℕ) (ls : List Lend) (ts : List Handles) (i : ℕ)
    → StayBut (table_at ts i) (table_at (tables_after_call n ls ts) i) []
call_ends n [] ts i = stays (table_at ts i) []
call_ends n (l ∷ ls) ts i =
    stays_both (table_at ts i) (table_at one i) (table_at (tables_after_call n ls one) i) []
    (by (l.frame == n)) (call_ends n ls one i) where
      one : List Handles
      one = if l.frame == n then tables_after_unlend l ts else ts

      by : (b : Bool) → StayBut (table_at ts i) (table_at (if b then tables_after_unlend l ts else ts) i) []
      by true = lend_ends ts l i
      by false = stays (table_at ts i) []

-- ---- what was met is handed over

lent_more : (n : ℕ) (o : Option Handle)
    → option_map unlent (option_map (λ h. with_lends (h.lends + n) h) o) ≡ option_map unlent o
lent_more n None = refl
lent_more n (Some h) = refl

pub met_stays : (t : Handles) (ms : List Met) → IsHanded t ms (after_met t ms)
    → StayBut t (after_met t ms) (taken_of ms)
met_stays t ms handed = record {
  stay = λ index not.
      ap (λ (o : Option Handle). option_map unlent o) (handed.stays index not)
      ∙ lent_more (times index (lent_of ms)) (handle_at t index);
}

pub met_gone : (t : Handles) (ms : List Met) → IsHanded t ms (after_met t ms)
    → AreGone (after_met t ms) (taken_of ms)
met_gone t ms handed index among = handed.gone index among

-- nothing stands any longer where nothing stood, or only its lends were written
pub gone_stays : (a b : Handles) (is : List ℕ) → StayBut a b [] → AreGone a is → AreGone b is
gone_stays a b is x gone index among =
    nothing (handle_at b index) (x.stay index (Contains-nil index) ∙ ap (λ (o : Option Handle). option_map unlent o) (gone index among)) where
      nothing : (o : Option Handle) → option_map unlent o ≡ None → o ≡ None
      nothing None e = refl
      nothing (Some h) e = absurd (differ e) where
        differ : Some (unlent h) ≡ None → ⊥
        differ y = cc (y)

-- ---- handles are given

given_step : Adds → (to : Receiver) (leaves : List HandleLeaf)
    → ((u : Handles) → IsSoundHandles u → added_count to leaves ≤ indices_left u
    → StayBut u (after_given to u leaves) (indices_given to u leaves))
    → (t : Handles) → IsSoundHandles t → (o : Option Handle)
    → added_by o + added_count to leaves ≤ indices_left t
    → StayBut t (after_given to (with_added t o) leaves)
    (index_of_added o (next_index t) ++ indices_given to (with_added t o) leaves)
given_step adds to leaves rest t sound None room = rest t sound (omega (arith, room))
given_step adds to leaves rest t sound (Some h) room = record {
  stay = λ index not.
      others.stay index (λ c. not (later_among (next_index t) index (indices_given to (after_add t h) leaves) c))
      ∙ ap (λ (o : Option Handle). option_map unlent o)
      (one.changes.others index (λ e. not (first_among (next_index t) index (indices_given to (after_add t h) leaves) e)));
} where
  one : AddsTo t h
  one = adds t h sound (omega (arith, room))

  others : StayBut (after_add t h) (after_given to (after_add t h) leaves) (indices_given to (after_add t h) leaves)
  others = rest (after_add t h) one.sound (omega (arith, room, one.left))

pub given_stays : Adds → (to : Receiver) (leaves : List HandleLeaf) (t : Handles)
    → IsSoundHandles t → added_count to leaves ≤ indices_left t
    → StayBut t (after_given to t leaves) (indices_given to t leaves)
given_stays adds to [] t sound room = stays t []
given_stays adds to (leaf ∷ leaves) t sound room =
    given_step adds to leaves (λ u s r. given_stays adds to leaves u s r) t sound (added_for to leaf) room

-- what stands at an index is at none at which a handle is added
apart_step : Adds → (to : Receiver) (leaves : List HandleLeaf) (index : ℕ) (g : Handle)
    → ((u : Handles) → IsSoundHandles u → added_count to leaves ≤ indices_left u
    → handle_at u index ≡ Some g → Contains (indices_given to u leaves) index → ⊥)
    → (t : Handles) → IsSoundHandles t → (o : Option Handle)
    → added_by o + added_count to leaves ≤ indices_left t → handle_at t index ≡ Some g
    → Contains (index_of_added o (next_index t) ++ indices_given to (with_added t o) leaves) index
    → ⊥
apart_step adds to leaves index g rest t sound None room stands c = rest t sound (omega (arith, room)) stands c
apart_step adds to leaves index g rest t sound (Some h) room stands c = by c where
  one : AddsTo t h
  one = adds t h sound (omega (arith, room))

  apart : index ≡ next_index t → ⊥
  apart e = none-some g (sym one.vacant ∙ (ap (λ (n : ℕ). handle_at t n) (sym e) ∙ stands))

  by : Contains (next_index t ∷ indices_given to (after_add t h) leaves) index → ⊥
  by (zero, lt, e) = apart (sym e)
  by (suc k, lt, e) =
      rest (after_add t h) one.sound (omega (arith, room, one.left))
      (one.changes.others index apart ∙ stands) (k, omega (arith, lt), e)

occupied_apart : Adds → (to : Receiver) (leaves : List HandleLeaf) (index : ℕ) (g : Handle)
    (t : Handles) → IsSoundHandles t → added_count to leaves ≤ indices_left t
    → handle_at t index ≡ Some g → Contains (indices_given to t leaves) index → ⊥
occupied_apart adds to [] index g t sound room stands c = Contains-nil index c
occupied_apart adds to (leaf ∷ leaves) index g t sound room stands c =
    apart_step adds to leaves index g
    (λ u s r st d. occupied_apart adds to leaves index g u s r st d) t sound (added_for to leaf)
    room stands c

added_step : Adds → (to : Receiver) (leaves : List HandleLeaf)
    → ((u : Handles) → IsSoundHandles u → added_count to leaves ≤ indices_left u
    → AreAdded to u leaves (after_given to u leaves))
    → (t : Handles) → IsSoundHandles t → (o : Option Handle)
    → added_by o + added_count to leaves ≤ indices_left t
    → StandsAdded o (next_index t) (after_given to (with_added t o) leaves)
    × AreAdded to (with_added t o) leaves (after_given to (with_added t o) leaves)
added_step adds to leaves rest t sound None room = (tt, rest t sound (omega (arith, room)))
added_step adds to leaves rest t sound (Some h) room = (
  stays_there.stay (next_index t)
      (occupied_apart adds to leaves (next_index t) h (after_add t h) one.sound more one.changes.here)
      ∙ ap (λ (o : Option Handle). option_map unlent o) one.changes.here,
  rest (after_add t h) one.sound more,
) where
  one : AddsTo t h
  one = adds t h sound (omega (arith, room))

  more : added_count to leaves ≤ indices_left (after_add t h)
  more = omega (arith, room, one.left)

  stays_there : StayBut (after_add t h) (after_given to (after_add t h) leaves) (indices_given to (after_add t h) leaves)
  stays_there = given_stays adds to leaves (after_add t h) one.sound more

-- each handle that is given stands where it was added
pub given_added : Adds → (to : Receiver) (leaves : List HandleLeaf) (t : Handles)
    → IsSoundHandles t → added_count to leaves ≤ indices_left t
    → AreAdded to t leaves (after_given to t leaves)
given_added adds to [] t sound room = tt
given_added adds to (leaf ∷ leaves) t sound room =
    added_step adds to leaves (λ u s r. given_added adds to leaves u s r) t sound (added_for to leaf) room

stands_on : (o : Option Handle) (index : ℕ) (a b : Handles) → StayBut a b []
    → StandsAdded o index a → StandsAdded o index b
stands_on None index a b x y = tt
stands_on (Some h) index a b x y = x.stay index (Contains-nil index) ∙ y

-- and still does where all stays
pub added_stays : (to : Receiver) (leaves : List HandleLeaf) (t a b : Handles) → StayBut a b []
    → AreAdded to t leaves a → AreAdded to t leaves b
added_stays to [] t a b x y = tt
added_stays to (leaf ∷ leaves) t a b x y = (
  stands_on (added_for to leaf) (next_index t) a b x y.0,
  added_stays to leaves (with_added t (added_for to leaf)) a b x y.1,
)
