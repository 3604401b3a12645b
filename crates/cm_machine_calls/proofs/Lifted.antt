-- The state once a value was lifted: tables, counts and lends, and what is on its way.
use Rattle.std.proofs.Common.{◌≡◌, ◌≢◌, ℕ, zero, suc, ◌+◌, ◌<◌, ◌≤◌, ◌⊎◌, inl, inr, List, [], ◌∷◌, length, Option, Some, None, refl, sym, ap, subst, ◌∙◌, arith}
use Rattle.std.specs.Prelude.{Contains, slice_index, slice_set}
use Rattle.std.specs.Option.{option_map}
use Rattle.std.proofs.lemmas.Bool.{cases_eq}
use Rattle.std.proofs.lemmas.List.{get_or-set_same}
use Rattle.cm_types.specs.declared.core_value.CoreValue.{CoreValue}
use Rattle.cm_types.specs.Values.{Val}
use Rattle.cm_handles.specs.Borrows.{borrows_of}
use Rattle.cm_handles.specs.Handles.{Handles, IsSoundHandles, handle_at, no_handles, with_lends}
use Rattle.cm_handles.specs.declared.handle.Handle.{Handle}
use Rattle.cm_abi_model.specs.Handed.{IsHanded, times}
use Rattle.cm_abi_model.specs.Taken.{CanGo, Met, lent_of, taken_of}
use Rattle.cm_abi_model.specs.Views.{View, Way}
use Rattle.cm_machine_model.specs.declared.event.Event.{Event}
use Rattle.cm_machine_model.specs.declared.event.Event.TheVariants as event
use Rattle.cm_machine_model.specs.declared.event.Trap.{Trap}
use Rattle.cm_machine_model.specs.declared.event.Trap.TheVariants as trap
use Rattle.cm_machine_model.specs.declared.frame.Frame.{Frame}
use Rattle.cm_machine_model.specs.declared.frame.Lend.{Lend}
use Rattle.cm_machine_model.specs.Owning.{count_lends}
use Rattle.cm_machine_model.specs.Passages.{HasAnswers, IsScanned, asked_for}
use Rattle.cm_machine_model.specs.Plan.{Link}
use Rattle.cm_machine_model.specs.State.{Passage, State, after_trap, table_at}
use Rattle.cm_machine_model.specs.Step.{Lifts, trap_of}
use Rattle.cm_machine_parts.specs.Kept.{AreBorrowsCounted}
use Rattle.cm_machine_parts.specs.Lends.{AreLentAtLeast, lends_at}
use Rattle.cm_machine_calls.specs.Lifting.{StopsLift}
use Rattle.cm_machine_calls.proofs.Borrows.{counted_over, counted_pushed, counted_turned}
use Rattle.cm_machine_calls.proofs.Pairs.{at_other, at_same}
use Rattle.cm_machine_calls.proofs.Rows.{traps_here}
use Rattle.cm_abi_model.proofs.AnsweringLaws.{none_placed}

-- ---- a lift that stops

pub lift_stops : (s new : State) (w : View) (l : Link) (way : Way) (xs : List CoreValue) (row : Val → Passage → Event → State → Type 0) (t : Trap)
    → StopsLift w l way xs t → new ≡ s → Lifts s w l way xs row (event.Trapped t) (after_trap new)
lift_stops s new w l way xs row t (inl x) same = inl (x.0, x.1, traps_here s new t (trap_of x.0) same x.2)
lift_stops s new w l way xs row t (inr x) same = inr (inl (x.0, traps_here s new t trap.EngineMemory same x.1))

-- ---- nothing is answered yet

pub none_answered : (w : View) (l : Link) (way : Way) (xs : List CoreValue) (v : Val) (p : Passage) → IsScanned w l way xs v p → HasAnswers (asked_for l way p v) [] p
none_answered w l way xs v p scanned = record {
  count = scanned.none_answered;
  last = scanned.none_last;
  places = scanned.none_placed ∙ sym (none_placed (asked_for l way p v));
}

-- ---- tables

-- one table is changed, to a sound one
pub sound_lifted : (ts us : List Handles) (i : ℕ) (t : Handles) → us ≡ slice_set ts i t → ((j : ℕ) → IsSoundHandles (table_at ts j)) → IsSoundHandles (table_at us i)
    → (j : ℕ) → IsSoundHandles (table_at us j)
sound_lifted ts us i t is sound new j = elim (cases_eq j i) as (λ r. IsSoundHandles (table_at us j)) [
  | inl e ↦ subst (λ n. IsSoundHandles (table_at us n)) (sym e) new
  | inr ne ↦ subst IsSoundHandles (sym (ap (λ (xs : List Handles). table_at xs j) is ∙ at_other ts i j t no_handles ne)) (sound j)
]

-- as many are borrowed for each call where one table changes that has as many
pub same_borrows : (ts : List Handles) (i : ℕ) (t : Handles) → i < length ts → ((call : ℕ) → borrows_of call t ≡ borrows_of call (table_at ts i))
    → (j place : ℕ) → borrows_of place (table_at (slice_set ts i t) j) ≡ borrows_of place (table_at ts j)
same_borrows ts i t there same j place = elim (cases_eq j i) as (λ r. borrows_of place (table_at (slice_set ts i t) j) ≡ borrows_of place (table_at ts j)) [
  | inl e ↦
      ap (λ n. borrows_of place (table_at (slice_set ts i t) n)) e ∙ ap (borrows_of place) (at_same ts i t no_handles there) ∙ same place
      ∙ ap (λ n. borrows_of place (table_at ts n)) (sym e)
  | inr ne ↦ ap (borrows_of place) (at_other ts i j t no_handles ne)
]

-- a frame is pushed for which nothing is borrowed
pub counted_call : (b c : List ℕ) (f : Frame) (fs : List Frame) (ts : List Handles) (i : ℕ) (t : Handles) → i < length ts → length fs < length b → c ≡ slice_set b (length fs) 0
    → borrows_of (length fs) (table_at ts f.instance) ≡ 0 → ((call : ℕ) → borrows_of call t ≡ borrows_of call (table_at ts i)) → AreBorrowsCounted b fs ts
    → AreBorrowsCounted c (f ∷ fs) (slice_set ts i t)
counted_call b c f fs ts i t there room is none same counted =
    counted_over c (f ∷ fs) ts (slice_set ts i t) (same_borrows ts i t there same)
    (counted_pushed b c f fs ts (ap (λ (x : List ℕ). slice_index x (length fs)) is ∙ get_or-set_same b (length fs) 0 0 room) is none counted)

-- the frame on top is turned into another of its instance
pub counted_back : (b : List ℕ) (f g : Frame) (fs : List Frame) (ts : List Handles) (i : ℕ) (t : Handles) → i < length ts → g.instance ≡ f.instance
    → ((call : ℕ) → borrows_of call t ≡ borrows_of call (table_at ts i)) → AreBorrowsCounted b (f ∷ fs) ts → AreBorrowsCounted b (g ∷ fs) (slice_set ts i t)
counted_back b f g fs ts i t there at same counted =
    counted_over b (g ∷ fs) ts (slice_set ts i t) (same_borrows ts i t there same) (counted_turned b f g fs ts at counted)

-- ---- lends

more_lends : (o : Option Handle) (n : ℕ) → lends_at o ≤ lends_at (option_map (λ h. with_lends (h.lends + n) h) o)
more_lends None n = omega arith
more_lends (Some h) n = omega arith

is_among : (index : ℕ) (xs : List ℕ) → Contains xs index ⊎ (Contains xs index → ⊥)
is_among index [] = inr (λ c. omega (arith, c.1))
is_among index (x ∷ xs) = elim (cases_eq x index) as (λ r. Contains (x ∷ xs) index ⊎ (Contains (x ∷ xs) index → ⊥)) [
  | inl e ↦ inl (0, omega arith, e)
  | inr ne ↦ elim (is_among index xs) as (λ r. Contains (x ∷ xs) index ⊎ (Contains (x ∷ xs) index → ⊥)) [
    | inl c ↦ inl (suc c.0, omega (arith, c.1), c.2)
    | inr none ↦ inr (not_among x xs index ne none)
  ]
] where
  not_among : (x : ℕ) (xs : List ℕ) (index : ℕ) → x ≢ index → (Contains xs index → ⊥) → Contains (x ∷ xs) index → ⊥
  not_among x xs index ne none (zero, lt, is) = ne is
  not_among x xs index ne none (suc k, lt, is) = none (k, omega (arith, lt), is)

none_lent : (o : Option Handle) (n : ℕ) → n ≤ lends_at o → ((h : Handle) → o ≡ Some h → h.lends ≡ 0) → n ≤ 0
none_lent None n few free = few
none_lent (Some h) n few free = omega (arith, few, free h refl)

lent_at : (t new : Handles) (most : ℕ) (ms : List Met) (index n : ℕ) → CanGo t most ms → IsHanded t ms new → n ≤ lends_at (handle_at t index) → n ≤ lends_at (handle_at new index)
lent_at t new most ms index n go handed few = elim (is_among index (taken_of ms)) as (λ r. n ≤ lends_at (handle_at new index)) [
  | inl c ↦ omega (arith, none_lent (handle_at t index) n few (λ h is. go.free index h c is), ap lends_at (handed.gone index c))
  | inr none ↦ omega (arith, few, more_lends (handle_at t index) (times index (lent_of ms)), ap lends_at (handed.stays index none))
]

-- each handle is lent at least as often as before
pub lent_lifted : (ls : List Lend) (ts : List Handles) (i : ℕ) (new : Handles) (most : ℕ) (ms : List Met) → i < length ts → CanGo (table_at ts i) most ms → IsHanded (table_at ts i) ms new
    → AreLentAtLeast ls ts → AreLentAtLeast ls (slice_set ts i new)
lent_lifted ls ts i new most ms there go handed few j index = elim (cases_eq j i) as (λ r. count_lends j index ls ≤ lends_at (handle_at (table_at (slice_set ts i new) j) index)) [
  | inl e ↦
      let old : count_lends j index ls ≤ lends_at (handle_at (table_at ts i) index) = omega (arith, few j index, ap (λ n. lends_at (handle_at (table_at ts n) index)) e) in
      omega (
        arith,
        lent_at (table_at ts i) new most ms index (count_lends j index ls) go handed old,
        ap (λ n. lends_at (handle_at (table_at (slice_set ts i new) n) index)) e,
        ap (λ (x : Handles). lends_at (handle_at x index)) (at_same ts i new no_handles there),
      )
  | inr ne ↦ omega (arith, few j index, ap (λ (x : Handles). lends_at (handle_at x index)) (at_other ts i j new no_handles ne))
]
