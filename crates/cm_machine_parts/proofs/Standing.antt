-- Frames of a valid state.
use Rattle.std.proofs.Common.{◌≡◌, ◌≢◌, ℕ, zero, suc, ◌+◌, ◌<◌, ◌≤◌, ◌⊎◌, inl, inr, Bool, true, false, List, [], ◌∷◌, length, get_or, Option, Some, None, refl, sym, ap, subst, ◌∙◌, arith}
use Rattle.std.specs.Prelude.{slice_index, slice_set, slice_get, ◌==◌, if◌then◌else◌}
use Rattle.std.proofs.lemmas.Bool.{cases_eq, cases_lt, eq-eqb, ne_eqb}
use Rattle.std.proofs.lemmas.List.{get_or-set_same, get_or-set_other}
use Rattle.std.proofs.lemmas.Option.{none-some, same_Some}
use Rattle.cm_handles.specs.Borrows.{borrows_of}
use Rattle.cm_handles.specs.declared.handle.Handle.{Handle}
use Rattle.cm_handles.specs.declared.handle.HandleKind.TheVariants as kind
use Rattle.cm_handles.specs.Handles.{Handles, TableState, handle_at}
use Rattle.cm_machine_model.specs.declared.frame.Call.{Call}
use Rattle.cm_machine_model.specs.declared.frame.Frame.{Frame}
use Rattle.cm_machine_model.specs.declared.frame.Purpose.TheVariants as purpose
use Rattle.cm_machine_model.specs.Plan.{Plan}
use Rattle.cm_machine_model.specs.Stack.{actor, top_of}
use Rattle.cm_machine_model.specs.State.{State, table_at}
use Rattle.cm_machine_model.specs.Valid.{IsStack, IsValidState, frame_at}
use Rattle.cm_machine_parts.specs.Kept.{AreBorrowsCounted}
use Rattle.cm_machine_parts.specs.States.{handles_in}
use Rattle.cm_machine_parts.proofs.Tables.{table_in}
use Rattle.cm_machine_model.proofs.StackLaws.{acts_for}
use Rattle.cm_machine_model.proofs.ValidLaws.{frame_within}
use Rattle.cm_lemmas.proofs.Lists.{set_past}
use Rattle.cm_machine_model.proofs.StateLaws.{table_other, table_same}

-- ---- who acts

pub acts : (plan : Plan) (fs : List Frame) (top : Frame) → IsStack plan fs → top_of fs ≡ Some top → actor top < length plan
acts plan [] top stack is = absurd (none-some top is)
acts plan (f ∷ fs) top stack is =
    subst (λ (g : Frame). actor g < length plan) (same_Some f top is)
    (acts_for plan f.purpose f.instance fs stack.0 stack.1 (λ g at. acts plan fs g stack.2 at))

-- ---- borrows

-- none is borrowed for a call that is not there yet
pub unborrowed : (plan : Plan) (s : State) (i : ℕ) → IsValidState plan s
    → ((t : Handles) (call : ℕ) → ((index : ℕ) (h : Handle) → handle_at t index ≡ Some h → h.kind ≢ kind.Borrowed call) → borrows_of call t ≡ 0)
    → borrows_of (length s.stack) (table_at s.tables i) ≡ 0
unborrowed plan s i valid law =
    law (table_at s.tables i) (length s.stack) (λ index h at is.
    let b = valid.borrowed i index (length s.stack) h at is in
    let lt = frame_within s.stack (length s.stack) (record { instance = i; purpose = purpose.Call b.stands_call }) b.stands in
    omega (arith, lt))

pub counted_pushed : (borrows : List ℕ) (f : Frame) (fs : List Frame) (tables : List Handles) → AreBorrowsCounted borrows fs tables → length fs < length borrows → borrows_of (length fs) (table_at tables f.instance) ≡ 0 → AreBorrowsCounted (slice_set borrows (length fs) 0) (f ∷ fs) tables
counted_pushed borrows f fs tables counted room none place g at = elim (cases_eq place (length fs)) as (λ r. slice_index (slice_set borrows (length fs) 0) place ≡ borrows_of place (table_at tables g.instance)) [
  | inl same ↦
      let is : Some f ≡ Some g = sym (ap (λ (b : Bool). if b then Some f else frame_at fs place) (eq-eqb place (length fs) same)) ∙ at in
      let here : slice_index (slice_set borrows (length fs) 0) (length fs) ≡ 0 = get_or-set_same borrows (length fs) 0 0 room in
      subst (λ n. slice_index (slice_set borrows (length fs) 0) n ≡ borrows_of n (table_at tables g.instance)) (sym same)
      (here ∙ sym (ap (λ (h : Frame). borrows_of (length fs) (table_at tables h.instance)) (sym (same_Some f g is)) ∙ none))
  | inr ne ↦
      let is : frame_at fs place ≡ Some g = sym (ap (λ (b : Bool). if b then Some f else frame_at fs place) (ne_eqb place (length fs) ne)) ∙ at in
      get_or-set_other borrows (length fs) place 0 0 ne ∙ counted place g is
]

-- a table changes in which as many are borrowed for a call
same_at : (tables : List Handles) (i : ℕ) (t : Handles) (call j : ℕ) → borrows_of call t ≡ borrows_of call (table_at tables i) → borrows_of call (table_at tables j) ≡ borrows_of call (table_at (slice_set tables i t) j)
same_at tables i t call j same = elim (cases_eq j i) as (λ r. borrows_of call (table_at tables j) ≡ borrows_of call (table_at (slice_set tables i t) j)) [
  | inl e ↦ elim (cases_lt i (length tables)) as (λ r. borrows_of call (table_at tables j) ≡ borrows_of call (table_at (slice_set tables i t) j)) [
    | inl lt ↦
        let here : borrows_of call (table_at tables i) ≡ borrows_of call (table_at (slice_set tables i t) i) = sym same ∙ ap (λ (x : Handles). borrows_of call x) (sym (table_same tables i t lt)) in
        subst (λ n. borrows_of call (table_at tables n) ≡ borrows_of call (table_at (slice_set tables i t) n)) (sym e) here
    | inr le ↦ ap (λ (ts : List Handles). borrows_of call (table_at ts j)) (sym (set_past tables i t le))
  ]
  | inr ne ↦ ap (λ (x : Handles). borrows_of call x) (sym (table_other tables i j t ne))
]

pub counted_changed : (borrows : List ℕ) (fs : List Frame) (tables : List Handles) (i : ℕ) (t : Handles) → AreBorrowsCounted borrows fs tables → ((call : ℕ) → borrows_of call t ≡ borrows_of call (table_at tables i)) → AreBorrowsCounted borrows fs (slice_set tables i t)
counted_changed borrows fs tables i t counted same place f at = counted place f at ∙ same_at tables i t place f.instance (same place)

-- the number of one place changes with the table of its frame
pub counted_anew : (borrows : List ℕ) (fs : List Frame) (tables : List Handles) (i : ℕ) (t : Handles) (place n : ℕ) → AreBorrowsCounted borrows fs tables → place < length borrows → i < length tables
    → ((f : Frame) → frame_at fs place ≡ Some f → (f.instance ≡ i) × (n ≡ borrows_of place t)) → ((call : ℕ) → call ≢ place → borrows_of call t ≡ borrows_of call (table_at tables i)) → AreBorrowsCounted (slice_set borrows place n) fs (slice_set tables i t)
counted_anew borrows fs tables i t place n counted room lt here others p f at = elim (cases_eq p place) as (λ r. slice_index (slice_set borrows place n) p ≡ borrows_of p (table_at (slice_set tables i t) f.instance)) [
  | inl e ↦
      let there = here f (subst (λ q. frame_at fs q ≡ Some f) e at) in
      let table : table_at (slice_set tables i t) f.instance ≡ t = ap (λ j. table_at (slice_set tables i t) j) there.0 ∙ table_same tables i t lt in
      let is : slice_index (slice_set borrows place n) place ≡ borrows_of place (table_at (slice_set tables i t) f.instance) = get_or-set_same borrows place n 0 room ∙ (there.1 ∙ ap (λ (x : Handles). borrows_of place x) (sym table)) in
      subst (λ q. slice_index (slice_set borrows place n) q ≡ borrows_of q (table_at (slice_set tables i t) f.instance)) (sym e) is
  | inr ne ↦ get_or-set_other borrows place p n 0 ne ∙ (counted p f at ∙ same_at tables i t p f.instance (others p ne))
]

-- ---- tables

pub table_read : (ts : List TableState) (i : ℕ) (t : TableState) → i < length ts → t ≡ get_or ts i t → table_at (handles_in ts) i ≡ t.handles
table_read ts i t lt is = table_in ts i t lt ∙ ap (λ (x : TableState). x.handles) (sym is)
