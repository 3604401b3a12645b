-- How many handles of a table are borrowed for a call: the same after a lift, for other calls after
-- a value was handed over, and by the frames that stand.
use Rattle.std.proofs.Common.{◌≡◌, ℕ, ◌+◌, ◌<◌, ◌≤◌, inl, inr, Bool, true, false, List, [], ◌∷◌, length, Option, Some, None, refl, sym, ap, ◌∙◌, arith}
use Rattle.std.specs.Prelude.{slice_index, slice_set, if◌then◌else◌, ◌==◌}
use Rattle.std.proofs.lemmas.Bool.{cases_eq, eq-eqb, ne_eqb}
use Rattle.std.proofs.lemmas.List.{get_or-set_other, get_or-set_same}
use Rattle.std.proofs.lemmas.Option.{none-some}
use Rattle.cm_types.specs.Values.{HandleValue}
use Rattle.cm_handles.specs.Borrows.{borrows_by, borrows_of, is_borrow_for}
use Rattle.cm_handles.specs.Changes.{AddsTo}
use Rattle.cm_handles.specs.Handles.{Handles, IsSoundHandles, after_add, after_lend, after_release, handle_at, indices_left}
use Rattle.cm_handles.specs.declared.handle.Handle.{Handle}
use Rattle.cm_handles.specs.declared.handle.HandleKind.{HandleKind}
use Rattle.cm_handles.specs.declared.handle.HandleKind.TheVariants.{Owned, Borrowed}
use Rattle.cm_abi_model.specs.Giving.{added_by, added_count, added_for, after_given, borrowed_count, handle_to, with_added}
use Rattle.cm_abi_model.specs.Receives.{HandleLeaf, borrowed_leaf, owned_leaf}
use Rattle.cm_abi_model.specs.Taken.{Met, after_met, content, lent, taken, text_content}
use Rattle.cm_abi_model.specs.declared.receiver.Receiver.{Receiver}
use Rattle.cm_machine_model.specs.Plans.{NoneBorrowed}
use Rattle.cm_machine_model.specs.State.{table_at}
use Rattle.cm_machine_model.specs.Valid.{frame_at}
use Rattle.cm_machine_model.specs.declared.frame.Frame.{Frame}
use Rattle.cm_machine_parts.specs.Kept.{AreBorrowsCounted}
use Rattle.cm_machine_laws.specs.Taking.{AreTaken}

-- ---- what handle tables promise

abbrev pub ReleaseCounts : Type 0
ReleaseCounts = (t : Handles) (index : ℕ) (h : Handle) (call : ℕ) → handle_at t index ≡ Some h
    → borrows_of call (after_release t index) + borrows_by call h ≡ borrows_of call t

abbrev pub LendCounts : Type 0
LendCounts = (t : Handles) (index call : ℕ) → borrows_of call (after_lend t index) ≡ borrows_of call t

abbrev pub AddCounts : Type 0
AddCounts = (t : Handles) (h : Handle) (call : ℕ) → IsSoundHandles t → borrows_of call (after_add t h) ≡ borrows_of call t + borrows_by call h

abbrev pub AddsFine : Type 0
AddsFine = (t : Handles) (h : Handle) → IsSoundHandles t → 0 < indices_left t → AddsTo t h

-- ---- a lift

owned_is_none : (call : ℕ) (h : Handle) → h.kind ≡ Owned → borrows_by call h ≡ 0
owned_is_none call h owned = ap {B = ℕ} (λ (k : HandleKind). if is_borrow_for call k then 1 else 0) owned

-- handles that go are owned, and lends change no kind
pub met_borrows : ReleaseCounts → LendCounts → (t : Handles) (ms : List Met) (hs : List HandleValue) (call : ℕ) → AreTaken t ms hs
    → borrows_of call (after_met t ms) ≡ borrows_of call t
met_borrows release lends t [] hs call x = refl
met_borrows release lends t (text_content tags n ∷ ms) hs call x = met_borrows release lends t ms hs call x
met_borrows release lends t (content n ∷ ms) hs call x = met_borrows release lends t ms hs call x
met_borrows release lends t (taken index ∷ ms) [] call x = absurd x
met_borrows release lends t (taken index ∷ ms) (v ∷ hs) call x =
    omega (arith, release t index x.0.0 call x.0.1, owned_is_none call x.0.0 x.0.2, met_borrows release lends (after_release t index) ms hs call x.1)
met_borrows release lends t (lent index ∷ ms) hs call x = met_borrows release lends (after_lend t index) ms hs call x.1 ∙ lends t index call

-- ---- handing over

borrowed_for_other : (call : ℕ) (v : HandleValue) (to : ℕ) → (call ≡ to → ⊥) → borrows_by call (handle_to v (Borrowed to)) ≡ 0
borrowed_for_other call v to other = ap {B = ℕ} (λ (b : Bool). if b then 1 else 0) (ne_eqb to call (λ e. other (sym e)))

none_if : (b : Bool) (call : ℕ) (v : HandleValue) (to : ℕ) → (call ≡ to → ⊥) → (x : Handle) → (if b then None else Some (handle_to v (Borrowed to))) ≡ Some x → borrows_by call x ≡ 0
none_if true call v to other x is = absurd (none-some x is)
none_if false call v to other x is =
    let e : handle_to v (Borrowed to) ≡ x = cc in
    ap (borrows_by call) (sym e) ∙ borrowed_for_other call v to other

-- what a table gets is no borrow for another call
none_for : (to : Receiver) (leaf : HandleLeaf) (call : ℕ) → (call ≡ to.call → ⊥) → (x : Handle) → added_for to leaf ≡ Some x → borrows_by call x ≡ 0
none_for to (owned_leaf h) call other x is =
    let e : handle_to h Owned ≡ x = cc in
    ap (borrows_by call) (sym e)
none_for to (borrowed_leaf h) call other x is = none_if (h.resource.component == to.instance) call h to.call other x is

record AddsNone (t new : Handles) (call more : ℕ) : Type 0 where
  pub sound : IsSoundHandles new
  pub room : more ≤ indices_left new
  pub same : borrows_of call new ≡ borrows_of call t

add_one : AddCounts → AddsFine → (t : Handles) (o : Option Handle) (call more : ℕ) → ((x : Handle) → o ≡ Some x → borrows_by call x ≡ 0)
    → IsSoundHandles t → added_by o + more ≤ indices_left t → AddsNone t (with_added t o) call more
add_one counts fine t None call more none sound room = record { sound = sound; room = omega (arith, room); same = refl }
add_one counts fine t (Some x) call more none sound room =
    let adds = fine t x sound (omega (arith, room)) in
    record { sound = adds.sound; room = omega (arith, room, adds.left); same = omega (arith, counts t x call sound, none x refl) }

pub given_borrows : AddCounts → AddsFine → (to : Receiver) (t : Handles) (leaves : List HandleLeaf) (call : ℕ) → (call ≡ to.call → ⊥)
    → IsSoundHandles t → added_count to leaves ≤ indices_left t → borrows_of call (after_given to t leaves) ≡ borrows_of call t
given_borrows counts fine to t [] call other sound room = refl
given_borrows counts fine to t (leaf ∷ leaves) call other sound room =
    let one = add_one counts fine t (added_for to leaf) call (added_count to leaves) (none_for to leaf call other) sound room in
    given_borrows counts fine to (with_added t (added_for to leaf)) leaves call other one.sound one.room ∙ one.same

-- nothing is borrowed where nothing is to be borrowed
pub none_counted : (to : Receiver) (leaves : List HandleLeaf) → NoneBorrowed leaves → borrowed_count to leaves ≡ 0
none_counted to [] none = refl
none_counted to (owned_leaf h ∷ leaves) none = omega (arith, none_counted to leaves none)
none_counted to (borrowed_leaf h ∷ leaves) none = absurd none

-- ---- frames

pub frame_behind : (g : Frame) (fs : List Frame) (n : ℕ) → (n ≡ length fs → ⊥) → frame_at (g ∷ fs) n ≡ frame_at fs n
frame_behind g fs n ne = ap (λ (b : Bool). if b then Some g else frame_at fs n) (ne_eqb n (length fs) ne)

pub frame_top : (g : Frame) (fs : List Frame) → frame_at (g ∷ fs) (length fs) ≡ Some g
frame_top g fs = ap (λ (b : Bool). if b then Some g else frame_at fs (length fs)) (eq-eqb (length fs) (length fs) refl)

the_top : (f g : Frame) (fs : List Frame) (n : ℕ) → n ≡ length fs → frame_at (f ∷ fs) n ≡ Some g → f ≡ g
the_top f g fs n e at =
    let same : Some f ≡ Some g = sym (frame_top f fs) ∙ ap (frame_at (f ∷ fs)) (sym e) ∙ at in
    cc

-- ---- counts

-- the tables change, and no count
pub counted_over : (b : List ℕ) (fs : List Frame) (ts us : List Handles) → ((i place : ℕ) → borrows_of place (table_at us i) ≡ borrows_of place (table_at ts i))
    → AreBorrowsCounted b fs ts → AreBorrowsCounted b fs us
counted_over b fs ts us same counted = λ place f is. counted place f is ∙ sym (same f.instance place)

-- a frame is pushed for which nothing is borrowed
pub counted_pushed : (b c : List ℕ) (f : Frame) (fs : List Frame) (ts : List Handles) → slice_index c (length fs) ≡ 0 → c ≡ slice_set b (length fs) 0
    → borrows_of (length fs) (table_at ts f.instance) ≡ 0 → AreBorrowsCounted b fs ts → AreBorrowsCounted c (f ∷ fs) ts
counted_pushed b c f fs ts zeroed is none counted = λ place g at. elim (cases_eq place (length fs)) [
  | inl e ↦ let same : f ≡ g = the_top f g fs place e at in
      ap (slice_index c) e ∙ zeroed ∙ sym none ∙ ap (λ n. borrows_of n (table_at ts f.instance)) (sym e) ∙ ap (λ (x : Frame). borrows_of place (table_at ts x.instance)) same
  | inr ne ↦ ap (λ (x : List ℕ). slice_index x place) is ∙ get_or-set_other b (length fs) place 0 0 ne ∙ counted place g (sym (frame_behind f fs place ne) ∙ at)
]

-- the frame on top is turned into another of its instance
pub counted_turned : (b : List ℕ) (f g : Frame) (fs : List Frame) (ts : List Handles) → g.instance ≡ f.instance → AreBorrowsCounted b (f ∷ fs) ts → AreBorrowsCounted b (g ∷ fs) ts
counted_turned b f g fs ts same counted = λ place x at. elim (cases_eq place (length fs)) [
  | inl e ↦ let top : g ≡ x = the_top g x fs place e at in
      counted place f (ap (frame_at (f ∷ fs)) e ∙ frame_top f fs) ∙ ap (λ i. borrows_of place (table_at ts i)) (sym same) ∙ ap (λ (z : Frame). borrows_of place (table_at ts z.instance)) top
  | inr ne ↦ counted place x (frame_behind f fs place ne ∙ sym (frame_behind g fs place ne) ∙ at)
]

-- the tables change, and the count of the frame on top is set anew
pub counted_set : (b : List ℕ) (f : Frame) (fs : List Frame) (ts us : List Handles) (n : ℕ) → length fs < length b → n ≡ borrows_of (length fs) (table_at us f.instance)
    → ((i place : ℕ) → (place ≡ length fs → ⊥) → borrows_of place (table_at us i) ≡ borrows_of place (table_at ts i)) → AreBorrowsCounted b (f ∷ fs) ts
    → AreBorrowsCounted (slice_set b (length fs) n) (f ∷ fs) us
counted_set b f fs ts us n room is same counted = λ place x at. elim (cases_eq place (length fs)) [
  | inl e ↦ let top : f ≡ x = the_top f x fs place e at in
      ap (slice_index (slice_set b (length fs) n)) e ∙ get_or-set_same b (length fs) n 0 room ∙ is ∙ ap (λ k. borrows_of k (table_at us f.instance)) (sym e) ∙ ap (λ (z : Frame). borrows_of place (table_at us z.instance)) top
  | inr ne ↦ get_or-set_other b (length fs) place n 0 ne ∙ counted place x at ∙ sym (same x.instance place ne)
]
