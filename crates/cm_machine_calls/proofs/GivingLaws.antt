-- What holds of tables, counts and lends once a value was handed over.
use Rattle.std.proofs.Common.{◌≡◌, ℕ, ◌+◌, ◌<◌, ◌≤◌, ◌⊎◌, inl, inr, List, ◌∷◌, length, Option, Some, None, refl, sym, ap, subst, ◌∙◌, arith}
use Rattle.std.specs.Prelude.{slice_index, slice_set}
use Rattle.std.proofs.lemmas.Bool.{cases_eq}
use Rattle.std.proofs.lemmas.List.Sums.{count_by-le-length}
use Rattle.cm_handles.specs.Borrows.{borrows_of, is_borrowed_by}
use Rattle.cm_handles.specs.Handles.{Handles, IsSoundHandles, handle_at, no_handles}
use Rattle.cm_handles.specs.declared.handle.Handle.{Handle}
use Rattle.cm_abi_model.specs.Giving.{Gives, borrowed_count}
use Rattle.cm_abi_model.specs.Receives.{HandleLeaf}
use Rattle.cm_abi_model.specs.declared.receiver.Receiver.{Receiver}
use Rattle.cm_machine_model.specs.declared.frame.Frame.{Frame}
use Rattle.cm_machine_model.specs.declared.frame.Lend.{Lend}
use Rattle.cm_machine_model.specs.State.{table_at}
use Rattle.cm_machine_parts.specs.Kept.{AreBorrowsCounted}
use Rattle.cm_machine_parts.specs.Lends.{AreLentAtLeast, lends_at}
use Rattle.cm_machine_calls.proofs.Borrows.{AddCounts, AddsFine, counted_set, frame_top, given_borrows}
use Rattle.cm_machine_calls.proofs.Pairs.{at_other, at_same}

-- ---- lends

stays_lent : (o n : Option Handle) → ((h : Handle) → o ≡ Some h → n ≡ Some h) → lends_at o ≤ lends_at n
stays_lent None n stays = omega arith
stays_lent (Some h) n stays = omega (arith, ap lends_at (stays h refl))

pub lent_given : (to : Receiver) (leaves : List HandleLeaf) (ns : List ℕ) (lends : List Lend) (ts : List Handles) (t : Handles) → to.instance < length ts
    → Gives to (table_at ts to.instance) t leaves ns → AreLentAtLeast lends ts → AreLentAtLeast lends (slice_set ts to.instance t)
lent_given to leaves ns lends ts t there gives lent = λ i index. elim (cases_eq i to.instance) [
  | inl e ↦
      let new : handle_at (table_at (slice_set ts to.instance t) i) index ≡ handle_at t index =
      ap (λ (x : Handles). handle_at x index) (ap (table_at (slice_set ts to.instance t)) e ∙ at_same ts to.instance t no_handles there) in
      let old : handle_at (table_at ts i) index ≡ handle_at (table_at ts to.instance) index = ap (λ n. handle_at (table_at ts n) index) e in
      omega (arith, lent i index, ap lends_at old, ap lends_at new, stays_lent (handle_at (table_at ts to.instance) index) (handle_at t index) (gives.stay index))
  | inr ne ↦ omega (arith, lent i index, ap (λ (x : Handles). lends_at (handle_at x index)) (at_other ts to.instance i t no_handles ne))
]

-- ---- counts

pub few_borrows : (call : ℕ) (t : Handles) → IsSoundHandles t → borrows_of call t ≤ 65536
few_borrows call t sound = omega (arith, sound.limit, count_by-le-length (is_borrowed_by call) t.slots)

-- the receiver is the instance of the frame on top, or nothing is borrowed
abbrev pub IsMine : Frame → Receiver → List HandleLeaf → Type 0
IsMine f to leaves = (f.instance ≡ to.instance) ⊎ ((f.instance ≡ to.instance → ⊥) × (borrowed_count to leaves ≡ 0))

module _ (counts : AddCounts) (fine : AddsFine) (to : Receiver) (leaves : List HandleLeaf) (ns : List ℕ) (b : List ℕ) (f : Frame) (fs : List Frame) (ts : List Handles) (t : Handles)
    (there : to.instance < length ts) (sound : (i : ℕ) → IsSoundHandles (table_at ts i)) (gives : Gives to (table_at ts to.instance) t leaves ns)
    (place : to.call ≡ length fs) (counted : AreBorrowsCounted b (f ∷ fs) ts) (mine : IsMine f to leaves) where
  -- how many are borrowed for the call on top then
  pub borrows_then : slice_index b (length fs) + borrowed_count to leaves ≡ borrows_of (length fs) (table_at (slice_set ts to.instance t) f.instance)
  borrows_then = elim mine [
    | inl e ↦
        let new : table_at (slice_set ts to.instance t) f.instance ≡ t = ap (table_at (slice_set ts to.instance t)) e ∙ at_same ts to.instance t no_handles there in
        omega (
          arith,
          counted (length fs) f (frame_top f fs),
          ap (λ n. borrows_of (length fs) (table_at ts n)) e,
          subst (λ (k : ℕ). borrows_of k t ≡ borrows_of k (table_at ts to.instance) + borrowed_count to leaves) place gives.borrows,
          ap (borrows_of (length fs)) new,
        )
    | inr x ↦ omega (
      arith,
      counted (length fs) f (frame_top f fs),
      x.1,
      ap (borrows_of (length fs)) (at_other ts to.instance f.instance t no_handles x.0),
    )
  ]

  others_same : (i n : ℕ) → (n ≡ length fs → ⊥) → borrows_of n (table_at (slice_set ts to.instance t) i) ≡ borrows_of n (table_at ts i)
  others_same i n ne = elim (cases_eq i to.instance) [
    | inl e ↦
        ap (borrows_of n) (ap (table_at (slice_set ts to.instance t)) e ∙ at_same ts to.instance t no_handles there ∙ gives.table)
        ∙ given_borrows counts fine to (table_at ts to.instance) leaves n (λ x. ne (x ∙ place)) (sound to.instance) (omega (arith, gives.left))
        ∙ ap (λ k. borrows_of n (table_at ts k)) (sym e)
    | inr other ↦ ap (borrows_of n) (at_other ts to.instance i t no_handles other)
  ]

  pub counted_then : length fs < length b → AreBorrowsCounted (slice_set b (length fs) (slice_index b (length fs) + borrowed_count to leaves)) (f ∷ fs) (slice_set ts to.instance t)
  counted_then room = counted_set b f fs ts (slice_set ts to.instance t) (slice_index b (length fs) + borrowed_count to leaves) room borrows_then others_same counted

  -- the number fits
  pub few_then : slice_index b (length fs) + borrowed_count to leaves ≤ 65536
  few_then = elim mine [
    | inl e ↦ omega (
      arith,
      counted (length fs) f (frame_top f fs),
      ap (λ n. borrows_of (length fs) (table_at ts n)) e,
      subst (λ (k : ℕ). borrows_of k t ≡ borrows_of k (table_at ts to.instance) + borrowed_count to leaves) place gives.borrows,
      few_borrows (length fs) t gives.sound,
    )
    | inr x ↦ omega (arith, counted (length fs) f (frame_top f fs), x.1, few_borrows (length fs) (table_at ts f.instance) (sound f.instance))
  ]
