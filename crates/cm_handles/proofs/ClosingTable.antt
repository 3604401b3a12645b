-- A table is closed one index after another.
use Rattle.std.proofs.Common.{◌≡◌, ℕ, suc, ◌+◌, ◌<◌, Bool, true, false, cond, List, [], ◌∷◌, ◌++◌, length, map, get_or, set, take, drop, Option, Some, None, refl, sym, ap, ◌∙◌, subst, arith, append_assoc, add-zero, inl, inr}
use Rattle.std.specs.Prelude.{reverse}
use Rattle.std.specs.Option.{option_map}
use Rattle.std.proofs.lemmas.List.{length-map, map_more, set_at, set-get_or, take_more, drop_more, reverse-append, append-nil, take_all, drop_all, length-take-le, get_or_at, get_or-map, get_or_past}
use Rattle.std.proofs.lemmas.Bool.{cases_lt}
use Rattle.cm_handles.specs.declared.handle.Handle.{Handle}
use Rattle.cm_handles.specs.declared.handle.HandleKind.TheVariants.{Owned, Borrowed}
use Rattle.cm_handles.specs.Handles.{Handles, handle_at, IsSoundHandles, after_release, is_borrow, with_lends, after_change, slot_after_close, borrows_from, after_close, TableState, IsSoundTable}
use Rattle.cm_handles.specs.Slots.{after_close_at}

-- a table of which the first k indices are closed
pub record IsClosing (old new : Handles) (k : ℕ) : Type 0 where
  pub slots : new.slots ≡ map slot_after_close (take k old.slots) ++ drop k old.slots
  pub freed : new.freed ≡ reverse (borrows_from 0 (take k old.slots)) ++ old.freed

borrows-append_at : (b : Bool) (index : ℕ) (xs ys zs : List ℕ) → zs ≡ xs ++ ys → cond b (index ∷ zs) zs ≡ cond b (index ∷ xs) xs ++ ys
borrows-append_at true index xs ys zs e = ap (λ l. index ∷ l) e
borrows-append_at false index xs ys zs e = e

-- the borrows of slots one after another
borrows-append : (index : ℕ) (xs ys : List (Option Handle)) → borrows_from index (xs ++ ys) ≡ borrows_from index xs ++ borrows_from (index + length xs) ys
borrows-append index [] ys = rw add-zero refl
borrows-append index (None ∷ xs) ys =
    let e : index + 1 + length xs ≡ index + suc (length xs) = omega arith in
    borrows-append (index + 1) xs ys ∙ ap (λ n. borrows_from (index + 1) xs ++ borrows_from n ys) e
borrows-append index (Some h ∷ xs) ys =
    let e : index + 1 + length xs ≡ index + suc (length xs) = omega arith in
    borrows-append_at (is_borrow h.kind) index (borrows_from (index + 1) xs) (borrows_from (index + suc (length xs)) ys) (borrows_from (index + 1) (xs ++ ys))
    (borrows-append (index + 1) xs ys ∙ ap (λ n. borrows_from (index + 1) xs ++ borrows_from n ys) e)

-- one more index is closed: the slots, and what is freed
slots_more : (slots : List (Option Handle)) (k : ℕ) → k < length slots → set (map slot_after_close (take k slots) ++ drop k slots) k (slot_after_close (get_or slots k None)) ≡ map slot_after_close (take (k + 1) slots) ++ drop (k + 1) slots
slots_more slots k within =
    let front = map slot_after_close (take k slots) in
    let long : length front ≡ k = length-map (take k slots) slot_after_close ∙ length-take-le k slots (omega arith) in
    ap (λ xs. set (front ++ xs) k (slot_after_close (get_or slots k None))) (drop_more slots k None within)
    ∙ (set_at front (get_or slots k None) (drop (k + 1) slots) (slot_after_close (get_or slots k None)) k long
    ∙ (sym (append_assoc front (slot_after_close (get_or slots k None) ∷ []) (drop (k + 1) slots))
    ∙ ap (λ xs. xs ++ drop (k + 1) slots) (sym (map_more slot_after_close slots k None within))))

borrows_more : (slots : List (Option Handle)) (k : ℕ) → k < length slots → borrows_from 0 (take (k + 1) slots) ≡ borrows_from 0 (take k slots) ++ borrows_from k (get_or slots k None ∷ [])
borrows_more slots k within =
    ap (λ xs. borrows_from 0 xs) (take_more slots k None within)
    ∙ (borrows-append 0 (take k slots) (get_or slots k None ∷ [])
    ∙ ap (λ n. borrows_from 0 (take k slots) ++ borrows_from n (get_or slots k None ∷ [])) (let e : 0 + length (take k slots) ≡ k = omega (arith, length-take-le k slots (omega arith)) in e))

-- what is closed is a handle, of which b says whether it is a borrow
closing_handle : (b : Bool) (old t : Handles) (k n : ℕ) (x : Handle) (before : List ℕ) → set t.slots k (cond b None (Some x)) ≡ map slot_after_close (take n old.slots) ++ drop n old.slots
    → borrows_from 0 (take n old.slots) ≡ before ++ cond b (k ∷ []) [] → t.freed ≡ reverse before ++ old.freed
    → IsClosing old (cond b (after_release t k) (record { slots = set t.slots k (Some x); freed = t.freed })) n
closing_handle true old t k n x before slots borrows freed =
    record {
      slots = slots;
      freed = sym (ap (λ xs. reverse xs ++ old.freed) borrows ∙ (ap (λ xs. xs ++ old.freed) (reverse-append before (k ∷ [])) ∙ ap (λ xs. k ∷ xs) (sym freed)));
    }
closing_handle false old t k n x before slots borrows freed =
    record {
      slots = slots;
      freed = sym (ap (λ xs. reverse xs ++ old.freed) (borrows ∙ append-nil before) ∙ sym freed);
    }

closing_slot : (old t : Handles) (k : ℕ) (o : Option Handle) → k < length old.slots → get_or old.slots k None ≡ o → handle_at t k ≡ o → IsClosing old t k → IsClosing old (after_close_at t k o) (k + 1)
closing_slot old t k None within was is closing =
    record {
      slots = sym (ap (λ o. set t.slots k o) (sym is) ∙ set-get_or t.slots k None)
          ∙ (ap (λ xs. set xs k None) closing.slots ∙ subst (λ o. set (map slot_after_close (take k old.slots) ++ drop k old.slots) k (slot_after_close o) ≡ map slot_after_close (take (k + 1) old.slots) ++ drop (k + 1) old.slots) was (slots_more old.slots k within));
      freed = closing.freed ∙ ap (λ xs. reverse xs ++ old.freed) (sym (subst (λ o. borrows_from 0 (take (k + 1) old.slots) ≡ borrows_from 0 (take k old.slots) ++ borrows_from k (o ∷ [])) was (borrows_more old.slots k within) ∙ append-nil (borrows_from 0 (take k old.slots))));
    }
closing_slot old t k (Some h) within was is closing =
    closing_handle (is_borrow h.kind) old t k (k + 1) (with_lends 0 h) (borrows_from 0 (take k old.slots))
    (ap (λ xs. set xs k (slot_after_close (Some h))) closing.slots ∙ subst (λ o. set (map slot_after_close (take k old.slots) ++ drop k old.slots) k (slot_after_close o) ≡ map slot_after_close (take (k + 1) old.slots) ++ drop (k + 1) old.slots) was (slots_more old.slots k within))
    (subst (λ o. borrows_from 0 (take (k + 1) old.slots) ≡ borrows_from 0 (take k old.slots) ++ borrows_from k (o ∷ [])) was (borrows_more old.slots k within))
    closing.freed

-- the next index still stands as it did
closing_next : (old t : Handles) (k : ℕ) → k < length old.slots → IsClosing old t k → handle_at t k ≡ get_or old.slots k None
closing_next old t k within closing =
    let front = map slot_after_close (take k old.slots) in
    let long : length front ≡ k = length-map (take k old.slots) slot_after_close ∙ length-take-le k old.slots (omega arith) in
    ap (λ xs. get_or xs k None) (closing.slots ∙ ap (λ xs. front ++ xs) (drop_more old.slots k None within)) ∙ get_or_at front (get_or old.slots k None) (drop (k + 1) old.slots) None k long

pub closing_step : (old t : Handles) (k : ℕ) → k < length old.slots → IsClosing old t k → IsClosing old (after_close_at t k (handle_at t k)) (k + 1)
closing_step old t k within closing = closing_slot old t k (handle_at t k) within (sym (closing_next old t k within closing)) refl closing

-- nothing stands at index 0, so it is closed from the start
pub closing_start : (t : Handles) → IsSoundHandles t → IsClosing t t 1
closing_start t sound =
    let none : IsClosing t t 0 = record { slots = refl; freed = refl } in
    subst (λ o. IsClosing t (after_close_at t 0 o) 1) sound.reserved (closing_step t t 0 sound.some_slot none)

-- all indices are closed
pub closing_end : (old t : Handles) (k : ℕ) → k ≡ length old.slots → IsClosing old t k → t ≡ after_close old
closing_end old t k end closing =
    let all : take k old.slots ≡ old.slots = take_all k old.slots (omega arith) in
    let none : drop k old.slots ≡ [] = drop_all k old.slots (omega arith) in
    let slots : t.slots ≡ map slot_after_close old.slots =
    closing.slots ∙ (ap (λ xs. map slot_after_close (take k old.slots) ++ xs) none ∙ (append-nil (map slot_after_close (take k old.slots)) ∙ ap (λ xs. map slot_after_close xs) all)) in
    let freed : t.freed ≡ reverse (borrows_from 0 old.slots) ++ old.freed = closing.freed ∙ ap (λ xs. reverse (borrows_from 0 xs) ++ old.freed) all in
    let make : List (Option Handle) → List ℕ → Handles = λ xs fs. record { slots = xs; freed = fs } in
    ap (λ xs. make xs t.freed) slots ∙ ap (λ fs. make (map slot_after_close old.slots) fs) freed

-- what stands at an index of a closed table
pub closed-at_each : (t : Handles) (i : ℕ) → handle_at (after_close t) i ≡ slot_after_close (handle_at t i)
closed-at_each t i =
    elim (cases_lt i (length t.slots)) [
      | inl below ↦ get_or-map slot_after_close t.slots i None None below
      | inr past ↦ get_or_past (map slot_after_close t.slots) i None (omega (arith, length-map t.slots slot_after_close)) ∙ ap slot_after_close (sym (get_or_past t.slots i None past))
    ]

-- a handle that is closed, by its kind
pub after_close_at-owned : (t : Handles) (i : ℕ) (h : Handle) → handle_at t i ≡ Some h → h.kind ≡ Owned → after_change t i (with_lends 0) ≡ after_close_at t i (handle_at t i)
after_close_at-owned t i h is kind =
    let owned : after_close_at t i (Some h) ≡ record { slots = set t.slots i (Some (with_lends 0 h)); freed = t.freed } =
    ap (λ k. cond (is_borrow k) (after_release t i) (record { slots = set t.slots i (Some (with_lends 0 h)); freed = t.freed })) kind in
    let make : Option Handle → Handles = λ o. record { slots = set t.slots i (option_map (with_lends 0) o); freed = t.freed } in
    ap make is ∙ sym (ap (λ x. after_close_at t i x) is ∙ owned)

pub after_close_at-borrowed : (t : Handles) (i call : ℕ) (h : Handle) (o : Option Handle) → o ≡ Some h → h.kind ≡ Borrowed call → after_release t i ≡ after_close_at t i o
after_close_at-borrowed t i call h o is kind =
    let borrowed : after_close_at t i (Some h) ≡ after_release t i =
    ap (λ k. cond (is_borrow k) (after_release t i) (record { slots = set t.slots i (Some (with_lends 0 h)); freed = t.freed })) kind in
    sym (ap (λ x. after_close_at t i x) is ∙ borrowed)

-- what stands while a table is closed
pub record IsClosingTable (old new : TableState) (at end : ℕ) : Type 0 where
  pub closing : IsClosing old.handles new.handles (at + 1)
  pub room : new.room + length old.handles.freed ≡ old.room + length new.handles.freed
  pub sound : IsSoundTable new
  pub count : end + 1 ≡ length old.handles.slots
