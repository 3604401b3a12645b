-- Tables that are closed.
use Rattle.std.proofs.Common.{◌≡◌, ◌≢◌, ℕ, zero, suc, ◌+◌, ◌<◌, ◌≤◌, ◌⊎◌, inl, inr, Bool, true, false, List, [], ◌∷◌, ◌++◌, reverse, length, map, get_or, Option, Some, None, refl, sym, ap, subst, ◌∙◌, arith}
use Rattle.std.specs.Prelude.{slice_set, slice_index_or, if◌then◌else◌}
use Rattle.std.proofs.lemmas.Bool.{cases_eq}
use Rattle.std.proofs.lemmas.List.{get_or-set_other}
use Rattle.cm_handles.specs.declared.handle.Handle.{Handle}
use Rattle.cm_handles.specs.Handles.{Handles, TableState, after_close, borrows_from, is_borrow, slot_after_close, with_lends}
use Rattle.cm_machine_model.specs.State.{table_at}
use Rattle.cm_machine_parts.specs.Closing.{AreClosed}
use Rattle.cm_machine_parts.specs.States.{handles_in}
use Rattle.cm_machine_parts.proofs.Tables.{handles_set, table_in}
use Rattle.cm_lemmas.proofs.Lists.{set_past}
use Rattle.cm_machine_model.proofs.StateLaws.{set_same, table_other, table_same}

-- ---- twice

slot_by : (b : Bool) (h : Handle) → is_borrow h.kind ≡ b → slot_after_close (if b then None else Some (with_lends 0 h)) ≡ (if b then None else Some (with_lends 0 h))
slot_by true h e = refl
slot_by false h e = ap (λ (c : Bool). if c then None else Some (with_lends 0 h)) e

slot_twice : (o : Option Handle) → slot_after_close (slot_after_close o) ≡ slot_after_close o
slot_twice None = refl
slot_twice (Some h) = slot_by (is_borrow h.kind) h refl

slots_twice : (os : List (Option Handle)) → map slot_after_close (map slot_after_close os) ≡ map slot_after_close os
slots_twice [] = refl
slots_twice (o ∷ os) = ap (λ (x : Option Handle). x ∷ map slot_after_close (map slot_after_close os)) (slot_twice o) ∙ ap (λ xs. slot_after_close o ∷ xs) (slots_twice os)

none_by : (b : Bool) (h : Handle) (index : ℕ) (rest : List (Option Handle)) → is_borrow h.kind ≡ b → borrows_from (index + 1) rest ≡ [] → borrows_from index ((if b then None else Some (with_lends 0 h)) ∷ rest) ≡ []
none_by true h index rest e none = none
none_by false h index rest e none = ap (λ (c : Bool). if c then index ∷ borrows_from (index + 1) rest else borrows_from (index + 1) rest) e ∙ none

none_left : (os : List (Option Handle)) (index : ℕ) → borrows_from index (map slot_after_close os) ≡ []
none_left [] index = refl
none_left (None ∷ os) index = none_left os (index + 1)
none_left (Some h ∷ os) index = none_by (is_borrow h.kind) h index (map slot_after_close os) refl (none_left os (index + 1))

handles_by : List (Option Handle) → List ℕ → Handles
handles_by slots freed = record { slots = slots; freed = freed }

pub close_twice : (t : Handles) → after_close (after_close t) ≡ after_close t
unfolding handles_by
close_twice t =
    let freed : List ℕ = reverse (borrows_from 0 t.slots) ++ t.freed in
    ap (λ (os : List (Option Handle)). handles_by os (reverse (borrows_from 0 (map slot_after_close t.slots)) ++ freed)) (slots_twice t.slots)
    ∙ ap (λ (fs : List ℕ). handles_by (map slot_after_close t.slots) (reverse fs ++ freed)) (none_left t.slots 0)

-- ---- the table of an instance

abbrev closed_at : List Handles → ℕ → List Handles
closed_at tables i = slice_set tables i (after_close (table_at tables i))

-- where there is no table, none is closed
pub close_past : (tables : List Handles) (i : ℕ) → length tables ≤ i → tables ≡ closed_at tables i
close_past tables i le = sym (set_past tables i (after_close (table_at tables i)) le)

-- nor where it was closed before
pub close_done : (done : List Bool) (tables : List Handles) (i : ℕ) → AreClosed done tables → slice_index_or done i false ≡ true → tables ≡ closed_at tables i
close_done done tables i closed mark = sym (ap (λ (t : Handles). slice_set tables i t) (closed i mark) ∙ set_same tables i)

pub close_here : (ts : List TableState) (i : ℕ) (old new : TableState) → i < length ts → old ≡ get_or ts i old → new.handles ≡ after_close old.handles → handles_in (slice_set ts i new) ≡ closed_at (handles_in ts) i
close_here ts i old new lt is closed =
    let here : old.handles ≡ table_at (handles_in ts) i = ap (λ (x : TableState). x.handles) is ∙ sym (table_in ts i old lt) in
    handles_set ts i new ∙ ap (λ (t : Handles). slice_set (handles_in ts) i t) (closed ∙ ap after_close here)

-- those that are marked stay closed, and so does the one that is marked now
pub closed_more : (done more : List Bool) (tables : List Handles) (i : ℕ) → i < length tables → AreClosed done tables → ((j : ℕ) → j ≢ i → slice_index_or more j false ≡ true → slice_index_or done j false ≡ true) → AreClosed more (closed_at tables i)
closed_more done more tables i lt closed marks j mark = elim (cases_eq j i) as (λ r. after_close (table_at (closed_at tables i) j) ≡ table_at (closed_at tables i) j) [
  | inl same ↦
      let is : table_at (closed_at tables i) j ≡ after_close (table_at tables i) = ap (λ n. table_at (closed_at tables i) n) same ∙ table_same tables i (after_close (table_at tables i)) lt in
      ap after_close is ∙ (close_twice (table_at tables i) ∙ sym is)
  | inr ne ↦
      let is : table_at (closed_at tables i) j ≡ table_at tables j = table_other tables i j (after_close (table_at tables i)) ne in
      ap after_close is ∙ (closed j (marks j ne mark) ∙ sym is)
]

pub marks_more : (done : List Bool) (i j : ℕ) → j ≢ i → slice_index_or (slice_set done i true) j false ≡ true → slice_index_or done j false ≡ true
marks_more done i j ne mark = sym (get_or-set_other done i j true false ne) ∙ mark
