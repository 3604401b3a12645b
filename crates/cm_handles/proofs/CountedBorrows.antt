-- How many handles are borrowed for a call, change by change.
use Rattle.std.proofs.Common.{◌≡◌, ◌≢◌, ◌↔◌, ℕ, zero, suc, ◌+◌, Bool, cond, List, [], ◌∷◌, length, map, get_or, Option, Some, None, inl, inr, refl, ap, ◌∙◌, arith}
use Rattle.std.specs.Prelude.{count_by}
use Rattle.std.specs.Option.{option_map}
use Rattle.std.proofs.lemmas.Bool.{cases_lt, eq-eqb, ne_eqb}
use Rattle.std.proofs.lemmas.List.{set_past}
use Rattle.std.proofs.lemmas.List.Sums.{sum_by-cons, sum_by-set, sum_by_push}
use Rattle.std.proofs.lemmas.Option.{none-some}
use Rattle.cm_handles.specs.Borrows.{borrows_by, borrows_of, is_borrow_for, is_borrowed_by}
use Rattle.cm_handles.specs.Handles.{Handles, IsSoundHandles, after_add, after_change, after_close, after_release, handle_at, is_borrow, slot_after_close, with_lends}
use Rattle.cm_handles.specs.declared.handle.Handle.{Handle}
use Rattle.cm_handles.specs.declared.handle.HandleKind.{HandleKind}
use Rattle.cm_handles.specs.declared.handle.HandleKind.TheVariants.{Owned, Borrowed}
use Rattle.cm_handles.proofs.SoundHandles.{within_slots}
use Rattle.cm_lemmas.proofs.Lists.{Contains-first}

-- what a slot counts
abbrev counted : ℕ → Option Handle → ℕ
counted call o = cond (is_borrowed_by call o) 1 0

add_counts_at : (slots : List (Option Handle)) (freed : List ℕ) (h : Handle) (call : ℕ) → IsSoundHandles (record { slots = slots; freed = freed })
    → borrows_of call (after_add (record { slots = slots; freed = freed }) h) ≡ count_by (is_borrowed_by call) slots + borrows_by call h
add_counts_at slots [] h call sound = sum_by_push (counted call) slots (Some h)
add_counts_at slots (f ∷ fs) h call sound =
    let vacant = (sound.freed f).0 (Contains-first f fs) in
    omega (arith, sum_by-set (counted call) slots f (Some h) None vacant.1, ap (counted call) vacant.2)

pub add_counts : (t : Handles) (h : Handle) (call : ℕ) → IsSoundHandles t → borrows_of call (after_add t h) ≡ borrows_of call t + borrows_by call h
add_counts t h call sound = add_counts_at t.slots t.freed h call sound

pub release_counts : (t : Handles) (index : ℕ) (h : Handle) (call : ℕ) → handle_at t index ≡ Some h → borrows_of call (after_release t index) + borrows_by call h ≡ borrows_of call t
release_counts t index h call stands =
    omega (arith, sum_by-set (counted call) t.slots index None None (within_slots t index h stands), ap (counted call) stands)

change_counts_one : (call : ℕ) (count : Handle → ℕ) (o : Option Handle) → counted call (option_map (λ x. with_lends (count x) x) o) ≡ counted call o
change_counts_one call count None = refl
change_counts_one call count (Some h) = refl

pub change_counts : (t : Handles) (index call : ℕ) (count : Handle → ℕ) → borrows_of call (after_change t index (λ x. with_lends (count x) x)) ≡ borrows_of call t
change_counts t index call count =
    let now = option_map (λ x. with_lends (count x) x) (handle_at t index) in
    elim (cases_lt index (length t.slots)) [
      | inl below ↦ omega (arith, sum_by-set (counted call) t.slots index now None below, change_counts_one call count (handle_at t index))
      | inr past ↦ ap (λ xs. count_by (is_borrowed_by call) xs) (set_past t.slots index now past)
    ]

-- ---- none is left

close_counts_by : (h : Handle) (k : HandleKind) (call : ℕ) → h.kind ≡ k → counted call (cond (is_borrow k) None (Some (with_lends 0 h))) ≡ 0
close_counts_by h Owned call is = ap (λ k. cond (is_borrow_for call k) 1 0) is
close_counts_by h (Borrowed c) call is = refl

close_counts_one : (o : Option Handle) (call : ℕ) → counted call (slot_after_close o) ≡ 0
close_counts_one None call = refl
close_counts_one (Some h) call = close_counts_by h h.kind call refl

close_counts_in : (xs : List (Option Handle)) (call : ℕ) → count_by (is_borrowed_by call) (map slot_after_close xs) ≡ 0
close_counts_in [] call = refl
close_counts_in (o ∷ xs) call =
    sum_by-cons (counted call) (slot_after_close o) (map slot_after_close xs) ∙ omega (arith, close_counts_one o call, close_counts_in xs call)

pub close_counts : (t : Handles) (call : ℕ) → borrows_of call (after_close t) ≡ 0
close_counts t call = close_counts_in t.slots call

-- ---- none exactly where none is counted

abbrev one_if : Bool → ℕ
one_if b = cond b 1 0

borrow_counts : (k : HandleKind) (call : ℕ) → k ≡ Borrowed call → one_if (is_borrow_for call k) ≡ 1
borrow_counts k call e = ap (λ x. one_if (is_borrow_for call x)) e ∙ ap one_if (eq-eqb call call refl)

none_there : (xs : List (Option Handle)) (call : ℕ) → count_by (is_borrowed_by call) xs ≡ 0 → (k : ℕ) (h : Handle) → get_or xs k None ≡ Some h → h.kind ≡ Borrowed call → ⊥
none_there [] call none k h e kind = none-some h e
none_there (o ∷ xs) call none zero h e kind =
    omega (arith, none, sum_by-cons (counted call) o xs, ap (counted call) e, borrow_counts h.kind call kind)
none_there (o ∷ xs) call none (suc k) h e kind =
    none_there xs call (omega (arith, none, sum_by-cons (counted call) o xs)) k h e kind

other_counts : (k : HandleKind) (call : ℕ) → (k ≡ Borrowed call → ⊥) → one_if (is_borrow_for call k) ≡ 0
other_counts Owned call never = refl
other_counts (Borrowed c) call never = ap one_if (ne_eqb c call (λ e. never (ap (λ n. Borrowed n) e)))

other_counts_one : (o : Option Handle) (call : ℕ) → ((h : Handle) → o ≡ Some h → h.kind ≡ Borrowed call → ⊥) → counted call o ≡ 0
other_counts_one None call never = refl
other_counts_one (Some h) call never = other_counts h.kind call (never h refl)

none_counted_in : (xs : List (Option Handle)) (call : ℕ) → ((k : ℕ) (h : Handle) → get_or xs k None ≡ Some h → h.kind ≡ Borrowed call → ⊥) → count_by (is_borrowed_by call) xs ≡ 0
none_counted_in [] call never = refl
none_counted_in (o ∷ xs) call never =
    sum_by-cons (counted call) o xs ∙ omega (arith, other_counts_one o call (never 0), none_counted_in xs call (λ k. never (suc k)))

pub none_counted : (t : Handles) (call : ℕ) → (borrows_of call t ≡ 0) ↔ ((index : ℕ) (h : Handle) → handle_at t index ≡ Some h → h.kind ≢ Borrowed call)
none_counted t call = (none_there t.slots call, none_counted_in t.slots call)
