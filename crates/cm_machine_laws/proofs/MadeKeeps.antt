-- What stands, or is on its way, was made: single changes.
use Rattle.std.proofs.Common.{◌≡◌, ℕ, zero, suc, ◌+◌, ◌<◌, ◌≤◌, inl, inr, Bool, true, false, List}
use Rattle.std.proofs.Common.{[], ◌∷◌, length, map, get_or, Option, Some, None, refl, sym, ap}
use Rattle.std.proofs.Common.{subst, ◌∙◌, arith, length-set}
use Rattle.std.specs.Prelude.{slice_set, ◌==◌, if◌then◌else◌}
use Rattle.std.proofs.lemmas.Bool.{cases_eq}
use Rattle.std.proofs.lemmas.Option.{none-some, same_Some}
use Rattle.std.proofs.lemmas.List.{get_or-set_other}
use Rattle.cm_types.specs.Values.{HandleValue}
use Rattle.cm_handles.specs.Handles.{Handles, IsSoundHandles, after_add, after_close, after_release}
use Rattle.cm_handles.specs.Handles.{handle_at, indices_left, is_borrow, next_index}
use Rattle.cm_handles.specs.Handles.{slot_after_close, with_lends}
use Rattle.cm_handles.specs.declared.handle.Handle.{Handle}
use Rattle.cm_handles.specs.declared.handle.HandleKind.TheVariants as handle
use Rattle.cm_abi_model.specs.Receives.{HandleLeaf, borrowed_leaf, owned_leaf}
use Rattle.cm_abi_model.specs.Taken.{Met, after_met, content, lent, taken, text_content}
use Rattle.cm_abi_model.specs.Giving.{added_by, added_count, after_given, handle_to, with_added}
use Rattle.cm_abi_model.specs.declared.receiver.Receiver.{Receiver}
use Rattle.cm_machine_model.specs.declared.frame.Frame.{Frame}
use Rattle.cm_machine_model.specs.declared.frame.Lend.{Lend}
use Rattle.cm_machine_model.specs.declared.frame.Place.{Place}
use Rattle.cm_machine_model.specs.declared.frame.Place.TheVariants as place
use Rattle.cm_machine_laws.proofs.OwningLaws.{AddingIsFine}
use Rattle.cm_machine_model.specs.State.{Passage, table_at, tables_after_call, tables_after_trap}
use Rattle.cm_machine_model.specs.Step.{owners_given}
use Rattle.cm_machine_model.specs.Valid.{AllMade}
use Rattle.cm_machine_laws.proofs.LendCounts.{Fades, ends_fade, fade_fades, met_at_index}
use Rattle.cm_machine_laws.proofs.PlainKeeps.{table_set}
use Rattle.cm_machine_laws.specs.Taking.{AreThere}
use Rattle.cm_handles.proofs.HandlesLaws.{released}

-- each handle of a table is of a resource with a lower serial number
abbrev pub TableMade : ℕ → Handles → Type 0
TableMade count t = (k : ℕ) (h : Handle) → handle_at t k ≡ Some h → h.serial < count

pub record Made (tables : List Handles) (count : ℕ) (o : Option Passage) : Type 0 where
  pub stand : (i : ℕ) → TableMade count (table_at tables i)
  pub leaves : (p : Passage) → o ≡ Some p → AllMade count p.leaves

pub made_fades : (count : ℕ) (t u : Handles) → ((k : ℕ) → Fades (handle_at t k) (handle_at u k)) → TableMade count t → TableMade count u
made_fades count t u fades made k h e =
    let was = fades k h e in
    subst (λ n. n < count) (sym was.2.serial) (made k was.0 was.1)

pub made_table : (ts : List Handles) (count : ℕ) (o : Option Passage) (i : ℕ) (t : Handles) → TableMade count t → Made ts count o → Made (slice_set ts i t) count o
made_table ts count o i t new m = record { stand = λ j. table_set ts i j t (λ x. TableMade count x) new m.stand; leaves = m.leaves }

pub made_none : (ts : List Handles) (count : ℕ) (o : Option Passage) → Made ts count o → Made ts count None
made_none ts count o m = record { stand = m.stand; leaves = λ p e. absurd (none-some p e) }

pub made_some : (ts : List Handles) (count : ℕ) (o : Option Passage) (p : Passage) → AllMade count p.leaves → Made ts count o → Made ts count (Some p)
made_some ts count o p all m = record { stand = m.stand; leaves = λ q e. subst (λ (x : Passage). AllMade count x.leaves) (same_Some p q e) all }

pub made_release : (count : ℕ) (t : Handles) (i : ℕ) → TableMade count t → TableMade count (after_release t i)
made_release count t i made k h e = elim (cases_eq k i) as (λ r. h.serial < count) [
  | inl same ↦ absurd (none-some h (sym (released t i) ∙ (ap (λ n. handle_at (after_release t i) n) (sym same) ∙ e)))
  | inr ne ↦ made k h (sym (get_or-set_other t.slots i k None None ne) ∙ e)
]

pub made_met : (count : ℕ) (t : Handles) (ms : List Met) → TableMade count t → TableMade count (after_met t ms)
made_met count t ms made = made_fades count t (after_met t ms) (λ k. subst (λ (o : Option Handle). Fades (handle_at t k) o) (sym (met_at_index k ms t)) (fade_fades k ms (handle_at t k))) made

pub made_add : AddingIsFine → (count : ℕ) (t : Handles) (h : Handle) → IsSoundHandles t → 0 < indices_left t → h.serial < count → TableMade count t → TableMade count (after_add t h)
made_add fine count t h sound room low made k g e =
    let adds = fine t h sound room in
    elim (cases_eq k (next_index t)) as (λ r. g.serial < count) [
      | inl same ↦ subst (λ (x : Handle). x.serial < count) (same_Some h g (sym adds.changes.here ∙ (ap (λ n. handle_at (after_add t h) n) (sym same) ∙ e))) low
      | inr ne ↦ made k g (sym (adds.changes.others k ne) ∙ e)
    ]

made_borrow : AddingIsFine → (count : ℕ) (to : Receiver) (v : HandleValue) (rest : List HandleLeaf) (t : Handles) → v.serial < count → IsSoundHandles t → TableMade count t
    → ((u : Handles) → IsSoundHandles u → TableMade count u → added_count to rest ≤ indices_left u → TableMade count (after_given to u rest))
    → (b : Bool) → added_by (if b then None else Some (handle_to v (handle.Borrowed to.call))) + added_count to rest ≤ indices_left t
    → TableMade count (after_given to (with_added t (if b then None else Some (handle_to v (handle.Borrowed to.call)))) rest)
made_borrow fine count to v rest t low sound made all true room = all t sound made (omega (arith, room))
made_borrow fine count to v rest t low sound made all false room =
    let some : 0 < indices_left t = omega (arith, room) in
    let h : Handle = handle_to v (handle.Borrowed to.call) in
    let adds = fine t h sound some in
    all (after_add t h) adds.sound (made_add fine count t h sound some low made) (omega (arith, room, adds.left))

pub made_given : AddingIsFine → (count : ℕ) (to : Receiver) (leaves : List HandleLeaf) (t : Handles) → AllMade count leaves → IsSoundHandles t → TableMade count t → added_count to leaves ≤ indices_left t → TableMade count (after_given to t leaves)
made_given fine count to [] t all sound made room = made
made_given fine count to (owned_leaf v ∷ leaves) t all sound made room =
    let some : 0 < indices_left t = omega (arith, room) in
    let h : Handle = handle_to v handle.Owned in
    let adds = fine t h sound some in
    made_given fine count to leaves (after_add t h) all.1 adds.sound (made_add fine count t h sound some all.0 made) (omega (arith, room, adds.left))
made_given fine count to (borrowed_leaf v ∷ leaves) t all sound made room =
    made_borrow fine count to v leaves t all.0 sound made (λ u s m r. made_given fine count to leaves u all.1 s m r) (v.resource.component == to.instance) room

pub made_leaves : (count : ℕ) (t : Handles) (ms : List Met) (ls : List HandleLeaf) → TableMade count t → AreThere t ms ls → AllMade count ls
made_leaves count t [] ls made x = subst (λ (z : List HandleLeaf). AllMade count z) (sym x) tt
made_leaves count t (text_content tags n ∷ ms) ls made x = made_leaves count t ms ls made x
made_leaves count t (content n ∷ ms) ls made x = made_leaves count t ms ls made x
made_leaves count t (taken i ∷ ms) [] made x = absurd x
made_leaves count t (taken i ∷ ms) (owned_leaf v ∷ ls) made x = (subst (λ n. n < count) x.0.3 (made i x.0.0 x.0.1), made_leaves count t ms ls made x.1)
made_leaves count t (taken i ∷ ms) (borrowed_leaf v ∷ ls) made x = absurd x
made_leaves count t (lent i ∷ ms) [] made x = absurd x
made_leaves count t (lent i ∷ ms) (owned_leaf v ∷ ls) made x = absurd x
made_leaves count t (lent i ∷ ms) (borrowed_leaf v ∷ ls) made x = (subst (λ n. n < count) x.0.2 (made i x.0.0 x.0.1), made_leaves count t ms ls made x.1)

more_leaves : (count : ℕ) (ls : List HandleLeaf) → AllMade count ls → AllMade (count + 1) ls
more_leaves count [] a = tt
more_leaves count (owned_leaf v ∷ ls) a = (omega (arith, a.0), more_leaves count ls a.1)
more_leaves count (borrowed_leaf v ∷ ls) a = (omega (arith, a.0), more_leaves count ls a.1)

pub made_more : (ts : List Handles) (count : ℕ) (o : Option Passage) → Made ts count o → Made ts (count + 1) o
made_more ts count o m = record { stand = λ i k h e. omega (arith, m.stand i k h e); leaves = λ p e. more_leaves count p.leaves (m.leaves p e) }

-- ---- ends and traps

pub made_end : (call : ℕ) (ls : List Lend) (ts : List Handles) (count : ℕ) (o : Option Passage) → Made ts count o → Made (tables_after_call call ls ts) count o
made_end call ls ts count o m = record { stand = λ i. made_fades count (table_at ts i) (table_at (tables_after_call call ls ts) i) (λ k. ends_fade call ls ts i k) (m.stand i); leaves = m.leaves }

close_by : (b : Bool) (h : Handle) (y : Handle) → (if b then None else Some (with_lends 0 h)) ≡ Some y → h.serial ≡ y.serial
close_by true h y e = absurd (none-some y e)
close_by false h y e = ap (λ (x : Handle). x.serial) (same_Some (with_lends 0 h) y e)

close_was : (o : Option Handle) (y : Handle) → slot_after_close o ≡ Some y → (h : Handle) × (o ≡ Some h) × (h.serial ≡ y.serial)
close_was None y e = absurd (none-some y e)
close_was (Some h) y e = (h, refl, close_by (is_borrow h.kind) h y e)

map_at : (xs : List (Option Handle)) (k : ℕ) → get_or (map slot_after_close xs) k None ≡ slot_after_close (get_or xs k None)
map_at [] k = refl
map_at (x ∷ xs) zero = refl
map_at (x ∷ xs) (suc k) = map_at xs k

made_close : (count : ℕ) (t : Handles) → TableMade count t → TableMade count (after_close t)
made_close count t made k h e =
    let was = close_was (handle_at t k) h (sym (map_at t.slots k) ∙ e) in
    subst (λ n. n < count) was.2 (made k was.0 was.1)

pub made_trap : (fs : List Frame) (ts : List Handles) (count : ℕ) (o : Option Passage) → Made ts count o → Made (tables_after_trap fs ts) count None
made_trap [] ts count o m = made_none ts count o m
made_trap (f ∷ fs) ts count o m =
    made_trap fs (slice_set ts f.instance (after_close (table_at ts f.instance))) count o (made_table ts count o f.instance (after_close (table_at ts f.instance)) (made_close count (table_at ts f.instance) (m.stand f.instance)) m)

-- ---- how many were made

pub length_given : (i : ℕ) (leaves : List HandleLeaf) (ns : List ℕ) (owners : List Place) → length (owners_given i leaves ns owners) ≡ length owners
length_given i [] ns owners = refl
length_given i (leaf ∷ leaves) [] owners = refl
length_given i (owned_leaf h ∷ leaves) (n ∷ ns) owners = length_given i leaves ns (slice_set owners h.serial (place.InTable i n)) ∙ length-set owners h.serial (place.InTable i n)
length_given i (borrowed_leaf h ∷ leaves) (n ∷ ns) owners = length_given i leaves ns owners
