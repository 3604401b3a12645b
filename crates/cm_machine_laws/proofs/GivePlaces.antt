-- Why giving keeps each resource in one place.
use Rattle.std.proofs.Common.{◌≡◌, ℕ, ◌+◌, ◌<◌, ◌≤◌, inl, Bool, true, false, List, [], ◌∷◌, length}
use Rattle.std.proofs.Common.{Option, Some, None, refl, sym, ap, subst, ◌∙◌, arith}
use Rattle.std.specs.Prelude.{slice_set, ◌==◌, if◌then◌else◌}
use Rattle.std.proofs.lemmas.Option.{none-some, same_Some}
use Rattle.cm_types.specs.Values.{HandleValue}
use Rattle.cm_handles.specs.Handles.{Handles, IsSoundHandles, after_add, handle_at, indices_left}
use Rattle.cm_handles.specs.Handles.{next_index}
use Rattle.cm_handles.specs.declared.handle.Handle.{Handle}
use Rattle.cm_handles.specs.declared.handle.HandleKind.TheVariants as handle
use Rattle.cm_abi_model.specs.Receives.{HandleLeaf, owned_leaf, borrowed_leaf}
use Rattle.cm_abi_model.specs.Giving.{added_by, added_count, after_given, handle_to, numbers_given}
use Rattle.cm_abi_model.specs.Giving.{with_added}
use Rattle.cm_abi_model.specs.declared.receiver.Receiver.{Receiver}
use Rattle.cm_machine_model.specs.declared.frame.Place.{Place}
use Rattle.cm_machine_model.specs.declared.frame.Place.TheVariants as place
use Rattle.cm_machine_model.specs.Owning.{HaveOnePlace, Owners, Standing, owners_of, serials}
use Rattle.cm_machine_model.specs.Owning.{standing}
use Rattle.cm_machine_laws.proofs.OwningLaws.{AddingIsFine, ChangesAt}
use Rattle.cm_abi_model.specs.HandleLeaves.{owned_in}
use Rattle.cm_machine_model.specs.State.{table_at}
use Rattle.cm_machine_model.specs.Step.{owners_given}
use Rattle.cm_machine_laws.proofs.OnePlaces.{giving}
use Rattle.cm_machine_laws.proofs.LiftPlaces.{changed_in, moved_in}
use Rattle.cm_machine_model.proofs.StateLaws.{set_same, table_same}

pub borrowing : (at new : Standing) (owner : Owners) (frame : ℕ) (away : List ℕ) (i index call : ℕ) (h : Handle)
    → HaveOnePlace at owner frame away → at i index ≡ None → h.kind ≡ handle.Borrowed call
    → ChangesAt at new i index (Some h) → HaveOnePlace new owner frame away
borrowing at new owner frame away i index call h p vacant kind ch = record {
  in_table = λ n j q e.
      let was = p.in_table n j q e in
      let other : (j ≡ i) × (q ≡ index) → ⊥ = λ b. none-some was.entry (sym vacant ∙ (ap (λ x. at i x) (sym b.1) ∙ (ap (λ x. at x q) (sym b.0) ∙ was.stands))) in
      record { entry = was.entry; stands = ch.others j q other ∙ was.stands; owned = was.owned; serial_is = was.serial_is };
  owned = λ n j q o.
      let other : (j ≡ i) × (q ≡ index) → ⊥ = λ b.
      let entry_is : h ≡ o.entry = same_Some h o.entry (sym ch.here ∙ (ap (λ x. new i x) (sym b.1) ∙ (ap (λ x. new x q) (sym b.0) ∙ o.stands))) in
      owned_is_no_borrow call (sym o.owned ∙ (sym (ap (λ (x : Handle). x.kind) entry_is) ∙ kind)) in
      p.owned n j q (record { entry = o.entry; stands = sym (ch.others j q other) ∙ o.stands; owned = o.owned; serial_is = o.serial_is });
  on_its_way = p.on_its_way;
  carried = p.carried;
  once = p.once;
} where
  owned_is_no_borrow : (c : ℕ) → handle.Owned ≡ handle.Borrowed c → ⊥
  owned_is_no_borrow c e = cc (e)

-- a handle that is added to one of the tables
added_in : (tables : List Handles) (i : ℕ) (t : Handles) (h : Handle) → AddingIsFine → i < length tables → IsSoundHandles t → 0 < indices_left t
    → (standing (slice_set tables i t) i (next_index t) ≡ None) × ChangesAt (standing (slice_set tables i t)) (standing (slice_set tables i (after_add t h))) i (next_index t) (Some h)
added_in tables i t h fine lt sound room =
    let adds = fine t h sound room in (
      ap (λ x. handle_at x (next_index t)) (table_same tables i t lt) ∙ adds.vacant,
      changed_in tables i (next_index t) t (after_add t h) (Some h) lt adds.changes.here (λ other ne. adds.changes.others other ne),
    )

-- what a borrow adds, by whether its receiver implements the resource
abbrev chosen : Receiver → HandleValue → Bool → Option Handle
chosen to v b = if b then None else Some (handle_to v (handle.Borrowed to.call))

borrowed_step : (tables : List Handles) (frame : ℕ) (to : Receiver) (fine : AddingIsFine) (leaves : List HandleLeaf) (t : Handles) (owners : List Place) (v : HandleValue)
    → HaveOnePlace (standing (slice_set tables to.instance t)) (owners_of owners) frame (serials (owned_in leaves))
    → to.instance < length tables → IsSoundHandles t
    → ((u : Handles) → HaveOnePlace (standing (slice_set tables to.instance u)) (owners_of owners) frame (serials (owned_in leaves)) → IsSoundHandles u → added_count to leaves ≤ indices_left u
    → HaveOnePlace (standing (slice_set tables to.instance (after_given to u leaves))) (owners_of (owners_given to.instance leaves (numbers_given to u leaves) owners)) frame [])
    → (b : Bool) → added_by (chosen to v b) + added_count to leaves ≤ indices_left t
    → HaveOnePlace (standing (slice_set tables to.instance (after_given to (with_added t (chosen to v b)) leaves))) (owners_of (owners_given to.instance leaves (numbers_given to (with_added t (chosen to v b)) leaves) owners)) frame []
borrowed_step tables frame to fine leaves t owners v p lt sound rest true r = rest t p sound (omega (arith, r))
borrowed_step tables frame to fine leaves t owners v p lt sound rest false r =
    let h : Handle = handle_to v (handle.Borrowed to.call) in
    let some : 0 < indices_left t = omega (arith, r) in
    let adds = fine t h sound some in
    let entry = added_in tables to.instance t h fine lt sound some in
    let one = borrowing (standing (slice_set tables to.instance t)) (standing (slice_set tables to.instance (after_add t h))) (owners_of owners) frame (serials (owned_in leaves)) to.instance (next_index t) to.call h p entry.0 refl entry.1 in
    rest (after_add t h) one adds.sound (omega (arith, r, adds.left))

pub giving_in : (tables : List Handles) (frame : ℕ) (to : Receiver) (fine : AddingIsFine) (leaves : List HandleLeaf) (t : Handles) (owners : List Place)
    → HaveOnePlace (standing (slice_set tables to.instance t)) (owners_of owners) frame (serials (owned_in leaves))
    → to.instance < length tables → IsSoundHandles t → added_count to leaves ≤ indices_left t
    → HaveOnePlace (standing (slice_set tables to.instance (after_given to t leaves))) (owners_of (owners_given to.instance leaves (numbers_given to t leaves) owners)) frame []
giving_in tables frame to fine [] t owners p lt sound room = p
giving_in tables frame to fine (owned_leaf v ∷ leaves) t owners p lt sound room =
    let h : Handle = handle_to v handle.Owned in
    let some : 0 < indices_left t = omega (arith, room) in
    let adds = fine t h sound some in
    let entry = added_in tables to.instance t h fine lt sound some in
    let moved = moved_in owners v.serial (place.InTable to.instance (next_index t)) (place.Travelling frame) (p.carried v.serial (inl refl)) in
    let one = giving (standing (slice_set tables to.instance t)) (standing (slice_set tables to.instance (after_add t h))) (owners_of owners) (owners_of (slice_set owners v.serial (place.InTable to.instance (next_index t)))) frame (serials (owned_in leaves)) to.instance (next_index t) h p entry.0 refl entry.1 moved in
    giving_in tables frame to fine leaves (after_add t h) (slice_set owners v.serial (place.InTable to.instance (next_index t))) one lt adds.sound (omega (arith, room, adds.left))
giving_in tables frame to fine (borrowed_leaf v ∷ leaves) t owners p lt sound room =
    borrowed_step tables frame to fine leaves t owners v p lt sound (λ u q s r. giving_in tables frame to fine leaves u owners q lt s r) (v.resource.component == to.instance) room

pub giving_all : AddingIsFine → (tables : List Handles) (owners : List Place) (frame : ℕ) (to : Receiver) (leaves : List HandleLeaf)
    → HaveOnePlace (standing tables) (owners_of owners) frame (serials (owned_in leaves))
    → to.instance < length tables → IsSoundHandles (table_at tables to.instance)
    → added_count to leaves ≤ indices_left (table_at tables to.instance)
    → HaveOnePlace (standing (slice_set tables to.instance (after_given to (table_at tables to.instance) leaves))) (owners_of (owners_given to.instance leaves (numbers_given to (table_at tables to.instance) leaves) owners)) frame []
giving_all fine tables owners frame to leaves p lt sound room =
    giving_in tables frame to fine leaves (table_at tables to.instance) owners
    (subst (λ (ts : List Handles). HaveOnePlace (standing ts) (owners_of owners) frame (serials (owned_in leaves))) (sym (set_same tables to.instance)) p) lt sound room
