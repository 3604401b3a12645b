-- Why lifting keeps each resource in one place.
use Rattle.std.proofs.Common.{◌≡◌, ◌≢◌, ℕ, ◌+◌, ◌<◌, inl, inr, List, [], ◌∷◌, ◌++◌}
use Rattle.std.proofs.Common.{length, Option, Some, None, refl, sym, ap, subst, ◌∙◌}
use Rattle.std.proofs.Common.{append-nil, append_assoc}
use Rattle.std.specs.Prelude.{slice_get, slice_set}
use Rattle.std.specs.Option.{option_map}
use Rattle.std.proofs.lemmas.Bool.{cases_eq}
use Rattle.std.proofs.lemmas.List.{get_or-set_same, get_or-set_other}
use Rattle.std.proofs.lemmas.Option.{slice_get_within}
use Rattle.cm_types.specs.Values.{HandleValue}
use Rattle.cm_handles.specs.Handles.{Handles, after_lend, after_release, handle_at}
use Rattle.cm_handles.specs.Handles.{with_lends}
use Rattle.cm_handles.specs.declared.handle.Handle.{Handle}
use Rattle.cm_abi_model.specs.Taken.{Met, text_content, content, taken, lent, after_met}
use Rattle.cm_machine_model.specs.declared.frame.Place.{Place}
use Rattle.cm_machine_model.specs.declared.frame.Place.TheVariants as place
use Rattle.cm_machine_model.specs.Owning.{HaveOnePlace, owners_of, serials, standing}
use Rattle.cm_machine_laws.proofs.OwningLaws.{ChangesAt, MovesTo}
use Rattle.cm_machine_laws.specs.Taking.{AreTaken}
use Rattle.cm_machine_model.specs.State.{table_at, with_places}
use Rattle.cm_machine_laws.proofs.OnePlaces.{changing, place_of_owned, taking}
use Rattle.cm_lemmas.proofs.Lists.{get_set_other, get_set_same}
use Rattle.cm_handles.proofs.HandlesLaws.{lent_there}
use Rattle.cm_machine_model.proofs.StateLaws.{set_same, table_other, table_same}
use Rattle.cm_handles.proofs.SoundHandles.{within_slots}

-- ---- lists

-- ---- one entry of one table

-- a table in which one entry is changed, among tables
pub changed_in : (tables : List Handles) (i index : ℕ) (t new : Handles) (slot : Option Handle) → i < length tables
    → handle_at new index ≡ slot → ((other : ℕ) → other ≢ index → handle_at new other ≡ handle_at t other)
    → ChangesAt (standing (slice_set tables i t)) (standing (slice_set tables i new)) i index slot
changed_in tables i index t new slot lt here others = record {
  here = ap (λ x. handle_at x index) (table_same tables i new lt) ∙ here;
  others = λ j q apart. elim (cases_eq j i) as (λ r. standing (slice_set tables i new) j q ≡ standing (slice_set tables i t) j q) [
    | inl same ↦
        let q_apart : q ≢ index = λ e. apart (same, e) in
        let of_new : table_at (slice_set tables i new) j ≡ new = ap (λ k. table_at (slice_set tables i new) k) same ∙ table_same tables i new lt in
        let of_old : table_at (slice_set tables i t) j ≡ t = ap (λ k. table_at (slice_set tables i t) k) same ∙ table_same tables i t lt in
        ap (λ x. handle_at x q) of_new ∙ (others q q_apart ∙ sym (ap (λ x. handle_at x q) of_old))
    | inr ne ↦ ap (λ x. handle_at x q) (table_other tables i j new ne ∙ sym (table_other tables i j t ne))
  ];
}

pub released : (t : Handles) (index : ℕ) (h : Handle) → handle_at t index ≡ Some h → handle_at (after_release t index) index ≡ None
released t index h stands = get_or-set_same t.slots index None None (within_slots t index h stands)

-- ---- what is met

-- a resource that is issued is in one place now
pub moved_in : (owners : List Place) (n : ℕ) (p q : Place) → slice_get owners n ≡ Some q → MovesTo (owners_of owners) (owners_of (slice_set owners n p)) n p
moved_in owners n p q is = record {
  here = get_set_same owners n p (slice_get_within owners n q is);
  others = λ m ne. get_set_other owners n m p ne;
}

pub lifting_in : (tables : List Handles) (frame i : ℕ) (ms : List Met) (t : Handles) (owners : List Place) (away : List ℕ) (hs : List HandleValue)
    → HaveOnePlace (standing (slice_set tables i t)) (owners_of owners) frame away → i < length tables → AreTaken t ms hs
    → HaveOnePlace (standing (slice_set tables i (after_met t ms))) (owners_of (with_places (place.Travelling frame) hs owners)) frame (away ++ serials hs)
lifting_in tables frame i [] t owners away hs p lt none =
    subst (λ (vs : List HandleValue). HaveOnePlace (standing (slice_set tables i t)) (owners_of (with_places (place.Travelling frame) vs owners)) frame (away ++ serials vs)) (sym none)
    (subst (λ (ns : List ℕ). HaveOnePlace (standing (slice_set tables i t)) (owners_of owners) frame ns) (sym (append-nil away)) p)
lifting_in tables frame i (text_content tags n ∷ ms) t owners away hs p lt a = lifting_in tables frame i ms t owners away hs p lt a
lifting_in tables frame i (content n ∷ ms) t owners away hs p lt a = lifting_in tables frame i ms t owners away hs p lt a
lifting_in tables frame i (taken index ∷ ms) t owners away [] p lt a = absurd a
lifting_in tables frame i (taken index ∷ ms) t owners away (v ∷ hs) p lt a =
    let h = a.0.0 in
    let stands : standing (slice_set tables i t) i index ≡ Some h = ap (λ x. handle_at x index) (table_same tables i t lt) ∙ a.0.1 in
    let was = place_of_owned (standing (slice_set tables i t)) (owners_of owners) frame away i index h p stands a.0.2 in
    let changed = changed_in tables i index t (after_release t index) None lt (released t index h a.0.1) (λ other ne. get_or-set_other t.slots index other None None ne) in
    let moved = moved_in owners h.serial (place.Travelling frame) (place.InTable i index) was in
    let one = taking (standing (slice_set tables i t)) (standing (slice_set tables i (after_release t index))) (owners_of owners) (owners_of (slice_set owners h.serial (place.Travelling frame))) frame away i index h p stands a.0.2 changed moved in
    let as_v : HaveOnePlace (standing (slice_set tables i (after_release t index))) (owners_of (slice_set owners v.serial (place.Travelling frame))) frame (away ++ v.serial ∷ []) =
    subst (λ (n : ℕ). HaveOnePlace (standing (slice_set tables i (after_release t index))) (owners_of (slice_set owners n (place.Travelling frame))) frame (away ++ n ∷ [])) a.0.3 one in
    subst (λ (ns : List ℕ). HaveOnePlace (standing (slice_set tables i (after_met (after_release t index) ms))) (owners_of (with_places (place.Travelling frame) hs (slice_set owners v.serial (place.Travelling frame)))) frame ns)
    (append_assoc away (v.serial ∷ []) (serials hs))
    (lifting_in tables frame i ms (after_release t index) (slice_set owners v.serial (place.Travelling frame)) (away ++ v.serial ∷ []) hs as_v lt a.1)
lifting_in tables frame i (lent index ∷ ms) t owners away hs p lt a =
    let h = a.0.0 in
    let stands : standing (slice_set tables i t) i index ≡ Some h = ap (λ x. handle_at x index) (table_same tables i t lt) ∙ a.0.1 in
    let changed = changed_in tables i index t (after_lend t index) (Some (with_lends (h.lends + 1) h)) lt (lent_there t index h a.0.1)
    (λ other ne. get_or-set_other t.slots index other (option_map (λ x. with_lends (x.lends + 1) x) (handle_at t index)) None ne) in
    lifting_in tables frame i ms (after_lend t index) owners away hs
    (changing (standing (slice_set tables i t)) (standing (slice_set tables i (after_lend t index))) (owners_of owners) frame away i index h (with_lends (h.lends + 1) h) p stands changed refl refl)
    lt a.1

pub lifting : (tables : List Handles) (owners : List Place) (frame : ℕ) (away : List ℕ) (i : ℕ) (ms : List Met) (hs : List HandleValue)
    → HaveOnePlace (standing tables) (owners_of owners) frame away → i < length tables → AreTaken (table_at tables i) ms hs
    → HaveOnePlace (standing (slice_set tables i (after_met (table_at tables i) ms))) (owners_of (with_places (place.Travelling frame) hs owners)) frame (away ++ serials hs)
lifting tables owners frame away i ms hs p lt a =
    lifting_in tables frame i ms (table_at tables i) owners away hs
    (subst (λ (ts : List Handles). HaveOnePlace (standing ts) (owners_of owners) frame away) (sym (set_same tables i)) p) lt a
