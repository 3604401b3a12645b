-- What a trap leaves of a state, in the words of what goes on.
use Rattle.std.proofs.Common.{◌≡◌, ℕ, zero, suc, ◌<◌, ◌⊎◌, ◌↔◌, inl, inr, Bool, true, List, [], ◌∷◌, length, Option, Some}
use Rattle.std.proofs.Common.{refl, sym, ap, subst, ◌∙◌, arith}
use Rattle.std.specs.Prelude.{Contains, map, slice_get, slice_set}
use Rattle.std.specs.Option.{option_map}
use Rattle.std.proofs.lemmas.Bool.{cases_eq}
use Rattle.std.proofs.lemmas.List.{length-map}
use Rattle.std.proofs.lemmas.Option.{slice_get-map, slice_get_within}
use Rattle.cm_types.specs.Types.{Fields}
use Rattle.cm_types.specs.declared.core_value.CoreValue.{CoreValue}
use Rattle.cm_types.specs.Values.{HandleValue, Val}
use Rattle.cm_handles.specs.Handles.{Handles, IsSoundHandles, handle_at}
use Rattle.cm_abi_model.specs.Denotes.{Denotes}
use Rattle.cm_abi_model.specs.Handed.{IsHanded}
use Rattle.cm_abi_model.specs.HandleLeaves.{owned_in}
use Rattle.cm_abi_model.specs.Receives.{HandleLeaf, borrowed_leaf, leaves_in, owned_leaf}
use Rattle.cm_abi_model.specs.Requests.{tuple_of}
use Rattle.cm_abi_model.specs.Taken.{AllThere, CanGo, Met, after_met, content, lent, met, taken}
use Rattle.cm_abi_model.specs.Taken.{taken_of, text_content}
use Rattle.cm_abi_model.specs.Views.{View, Way}
use Rattle.cm_machine_model.specs.declared.frame.Place.{Place}
use Rattle.cm_machine_model.specs.declared.frame.Place.TheVariants as place
use Rattle.cm_machine_model.specs.Owning.{IsAmong}
use Rattle.cm_machine_model.specs.Plan.{Plan}
use Rattle.cm_machine_model.specs.State.{State, after_trap, closed_after_trap, place_after_trap}
use Rattle.cm_machine_model.specs.State.{table_at, tables_after_trap, with_places}
use Rattle.cm_machine_model.specs.Valid.{IsValidState}
use Rattle.cm_machine_laws.specs.Closing.{ClosesExactly, PlacesAfterTrap, place_left}
use Rattle.cm_machine_laws.specs.Taking.{AreThere}
use Rattle.cm_machine_laws.proofs.ClosedTables.{AreWithin, IsLeft, flags_closed}
use Rattle.cm_machine_laws.proofs.ClosedTables.{get_set_other, instances_of}
use Rattle.cm_machine_laws.proofs.ClosedTables.{lifted_left, set_length, tables_closed, tables_open}
use Rattle.cm_machine_laws.proofs.ClosedTables.{within_plan}
use Rattle.cm_machine_model.proofs.StateLaws.{flags_length, length_places}
use Rattle.cm_lemmas.proofs.Lists.{get_set_same}

-- ---- what is asked of the layers below

abbrev pub HandsOver : Type 0
HandsOver = (t : Handles) (most : ℕ) (ms : List Met) → AllThere t ms → CanGo t most ms
    → IsSoundHandles t → IsHanded t ms (after_met t ms)

abbrev pub MetStands : Type 0
MetStands = (w : View) (way : Way) (types : Fields) (slots : List CoreValue) (v : Val)
    → Denotes w way types slots v → AllThere w.table (met w way types slots v)

abbrev pub MetAreThere : Type 0
MetAreThere = (w : View) (way : Way) (types : Fields) (slots : List CoreValue) (v : Val)
    → Denotes w way types slots v
    → AreThere w.table (met w way types slots v) (leaves_in (tuple_of types) v)

pub record ClosingLaws : Type 0 where
  pub hands : HandsOver
  pub stands : MetStands
  pub there : MetAreThere

-- ---- places

left_place : (p : Place) → place_after_trap p ≡ place_left p
left_place (place.InTable i index) = refl
left_place (place.Travelling frame) = refl
left_place place.Abandoned = refl
left_place place.Dropped = refl

travel_other : (p : Place) (hs : List HandleValue) (xs : List Place) (n : ℕ)
    → (Contains (map (λ h. h.serial) hs) n → ⊥)
    → slice_get (with_places p hs xs) n ≡ slice_get xs n
travel_other p [] xs n not = refl
travel_other p (h ∷ hs) xs n not =
    travel_other p hs (slice_set xs h.serial p) n (λ c. not (suc c.0, omega (arith, c.1), c.2))
    ∙ get_set_other xs h.serial n p (λ e. not (0, omega arith, sym e))

travel_stays : (p : Place) (hs : List HandleValue) (xs : List Place) (n : ℕ)
    → slice_get xs n ≡ Some p → slice_get (with_places p hs xs) n ≡ Some p
travel_stays p [] xs n is = is
travel_stays p (h ∷ hs) xs n is =
    travel_stays p hs (slice_set xs h.serial p) n
    (elim (cases_eq n h.serial) as (λ r. slice_get (slice_set xs h.serial p) n ≡ Some p) [
      | inl same ↦ subst (λ (k : ℕ). slice_get (slice_set xs k p) n ≡ Some p) same
          (get_set_same xs n p (slice_get_within xs n p is))
      | inr ne ↦ get_set_other xs h.serial n p ne ∙ is
    ])

travel_now : (p : Place) (hs : List HandleValue) (xs : List Place) (h : HandleValue)
    → Contains hs h → h.serial < length xs
    → slice_get (with_places p hs xs) h.serial ≡ Some p
travel_now p [] xs h c lt = absurd (omega (arith, c.1))
travel_now p (g ∷ hs) xs h (zero, at, is) lt =
    travel_stays p hs (slice_set xs g.serial p) h.serial
    (subst (λ (k : ℕ). slice_get (slice_set xs k p) h.serial ≡ Some p) (ap (λ (x : HandleValue). x.serial) (sym is))
    (get_set_same xs h.serial p lt))
travel_now p (g ∷ hs) xs h (suc k, at, is) lt =
    travel_now p hs (slice_set xs g.serial p) h (k, omega (arith, at), is)
    (omega (arith, lt, set_length xs g.serial p))

places_left : (s new : State) (n : ℕ) (hs : List HandleValue)
    → new.owners ≡ map place_after_trap (with_places (place.Travelling n) hs s.owners)
    → ((h : HandleValue) → Contains hs h → h.serial < length s.owners) → PlacesAfterTrap s hs new
places_left s new n hs is made = record {
  count = ap (λ (xs : List Place). length xs) is ∙ (length-map now place_after_trap ∙ length_places (place.Travelling n) hs s.owners);
  lost_now = λ h c.
      left h.serial (place.Travelling n) (travel_now (place.Travelling n) hs s.owners h c (made h c));
  others = λ k p not at.
      left k p (travel_other (place.Travelling n) hs s.owners k not ∙ at) ∙ ap Some (left_place p);
} where
  now : List Place
  now = with_places (place.Travelling n) hs s.owners

  left : (k : ℕ) (p : Place) → slice_get now k ≡ Some p → slice_get new.owners k ≡ Some (place_after_trap p)
  left k p at =
      ap (λ (xs : List Place). slice_get xs k) is
      ∙ (slice_get-map place_after_trap now k ∙ ap (λ (o : Option Place). option_map place_after_trap o) at)

-- what a value owns was made
pub owned_made : (plan : Plan) (s : State) → IsValidState plan s → (giver : ℕ) (ms : List Met)
    (ls : List HandleLeaf) → AreThere (table_at s.tables giver) ms ls → (h : HandleValue)
    → Contains (owned_in ls) h → h.serial < length s.owners
owned_made plan s valid giver [] ls x h c =
    absurd (let d : Contains [] h = subst (λ (z : List HandleLeaf). Contains (owned_in z) h) x c in omega (arith, d.1))
owned_made plan s valid giver (text_content tags k ∷ ms) ls x h c = owned_made plan s valid giver ms ls x h c
owned_made plan s valid giver (content k ∷ ms) ls x h c = owned_made plan s valid giver ms ls x h c
owned_made plan s valid giver (taken i ∷ ms) [] x h c = absurd x
owned_made plan s valid giver (taken i ∷ ms) (owned_leaf v ∷ ls) x h (zero, at, is) =
    subst (λ (n : ℕ). n < length s.owners) (x.0.3 ∙ ap (λ (z : HandleValue). z.serial) is) (valid.made giver i x.0.0 x.0.1)
owned_made plan s valid giver (taken i ∷ ms) (owned_leaf v ∷ ls) x h (suc k, at, is) =
    owned_made plan s valid giver ms ls x.1 h (k, omega (arith, at), is)
owned_made plan s valid giver (taken i ∷ ms) (borrowed_leaf v ∷ ls) x h c = absurd x
owned_made plan s valid giver (lent i ∷ ms) [] x h c = absurd x
owned_made plan s valid giver (lent i ∷ ms) (owned_leaf v ∷ ls) x h c = absurd x
owned_made plan s valid giver (lent i ∷ ms) (borrowed_leaf v ∷ ls) x h c = owned_made plan s valid giver ms ls x.1 h c

-- ---- states

-- a trap from the state as it was
pub closes_as_was : (plan : Plan) (s : State) → IsValidState plan s
    → ClosesExactly s (instances_of s.stack) 0 [] [] (after_trap s)
closes_as_was plan s valid = record {
  emptied = refl;
  no_lends = refl;
  none_on_its_way = refl;
  same_length = flags_length s.stack s.closed;
  closed = flags_closed s.stack s.closed (within_plan plan s.stack (length s.closed) valid.closed valid.stack);
  memories = refl;
  tables = record {
    others = λ i index not. ap (λ (t : Handles). handle_at t index) (tables_open s.stack s.tables i not);
    closed = λ i index among not. tables_closed s.stack s.tables (within_plan plan s.stack (length s.tables) valid.tables valid.stack) i among index;
    gone = λ index c. absurd (none index c);
  };
  places = places_left s (after_trap s) 0 [] refl (λ h c. absurd (nobody h c));
} where
  none : (index : ℕ) → Contains [] index → ⊥
  none index c = omega (arith, c.1)

  nobody : (h : HandleValue) → Contains [] h → ⊥
  nobody h c = omega (arith, c.1)

-- a trap once something was lifted
pub closes_lifted : (s st : State) (giver n : ℕ) (ms : List Met) (hs : List HandleValue)
    → st.memories ≡ s.memories → st.closed ≡ s.closed
    → st.tables ≡ slice_set s.tables giver (after_met (table_at s.tables giver) ms)
    → st.owners ≡ with_places (place.Travelling n) hs s.owners
    → AreWithin (length s.closed) st.stack → AreWithin (length s.tables) st.stack
    → giver < length s.tables → IsAmong (instances_of st.stack) giver
    → IsHanded (table_at s.tables giver) ms (after_met (table_at s.tables giver) ms)
    → ((h : HandleValue) → Contains hs h → h.serial < length s.owners)
    → ClosesExactly s (instances_of st.stack) giver (taken_of ms) hs (after_trap st)
closes_lifted s st giver n ms hs memories closed tables owners in_flags in_tables lt among handed made = record {
  emptied = refl;
  no_lends = refl;
  none_on_its_way = refl;
  same_length = flags_length st.stack st.closed ∙ ap (λ (cs : List Bool). length cs) closed;
  closed = subst (λ (cs : List Bool). (i : ℕ) → (slice_get (closed_after_trap st.stack cs) i ≡ Some true) ↔ ((slice_get s.closed i ≡ Some true) ⊎ IsAmong (instances_of st.stack) i)) (sym closed)
      (flags_closed st.stack s.closed in_flags);
  memories = memories;
  tables = record {
    others = λ i index not. at i index ∙ left.others i index not;
    closed = λ i index a not. at i index ∙ left.closed i index a not;
    gone = λ index c. at giver index ∙ left.gone index c;
  };
  places = places_left s (after_trap st) n hs (ap (λ (xs : List Place). map place_after_trap xs) owners) made;
} where
  left : IsLeft s.tables st.stack giver ms
  left = lifted_left s.tables st.stack giver ms in_tables lt among handed

  at : (i index : ℕ) → handle_at (table_at (tables_after_trap st.stack st.tables) i) index
      ≡ handle_at (table_at (tables_after_trap st.stack (slice_set s.tables giver (after_met (table_at s.tables giver) ms))) i) index
  at i index = ap (λ (ts : List Handles). handle_at (table_at (tables_after_trap st.stack ts) i) index) tables
