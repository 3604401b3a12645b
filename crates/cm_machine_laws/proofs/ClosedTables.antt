-- What a trap leaves of instances that it closes: their flags and their handle tables.
use Rattle.std.proofs.Common.{◌≡◌, ◌↔◌, ℕ, zero, suc, ◌+◌, ◌<◌, ◌⊎◌, inl, inr, Bool, true, List, []}
use Rattle.std.proofs.Common.{◌∷◌, length, Option, Some, None, refl, sym, ap, subst, ◌∙◌, arith}
use Rattle.std.specs.Prelude.{⊤, Contains, map, slice_get, slice_set, unwrap_or, if◌then◌else◌}
use Rattle.std.specs.Option.{option_map}
use Rattle.std.proofs.lemmas.Bool.{cases_eq}
use Rattle.cm_handles.specs.Handles.{Handles, after_close, handle_at, is_borrow, no_handles}
use Rattle.cm_handles.specs.Handles.{slot_after_close, with_lends}
use Rattle.cm_handles.specs.declared.handle.Handle.{Handle}
use Rattle.cm_handles.specs.declared.handle.HandleKind.{HandleKind}
use Rattle.cm_handles.specs.declared.handle.HandleKind.TheVariants as handle
use Rattle.cm_abi_model.specs.Handed.{IsHanded, times}
use Rattle.cm_abi_model.specs.Taken.{Met, after_met, lent_of, taken_of}
use Rattle.cm_machine_model.specs.declared.frame.Frame.{Frame}
use Rattle.cm_machine_model.specs.Owning.{IsAmong}
use Rattle.cm_machine_model.specs.Plan.{Plan}
use Rattle.cm_machine_model.specs.State.{closed_after_trap, table_at, tables_after_trap}
use Rattle.cm_machine_model.specs.Valid.{IsStack}
use Rattle.cm_machine_laws.specs.Closing.{left_by, left_of}
use Rattle.cm_lemmas.proofs.Lists.{get_set_same}
use Rattle.cm_machine_model.proofs.StateLaws.{table_same}

-- ---- lists

pub set_length : {X : Type 0} (xs : List X) (i : ℕ) (x : X) → length (slice_set xs i x) ≡ length xs
set_length [] i x = refl
set_length (y ∷ ys) zero x = refl
set_length (y ∷ ys) (suc i) x = ap suc (set_length ys i x)

pub get_set_other : {X : Type 0} (xs : List X) (i j : ℕ) (x : X) → (j ≡ i → ⊥)
    → slice_get (slice_set xs i x) j ≡ slice_get xs j
get_set_other [] i j x ne = refl
get_set_other (y ∷ ys) zero zero x ne = absurd (ne refl)
get_set_other (y ∷ ys) zero (suc j) x ne = refl
get_set_other (y ∷ ys) (suc i) zero x ne = refl
get_set_other (y ∷ ys) (suc i) (suc j) x ne = get_set_other ys i j x (λ e. ne (ap suc e))

table_other : (ts : List Handles) (i j : ℕ) (t : Handles) → (j ≡ i → ⊥)
    → table_at (slice_set ts i t) j ≡ table_at ts j
table_other ts i j t ne =
    ap (λ (o : Option Handles). unwrap_or o no_handles) (get_set_other ts i j t ne)

-- ---- the instances of frames

abbrev pub instances_of : List Frame → List ℕ
instances_of fs = map (λ f. f.instance) fs

-- each is one of so many
abbrev pub AreWithin : ℕ → List Frame → Type 0
AreWithin n [] = ⊤
AreWithin n (f ∷ fs) = (f.instance < n) × AreWithin n fs

pub within_plan : (plan : Plan) (fs : List Frame) (n : ℕ) → n ≡ length plan → IsStack plan fs
    → AreWithin n fs
within_plan plan [] n e st = tt
within_plan plan (f ∷ fs) n e st = (omega (arith, e, st.0), within_plan plan fs n e st.2)

among_cases : (is : List ℕ) (i : ℕ) → IsAmong is i ⊎ (IsAmong is i → ⊥)
among_cases [] i = inr (λ x. x)
among_cases (n ∷ is) i = by (cases_eq n i) (among_cases is i) where
  by : (n ≡ i) ⊎ (n ≡ i → ⊥) → IsAmong is i ⊎ (IsAmong is i → ⊥)
      → ((n ≡ i) ⊎ IsAmong is i) ⊎ ((n ≡ i) ⊎ IsAmong is i → ⊥)
  by (inl e) rest = inl (inl e)
  by (inr ne) (inl a) = inl (inr a)
  by (inr ne) (inr none) = inr (λ x. elim x [ inl e ↦ ne e | inr a ↦ none a ])

-- ---- flags

flag_step : (cs : List Bool) (j i : ℕ) (Rest Set : Type 0) → j < length cs
    → Set ↔ ((slice_get (slice_set cs j true) i ≡ Some true) ⊎ Rest)
    → Set ↔ ((slice_get cs i ≡ Some true) ⊎ ((j ≡ i) ⊎ Rest))
flag_step cs j i Rest Set lt rest = (λ x. to (rest.0 x), from) where
  to : (slice_get (slice_set cs j true) i ≡ Some true) ⊎ Rest
      → (slice_get cs i ≡ Some true) ⊎ ((j ≡ i) ⊎ Rest)
  to (inl e) = elim (cases_eq i j) [
    | inl same ↦ inr (inl (sym same))
    | inr ne ↦ inl (sym (get_set_other cs j i true ne) ∙ e)
  ]
  to (inr r) = inr (inr r)

  from : (slice_get cs i ≡ Some true) ⊎ ((j ≡ i) ⊎ Rest) → Set
  from (inl e) = elim (cases_eq i j) [
    | inl same ↦ rest.1 (inl (ap (λ (n : ℕ). slice_get (slice_set cs j true) n) same ∙ get_set_same cs j true lt))
    | inr ne ↦ rest.1 (inl (get_set_other cs j i true ne ∙ e))
  ]
  from (inr (inl e)) =
      rest.1 (inl (ap (λ (n : ℕ). slice_get (slice_set cs j true) n) (sym e) ∙ get_set_same cs j true lt))
  from (inr (inr r)) = rest.1 (inr r)

-- exactly the instances of the frames are closed, and those that were
pub flags_closed : (fs : List Frame) (cs : List Bool) → AreWithin (length cs) fs → (i : ℕ)
    → (slice_get (closed_after_trap fs cs) i ≡ Some true)
    ↔ ((slice_get cs i ≡ Some true) ⊎ IsAmong (instances_of fs) i)
flags_closed [] cs w i = (λ x. inl x, back) where
  back : (slice_get cs i ≡ Some true) ⊎ ⊥ → slice_get cs i ≡ Some true
  back (inl x) = x
  back (inr x) = absurd x
flags_closed (f ∷ fs) cs w i =
    flag_step cs f.instance i (IsAmong (instances_of fs) i)
    (slice_get (closed_after_trap fs (slice_set cs f.instance true)) i ≡ Some true) w.0
    (flags_closed fs (slice_set cs f.instance true)
    (subst (λ (n : ℕ). AreWithin n fs) (sym (set_length cs f.instance true)) w.1) i)

-- ---- what is left of a handle

left_is : (o : Option Handle) → slot_after_close o ≡ left_of o
left_is None = refl
left_is (Some h) = by h.kind where
  by : (k : HandleKind) → (if is_borrow k then None else Some (with_lends 0 h)) ≡ left_by k h
  by handle.Owned = refl
  by (handle.Borrowed call) = refl

left_twice : (o : Option Handle) → left_of (left_of o) ≡ left_of o
left_twice None = refl
left_twice (Some h) = by h.kind refl where
  by : (k : HandleKind) → h.kind ≡ k → left_of (left_by k h) ≡ left_by k h
  by handle.Owned is = ap (λ (k : HandleKind). left_by k (record h { lends = 0 })) is
  by (handle.Borrowed call) is = refl

left_lent : (n : ℕ) (o : Option Handle)
    → left_of (option_map (λ h. with_lends (h.lends + n) h) o) ≡ left_of o
left_lent n None = refl
left_lent n (Some h) = by h.kind where
  by : (k : HandleKind) → left_by k (with_lends (h.lends + n) h) ≡ left_by k h
  by handle.Owned = refl
  by (handle.Borrowed call) = refl

map_at : (xs : List (Option Handle)) (t : Handles) (k : ℕ)
    → handle_at (record { slots = map slot_after_close xs; freed = t.freed }) k
    ≡ slot_after_close (handle_at (record { slots = xs; freed = t.freed }) k)
map_at [] t k = refl
map_at (x ∷ xs) t zero = refl
map_at (x ∷ xs) t (suc k) = map_at xs t k

closed_at : (t : Handles) (k : ℕ) → handle_at (after_close t) k ≡ left_of (handle_at t k)
closed_at t k = map_at t.slots t k ∙ left_is (handle_at t k)

-- ---- tables

-- the tables of other instances are as they were
pub tables_open : (fs : List Frame) (ts : List Handles) (i : ℕ) → (IsAmong (instances_of fs) i → ⊥)
    → table_at (tables_after_trap fs ts) i ≡ table_at ts i
tables_open [] ts i not = refl
tables_open (f ∷ fs) ts i not =
    tables_open fs (slice_set ts f.instance (after_close (table_at ts f.instance))) i (λ a. not (inr a))
    ∙ table_other ts f.instance i (after_close (table_at ts f.instance)) (λ e. not (inl (sym e)))

tables_step : (f : Frame) (fs : List Frame) (ts : List Handles) (i index : ℕ)
    → f.instance < length ts
    → (IsAmong (instances_of fs) i
    → handle_at (table_at (tables_after_trap fs (slice_set ts f.instance (after_close (table_at ts f.instance)))) i) index
    ≡ left_of (handle_at (table_at (slice_set ts f.instance (after_close (table_at ts f.instance))) i) index))
    → (f.instance ≡ i) ⊎ IsAmong (instances_of fs) i
    → handle_at (table_at (tables_after_trap fs (slice_set ts f.instance (after_close (table_at ts f.instance)))) i) index
    ≡ left_of (handle_at (table_at ts i) index)
tables_step f fs ts i index lt rest among = by (cases_eq i f.instance) (among_cases (instances_of fs) i) among where
  mid : List Handles
  mid = slice_set ts f.instance (after_close (table_at ts f.instance))

  here : i ≡ f.instance → handle_at (table_at mid i) index ≡ left_of (handle_at (table_at ts i) index)
  here e =
      ap (λ (j : ℕ). handle_at (table_at mid j) index) e
      ∙ (ap (λ (t : Handles). handle_at t index) (table_same ts f.instance (after_close (table_at ts f.instance)) lt)
      ∙ (closed_at (table_at ts f.instance) index ∙ ap (λ (j : ℕ). left_of (handle_at (table_at ts j) index)) (sym e)))

  by : (i ≡ f.instance) ⊎ (i ≡ f.instance → ⊥)
      → IsAmong (instances_of fs) i ⊎ (IsAmong (instances_of fs) i → ⊥)
      → (f.instance ≡ i) ⊎ IsAmong (instances_of fs) i
      → handle_at (table_at (tables_after_trap fs mid) i) index ≡ left_of (handle_at (table_at ts i) index)
  by (inl e) (inl a) x =
      rest a ∙ (ap left_of (here e) ∙ left_twice (handle_at (table_at ts i) index))
  by (inl e) (inr none) x =
      ap (λ (t : Handles). handle_at t index) (tables_open fs mid i none) ∙ here e
  by (inr ne) a (inl e) = absurd (ne (sym e))
  by (inr ne) a (inr later) =
      rest later ∙ ap (λ (t : Handles). left_of (handle_at t index)) (table_other ts f.instance i (after_close (table_at ts f.instance)) ne)

-- those of the instances that are closed have what is left
pub tables_closed : (fs : List Frame) (ts : List Handles) → AreWithin (length ts) fs → (i : ℕ)
    → IsAmong (instances_of fs) i → (index : ℕ)
    → handle_at (table_at (tables_after_trap fs ts) i) index ≡ left_of (handle_at (table_at ts i) index)
tables_closed [] ts w i among index = absurd among
tables_closed (f ∷ fs) ts w i among index =
    tables_step f fs ts i index w.0
    (λ a. tables_closed fs (slice_set ts f.instance (after_close (table_at ts f.instance)))
    (subst (λ (n : ℕ). AreWithin n fs) (sym (set_length ts f.instance (after_close (table_at ts f.instance)))) w.1) i a index)
    among

-- ---- tables in which something was lifted

-- What is left of the table of a giver that is closed once something was met.
pub record IsLeft (ts : List Handles) (fs : List Frame) (giver : ℕ) (ms : List Met) : Type 0 where
  pub others : (i index : ℕ) → (IsAmong (instances_of fs) i → ⊥)
      → handle_at (table_at (tables_after_trap fs (slice_set ts giver (after_met (table_at ts giver) ms))) i) index
      ≡ handle_at (table_at ts i) index
  pub closed : (i index : ℕ) → IsAmong (instances_of fs) i
      → ((i ≡ giver) × Contains (taken_of ms) index → ⊥)
      → handle_at (table_at (tables_after_trap fs (slice_set ts giver (after_met (table_at ts giver) ms))) i) index
      ≡ left_of (handle_at (table_at ts i) index)
  pub gone : (index : ℕ) → Contains (taken_of ms) index
      → handle_at (table_at (tables_after_trap fs (slice_set ts giver (after_met (table_at ts giver) ms))) giver) index
      ≡ None

pub lifted_left : (ts : List Handles) (fs : List Frame) (giver : ℕ) (ms : List Met)
    → AreWithin (length ts) fs → giver < length ts → IsAmong (instances_of fs) giver
    → IsHanded (table_at ts giver) ms (after_met (table_at ts giver) ms) → IsLeft ts fs giver ms
lifted_left ts fs giver ms w lt among handed = record {
  others = λ i index not.
      ap (λ (t : Handles). handle_at t index)
      (tables_open fs mid i not ∙ table_other ts giver i new (λ e. not (subst (λ (j : ℕ). IsAmong (instances_of fs) j) (sym e) among)));
  closed = λ i index a not. tables_closed fs mid within i a index ∙ met_at i index not;
  gone = λ index a.
      tables_closed fs mid within giver among index
      ∙ ap left_of (ap (λ (t : Handles). handle_at t index) (table_same ts giver new lt) ∙ handed.gone index a);
} where
  new : Handles
  new = after_met (table_at ts giver) ms

  mid : List Handles
  mid = slice_set ts giver new

  within : AreWithin (length mid) fs
  within = subst (λ (n : ℕ). AreWithin n fs) (sym (set_length ts giver new)) w

  met_at : (i index : ℕ) → ((i ≡ giver) × Contains (taken_of ms) index → ⊥)
      → left_of (handle_at (table_at mid i) index) ≡ left_of (handle_at (table_at ts i) index)
  met_at i index not = elim (cases_eq i giver) as (λ r. left_of (handle_at (table_at mid i) index) ≡ left_of (handle_at (table_at ts i) index)) [
    | inl e ↦
        ap (λ (j : ℕ). left_of (handle_at (table_at mid j) index)) e
        ∙ (ap (λ (t : Handles). left_of (handle_at t index)) (table_same ts giver new lt)
        ∙ (ap left_of (handed.stays index (λ a. not (e, a)))
        ∙ (left_lent (times index (lent_of ms)) (handle_at (table_at ts giver) index)
        ∙ ap (λ (j : ℕ). left_of (handle_at (table_at ts j) index)) (sym e))))
    | inr ne ↦ ap (λ (t : Handles). left_of (handle_at t index)) (table_other ts giver i new ne)
  ]
