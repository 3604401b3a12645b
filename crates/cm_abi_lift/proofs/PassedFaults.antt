-- What a call passes stops lifting exactly where the words of the types say.
use Rattle.std.proofs.Common.{◌≡◌, ℕ, zero, suc, ◌+◌, ◌==◌, ◌⊎◌, ◌↔◌, inl, inr, Bool, true, false, not, List, [], ◌++◌, length, drop, Result, Ok, Err, refl, sym, ap, subst, ◌∙◌, arith, nat_lt}
use Rattle.std.specs.Prelude.{if◌then◌else◌, ◌%◌}
use Rattle.std.proofs.lemmas.Bool.{lt-ltb, ltb-false, ltb-true}
use Rattle.cm_types.specs.declared.core_value.CoreValue.{CoreValue}
use Rattle.cm_types.specs.Types.{Ty, Fields, Cases, bool, signed, unsigned, char, string, list, fixed_list, fields, cases, flags, own, borrow, no_fields, field, no_cases, plain, carrying}
use Rattle.cm_types.specs.Values.{Val, no_vals, val, bare, bearing, elements, parts}
use Rattle.cm_layout.specs.Alignment.{align_to}
use Rattle.cm_layout.specs.Sizes.{align_of, size_of}
use Rattle.cm_layout.specs.Shapes.{head_of, layout_at, layout_of_fields_at, parts_at, parts_from, payloads_from, payloads_of, shape_of_type}
use Rattle.cm_layout.specs.declared.layouts.HandleType.TheVariants as handle_type
use Rattle.cm_layout.specs.declared.layouts.Leaf.TheVariants as leaf
use Rattle.cm_abi_model.specs.declared.fault.AbiFault.{AbiFault}
use Rattle.cm_abi_model.specs.declared.fault.AbiFault.TheVariants as fault
use Rattle.cm_abi_model.specs.Denotes.{Denotes}
use Rattle.cm_abi_model.specs.Numbers.{wrapped_at}
use Rattle.cm_abi_model.specs.FlatShows.{FlatShows, width_of}
use Rattle.cm_abi_model.specs.Requests.{is_spilled, tuple_of}
use Rattle.cm_abi_model.specs.Taken.{Met, Transferable, met_flat}
use Rattle.cm_abi_model.specs.Views.{View, Way, flat_limit}
use Rattle.cm_abi_load.specs.Outcomes.{Outcome, State, mapped, ◌>>=◌}
use Rattle.cm_abi_load.specs.Reading.{leaf_value, read_at, read_elements, read_handle, read_text, seen_by}
use Rattle.cm_abi_lift.specs.FlatReading.{read_flat, read_flat_case, read_flat_each, read_flat_parts, read_passed, read_spilled}
use Rattle.cm_abi_model.specs.Lifts.{Hands}
use Rattle.cm_abi_lift.specs.HandingOver.{hand_over, handed, state_in, untouched}
use Rattle.cm_abi_lift.specs.Lifts.{fresh, lift_of}
use Rattle.cm_abi_model.specs.LiftStops.{EachStops, FlatCaseStops, FlatFieldsStop, FlatStopsAt, IsLiftedFlat, LiftStops, LiftStopsBy, PointerStops, SpilledStops}
use Rattle.cm_abi_lift.proofs.FlatLaws.{at_first, flat_found, flat_shows, read_err, two_slots}
use Rattle.cm_abi_lift.proofs.HandLaws.{kept_first}
use Rattle.cm_abi_lift.proofs.PassedLaws.{AllLaws, lifts_view, must_lift_view, spilled_there}
use Rattle.cm_abi_lift.proofs.Ends.{Fails, Finds, Ready, Tells, at_once, at_once_fails, extends_flat, extends_flat_each, extends_flat_parts, extends_mapped, fails_by, fails_then, mapped_fails, state_of, stops_then, unmapped_fails}
use Rattle.cm_abi_lift.proofs.PartStops.{borrow_fails, borrow_stops, bool_false, char_fails, char_stops, own_fails, own_stops, text_fails, text_stops}
use Rattle.cm_abi_lift.proofs.FaultLaws.{Lifted, One, Row, at_fails, at_stops, each_fails, each_stops, list_fails, list_stops, one_at}
use Rattle.cm_abi_model.proofs.TextsLaws.{aligned, multiple}
use Rattle.cm_types.proofs.CoreValueLaws.{drop_twice}
use Rattle.cm_lemmas.proofs.Bools.{false_not_true}
use Rattle.cm_abi_model.proofs.FaultLaws.{not_both}
use Rattle.cm_abi_load.proofs.ShownLaws.{read_ok}

-- ---- in core values

row_flat : (w : View) (s : List CoreValue) (t : Ty) → Row (λ n k x. read_flat_each (read_flat (seen_by w) (shape_of_type t)) (width_of t) n (drop k s) x) (λ k x. read_flat (seen_by w) (shape_of_type t) (drop k s) x) (width_of t)
row_flat w s t = record {
  none = λ k x. refl;
  more = λ n k x. ap (λ z. read_flat (seen_by w) (shape_of_type t) (drop k s) x >>= λ r. mapped (λ vs. val r.0 vs) (read_flat_each (read_flat (seen_by w) (shape_of_type t)) (width_of t) n z r.1)) (drop_twice (width_of t) k s);
  extends = λ n k x. extends_flat_each (read_flat (seen_by w) (shape_of_type t)) (width_of t) n (drop k s) x (λ z u. extends_flat (seen_by w) (shape_of_type t) z u);
}

lifted_flat : (w : View) (s : List CoreValue) (t : Ty) → Lifted w (FlatShows w s t) (met_flat w s t) (IsLiftedFlat w s t)
lifted_flat w s t = record { make = λ p ms v a b. record { shown = a; goes = b }; shown = λ p ms v l. l.shown; goes = λ p ms v l. l.goes }

tells_flat : AllLaws → (w : View) (s : List CoreValue) (t : Ty) (k : ℕ) (x : State) → Tells w x (read_flat (seen_by w) (shape_of_type t) (drop k s) x) (FlatShows w s t k) (met_flat w s t k)
tells_flat laws w s t k x v y e = flat_shows laws.flat w s t k x y v e

finds_flat : AllLaws → (w : View) (s : List CoreValue) (t : Ty) (k : ℕ) (x : State) → Finds x (read_flat (seen_by w) (shape_of_type t) (drop k s) x) (FlatShows w s t k) (met_flat w s t k)
finds_flat laws w s t k x v h room = let found = flat_found laws.flat w s t k x v h room in (found.after, found.is)

abbrev StopsFlat : View → List CoreValue → Ty → Type 0
StopsFlat w s t = (k : ℕ) (x : State) (ms : List Met) (f : AbiFault) → Ready w x ms → Fails w.table (read_flat (seen_by w) (shape_of_type t) (drop k s) x) f → FlatStopsAt w s t k ms f

abbrev FailsFlat : View → List CoreValue → Ty → Type 0
FailsFlat w s t = (k : ℕ) (x : State) (ms : List Met) (f : AbiFault) → Ready w x ms → FlatStopsAt w s t k ms f → Fails w.table (read_flat (seen_by w) (shape_of_type t) (drop k s) x) f

abbrev OneFlat : View → List CoreValue → Ty → Type 0
OneFlat w s t = One w (λ k x. read_flat (seen_by w) (shape_of_type t) (drop k s) x) (FlatShows w s t) (met_flat w s t) (FlatStopsAt w s t)

one_flat : AllLaws → (w : View) (s : List CoreValue) (t : Ty) → StopsFlat w s t → FailsFlat w s t → OneFlat w s t
one_flat laws w s t stops fails = record { tells = tells_flat laws w s t; finds = finds_flat laws w s t; stops = stops; fails = fails }

flat_row_stops : (w : View) (s : List CoreValue) (t : Ty) → OneFlat w s t → (n k : ℕ) (x : State) (ms : List Met) (f : AbiFault) → Ready w x ms
    → Fails w.table (read_flat_each (read_flat (seen_by w) (shape_of_type t)) (width_of t) n (drop k s) x) f → EachStops (FlatStopsAt w s t) (IsLiftedFlat w s t) (met_flat w s t) (width_of t) n k ms f
flat_row_stops w s t one n k x ms f ready fails =
    each_stops w (λ m j y. read_flat_each (read_flat (seen_by w) (shape_of_type t)) (width_of t) m (drop j s) y) (λ j y. read_flat (seen_by w) (shape_of_type t) (drop j s) y) (width_of t) (FlatShows w s t) (met_flat w s t) (FlatStopsAt w s t) (IsLiftedFlat w s t)
    (row_flat w s t) one (lifted_flat w s t) n k x ms f ready fails

flat_row_fails : (w : View) (s : List CoreValue) (t : Ty) → OneFlat w s t → (n k : ℕ) (x : State) (ms : List Met) (f : AbiFault) → Ready w x ms
    → EachStops (FlatStopsAt w s t) (IsLiftedFlat w s t) (met_flat w s t) (width_of t) n k ms f → Fails w.table (read_flat_each (read_flat (seen_by w) (shape_of_type t)) (width_of t) n (drop k s) x) f
flat_row_fails w s t one n k x ms f ready stops =
    each_fails w (λ m j y. read_flat_each (read_flat (seen_by w) (shape_of_type t)) (width_of t) m (drop j s) y) (λ j y. read_flat (seen_by w) (shape_of_type t) (drop j s) y) (width_of t) (FlatShows w s t) (met_flat w s t) (FlatStopsAt w s t) (IsLiftedFlat w s t)
    (row_flat w s t) one (lifted_flat w s t) n k x ms f ready stops

-- the same reading of slots, told by their places
case_there : (w : View) (s : List CoreValue) (cs : Cases) (k : ℕ) (x : State)
    → read_flat_case (seen_by w) (payloads_from (payloads_of cs)) (wrapped_at 4 (drop k s) 0) (wrapped_at 4 (drop k s) 0) (drop 1 (drop k s)) x
    ≡ read_flat_case (seen_by w) (payloads_from (payloads_of cs)) (wrapped_at 4 s k) (wrapped_at 4 s k) (drop (k + 1) s) x
case_there w s cs k x =
    ap (λ j. read_flat_case (seen_by w) (payloads_from (payloads_of cs)) j j (drop 1 (drop k s)) x) (at_first 4 s k)
    ∙ ap (λ z. read_flat_case (seen_by w) (payloads_from (payloads_of cs)) (wrapped_at 4 s k) (wrapped_at 4 s k) z x) (drop_twice 1 k s)

mutual
  pub flat_stops : AllLaws → (w : View) (s : List CoreValue) (t : Ty) (k : ℕ) (x : State) (ms : List Met) (f : AbiFault) → Ready w x ms → Fails w.table (read_flat (seen_by w) (shape_of_type t) (drop k s) x) f → FlatStopsAt w s t k ms f
  flat_stops laws w s bool k x ms f ready fails = at_once w x ms (read_flat (seen_by w) (shape_of_type bool) (drop k s) x) f ready refl fails
  flat_stops laws w s (signed b) k x ms f ready fails = at_once w x ms (read_flat (seen_by w) (shape_of_type (signed b)) (drop k s) x) f ready refl fails
  flat_stops laws w s (unsigned b) k x ms f ready fails = at_once w x ms (read_flat (seen_by w) (shape_of_type (unsigned b)) (drop k s) x) f ready refl fails
  flat_stops laws w s char k x ms f ready fails = char_stops w (wrapped_at 4 s k) x ms f ready (subst (λ c. Fails w.table (leaf_value leaf.Char c x) f) (at_first 4 s k) fails)
  flat_stops laws w s string k x ms f ready fails =
      text_stops laws.flat.text_read w (wrapped_at 4 s k) (wrapped_at 4 s (k + 1)) x ms f ready
      (subst (λ q. Fails w.table q f) (two_slots (λ a n. read_text w.memory w.encoding a n x) s k) fails)
  flat_stops laws w s (list t) k x ms f ready fails =
      list_stops w t (one_at laws w t (λ q u ns g on h. at_stops laws w t q u ns g on h) (λ q u ns g on h. at_fails laws w t q u ns g on h)) (wrapped_at 4 s k) (wrapped_at 4 s (k + 1)) x ms f ready
      (subst (λ q. Fails w.table q f) (two_slots (λ a n. read_elements (read_at (seen_by w) (shape_of_type t)) w.memory (head_of t) a n x) s k)
      (unmapped_fails elements w.table (read_elements (read_at (seen_by w) (shape_of_type t)) w.memory (head_of t) (wrapped_at 4 (drop k s) 0) (wrapped_at 4 (drop k s) 1) x) f fails))
  flat_stops laws w s (fixed_list t n) k x ms f ready fails =
      flat_row_stops w s t (one_flat laws w s t (λ j u ns g on h. flat_stops laws w s t j u ns g on h) (λ j u ns g on h. flat_fails laws w s t j u ns g on h)) n k x ms f ready
      (unmapped_fails parts w.table (read_flat_each (read_flat (seen_by w) (shape_of_type t)) (width_of t) n (drop k s) x) f fails)
  flat_stops laws w s (fields c fs) k x ms f ready fails =
      flat_fields_stop laws w s fs 0 k x ms f ready (unmapped_fails parts w.table (read_flat_parts (seen_by w) (parts_from (parts_at fs 0)) (drop k s) x) f fails)
  flat_stops laws w s (cases c cs) k x ms f ready fails =
      flat_case_stops laws w s cs (wrapped_at 4 s k) (wrapped_at 4 s k) (k + 1) x ms f ready (subst (λ q. Fails w.table q f) (case_there w s cs k x) fails)
  flat_stops laws w s (flags ls) k x ms f ready fails = at_once w x ms (read_flat (seen_by w) (shape_of_type (flags ls)) (drop k s) x) f ready refl fails
  flat_stops laws w s (own r) k x ms f ready fails =
      own_stops laws.flat w r (wrapped_at 4 s k) x ms f ready (subst (λ q. Fails w.table q f) (ap (λ i. read_handle w.table (handle_type.Own r) i x) (at_first 4 s k)) fails)
  flat_stops laws w s (borrow r) k x ms f ready fails =
      borrow_stops laws.flat w r (wrapped_at 4 s k) x ms f ready (subst (λ q. Fails w.table q f) (ap (λ i. read_handle w.table (handle_type.Borrow r) i x) (at_first 4 s k)) fails)

  flat_fields_stop : AllLaws → (w : View) (s : List CoreValue) (fs : Fields) (end k : ℕ) (x : State) (ms : List Met) (f : AbiFault) → Ready w x ms
      → Fails w.table (read_flat_parts (seen_by w) (parts_from (parts_at fs end)) (drop k s) x) f → FlatFieldsStop w s fs k ms f
  flat_fields_stop laws w s no_fields end k x ms f ready fails = at_once w x ms (read_ok no_vals x) f ready refl fails
  flat_fields_stop laws w s (field l t fs) end k x ms f ready fails =
      let next = align_to (align_of t) end + size_of t in
      elim (stops_then w x ms (read_flat (seen_by w) (shape_of_type t) (drop k s) x) (λ r. mapped (λ us. val r.0 us) (read_flat_parts (seen_by w) (parts_from (parts_at fs next)) (drop (width_of t) (drop k s)) r.1))
      (FlatShows w s t k) (met_flat w s t k) (FlatStopsAt w s t k ms f) (λ v ns. FlatFieldsStop w s fs (k + width_of t) ns f) f ready
      (λ y. extends_mapped (λ us. val y.0 us) y.1 (read_flat_parts (seen_by w) (parts_from (parts_at fs next)) (drop (width_of t) (drop k s)) y.1) (extends_flat_parts (seen_by w) (parts_from (parts_at fs next)) (drop (width_of t) (drop k s)) y.1))
      (tells_flat laws w s t k x) (λ h. flat_stops laws w s t k x ms f ready h)
      (λ v u on h. flat_fields_stop laws w s fs next (k + width_of t) u (ms ++ met_flat w s t k v) f on
      (subst (λ z. Fails w.table (read_flat_parts (seen_by w) (parts_from (parts_at fs next)) z u) f) (drop_twice (width_of t) k s)
      (unmapped_fails (λ us. val v us) w.table (read_flat_parts (seen_by w) (parts_from (parts_at fs next)) (drop (width_of t) (drop k s)) u) f h)))
      fails) [
        | inl y ↦ inl y
        | inr y ↦ inr (y.0, record { shown = y.1; goes = y.2 }, y.3)
      ]

  flat_fields_fail : AllLaws → (w : View) (s : List CoreValue) (fs : Fields) (end k : ℕ) (x : State) (ms : List Met) (f : AbiFault) → Ready w x ms → FlatFieldsStop w s fs k ms f
      → Fails w.table (read_flat_parts (seen_by w) (parts_from (parts_at fs end)) (drop k s) x) f
  flat_fields_fail laws w s no_fields end k x ms f ready stops = absurd stops
  flat_fields_fail laws w s (field l t fs) end k x ms f ready stops =
      let next = align_to (align_of t) end + size_of t in
      fails_then w x ms (read_flat (seen_by w) (shape_of_type t) (drop k s) x) (λ r. mapped (λ us. val r.0 us) (read_flat_parts (seen_by w) (parts_from (parts_at fs next)) (drop (width_of t) (drop k s)) r.1))
      (FlatShows w s t k) (met_flat w s t k) (FlatStopsAt w s t k ms f) (λ v ns. FlatFieldsStop w s fs (k + width_of t) ns f) f ready
      (λ y. extends_mapped (λ us. val y.0 us) y.1 (read_flat_parts (seen_by w) (parts_from (parts_at fs next)) (drop (width_of t) (drop k s)) y.1) (extends_flat_parts (seen_by w) (parts_from (parts_at fs next)) (drop (width_of t) (drop k s)) y.1))
      (tells_flat laws w s t k x) (finds_flat laws w s t k x) (λ h. flat_fails laws w s t k x ms f ready h)
      (λ v u on h. mapped_fails (λ us. val v us) w.table (read_flat_parts (seen_by w) (parts_from (parts_at fs next)) (drop (width_of t) (drop k s)) u) f
      (subst (λ z. Fails w.table (read_flat_parts (seen_by w) (parts_from (parts_at fs next)) z u) f) (sym (drop_twice (width_of t) k s))
      (flat_fields_fail laws w s fs next (k + width_of t) u (ms ++ met_flat w s t k v) f on h)))
      (elim stops [
        | inl y ↦ inl y
        | inr y ↦ inr (y.0, y.1.shown, y.1.goes, y.2)
      ])

  flat_case_stops : AllLaws → (w : View) (s : List CoreValue) (cs : Cases) (i n k : ℕ) (x : State) (ms : List Met) (f : AbiFault) → Ready w x ms
      → Fails w.table (read_flat_case (seen_by w) (payloads_from (payloads_of cs)) i n (drop k s) x) f → FlatCaseStops w s cs n k ms f
  flat_case_stops laws w s no_cases i n k x ms f ready fails = sym (at_once {A = Val} w x ms (read_err fault.BadCase x) f ready refl fails)
  flat_case_stops laws w s (plain l cs) i zero k x ms f ready fails = at_once {A = Val} w x ms (read_ok (bare i) x) f ready refl fails
  flat_case_stops laws w s (plain l cs) i (suc n) k x ms f ready fails = flat_case_stops laws w s cs i n k x ms f ready fails
  flat_case_stops laws w s (carrying l t cs) i zero k x ms f ready fails = flat_stops laws w s t k x ms f ready (unmapped_fails (λ v. bearing i v) w.table (read_flat (seen_by w) (shape_of_type t) (drop k s) x) f fails)
  flat_case_stops laws w s (carrying l t cs) i (suc n) k x ms f ready fails = flat_case_stops laws w s cs i n k x ms f ready fails

  flat_case_fails : AllLaws → (w : View) (s : List CoreValue) (cs : Cases) (i n k : ℕ) (x : State) (ms : List Met) (f : AbiFault) → Ready w x ms → FlatCaseStops w s cs n k ms f
      → Fails w.table (read_flat_case (seen_by w) (payloads_from (payloads_of cs)) i n (drop k s) x) f
  flat_case_fails laws w s no_cases i n k x ms f ready stops = at_once_fails {A = Val} w x ms (read_err fault.BadCase x) f ready refl (sym stops)
  flat_case_fails laws w s (plain l cs) i zero k x ms f ready stops = absurd stops
  flat_case_fails laws w s (plain l cs) i (suc n) k x ms f ready stops = flat_case_fails laws w s cs i n k x ms f ready stops
  flat_case_fails laws w s (carrying l t cs) i zero k x ms f ready stops = mapped_fails (λ v. bearing i v) w.table (read_flat (seen_by w) (shape_of_type t) (drop k s) x) f (flat_fails laws w s t k x ms f ready stops)
  flat_case_fails laws w s (carrying l t cs) i (suc n) k x ms f ready stops = flat_case_fails laws w s cs i n k x ms f ready stops

  pub flat_fails : AllLaws → (w : View) (s : List CoreValue) (t : Ty) (k : ℕ) (x : State) (ms : List Met) (f : AbiFault) → Ready w x ms → FlatStopsAt w s t k ms f → Fails w.table (read_flat (seen_by w) (shape_of_type t) (drop k s) x) f
  flat_fails laws w s bool k x ms f ready stops = absurd stops
  flat_fails laws w s (signed b) k x ms f ready stops = absurd stops
  flat_fails laws w s (unsigned b) k x ms f ready stops = absurd stops
  flat_fails laws w s char k x ms f ready stops = subst (λ c. Fails w.table (leaf_value leaf.Char c x) f) (sym (at_first 4 s k)) (char_fails w (wrapped_at 4 s k) x ms f ready stops)
  flat_fails laws w s string k x ms f ready stops =
      subst (λ q. Fails w.table q f) (sym (two_slots (λ a n. read_text w.memory w.encoding a n x) s k))
      (text_fails laws.flat.text_shown w (wrapped_at 4 s k) (wrapped_at 4 s (k + 1)) x ms f ready stops)
  flat_fails laws w s (list t) k x ms f ready stops =
      mapped_fails elements w.table (read_elements (read_at (seen_by w) (shape_of_type t)) w.memory (head_of t) (wrapped_at 4 (drop k s) 0) (wrapped_at 4 (drop k s) 1) x) f
      (subst (λ q. Fails w.table q f) (sym (two_slots (λ a n. read_elements (read_at (seen_by w) (shape_of_type t)) w.memory (head_of t) a n x) s k))
      (list_fails w t (one_at laws w t (λ q u ns g on h. at_stops laws w t q u ns g on h) (λ q u ns g on h. at_fails laws w t q u ns g on h)) (wrapped_at 4 s k) (wrapped_at 4 s (k + 1)) x ms f ready stops))
  flat_fails laws w s (fixed_list t n) k x ms f ready stops =
      mapped_fails parts w.table (read_flat_each (read_flat (seen_by w) (shape_of_type t)) (width_of t) n (drop k s) x) f
      (flat_row_fails w s t (one_flat laws w s t (λ j u ns g on h. flat_stops laws w s t j u ns g on h) (λ j u ns g on h. flat_fails laws w s t j u ns g on h)) n k x ms f ready stops)
  flat_fails laws w s (fields c fs) k x ms f ready stops =
      mapped_fails parts w.table (read_flat_parts (seen_by w) (parts_from (parts_at fs 0)) (drop k s) x) f (flat_fields_fail laws w s fs 0 k x ms f ready stops)
  flat_fails laws w s (cases c cs) k x ms f ready stops =
      subst (λ q. Fails w.table q f) (sym (case_there w s cs k x)) (flat_case_fails laws w s cs (wrapped_at 4 s k) (wrapped_at 4 s k) (k + 1) x ms f ready stops)
  flat_fails laws w s (flags ls) k x ms f ready stops = absurd stops
  flat_fails laws w s (own r) k x ms f ready stops =
      subst (λ q. Fails w.table q f) (sym (ap (λ i. read_handle w.table (handle_type.Own r) i x) (at_first 4 s k))) (own_fails w r (wrapped_at 4 s k) x ms f ready stops)
  flat_fails laws w s (borrow r) k x ms f ready stops =
      subst (λ q. Fails w.table q f) (sym (ap (λ i. read_handle w.table (handle_type.Borrow r) i x) (at_first 4 s k))) (borrow_fails w r (wrapped_at 4 s k) x ms f ready stops)

-- ---- a tuple behind a pointer

spilled_stops : AllLaws → (w : View) (t : Ty) (at : ℕ) (s : State) (f : AbiFault) → Ready w s [] → Fails w.table (read_spilled (seen_by w) (layout_at t) at s) f → SpilledStops w t at f
unfolding read_spilled
spilled_stops laws w t at s f ready fails = tests (at % align_of t == 0) refl (nat_lt (length w.memory) (at + size_of t)) refl fails
  where
    tests : (a : Bool) → (at % align_of t == 0) ≡ a → (b : Bool) → nat_lt (length w.memory) (at + size_of t) ≡ b
        → Fails {A = Val} w.table (if not a then read_err fault.Misaligned s else (if b then read_err fault.PointerBounds s else read_at (seen_by w) (shape_of_type t) at s)) f → SpilledStops w t at f
    tests false is b bi fails = inl (subst (PointerStops w.memory (align_of t) at (size_of t)) (at_once {A = Val} w s [] (read_err fault.Misaligned s) f ready refl fails) (λ al. false_not_true (sym is ∙ multiple (align_of t) at al)))
    tests true is true bi fails = inl (subst (PointerStops w.memory (align_of t) at (size_of t)) (at_once {A = Val} w s [] (read_err fault.PointerBounds s) f ready refl fails) (aligned (align_of t) at is, ltb-true (length w.memory) (at + size_of t) bi))
    tests true is false bi fails = inr (record { aligned = aligned (align_of t) at is; inside = ltb-false (length w.memory) (at + size_of t) bi }, at_stops laws w t at s [] f ready fails)

pointer_fails : (w : View) (t : Ty) (at : ℕ) (s : State) (f : AbiFault) → Ready w s [] → PointerStops w.memory (align_of t) at (size_of t) f → Fails w.table (read_spilled (seen_by w) (layout_at t) at s) f
unfolding read_spilled
pointer_fails w t at s fault.Misaligned ready h =
    let odd : (at % align_of t == 0) ≡ false = bool_false (at % align_of t == 0) (λ e. h (aligned (align_of t) at e)) in
    let is : read_spilled (seen_by w) (layout_at t) at s ≡ read_err fault.Misaligned s = rw odd refl in
    subst (λ q. Fails w.table q fault.Misaligned) (sym is) (at_once_fails {A = Val} w s [] (read_err fault.Misaligned s) fault.Misaligned ready refl refl)
pointer_fails w t at s fault.PointerBounds ready h =
    let is : read_spilled (seen_by w) (layout_at t) at s ≡ read_err fault.PointerBounds s = rw (multiple (align_of t) at h.0, lt-ltb (length w.memory) (at + size_of t) h.1) refl in
    subst (λ q. Fails w.table q fault.PointerBounds) (sym is) (at_once_fails {A = Val} w s [] (read_err fault.PointerBounds s) fault.PointerBounds ready refl refl)
pointer_fails w t at s f ready h = absurd h

spilled_fails : AllLaws → (w : View) (t : Ty) (at : ℕ) (s : State) (f : AbiFault) → Ready w s [] → SpilledStops w t at f → Fails w.table (read_spilled (seen_by w) (layout_at t) at s) f
spilled_fails laws w t at s f ready (inl x) = pointer_fails w t at s f ready x
spilled_fails laws w t at s f ready (inr x) =
    subst (λ q. Fails w.table q f) (sym (spilled_there (seen_by w) (layout_at t) at s (read_at (seen_by w) (shape_of_type t) at s) x.0.aligned x.0.inside refl))
    (at_fails laws w t at s [] f ready x.1)

-- ---- what is passed

ready_first : (w : View) → Ready w fresh []
ready_first w = record { counted = omega arith; hands = untouched w.table; over = refl; table = refl; kept = kept_first w.table }

abbrev passed_by : Bool → View → Fields → List CoreValue → Outcome Val
passed_by b w types slots = if b then read_spilled (seen_by w) (layout_of_fields_at types) (wrapped_at 4 slots 0) fresh else read_flat (seen_by w) (shape_of_type (tuple_of types)) slots fresh

by_stops : AllLaws → (b : Bool) (w : View) (types : Fields) (slots : List CoreValue) (f : AbiFault) → Fails w.table (passed_by b w types slots) f → LiftStopsBy b w (tuple_of types) slots f
by_stops laws true w types slots f fails = spilled_stops laws w (tuple_of types) (wrapped_at 4 slots 0) fresh f (ready_first w) fails
by_stops laws false w types slots f fails = flat_stops laws w slots (tuple_of types) 0 fresh [] f (ready_first w) fails

by_fails : AllLaws → (b : Bool) (w : View) (types : Fields) (slots : List CoreValue) (f : AbiFault) → LiftStopsBy b w (tuple_of types) slots f → Fails w.table (passed_by b w types slots) f
by_fails laws true w types slots f stops = spilled_fails laws w (tuple_of types) (wrapped_at 4 slots 0) fresh f (ready_first w) stops
by_fails laws false w types slots f stops = flat_fails laws w slots (tuple_of types) 0 fresh [] f (ready_first w) stops

handed_fails : (r : Outcome Val) (h : Result Hands AbiFault) (f : AbiFault) → handed r h ≡ Err f → fails_by r h f
handed_fails r (Err e) f is = cc
handed_fails (Err x) (Ok g) f is = cc
handed_fails (Ok x) (Ok g) f is = cc

fails_handed : (r : Outcome Val) (h : Result Hands AbiFault) (f : AbiFault) → fails_by r h f → handed r h ≡ Err f
fails_handed r (Err e) f is = ap (λ x. Err x) is
fails_handed (Err x) (Ok g) f is = ap (λ x. Err x) is
fails_handed (Ok x) (Ok g) f is = absurd is

same_state : (r : Outcome Val) → state_in r ≡ state_of r
same_state (Ok r) = refl
same_state (Err r) = refl

-- lifting comes to a fault exactly where it stops at it
abbrev lifts_so : View → Way → Fields → List CoreValue → Outcome Val
lifts_so w way types slots = read_passed (seen_by w) (flat_limit way) (layout_of_fields_at types) slots fresh

err_stops : AllLaws → (w : View) (way : Way) (types : Fields) (slots : List CoreValue) (f : AbiFault)
    → lift_of w.memory w.table w.encoding way (layout_of_fields_at types) slots ≡ Err f → LiftStops w way types slots f
err_stops laws w way types slots f e =
    let r = lifts_so w way types slots in
    let there : Fails w.table r f = handed_fails r (hand_over (untouched w.table) (state_of r).handles) f (ap (λ (s : State). handed r (hand_over (untouched w.table) s.handles)) (sym (same_state r)) ∙ e) in
    by_stops laws (is_spilled way types) w types slots f there

stops_err : AllLaws → (w : View) (way : Way) (types : Fields) (slots : List CoreValue) (f : AbiFault)
    → LiftStops w way types slots f → lift_of w.memory w.table w.encoding way (layout_of_fields_at types) slots ≡ Err f
stops_err laws w way types slots f stops =
    let r = lifts_so w way types slots in
    ap (λ (s : State). handed r (hand_over (untouched w.table) s.handles)) (same_state r)
    ∙ fails_handed r (hand_over (untouched w.table) (state_of r).handles) f (by_fails laws (is_spilled way types) w types slots f stops)

pub told : AllLaws → (w : View) (way : Way) (types : Fields) (slots : List CoreValue) (f : AbiFault)
    → lift_of w.memory w.table w.encoding way (layout_of_fields_at types) slots ≡ Err f ↔ LiftStops w way types slots f
told laws w way types slots f = (err_stops laws w way types slots f, stops_err laws w way types slots f)

same_err : (r : Result (Val × List Bool × Hands) AbiFault) (f g : AbiFault) → r ≡ Err f → r ≡ Err g → f ≡ g
same_err r f g a b = cc

pub one : AllLaws → (w : View) (way : Way) (types : Fields) (slots : List CoreValue) (f g : AbiFault) → LiftStops w way types slots f → LiftStops w way types slots g → f ≡ g
one laws w way types slots f g a b =
    same_err (lift_of w.memory w.table w.encoding way (layout_of_fields_at types) slots) f g (stops_err laws w way types slots f a) (stops_err laws w way types slots g b)

pub beside_no_value : AllLaws → (w : View) (way : Way) (types : Fields) (slots : List CoreValue) (f : AbiFault) (v : Val) → LiftStops w way types slots f → Denotes w way types slots v → Transferable w way types slots v → ⊥
beside_no_value laws w way types slots f v stops denoted can =
    let lifted = must_lift_view laws w way types slots v denoted can in
    not_both (lift_of w.memory w.table w.encoding way (layout_of_fields_at types) slots) (v, lifted.0, lifted.1) f lifted.2 (stops_err laws w way types slots f stops)

-- either a value can be lifted or lifting stops
pub either : AllLaws → (w : View) (way : Way) (types : Fields) (slots : List CoreValue) → ((v : Val) × Denotes w way types slots v × Transferable w way types slots v) ⊎ ((f : AbiFault) × LiftStops w way types slots f)
either laws w way types slots = by_result (lift_of w.memory w.table w.encoding way (layout_of_fields_at types) slots) refl
  where
    by_result : (r : Result (Val × List Bool × Hands) AbiFault) → lift_of w.memory w.table w.encoding way (layout_of_fields_at types) slots ≡ r
        → ((v : Val) × Denotes w way types slots v × Transferable w way types slots v) ⊎ ((f : AbiFault) × LiftStops w way types slots f)
    by_result (Ok x) e = let lifted = lifts_view laws w way types slots x.0 x.1 x.2 e in inl (x.0, lifted.denoted, lifted.transferable)
    by_result (Err f) e = inr (f, err_stops laws w way types slots f e)
