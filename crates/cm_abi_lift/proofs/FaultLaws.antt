-- Reading stops exactly where the words of the types say, in memory and in core values.
use Rattle.std.proofs.Common.{◌≡◌, ℕ, zero, suc, ◌+◌, inl, inr, List, ◌++◌, Ok, refl, sym, subst}
use Rattle.cm_types.specs.Types.{Ty, Fields, Cases, bool, signed, unsigned, char, string, list, fixed_list, fields, cases, flags, own, borrow, no_fields, field, no_cases, plain, carrying}
use Rattle.cm_types.specs.Values.{Val, Vals, no_vals, val, bare, bearing, elements, parts}
use Rattle.cm_layout.specs.Alignment.{align_to}
use Rattle.cm_layout.specs.Sizes.{align_of, size_of, case_count, discriminant_size, payload_offset}
use Rattle.cm_layout.specs.Shapes.{head_of, parts_at, parts_from, payloads_from, payloads_of, shape_of_type}
use Rattle.cm_layout.specs.declared.layouts.Leaf.TheVariants as leaf
use Rattle.cm_abi_model.specs.declared.fault.AbiFault.{AbiFault}
use Rattle.cm_abi_model.specs.declared.fault.AbiFault.TheVariants as fault
use Rattle.cm_abi_model.specs.Numbers.{number_at}
use Rattle.cm_abi_model.specs.Shows.{Shows}
use Rattle.cm_abi_model.specs.Taken.{Met, met_at}
use Rattle.cm_abi_model.specs.Views.{View}
use Rattle.cm_abi_load.specs.Outcomes.{Outcome, State, mapped, ◌>>=◌}
use Rattle.cm_abi_load.specs.Reading.{leaf_value, read_at, read_case, read_each, read_elements, read_parts, seen_by}
use Rattle.cm_abi_model.specs.LiftStops.{CaseStops, EachStops, FieldsStop, GoesOnWith, IsLiftedAt, ListStops, StopsAt}
use Rattle.cm_abi_lift.proofs.FlatLaws.{read_err}
use Rattle.cm_abi_lift.proofs.PassedLaws.{AllLaws}
use Rattle.cm_abi_lift.proofs.Ends.{Extends, Fails, Finds, Ready, Tells, at_once, at_once_fails, extends_at, extends_each, extends_mapped, extends_parts, fails_then, mapped_fails, stops_then, unmapped_fails}
use Rattle.cm_abi_lift.proofs.PartStops.{borrow_fails, borrow_stops, char_fails, char_stops, elements_fail, elements_stop, own_fails, own_stops, text_fails, text_stops}
use Rattle.cm_abi_load.proofs.ShownLaws.{read_ok}

-- ---- values in a row

-- reading one value behind another, at places or in slots
pub record Row (E : ℕ → ℕ → State → Outcome Vals) (R : ℕ → State → Outcome Val) (size : ℕ) : Type 0 where
  pub none : (p : ℕ) (s : State) → E 0 p s ≡ Ok (no_vals, s)
  pub more : (n p : ℕ) (s : State) → E (suc n) p s ≡ (R p s >>= λ r. mapped (λ vs. val r.0 vs) (E n (p + size) r.1))
  pub extends : (n p : ℕ) (s : State) → Extends s (E n p s)

-- one value of it
pub record One (w : View) (R : ℕ → State → Outcome Val) (S : ℕ → Val → Type 0) (M : ℕ → Val → List Met) (F : ℕ → List Met → AbiFault → Type 0) : Type 0 where
  pub tells : (p : ℕ) (s : State) → Tells w s (R p s) (S p) (M p)
  pub finds : (p : ℕ) (s : State) → Finds s (R p s) (S p) (M p)
  pub stops : (p : ℕ) (s : State) (ms : List Met) (f : AbiFault) → Ready w s ms → Fails w.table (R p s) f → F p ms f
  pub fails : (p : ℕ) (s : State) (ms : List Met) (f : AbiFault) → Ready w s ms → F p ms f → Fails w.table (R p s) f

-- what is lifted is shown and goes on
pub record Lifted (w : View) (S : ℕ → Val → Type 0) (M : ℕ → Val → List Met) (L : ℕ → List Met → Val → Type 0) : Type 0 where
  pub make : (p : ℕ) (ms : List Met) (v : Val) → S p v → GoesOnWith w ms (M p v) → L p ms v
  pub shown : (p : ℕ) (ms : List Met) (v : Val) → L p ms v → S p v
  pub goes : (p : ℕ) (ms : List Met) (v : Val) → L p ms v → GoesOnWith w ms (M p v)

pub each_stops : (w : View) (E : ℕ → ℕ → State → Outcome Vals) (R : ℕ → State → Outcome Val) (size : ℕ) (S : ℕ → Val → Type 0) (M : ℕ → Val → List Met) (F : ℕ → List Met → AbiFault → Type 0) (L : ℕ → List Met → Val → Type 0)
    → Row E R size → One w R S M F → Lifted w S M L → (n p : ℕ) (s : State) (ms : List Met) (f : AbiFault) → Ready w s ms → Fails w.table (E n p s) f → EachStops F L M size n p ms f
each_stops w E R size S M F L row one lifted zero p s ms f ready fails =
    at_once w s ms (read_ok no_vals s) f ready refl (subst (λ q. Fails w.table q f) (row.none p s) fails)
each_stops w E R size S M F L row one lifted (suc n) p s ms f ready fails =
    elim (stops_then w s ms (R p s) (λ r. mapped (λ vs. val r.0 vs) (E n (p + size) r.1)) (S p) (M p) (F p ms f) (λ v ns. EachStops F L M size n (p + size) ns f) f ready
    (λ x. extends_mapped (λ vs. val x.0 vs) x.1 (E n (p + size) x.1) (row.extends n (p + size) x.1)) (one.tells p s) (one.stops p s ms f ready)
    (λ v t on stops. each_stops w E R size S M F L row one lifted n (p + size) t (ms ++ M p v) f on (unmapped_fails (λ vs. val v vs) w.table (E n (p + size) t) f stops))
    (subst (λ q. Fails w.table q f) (row.more n p s) fails)) [
      | inl x ↦ inl x
      | inr x ↦ inr (x.0, lifted.make p ms x.0 x.1 x.2, x.3)
    ]

pub each_fails : (w : View) (E : ℕ → ℕ → State → Outcome Vals) (R : ℕ → State → Outcome Val) (size : ℕ) (S : ℕ → Val → Type 0) (M : ℕ → Val → List Met) (F : ℕ → List Met → AbiFault → Type 0) (L : ℕ → List Met → Val → Type 0)
    → Row E R size → One w R S M F → Lifted w S M L → (n p : ℕ) (s : State) (ms : List Met) (f : AbiFault) → Ready w s ms → EachStops F L M size n p ms f → Fails w.table (E n p s) f
each_fails w E R size S M F L row one lifted zero p s ms f ready stops = absurd stops
each_fails w E R size S M F L row one lifted (suc n) p s ms f ready stops =
    subst (λ q. Fails w.table q f) (sym (row.more n p s))
    (fails_then w s ms (R p s) (λ r. mapped (λ vs. val r.0 vs) (E n (p + size) r.1)) (S p) (M p) (F p ms f) (λ v ns. EachStops F L M size n (p + size) ns f) f ready
    (λ x. extends_mapped (λ vs. val x.0 vs) x.1 (E n (p + size) x.1) (row.extends n (p + size) x.1)) (one.tells p s) (one.finds p s) (one.fails p s ms f ready)
    (λ v t on stops. mapped_fails (λ vs. val v vs) w.table (E n (p + size) t) f (each_fails w E R size S M F L row one lifted n (p + size) t (ms ++ M p v) f on stops))
    (elim stops [
      | inl x ↦ inl x
      | inr x ↦ inr (x.0, lifted.shown p ms x.0 x.1, lifted.goes p ms x.0 x.1, x.2)
    ]))

-- ---- in memory

abbrev Reader : View → Ty → ℕ → State → Outcome Val
Reader w t = read_at (seen_by w) (shape_of_type t)

row_at : (w : View) (t : Ty) → Row (read_each (read_at (seen_by w) (shape_of_type t)) (size_of t)) (read_at (seen_by w) (shape_of_type t)) (size_of t)
row_at w t = record {
  none = λ p s. refl;
  more = λ n p s. refl;
  extends = λ n p s. extends_each (read_at (seen_by w) (shape_of_type t)) (size_of t) n p s (λ q u. extends_at (seen_by w) (shape_of_type t) q u);
}

lifted_at : (w : View) (t : Ty) → Lifted w (Shows w t) (met_at w t) (IsLiftedAt w t)
lifted_at w t = record { make = λ p ms v a b. record { shown = a; goes = b }; shown = λ p ms v l. l.shown; goes = λ p ms v l. l.goes }

tells_at : AllLaws → (w : View) (t : Ty) (p : ℕ) (s : State) → Tells w s (read_at (seen_by w) (shape_of_type t) p s) (Shows w t p) (met_at w t p)
tells_at laws w t p s v u e = (laws.shown w t p s u v e, laws.met w t p s u v e)

finds_at : AllLaws → (w : View) (t : Ty) (p : ℕ) (s : State) → Finds s (read_at (seen_by w) (shape_of_type t) p s) (Shows w t p) (met_at w t p)
finds_at laws w t p s v h room = laws.read w t p s v h room

abbrev StopsInMemory : View → Ty → Type 0
StopsInMemory w t = (p : ℕ) (s : State) (ms : List Met) (f : AbiFault) → Ready w s ms → Fails w.table (read_at (seen_by w) (shape_of_type t) p s) f → StopsAt w t p ms f

abbrev FailsInMemory : View → Ty → Type 0
FailsInMemory w t = (p : ℕ) (s : State) (ms : List Met) (f : AbiFault) → Ready w s ms → StopsAt w t p ms f → Fails w.table (read_at (seen_by w) (shape_of_type t) p s) f

abbrev OneAt : View → Ty → Type 0
OneAt w t = One w (read_at (seen_by w) (shape_of_type t)) (Shows w t) (met_at w t) (StopsAt w t)

pub one_at : AllLaws → (w : View) (t : Ty) → StopsInMemory w t → FailsInMemory w t → OneAt w t
one_at laws w t stops fails = record { tells = tells_at laws w t; finds = finds_at laws w t; stops = stops; fails = fails }

row_stops : (w : View) (t : Ty) → OneAt w t → (n p : ℕ) (s : State) (ms : List Met) (f : AbiFault) → Ready w s ms → Fails w.table (read_each (read_at (seen_by w) (shape_of_type t)) (size_of t) n p s) f
    → EachStops (StopsAt w t) (IsLiftedAt w t) (met_at w t) (size_of t) n p ms f
row_stops w t one n p s ms f ready fails =
    each_stops w (read_each (read_at (seen_by w) (shape_of_type t)) (size_of t)) (read_at (seen_by w) (shape_of_type t)) (size_of t) (Shows w t) (met_at w t) (StopsAt w t) (IsLiftedAt w t) (row_at w t) one
    (lifted_at w t) n p s ms f ready fails

row_fails : (w : View) (t : Ty) → OneAt w t → (n p : ℕ) (s : State) (ms : List Met) (f : AbiFault) → Ready w s ms → EachStops (StopsAt w t) (IsLiftedAt w t) (met_at w t) (size_of t) n p ms f
    → Fails w.table (read_each (read_at (seen_by w) (shape_of_type t)) (size_of t) n p s) f
row_fails w t one n p s ms f ready stops =
    each_fails w (read_each (read_at (seen_by w) (shape_of_type t)) (size_of t)) (read_at (seen_by w) (shape_of_type t)) (size_of t) (Shows w t) (met_at w t) (StopsAt w t) (IsLiftedAt w t) (row_at w t) one
    (lifted_at w t) n p s ms f ready stops

pub list_stops : (w : View) (t : Ty) → OneAt w t → (at n : ℕ) (s : State) (ms : List Met) (f : AbiFault) → Ready w s ms → Fails w.table (read_elements (read_at (seen_by w) (shape_of_type t)) w.memory (head_of t) at n s) f
    → ListStops w (StopsAt w t) (IsLiftedAt w t) (met_at w t) (align_of t) (size_of t) at n ms f
list_stops w t one at n s ms f ready fails =
    elements_stop w (read_at (seen_by w) (shape_of_type t)) (head_of t) at n s ms f (λ ns. EachStops (StopsAt w t) (IsLiftedAt w t) (met_at w t) (size_of t) n at ns f) ready
    (λ q u. extends_at (seen_by w) (shape_of_type t) q u) (λ u ns on h. row_stops w t one n at u ns f on h) fails

pub list_fails : (w : View) (t : Ty) → OneAt w t → (at n : ℕ) (s : State) (ms : List Met) (f : AbiFault) → Ready w s ms → ListStops w (StopsAt w t) (IsLiftedAt w t) (met_at w t) (align_of t) (size_of t) at n ms f
    → Fails w.table (read_elements (read_at (seen_by w) (shape_of_type t)) w.memory (head_of t) at n s) f
list_fails w t one at n s ms f ready stops =
    elements_fail w (read_at (seen_by w) (shape_of_type t)) (head_of t) at n s ms f (λ ns. EachStops (StopsAt w t) (IsLiftedAt w t) (met_at w t) (size_of t) n at ns f) ready
    (λ q u. extends_at (seen_by w) (shape_of_type t) q u) (λ u ns on h. row_fails w t one n at u ns f on h) stops

mutual
  pub at_stops : AllLaws → (w : View) (t : Ty) (p : ℕ) (s : State) (ms : List Met) (f : AbiFault) → Ready w s ms → Fails w.table (read_at (seen_by w) (shape_of_type t) p s) f → StopsAt w t p ms f
  at_stops laws w bool p s ms f ready fails = at_once w s ms (leaf_value leaf.Bool (number_at 1 w.memory p) s) f ready refl fails
  at_stops laws w (signed k) p s ms f ready fails = at_once w s ms (read_at (seen_by w) (shape_of_type (signed k)) p s) f ready refl fails
  at_stops laws w (unsigned k) p s ms f ready fails = at_once w s ms (read_at (seen_by w) (shape_of_type (unsigned k)) p s) f ready refl fails
  at_stops laws w char p s ms f ready fails = char_stops w (number_at 4 w.memory p) s ms f ready fails
  at_stops laws w string p s ms f ready fails = text_stops laws.flat.text_read w (number_at 4 w.memory p) (number_at 4 w.memory (p + 4)) s ms f ready fails
  at_stops laws w (list t) p s ms f ready fails =
      list_stops w t (one_at laws w t (λ q u ns g on h. at_stops laws w t q u ns g on h) (λ q u ns g on h. at_fails laws w t q u ns g on h)) (number_at 4 w.memory p) (number_at 4 w.memory (p + 4)) s ms f ready
      (unmapped_fails elements w.table (read_elements (read_at (seen_by w) (shape_of_type t)) w.memory (head_of t) (number_at 4 w.memory p) (number_at 4 w.memory (p + 4)) s) f fails)
  at_stops laws w (fixed_list t n) p s ms f ready fails =
      row_stops w t (one_at laws w t (λ q u ns g on h. at_stops laws w t q u ns g on h) (λ q u ns g on h. at_fails laws w t q u ns g on h)) n p s ms f ready (unmapped_fails parts w.table (read_each (read_at (seen_by w) (shape_of_type t)) (size_of t) n p s) f fails)
  at_stops laws w (fields k fs) p s ms f ready fails =
      fields_stop laws w fs p 0 s ms f ready (unmapped_fails parts w.table (read_parts (seen_by w) (parts_from (parts_at fs 0)) p s) f fails)
  at_stops laws w (cases k cs) p s ms f ready fails =
      let i = number_at (discriminant_size (case_count cs)) w.memory p in
      case_stops laws w cs i i (p + payload_offset cs) s ms f ready fails
  at_stops laws w (flags ls) p s ms f ready fails = at_once w s ms (read_at (seen_by w) (shape_of_type (flags ls)) p s) f ready refl fails
  at_stops laws w (own r) p s ms f ready fails = own_stops laws.flat w r (number_at 4 w.memory p) s ms f ready fails
  at_stops laws w (borrow r) p s ms f ready fails = borrow_stops laws.flat w r (number_at 4 w.memory p) s ms f ready fails

  fields_stop : AllLaws → (w : View) (fs : Fields) (p end : ℕ) (s : State) (ms : List Met) (f : AbiFault) → Ready w s ms → Fails w.table (read_parts (seen_by w) (parts_from (parts_at fs end)) p s) f → FieldsStop w fs p end ms f
  fields_stop laws w no_fields p end s ms f ready fails = at_once w s ms (read_ok no_vals s) f ready refl fails
  fields_stop laws w (field l t fs) p end s ms f ready fails =
      let at = p + align_to (align_of t) end in
      let next = align_to (align_of t) end + size_of t in
      elim (stops_then w s ms (read_at (seen_by w) (shape_of_type t) at s) (λ r. mapped (λ us. val r.0 us) (read_parts (seen_by w) (parts_from (parts_at fs next)) p r.1)) (Shows w t at) (met_at w t at)
      (StopsAt w t at ms f) (λ v ns. FieldsStop w fs p next ns f) f ready
      (λ x. extends_mapped (λ us. val x.0 us) x.1 (read_parts (seen_by w) (parts_from (parts_at fs next)) p x.1) (extends_parts (seen_by w) (parts_from (parts_at fs next)) p x.1))
      (tells_at laws w t at s) (λ h. at_stops laws w t at s ms f ready h)
      (λ v u on h. fields_stop laws w fs p next u (ms ++ met_at w t at v) f on (unmapped_fails (λ us. val v us) w.table (read_parts (seen_by w) (parts_from (parts_at fs next)) p u) f h))
      fails) [
        | inl x ↦ inl x
        | inr x ↦ inr (x.0, record { shown = x.1; goes = x.2 }, x.3)
      ]

  fields_fail : AllLaws → (w : View) (fs : Fields) (p end : ℕ) (s : State) (ms : List Met) (f : AbiFault) → Ready w s ms → FieldsStop w fs p end ms f → Fails w.table (read_parts (seen_by w) (parts_from (parts_at fs end)) p s) f
  fields_fail laws w no_fields p end s ms f ready stops = absurd stops
  fields_fail laws w (field l t fs) p end s ms f ready stops =
      let at = p + align_to (align_of t) end in
      let next = align_to (align_of t) end + size_of t in
      fails_then w s ms (read_at (seen_by w) (shape_of_type t) at s) (λ r. mapped (λ us. val r.0 us) (read_parts (seen_by w) (parts_from (parts_at fs next)) p r.1)) (Shows w t at) (met_at w t at)
      (StopsAt w t at ms f) (λ v ns. FieldsStop w fs p next ns f) f ready
      (λ x. extends_mapped (λ us. val x.0 us) x.1 (read_parts (seen_by w) (parts_from (parts_at fs next)) p x.1) (extends_parts (seen_by w) (parts_from (parts_at fs next)) p x.1))
      (tells_at laws w t at s) (finds_at laws w t at s) (λ h. at_fails laws w t at s ms f ready h)
      (λ v u on h. mapped_fails (λ us. val v us) w.table (read_parts (seen_by w) (parts_from (parts_at fs next)) p u) f (fields_fail laws w fs p next u (ms ++ met_at w t at v) f on h))
      (elim stops [
        | inl x ↦ inl x
        | inr x ↦ inr (x.0, x.1.shown, x.1.goes, x.2)
      ])

  case_stops : AllLaws → (w : View) (cs : Cases) (i n p : ℕ) (s : State) (ms : List Met) (f : AbiFault) → Ready w s ms → Fails w.table (read_case (seen_by w) (payloads_from (payloads_of cs)) i n p s) f → CaseStops w cs n p ms f
  case_stops laws w no_cases i n p s ms f ready fails = sym (at_once {A = Val} w s ms (read_err fault.BadCase s) f ready refl fails)
  case_stops laws w (plain l cs) i zero p s ms f ready fails = at_once {A = Val} w s ms (read_ok (bare i) s) f ready refl fails
  case_stops laws w (plain l cs) i (suc n) p s ms f ready fails = case_stops laws w cs i n p s ms f ready fails
  case_stops laws w (carrying l t cs) i zero p s ms f ready fails = at_stops laws w t p s ms f ready (unmapped_fails (λ v. bearing i v) w.table (read_at (seen_by w) (shape_of_type t) p s) f fails)
  case_stops laws w (carrying l t cs) i (suc n) p s ms f ready fails = case_stops laws w cs i n p s ms f ready fails

  case_fails : AllLaws → (w : View) (cs : Cases) (i n p : ℕ) (s : State) (ms : List Met) (f : AbiFault) → Ready w s ms → CaseStops w cs n p ms f → Fails w.table (read_case (seen_by w) (payloads_from (payloads_of cs)) i n p s) f
  case_fails laws w no_cases i n p s ms f ready stops = at_once_fails {A = Val} w s ms (read_err fault.BadCase s) f ready refl (sym stops)
  case_fails laws w (plain l cs) i zero p s ms f ready stops = absurd stops
  case_fails laws w (plain l cs) i (suc n) p s ms f ready stops = case_fails laws w cs i n p s ms f ready stops
  case_fails laws w (carrying l t cs) i zero p s ms f ready stops = mapped_fails (λ v. bearing i v) w.table (read_at (seen_by w) (shape_of_type t) p s) f (at_fails laws w t p s ms f ready stops)
  case_fails laws w (carrying l t cs) i (suc n) p s ms f ready stops = case_fails laws w cs i n p s ms f ready stops

  pub at_fails : AllLaws → (w : View) (t : Ty) (p : ℕ) (s : State) (ms : List Met) (f : AbiFault) → Ready w s ms → StopsAt w t p ms f → Fails w.table (read_at (seen_by w) (shape_of_type t) p s) f
  at_fails laws w bool p s ms f ready stops = absurd stops
  at_fails laws w (signed k) p s ms f ready stops = absurd stops
  at_fails laws w (unsigned k) p s ms f ready stops = absurd stops
  at_fails laws w char p s ms f ready stops = char_fails w (number_at 4 w.memory p) s ms f ready stops
  at_fails laws w string p s ms f ready stops = text_fails laws.flat.text_shown w (number_at 4 w.memory p) (number_at 4 w.memory (p + 4)) s ms f ready stops
  at_fails laws w (list t) p s ms f ready stops =
      mapped_fails elements w.table (read_elements (read_at (seen_by w) (shape_of_type t)) w.memory (head_of t) (number_at 4 w.memory p) (number_at 4 w.memory (p + 4)) s) f
      (list_fails w t (one_at laws w t (λ q u ns g on h. at_stops laws w t q u ns g on h) (λ q u ns g on h. at_fails laws w t q u ns g on h)) (number_at 4 w.memory p) (number_at 4 w.memory (p + 4)) s ms f ready stops)
  at_fails laws w (fixed_list t n) p s ms f ready stops = mapped_fails parts w.table (read_each (read_at (seen_by w) (shape_of_type t)) (size_of t) n p s) f (row_fails w t (one_at laws w t (λ q u ns g on h. at_stops laws w t q u ns g on h) (λ q u ns g on h. at_fails laws w t q u ns g on h)) n p s ms f ready stops)
  at_fails laws w (fields k fs) p s ms f ready stops = mapped_fails parts w.table (read_parts (seen_by w) (parts_from (parts_at fs 0)) p s) f (fields_fail laws w fs p 0 s ms f ready stops)
  at_fails laws w (cases k cs) p s ms f ready stops =
      let i = number_at (discriminant_size (case_count cs)) w.memory p in
      case_fails laws w cs i i (p + payload_offset cs) s ms f ready stops
  at_fails laws w (flags ls) p s ms f ready stops = absurd stops
  at_fails laws w (own r) p s ms f ready stops = own_fails w r (number_at 4 w.memory p) s ms f ready stops
  at_fails laws w (borrow r) p s ms f ready stops = borrow_fails w r (number_at 4 w.memory p) s ms f ready stops
