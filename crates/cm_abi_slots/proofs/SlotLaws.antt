-- A call of numbers is lifting and lowering of its slots.
use Rattle.std.proofs.Common.{◌≡◌, ℕ, zero, suc, ◌+◌, ◌%◌, ◌^◌, ◌⊎◌, inl, inr, ◌==◌, not, List, [], ◌∷◌, ◌++◌, length, length-append, refl, sym, ap, subst, ◌∙◌, arith}
use Rattle.std.proofs.lemmas.Bool.{and_parts}
use Rattle.std.specs.Prelude.{true, ⊤, slice_index_or}
use Rattle.cm_types.specs.declared.core_value.CoreKind.{CoreKind}
use Rattle.cm_types.specs.declared.core_value.CoreValue.{CoreValue}
use Rattle.cm_types.specs.declared.core_value.CoreValue.TheVariants as core_value
use Rattle.cm_types.specs.CoreValues.{kind_of}
use Rattle.cm_types.specs.Types.{Ty, Fields, FieldsKind, width_bytes, bool, signed, unsigned, char, string, list, fixed_list, fields, cases, flags, own, borrow, no_fields, field}
use Rattle.cm_types.specs.Values.{Val, Vals, no_vals, val, truth, signed_number, number, scalar, text, elements, parts, bare, bearing, flag_set, handle, count_of, AllVals, HasType, HaveTypes, IsScalarValue}
use Rattle.cm_layout.specs.Alignment.{align_to}
use Rattle.cm_layout.specs.Flattening.{copies, flat_of, flat_of_fields}
use Rattle.cm_layout.specs.Shapes.{parts_at, parts_from, shape_of_type}
use Rattle.cm_layout.specs.Sizes.{align_of, flags_size, size_of}
use Rattle.cm_abi_model.specs.FlatShows.{FlatShowFields, FlatShows, width_of}
use Rattle.cm_abi_model.specs.LiftStops.{EachStops, FlatFieldsStop, FlatStopsAt, GoesOnWith, IsLiftedFlat}
use Rattle.cm_abi_model.specs.Numbers.{as_signed, slot_number, wrapped_at}
use Rattle.cm_abi_model.specs.Parts.{Part, handle_count, part_count, parts_each, parts_in, parts_in_fields}
use Rattle.cm_abi_model.specs.Receives.{HandleLeaf, behind, behind_each, behind_fields, leaves_each, leaves_in, leaves_in_fields, slots_of, slots_of_fields}
use Rattle.cm_abi_model.specs.Shows.{ShowEach}
use Rattle.cm_abi_model.specs.Stores.{Given, Placed, store_each}
use Rattle.cm_abi_model.specs.Taken.{Met, met_each, met_flat, met_flat_fields}
use Rattle.cm_abi_model.specs.Views.{View}
use Rattle.cm_abi_model.specs.declared.fault.AbiFault.TheVariants as fault
use Rattle.cm_abi_slots.specs.declared.steps.SlotStep.{SlotStep}
use Rattle.cm_abi_slots.specs.Passing.{FitsKind, IsFine, passed_by}
use Rattle.cm_abi_slots.specs.Steps.{are_plain, is_plain, repeated, steps_of, steps_of_parts}
use Rattle.cm_abi_slots.proofs.LeafLaws.{char_fine, char_passed, fine_char, flags_below, flags_fine, flags_passed, signed_fine, signed_fits, signed_passed, truth_passed, unsigned_fine, unsigned_fits, unsigned_passed}
use Rattle.cm_lemmas.proofs.Bools.{false_not_true}

abbrev pub core_at : List CoreValue → ℕ → CoreValue
core_at slots s = slice_index_or slots s (core_value.I32 0)

-- a core value is of a kind, and is not at fault by its step, or is
pub record FineAt (p : SlotStep) (k : CoreKind) (c : CoreValue) : Type 0 where
  pub kind : kind_of c ≡ k
  pub fits : FitsKind c
  pub fine : IsFine p c

pub record FaultAt (p : SlotStep) (k : CoreKind) (c : CoreValue) : Type 0 where
  pub fits : FitsKind c
  pub fault : IsFine p c → ⊥

-- the core values from a place on are of these kinds, and none is at fault by these steps
abbrev pub Fine : List SlotStep → List CoreKind → List CoreValue → ℕ → Type 0
Fine [] ks slots s = ⊤
Fine (p ∷ ps) [] slots s = ⊥
Fine (p ∷ ps) (k ∷ ks) slots s = FineAt p k (core_at slots s) × Fine ps ks slots (s + 1)

-- one of them is at fault, and none before it
abbrev pub Faulty : List SlotStep → List CoreKind → List CoreValue → ℕ → Type 0
Faulty [] ks slots s = ⊥
Faulty (p ∷ ps) [] slots s = ⊥
Faulty (p ∷ ps) (k ∷ ks) slots s = FaultAt p k (core_at slots s) ⊎ (FineAt p k (core_at slots s) × Faulty ps ks slots (s + 1))

-- the numbers that are passed on
abbrev pub puts_by : List SlotStep → List CoreValue → ℕ → List Placed
puts_by [] slots s = []
puts_by (p ∷ ps) slots s = (s, slot_number (passed_by p (core_at slots s))) ∷ puts_by ps slots (s + 1)

fine_both : (ps qs : List SlotStep) (js ks : List CoreKind) (slots : List CoreValue) (s m : ℕ) → length ps ≡ length js → m ≡ s + length js
    → Fine (ps ++ qs) (js ++ ks) slots s → Fine ps js slots s × Fine qs ks slots m
fine_both [] qs [] ks slots s m same at f = let here : m ≡ s = omega (arith, at) in (tt, rw here f)
fine_both [] qs (j ∷ js) ks slots s m same at f = absurd (omega (arith, same))
fine_both (p ∷ ps) qs [] ks slots s m same at f = absurd (omega (arith, same))
fine_both (p ∷ ps) qs (j ∷ js) ks slots s m same at f =
    let r = fine_both ps qs js ks slots (s + 1) m (omega (arith, same)) (omega (arith, at)) f.1 in ((f.0, r.0), r.1)

faulty_both : (ps qs : List SlotStep) (js ks : List CoreKind) (slots : List CoreValue) (s m : ℕ) → length ps ≡ length js → m ≡ s + length js
    → Faulty (ps ++ qs) (js ++ ks) slots s → Faulty ps js slots s ⊎ (Fine ps js slots s × Faulty qs ks slots m)
faulty_both [] qs [] ks slots s m same at f = let here : m ≡ s = omega (arith, at) in inr (tt, rw here f)
faulty_both [] qs (j ∷ js) ks slots s m same at f = absurd (omega (arith, same))
faulty_both (p ∷ ps) qs [] ks slots s m same at f = absurd (omega (arith, same))
faulty_both (p ∷ ps) qs (j ∷ js) ks slots s m same at (inl here) = inl (inl here)
faulty_both (p ∷ ps) qs (j ∷ js) ks slots s m same at (inr later) =
    elim (faulty_both ps qs js ks slots (s + 1) m (omega (arith, same)) (omega (arith, at)) later.1) [
      | inl first ↦ inl (inr (later.0, first))
      | inr rest ↦ inr ((later.0, rest.0), rest.1)
    ]

puts_both : (ps qs : List SlotStep) (slots : List CoreValue) (s m : ℕ) → m ≡ s + length ps → puts_by (ps ++ qs) slots s ≡ puts_by ps slots s ++ puts_by qs slots m
puts_both [] qs slots s m at = let here : m ≡ s = omega (arith, at) in rw here refl
puts_both (p ∷ ps) qs slots s m at = ap (λ xs. (s, slot_number (passed_by p (core_at slots s))) ∷ xs) (puts_both ps qs slots (s + 1) m (omega (arith, at)))

one_faulty : (p : SlotStep) (k : CoreKind) (slots : List CoreValue) (s : ℕ) → Faulty (p ∷ []) (k ∷ []) slots s → FaultAt p k (core_at slots s)
one_faulty p k slots s (inl here) = here
one_faulty p k slots s (inr later) = absurd later.1

-- ---- how many core values there are

wide_each : (n : ℕ) (ps : List SlotStep) (ks : List CoreKind) → length ps ≡ length ks → length (repeated n ps) ≡ length (copies n ks)
wide_each zero ps ks same = refl
wide_each (suc n) ps ks same = omega (arith, length-append ps (repeated n ps), length-append ks (copies n ks), same, wide_each n ps ks same)

mutual
  pub wide : (t : Ty) → is_plain (shape_of_type t) ≡ true → length (steps_of (shape_of_type t)) ≡ width_of t
  wide bool h = refl
  wide (signed w) h = refl
  wide (unsigned w) h = refl
  wide char h = refl
  wide string h = absurd (false_not_true h)
  wide (list t) h = absurd (false_not_true h)
  wide (fixed_list t n) h = wide_each n (steps_of (shape_of_type t)) (flat_of t) (wide t h)
  wide (fields c fs) h = wide_fields fs 0 h
  wide (cases c cs) h = absurd (false_not_true h)
  wide (flags ls) h = refl
  wide (own r) h = absurd (false_not_true h)
  wide (borrow r) h = absurd (false_not_true h)

  pub wide_fields : (fs : Fields) (at : ℕ) → are_plain (parts_from (parts_at fs at)) ≡ true
      → length (steps_of_parts (parts_from (parts_at fs at))) ≡ length (flat_of_fields fs)
  wide_fields no_fields at h = refl
  wide_fields (field l t fs) at h =
      let both = and_parts _ _ h in
      let next = align_to (align_of t) at + size_of t in
      let one = wide t both.0 in
      let rest = wide_fields fs next both.1 in
      omega (arith, length-append (steps_of (shape_of_type t)) (steps_of_parts (parts_from (parts_at fs next))), length-append (flat_of t) (flat_of_fields fs), one, rest)

-- ---- what core values show

-- A value or values are of a type and shown, with nothing met, no part, no handle and nothing
-- behind, and pass in these numbers.
pub record Read (typed : Type 0) (shown : View → Type 0) (unmet : View → List Met) (ps : List Part) (ls : List HandleLeaf)
    (bs ns : Given → ℕ → ℕ → List Placed) (puts : List Placed) : Type 0 where
  pub typed_is : typed
  pub shown_is : (w : View) → shown w
  pub nothing_met : (w : View) → unmet w ≡ []
  pub no_part : ps ≡ []
  pub no_leaf : ls ≡ []
  pub nothing_behind : (g : Given) (k h : ℕ) → bs g k h ≡ []
  pub numbers : (g : Given) (k h : ℕ) → ns g k h ≡ puts

abbrev pub IsRead : List CoreValue → Ty → ℕ → Val → Type 0
IsRead slots t s v =
    Read (HasType t v) (λ w. FlatShows w slots t s v) (λ w. met_flat w slots t s v) (parts_in t v) (leaves_in t v)
    (λ g k h. behind g t v k h) (λ g k h. slots_of g t v s k h) (puts_by (steps_of (shape_of_type t)) slots s)

abbrev AreRead : List CoreValue → Fields → ℕ → ℕ → Vals → Type 0
AreRead slots fs at s vs =
    Read (HaveTypes fs vs) (λ w. FlatShowFields w slots fs s vs) (λ w. met_flat_fields w slots fs s vs) (parts_in_fields fs vs) (leaves_in_fields fs vs)
    (λ g k h. behind_fields g fs vs k h) (λ g k h. slots_of_fields g fs vs s k h) (puts_by (steps_of_parts (parts_from (parts_at fs at))) slots s)

abbrev EachRead : List CoreValue → Ty → ℕ → ℕ → Vals → Type 0
EachRead slots t n s vs =
    Read ((count_of vs ≡ n) × AllVals (HasType t) vs) (λ w. (count_of vs ≡ n) × ShowEach (FlatShows w slots t) (width_of t) s vs)
    (λ w. met_each (met_flat w slots t) (width_of t) s vs) (parts_each (parts_in t) vs) (leaves_each (leaves_in t) vs)
    (λ g k h. behind_each (behind g t) vs k h) (λ g k h. store_each (slots_of g t) (width_of t) vs s k h) (puts_by (repeated n (steps_of (shape_of_type t))) slots s)

none_both : {A : Type 0} (xs ys : List A) → xs ≡ [] → ys ≡ [] → xs ++ ys ≡ []
none_both xs ys x y = ap (λ zs. zs ++ ys) x ∙ y

same_both : {A : Type 0} (xs xs' ys ys' zs : List A) → xs ≡ xs' → ys ≡ ys' → zs ≡ xs' ++ ys' → xs ++ ys ≡ zs
same_both xs xs' ys ys' zs x y z = ap (λ us. us ++ ys) x ∙ ap (λ us. xs' ++ us) y ∙ sym z

each_read : (slots : List CoreValue) (t : Ty) (n : ℕ) → length (steps_of (shape_of_type t)) ≡ width_of t
    → ((s : ℕ) → Fine (steps_of (shape_of_type t)) (flat_of t) slots s → (v : Val) × IsRead slots t s v)
    → (s : ℕ) → Fine (repeated n (steps_of (shape_of_type t))) (copies n (flat_of t)) slots s → (vs : Vals) × EachRead slots t n s vs
each_read slots t zero same one s f = (
  no_vals,
  record {
    typed_is = (refl, tt);
    shown_is = λ w. (refl, tt);
    nothing_met = λ w. refl;
    no_part = refl;
    no_leaf = refl;
    nothing_behind = λ g k h. refl;
    numbers = λ g k h. refl;
  },
)
each_read slots t (suc n) same one s f =
    let xs = steps_of (shape_of_type t) in
    let next = s + width_of t in
    let cut = fine_both xs (repeated n xs) (flat_of t) (copies n (flat_of t)) slots s next same refl f in
    let head = one s cut.0 in
    let tail = each_read slots t n same one next cut.1 in
    let v = head.0 in
    let vs = tail.0 in
    let at : next ≡ s + length xs = omega (arith, same) in (
      val v vs,
      record {
        typed_is = (omega (arith, tail.1.typed_is.0), (head.1.typed_is, tail.1.typed_is.1));
        shown_is = λ w. (omega (arith, (tail.1.shown_is w).0), (head.1.shown_is w, (tail.1.shown_is w).1));
        nothing_met = λ w. none_both _ _ (head.1.nothing_met w) (tail.1.nothing_met w);
        no_part = none_both _ _ head.1.no_part tail.1.no_part;
        no_leaf = none_both _ _ head.1.no_leaf tail.1.no_leaf;
        nothing_behind = λ g k h. none_both _ _ (head.1.nothing_behind g k h) (tail.1.nothing_behind g (k + part_count v) (h + handle_count v));
        numbers = λ g k h. same_both _ _ _ _ _ (head.1.numbers g k h) (tail.1.numbers g (k + part_count v) (h + handle_count v)) (puts_both xs (repeated n xs) slots s next at);
      },
    )

module _ (slots : List CoreValue) where
  mutual
    -- core values that are not at fault show a value
    pub value_read : (t : Ty) (s : ℕ) → is_plain (shape_of_type t) ≡ true → Fine (steps_of (shape_of_type t)) (flat_of t) slots s
        → (v : Val) × IsRead slots t s v
    value_read bool s h f = (
      truth (not (wrapped_at 4 slots s == 0)),
      record {
        typed_is = tt;
        shown_is = λ w. refl;
        nothing_met = λ w. refl;
        no_part = refl;
        no_leaf = refl;
        nothing_behind = λ g k h. refl;
        numbers = λ g k h. ap (λ n. (s, n) ∷ []) (truth_passed (core_at slots s) f.0.kind f.0.fits);
      },
    )
    value_read (signed b) s h f = (
      signed_number (as_signed (width_bytes b) (wrapped_at (width_bytes b) slots s)),
      record {
        typed_is = signed_fits b (slot_number (core_at slots s));
        shown_is = λ w. refl;
        nothing_met = λ w. refl;
        no_part = refl;
        no_leaf = refl;
        nothing_behind = λ g k h. refl;
        numbers = λ g k h. ap (λ n. (s, n) ∷ []) (signed_passed b (core_at slots s) f.0.kind f.0.fits);
      },
    )
    value_read (unsigned b) s h f = (
      number (wrapped_at (width_bytes b) slots s),
      record {
        typed_is = unsigned_fits b (slot_number (core_at slots s));
        shown_is = λ w. refl;
        nothing_met = λ w. refl;
        no_part = refl;
        no_leaf = refl;
        nothing_behind = λ g k h. refl;
        numbers = λ g k h. ap (λ n. (s, n) ∷ []) (unsigned_passed b (core_at slots s) f.0.kind f.0.fits);
      },
    )
    value_read char s h f =
        let is = char_fine (core_at slots s) f.0.kind f.0.fits f.0.fine in (
          scalar (wrapped_at 4 slots s),
          record {
            typed_is = is;
            shown_is = λ w. (refl, is);
            nothing_met = λ w. refl;
            no_part = refl;
            no_leaf = refl;
            nothing_behind = λ g k h. refl;
            numbers = λ g k h. ap (λ n. (s, n) ∷ []) (char_passed (core_at slots s) f.0.kind f.0.fits);
          },
        )
    value_read (flags ls) s h f = (
      flag_set (wrapped_at 4 slots s % 2 ^ length ls),
      record {
        typed_is = flags_below (length ls) (wrapped_at 4 slots s);
        shown_is = λ w. refl;
        nothing_met = λ w. refl;
        no_part = refl;
        no_leaf = refl;
        nothing_behind = λ g k h. refl;
        numbers = λ g k h. ap (λ n. (s, n) ∷ []) (flags_passed (length ls) (flags_size (length ls)) (core_at slots s) f.0.kind f.0.fits);
      },
    )
    value_read (fixed_list t n) s h f =
        let row = each_read slots t n (wide t h) (λ s f. value_read t s h f) s f in
        (parts row.0, row.1)
    value_read (fields c fs) s h f =
        let row = fields_read fs 0 s h f in
        (parts row.0, row.1)
    value_read string s h f = absurd (false_not_true h)
    value_read (list t) s h f = absurd (false_not_true h)
    value_read (cases c cs) s h f = absurd (false_not_true h)
    value_read (own r) s h f = absurd (false_not_true h)
    value_read (borrow r) s h f = absurd (false_not_true h)

    pub fields_read : (fs : Fields) (at s : ℕ) → are_plain (parts_from (parts_at fs at)) ≡ true
        → Fine (steps_of_parts (parts_from (parts_at fs at))) (flat_of_fields fs) slots s → (vs : Vals) × AreRead slots fs at s vs
    fields_read no_fields at s h f = (
      no_vals,
      record {
        typed_is = tt;
        shown_is = λ w. tt;
        nothing_met = λ w. refl;
        no_part = refl;
        no_leaf = refl;
        nothing_behind = λ g k h. refl;
        numbers = λ g k h. refl;
      },
    )
    fields_read (field l t fs) at s h f =
        let both = and_parts _ _ h in
        let behind_it = align_to (align_of t) at + size_of t in
        let xs = steps_of (shape_of_type t) in
        let ys = steps_of_parts (parts_from (parts_at fs behind_it)) in
        let next = s + width_of t in
        let same = wide t both.0 in
        let cut = fine_both xs ys (flat_of t) (flat_of_fields fs) slots s next same refl f in
        let head = value_read t s both.0 cut.0 in
        let tail = fields_read fs behind_it next both.1 cut.1 in
        let v = head.0 in
        let at_next : next ≡ s + length xs = omega (arith, same) in (
          val v tail.0,
          record {
            typed_is = (head.1.typed_is, tail.1.typed_is);
            shown_is = λ w. (head.1.shown_is w, tail.1.shown_is w);
            nothing_met = λ w. none_both _ _ (head.1.nothing_met w) (tail.1.nothing_met w);
            no_part = none_both _ _ head.1.no_part tail.1.no_part;
            no_leaf = none_both _ _ head.1.no_leaf tail.1.no_leaf;
            nothing_behind = λ g k h. none_both _ _ (head.1.nothing_behind g k h) (tail.1.nothing_behind g (k + part_count v) (h + handle_count v));
            numbers = λ g k h. same_both _ _ _ _ _ (head.1.numbers g k h) (tail.1.numbers g (k + part_count v) (h + handle_count v)) (puts_both xs ys slots s next at_next);
          },
        )

-- ---- what stops, and what is shown

module _ (w : View) (slots : List CoreValue) where
  lifted : (t : Ty) (s : ℕ) (ms : List Met) (v : Val) → IsRead slots t s v → IsLiftedFlat w slots t s ms v
  lifted t s ms v r = record { shown = r.shown_is w; goes = subst (GoesOnWith w ms) (sym (r.nothing_met w)) tt }

  each_stops : (t : Ty) (n : ℕ) → length (steps_of (shape_of_type t)) ≡ width_of t
      → ((s : ℕ) → Fine (steps_of (shape_of_type t)) (flat_of t) slots s → (v : Val) × IsRead slots t s v)
      → ((s : ℕ) (ms : List Met) → Faulty (steps_of (shape_of_type t)) (flat_of t) slots s → FlatStopsAt w slots t s ms fault.BadChar)
      → (s : ℕ) (ms : List Met) → Faulty (repeated n (steps_of (shape_of_type t))) (copies n (flat_of t)) slots s
      → EachStops (FlatStopsAt w slots t) (IsLiftedFlat w slots t) (met_flat w slots t) (width_of t) n s ms fault.BadChar
  each_stops t zero same one stop s ms f = absurd f
  each_stops t (suc n) same one stop s ms f =
      let xs = steps_of (shape_of_type t) in
      let next = s + width_of t in
      elim (faulty_both xs (repeated n xs) (flat_of t) (copies n (flat_of t)) slots s next same refl f) [
        | inl first ↦ inl (stop s ms first)
        | inr rest ↦
            let v = one s rest.0 in
            inr (v.0, lifted t s ms v.0 v.1, each_stops t n same one stop next (ms ++ met_flat w slots t s v.0) rest.1)
      ]

  mutual
    -- where a core value is at fault lifting stops
    pub value_stops : (t : Ty) (s : ℕ) (ms : List Met) → is_plain (shape_of_type t) ≡ true → Faulty (steps_of (shape_of_type t)) (flat_of t) slots s
        → FlatStopsAt w slots t s ms fault.BadChar
    value_stops bool s ms h f = absurd ((one_faulty _ _ slots s f).fault tt)
    value_stops (signed b) s ms h f = absurd ((one_faulty _ _ slots s f).fault (signed_fine b (core_at slots s)))
    value_stops (unsigned b) s ms h f = absurd ((one_faulty _ _ slots s f).fault (unsigned_fine b (core_at slots s)))
    value_stops char s ms h f = let x = one_faulty _ _ slots s f in (refl, λ is. x.fault (fine_char (core_at slots s) x.fits is))
    value_stops (flags ls) s ms h f = absurd ((one_faulty _ _ slots s f).fault (flags_fine (length ls) (flags_size (length ls)) (core_at slots s)))
    value_stops (fixed_list t n) s ms h f = each_stops t n (wide t h) (λ s f. value_read slots t s h f) (λ s ms f. value_stops t s ms h f) s ms f
    value_stops (fields c fs) s ms h f = fields_stop fs 0 s ms h f
    value_stops string s ms h f = absurd (false_not_true h)
    value_stops (list t) s ms h f = absurd (false_not_true h)
    value_stops (cases c cs) s ms h f = absurd (false_not_true h)
    value_stops (own r) s ms h f = absurd (false_not_true h)
    value_stops (borrow r) s ms h f = absurd (false_not_true h)

    fields_stop : (fs : Fields) (at s : ℕ) (ms : List Met) → are_plain (parts_from (parts_at fs at)) ≡ true
        → Faulty (steps_of_parts (parts_from (parts_at fs at))) (flat_of_fields fs) slots s → FlatFieldsStop w slots fs s ms fault.BadChar
    fields_stop no_fields at s ms h f = absurd f
    fields_stop (field l t fs) at s ms h f =
        let both = and_parts _ _ h in
        let behind_it = align_to (align_of t) at + size_of t in
        let xs = steps_of (shape_of_type t) in
        let ys = steps_of_parts (parts_from (parts_at fs behind_it)) in
        let next = s + width_of t in
        elim (faulty_both xs ys (flat_of t) (flat_of_fields fs) slots s next (wide t both.0) refl f) [
          | inl first ↦ inl (value_stops t s ms both.0 first)
          | inr rest ↦
              let v = value_read slots t s both.0 rest.0 in
              inr (v.0, lifted t s ms v.0 v.1, fields_stop fs behind_it next (ms ++ met_flat w slots t s v.0) both.1 rest.1)
        ]

  scalar_shown : (s : ℕ) (v : Val) → FlatShows w slots char s v → IsScalarValue (wrapped_at 4 slots s)
  scalar_shown s (truth b) shown = absurd shown
  scalar_shown s (signed_number z) shown = absurd shown
  scalar_shown s (number n) shown = absurd shown
  scalar_shown s (scalar c) shown = subst IsScalarValue shown.0 shown.1
  scalar_shown s (text cs) shown = absurd shown
  scalar_shown s (elements vs) shown = absurd shown
  scalar_shown s (parts vs) shown = absurd shown
  scalar_shown s (bare i) shown = absurd shown
  scalar_shown s (bearing i v) shown = absurd shown
  scalar_shown s (flag_set n) shown = absurd shown
  scalar_shown s (handle e) shown = absurd shown

  each_shown : (t : Ty) (n s : ℕ) (v : Val) → FlatShows w slots (fixed_list t n) s v
      → (vs : Vals) × (count_of vs ≡ n) × ShowEach (FlatShows w slots t) (width_of t) s vs
  each_shown t n s (truth b) shown = absurd shown
  each_shown t n s (signed_number z) shown = absurd shown
  each_shown t n s (number m) shown = absurd shown
  each_shown t n s (scalar c) shown = absurd shown
  each_shown t n s (text cs) shown = absurd shown
  each_shown t n s (elements vs) shown = absurd shown
  each_shown t n s (parts vs) shown = (vs, shown.0, shown.1)
  each_shown t n s (bare i) shown = absurd shown
  each_shown t n s (bearing i v) shown = absurd shown
  each_shown t n s (flag_set m) shown = absurd shown
  each_shown t n s (handle e) shown = absurd shown

  fields_shown : (c : FieldsKind) (fs : Fields) (s : ℕ) (v : Val) → FlatShows w slots (fields c fs) s v
      → (vs : Vals) × FlatShowFields w slots fs s vs
  fields_shown c fs s (truth b) shown = absurd shown
  fields_shown c fs s (signed_number z) shown = absurd shown
  fields_shown c fs s (number n) shown = absurd shown
  fields_shown c fs s (scalar d) shown = absurd shown
  fields_shown c fs s (text cs) shown = absurd shown
  fields_shown c fs s (elements vs) shown = absurd shown
  fields_shown c fs s (parts vs) shown = (vs, shown)
  fields_shown c fs s (bare i) shown = absurd shown
  fields_shown c fs s (bearing i v) shown = absurd shown
  fields_shown c fs s (flag_set n) shown = absurd shown
  fields_shown c fs s (handle e) shown = absurd shown

  each_fine : (t : Ty) (n : ℕ) → length (steps_of (shape_of_type t)) ≡ width_of t
      → ((s : ℕ) (v : Val) → FlatShows w slots t s v → Faulty (steps_of (shape_of_type t)) (flat_of t) slots s → ⊥)
      → (s : ℕ) (vs : Vals) → count_of vs ≡ n → ShowEach (FlatShows w slots t) (width_of t) s vs
      → Faulty (repeated n (steps_of (shape_of_type t))) (copies n (flat_of t)) slots s → ⊥
  each_fine t zero same one s vs count shown f = f
  each_fine t (suc n) same one s no_vals count shown f = omega (arith, count)
  each_fine t (suc n) same one s (val v vs) count shown f =
      let xs = steps_of (shape_of_type t) in
      let next = s + width_of t in
      elim (faulty_both xs (repeated n xs) (flat_of t) (copies n (flat_of t)) slots s next same refl f) [
        | inl first ↦ one s v shown.0 first
        | inr rest ↦ each_fine t n same one next vs (omega (arith, count)) shown.1 rest.1
      ]

  mutual
    -- where a value is shown no core value is at fault
    pub value_fine : (t : Ty) (s : ℕ) (v : Val) → is_plain (shape_of_type t) ≡ true → FlatShows w slots t s v
        → Faulty (steps_of (shape_of_type t)) (flat_of t) slots s → ⊥
    value_fine bool s v h shown f = (one_faulty _ _ slots s f).fault tt
    value_fine (signed b) s v h shown f = (one_faulty _ _ slots s f).fault (signed_fine b (core_at slots s))
    value_fine (unsigned b) s v h shown f = (one_faulty _ _ slots s f).fault (unsigned_fine b (core_at slots s))
    value_fine char s v h shown f = let x = one_faulty _ _ slots s f in x.fault (fine_char (core_at slots s) x.fits (scalar_shown s v shown))
    value_fine (flags ls) s v h shown f = (one_faulty _ _ slots s f).fault (flags_fine (length ls) (flags_size (length ls)) (core_at slots s))
    value_fine (fixed_list t n) s v h shown f =
        let row = each_shown t n s v shown in each_fine t n (wide t h) (λ s v shown f. value_fine t s v h shown f) s row.0 row.1 row.2 f
    value_fine (fields c fs) s v h shown f = let row = fields_shown c fs s v shown in fields_fine fs 0 s row.0 h row.1 f
    value_fine string s v h shown f = absurd (false_not_true h)
    value_fine (list t) s v h shown f = absurd (false_not_true h)
    value_fine (cases c cs) s v h shown f = absurd (false_not_true h)
    value_fine (own r) s v h shown f = absurd (false_not_true h)
    value_fine (borrow r) s v h shown f = absurd (false_not_true h)

    fields_fine : (fs : Fields) (at s : ℕ) (vs : Vals) → are_plain (parts_from (parts_at fs at)) ≡ true → FlatShowFields w slots fs s vs
        → Faulty (steps_of_parts (parts_from (parts_at fs at))) (flat_of_fields fs) slots s → ⊥
    fields_fine no_fields at s vs h shown f = f
    fields_fine (field l t fs) at s no_vals h shown f = shown
    fields_fine (field l t fs) at s (val v vs) h shown f =
        let both = and_parts _ _ h in
        let behind_it = align_to (align_of t) at + size_of t in
        let xs = steps_of (shape_of_type t) in
        let ys = steps_of_parts (parts_from (parts_at fs behind_it)) in
        let next = s + width_of t in
        elim (faulty_both xs ys (flat_of t) (flat_of_fields fs) slots s next (wide t both.0) refl f) [
          | inl first ↦ value_fine t s v both.0 shown.0 first
          | inr rest ↦ fields_fine fs behind_it next vs both.1 shown.1 rest.1
        ]
