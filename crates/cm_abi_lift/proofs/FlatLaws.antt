-- What is read of core values is what they show, and what they show is read.
use Rattle.std.proofs.Common.{◌≡◌, ℕ, zero, suc, ◌+◌, ◌*◌, ◌%◌, ◌^◌, ◌≤◌, ◌==◌, Bool, true, false, not, List, length, drop, get_or, Ok, Err, refl, sym, ap, subst, ◌∙◌, arith}
use Rattle.std.specs.Prelude.{if◌then◌else◌}
use Rattle.std.proofs.lemmas.List.{get_or-drop}
use Rattle.cm_types.specs.declared.core_value.CoreValue.{CoreValue}
use Rattle.cm_types.specs.declared.core_value.CoreValue.TheVariants as core_value
use Rattle.cm_types.specs.Types.{Ty, Fields, Cases, CasesKind, width_bytes, bool, signed, unsigned, char, string, list, fixed_list, fields, cases, flags, own, borrow, no_fields, field, no_cases, plain, carrying}
use Rattle.cm_types.specs.Values.{Val, Vals, IsPlainCase, IsScalarValue, no_vals, val, truth, signed_number, number, scalar, text, elements, parts, bare, bearing, flag_set, handle, count_of}
use Rattle.cm_types.specs.TypedValues.{is_scalar_value}
use Rattle.cm_handles.specs.Handles.{Handles}
use Rattle.cm_layout.specs.declared.layouts.HandleType.TheVariants as handle_type
use Rattle.cm_layout.specs.Shapes.{head_of, parts_at, parts_from, payloads_from, payloads_of, shape_of_type}
use Rattle.cm_layout.specs.Alignment.{align_to}
use Rattle.cm_layout.specs.Sizes.{align_of, size_of}
use Rattle.cm_abi_model.specs.Numbers.{as_signed, slot_number, wrapped_at}
use Rattle.cm_abi_model.specs.FlatShows.{FlatShowFields, FlatShows, FlatShowsPayload, width_of}
use Rattle.cm_abi_model.specs.Shows.{ShowEach}
use Rattle.cm_abi_model.specs.Taken.{Met, content_of, met_each, met_flat, met_flat_fields, met_flat_payload}
use Rattle.cm_abi_model.specs.Views.{View}
use Rattle.cm_abi_model.specs.declared.fault.AbiFault.{AbiFault}
use Rattle.cm_abi_model.specs.declared.fault.AbiFault.TheVariants as fault
use Rattle.cm_abi_load.specs.Meeting.{Meets}
use Rattle.cm_abi_load.specs.Outcomes.{Outcome, State, mapped}
use Rattle.cm_abi_load.specs.PartLaws.{BorrowIsRead, BorrowIsShown, ElementsAreRead, ElementsAreShown, MeetingsJoin, NothingIsMet, OwnIsRead, OwnIsShown, TextIsRead, TextIsShown}
use Rattle.cm_abi_load.specs.Reading.{read_at, read_elements, read_handle, read_text, seen_by}
use Rattle.cm_abi_lift.specs.FlatReading.{read_flat, read_flat_case, read_flat_each, read_flat_parts}
use Rattle.cm_abi_load.proofs.FoundLaws.{Found, bind_found, mapped_found}
use Rattle.cm_abi_model.proofs.NumbersLaws.{at_second}
use Rattle.cm_abi_load.proofs.ShownLaws.{bind_ok, mapped_ok, moved, read_ok}
use Rattle.cm_abi_model.proofs.TakenLemmas.{content_both}
use Rattle.cm_types.proofs.CoreValueLaws.{drop_twice}
use Rattle.cm_types.proofs.TypedValueLaws.{scalar_sound, scalar_complete}
use Rattle.cm_abi_load.proofs.FoundLaws.{char_found}
use Rattle.cm_abi_load.proofs.ShownLaws.{char_is}

-- what the laws of lifting from memory promise
pub record Laws : Type 0 where
  pub text_shown : TextIsShown
  pub elements_shown : ElementsAreShown
  pub own_shown : OwnIsShown
  pub borrow_shown : BorrowIsShown
  pub nothing : NothingIsMet
  pub both : MeetingsJoin
  pub text_read : TextIsRead
  pub elements_read : ElementsAreRead
  pub own_read : OwnIsRead
  pub borrow_read : BorrowIsRead

-- ---- outcomes

abbrev pub read_err : {A : Type 0} → AbiFault → State → Outcome A
read_err e s = Err (e, s)

-- ---- slots

pub at_first : (b : ℕ) (s : List CoreValue) (k : ℕ) → wrapped_at b (drop k s) 0 ≡ wrapped_at b s k
at_first b s k =
    let here : k + 0 ≡ k = omega arith in
    ap (λ v. slot_number v % 2 ^ (8 * b)) (get_or-drop k s 0 (core_value.I32 0) ∙ ap (λ n. get_or s n (core_value.I32 0)) here)

pub two_slots : {X : Type 0} (F : ℕ → ℕ → X) (s : List CoreValue) (k : ℕ) → F (wrapped_at 4 (drop k s) 0) (wrapped_at 4 (drop k s) 1) ≡ F (wrapped_at 4 s k) (wrapped_at 4 s (k + 1))
two_slots F s k = ap (λ n. F n (wrapped_at 4 (drop k s) 1)) (at_first 4 s k) ∙ ap (F (wrapped_at 4 s k)) (at_second s k)

-- ---- lists of what is met

-- ---- chars

-- ---- values in a row

abbrev Flat : Type 0
Flat = List CoreValue → State → Outcome Val

-- what is read is shown, and what is met is told
abbrev IsTold : Flat → List CoreValue → (ℕ → Val → Type 0) → Handles → (ℕ → Val → List Met) → Type 0
IsTold R s S T M = (k : ℕ) (x y : State) (v : Val) → R (drop k s) x ≡ Ok (v, y) → S k v × Meets T x y (M k v)

abbrev IsFound : Flat → List CoreValue → (ℕ → Val → Type 0) → (ℕ → Val → List Met) → Type 0
IsFound R s S M = (k : ℕ) (x : State) (v : Val) → S k v → content_of (M k v) ≤ x.left → Found (R (drop k s) x) v

each_shown : (laws : Laws) (R : Flat) (s : List CoreValue) (S : ℕ → Val → Type 0) (T : Handles) (M : ℕ → Val → List Met) → IsTold R s S T M
    → (width n k : ℕ) (x y : State) (vs : Vals) → read_flat_each R width n (drop k s) x ≡ Ok (vs, y)
    → (count_of vs ≡ n) × ShowEach S width k vs × Meets T x y (met_each M width k vs)
each_shown laws R s S T M one width zero k x y vs e =
    moved (λ us a. (count_of us ≡ 0) × ShowEach S width k us × Meets T x a (met_each M width k us)) no_vals vs x y e (refl, tt, laws.nothing T x)
each_shown laws R s S T M one width (suc n) k x y vs e =
    let first = bind_ok (R (drop k s) x) (λ r. mapped (λ us. val r.0 us) (read_flat_each R width n (drop width (drop k s)) r.1)) (vs, y) e in
    let rest = mapped_ok (λ us. val first.0.0 us) (read_flat_each R width n (drop width (drop k s)) first.0.1) (vs, y) first.2 in
    let below = each_shown laws R s S T M one width n (k + width) first.0.1 y rest.0 (sym (ap (λ z. read_flat_each R width n z first.0.1) (drop_twice width k s)) ∙ rest.1) in
    let here = one k x first.0.1 first.0.0 first.1 in
    subst (λ us. (count_of us ≡ suc n) × ShowEach S width k us × Meets T x y (met_each M width k us)) rest.2
    (omega (arith, below.0), (here.0, below.1), laws.both T x first.0.1 y (M k first.0.0) (met_each M width (k + width) rest.0) here.1 below.2)

each_found : (R : Flat) (s : List CoreValue) (S : ℕ → Val → Type 0) (T : Handles) (M : ℕ → Val → List Met) → IsTold R s S T M → IsFound R s S M
    → (width k : ℕ) (x : State) (vs : Vals) → ShowEach S width k vs → content_of (met_each M width k vs) ≤ x.left → Found (read_flat_each R width (count_of vs) (drop k s) x) vs
each_found R s S T M told one width k x no_vals shown room = record { after = x; is = refl }
each_found R s S T M told one width k x (val v vs) shown room =
    let both = content_both (M k v) (met_each M width (k + width) vs) in
    let first = one k x v shown.0 (omega (arith, both, room)) in
    let met = (told k x first.after v first.is).1 in
    let rest = each_found R s S T M told one width (k + width) first.after vs shown.1 (omega (arith, both, room, met.counted)) in
    let there = subst (λ z. Found (read_flat_each R width (count_of vs) z first.after) vs) (sym (drop_twice width k s)) rest in
    let behind = mapped_found (λ us. val v us) (read_flat_each R width (count_of vs) (drop width (drop k s)) first.after) vs there in
    let more : count_of (val v vs) ≡ suc (count_of vs) = omega arith in
    record {
      after = behind.after;
      is = ap (λ m. read_flat_each R width m (drop k s) x) more
          ∙ bind_found (R (drop k s) x) (λ r. mapped (λ us. val r.0 us) (read_flat_each R width (count_of vs) (drop width (drop k s)) r.1)) (v, first.after) (read_ok (val v vs) behind.after) first.is behind.is;
    }

-- ---- what is read is shown

abbrev pub Told : View → List CoreValue → Ty → ℕ → State → Val → State → Type 0
Told w s t k x v y = FlatShows w s t k v × Meets w.table x y (met_flat w s t k v)

mutual
  pub flat_shows : (laws : Laws) (w : View) (s : List CoreValue) (t : Ty) (k : ℕ) (x y : State) (v : Val) → read_flat (seen_by w) (shape_of_type t) (drop k s) x ≡ Ok (v, y) → Told w s t k x v y
  flat_shows laws w s bool k x y v e = moved (Told w s bool k x) _ v x y e (ap (λ n. not (n == 0)) (at_first 4 s k), laws.nothing w.table x)
  flat_shows laws w s (signed b) k x y v e = moved (Told w s (signed b) k x) _ v x y e (ap (as_signed (width_bytes b)) (at_first (width_bytes b) s k), laws.nothing w.table x)
  flat_shows laws w s (unsigned b) k x y v e = moved (Told w s (unsigned b) k x) _ v x y e (at_first (width_bytes b) s k, laws.nothing w.table x)
  flat_shows laws w s char k x y v e =
      char_is (Told w s char k x) (is_scalar_value (wrapped_at 4 (drop k s) 0)) (wrapped_at 4 (drop k s) 0) x y v e
      (λ is. ((at_first 4 s k, scalar_sound (wrapped_at 4 (drop k s) 0) is), laws.nothing w.table x))
  flat_shows laws w s string k x y v e =
      let r = laws.text_shown w.memory w.encoding (wrapped_at 4 s k) (wrapped_at 4 s (k + 1)) w.table x y v (sym (two_slots (λ a n. read_text w.memory w.encoding a n x) s k) ∙ e) in
      subst (λ u. Told w s string k x u y) (sym r.1) (r.2, r.3)
  flat_shows laws w s (list t) k x y v e =
      let r = mapped_ok elements (read_elements (read_at (seen_by w) (shape_of_type t)) w.memory (head_of t) (wrapped_at 4 (drop k s) 0) (wrapped_at 4 (drop k s) 1) x) (v, y) e in
      subst (λ u. Told w s (list t) k x u y) r.2
      (laws.elements_shown w t (wrapped_at 4 s k) (wrapped_at 4 s (k + 1)) x y r.0
      (sym (two_slots (λ a n. read_elements (read_at (seen_by w) (shape_of_type t)) w.memory (head_of t) a n x) s k) ∙ r.1))
  flat_shows laws w s (fixed_list t n) k x y v e =
      let r = mapped_ok parts (read_flat_each (read_flat (seen_by w) (shape_of_type t)) (width_of t) n (drop k s) x) (v, y) e in
      let each = each_shown laws (read_flat (seen_by w) (shape_of_type t)) s (FlatShows w s t) w.table (met_flat w s t) (λ j a b u h. flat_shows laws w s t j a b u h) (width_of t) n k x y r.0 r.1 in
      subst (λ u. Told w s (fixed_list t n) k x u y) r.2 ((each.0, each.1), each.2)
  flat_shows laws w s (fields f fs) k x y v e =
      let r = mapped_ok parts (read_flat_parts (seen_by w) (parts_from (parts_at fs 0)) (drop k s) x) (v, y) e in
      subst (λ u. Told w s (fields f fs) k x u y) r.2 (fields_shown laws w s fs 0 k x y r.0 r.1)
  flat_shows laws w s (cases c cs) k x y v e =
      let i = wrapped_at 4 s k in
      case_shown laws w s c cs cs k i refl i x y v (λ u h. h) (λ u h. h) (λ u. refl)
      (sym (ap (λ j. read_flat_case (seen_by w) (payloads_from (payloads_of cs)) j j (drop 1 (drop k s)) x) (at_first 4 s k)
      ∙ ap (λ z. read_flat_case (seen_by w) (payloads_from (payloads_of cs)) i i z x) (drop_twice 1 k s)) ∙ e)
  flat_shows laws w s (flags ls) k x y v e = moved (Told w s (flags ls) k x) _ v x y e (ap (λ n. n % 2 ^ length ls) (at_first 4 s k), laws.nothing w.table x)
  flat_shows laws w s (own r) k x y v e =
      let h = laws.own_shown w.table (wrapped_at 4 s k) r x y v (sym (ap (λ i. read_handle w.table (handle_type.Own r) i x) (at_first 4 s k)) ∙ e) in
      subst (λ u. Told w s (own r) k x u y) (sym h.1) (h.2, h.3)
  flat_shows laws w s (borrow r) k x y v e =
      let h = laws.borrow_shown w.table (wrapped_at 4 s k) r x y v (sym (ap (λ i. read_handle w.table (handle_type.Borrow r) i x) (at_first 4 s k)) ∙ e) in
      subst (λ u. Told w s (borrow r) k x u y) (sym h.1) (h.2, h.3)

  fields_shown : (laws : Laws) (w : View) (s : List CoreValue) (fs : Fields) (end k : ℕ) (x y : State) (vs : Vals) → read_flat_parts (seen_by w) (parts_from (parts_at fs end)) (drop k s) x ≡ Ok (vs, y)
      → FlatShowFields w s fs k vs × Meets w.table x y (met_flat_fields w s fs k vs)
  fields_shown laws w s no_fields end k x y vs e = moved (λ us a. FlatShowFields w s no_fields k us × Meets w.table x a (met_flat_fields w s no_fields k us)) no_vals vs x y e (tt, laws.nothing w.table x)
  fields_shown laws w s (field l t fs) end k x y vs e =
      let next = align_to (align_of t) end + size_of t in
      let first = bind_ok (read_flat (seen_by w) (shape_of_type t) (drop k s) x) (λ r. mapped (λ us. val r.0 us) (read_flat_parts (seen_by w) (parts_from (parts_at fs next)) (drop (width_of t) (drop k s)) r.1)) (vs, y) e in
      let rest = mapped_ok (λ us. val first.0.0 us) (read_flat_parts (seen_by w) (parts_from (parts_at fs next)) (drop (width_of t) (drop k s)) first.0.1) (vs, y) first.2 in
      let here = flat_shows laws w s t k x first.0.1 first.0.0 first.1 in
      let below = fields_shown laws w s fs next (k + width_of t) first.0.1 y rest.0 (sym (ap (λ z. read_flat_parts (seen_by w) (parts_from (parts_at fs next)) z first.0.1) (drop_twice (width_of t) k s)) ∙ rest.1) in
      subst (λ us. FlatShowFields w s (field l t fs) k us × Meets w.table x y (met_flat_fields w s (field l t fs) k us)) rest.2
      ((here.0, below.0), laws.both w.table x first.0.1 y (met_flat w s t k first.0.0) (met_flat_fields w s fs (k + width_of t) rest.0) here.1 below.1)

  -- of all cases those before the rest are left out
  case_shown : (laws : Laws) (w : View) (s : List CoreValue) (c : CasesKind) (all rest : Cases) (k i : ℕ) → wrapped_at 4 s k ≡ i → (n : ℕ) (x y : State) (v : Val)
      → ((u : ℕ) → IsPlainCase rest n → IsPlainCase all i) → ((u : Val) → FlatShowsPayload w s rest (k + 1) n u → FlatShowsPayload w s all (k + 1) i u)
      → ((u : Val) → met_flat_payload w s rest (k + 1) n u ≡ met_flat_payload w s all (k + 1) i u)
      → read_flat_case (seen_by w) (payloads_from (payloads_of rest)) i n (drop (k + 1) s) x ≡ Ok (v, y) → Told w s (cases c all) k x v y
  case_shown laws w s c all no_cases k i is n x y v bare_is bearing_is met_is e = absurd (cc)
  case_shown laws w s c all (plain l cs) k i is zero x y v bare_is bearing_is met_is e = moved (Told w s (cases c all) k x) (bare i) v x y e ((is, bare_is 0 tt), laws.nothing w.table x)
  case_shown laws w s c all (plain l cs) k i is (suc n) x y v bare_is bearing_is met_is e = case_shown laws w s c all cs k i is n x y v bare_is bearing_is met_is e
  case_shown laws w s c all (carrying l t cs) k i is zero x y v bare_is bearing_is met_is e =
      let r = mapped_ok (λ u. bearing i u) (read_flat (seen_by w) (shape_of_type t) (drop (k + 1) s) x) (v, y) e in
      let here = flat_shows laws w s t (k + 1) x y r.0 r.1 in
      subst (λ u. Told w s (cases c all) k x u y) r.2 ((is, bearing_is r.0 here.0), subst (Meets w.table x y) (met_is r.0) here.1)
  case_shown laws w s c all (carrying l t cs) k i is (suc n) x y v bare_is bearing_is met_is e = case_shown laws w s c all cs k i is n x y v bare_is bearing_is met_is e

-- ---- what is shown is read

plain_found : (w : View) (cs : Cases) (i n : ℕ) (z : List CoreValue) (x : State) → IsPlainCase cs n → read_flat_case (seen_by w) (payloads_from (payloads_of cs)) i n z x ≡ read_ok (bare i) x
plain_found w no_cases i n z x is = absurd is
plain_found w (plain l cs) i zero z x is = refl
plain_found w (plain l cs) i (suc n) z x is = plain_found w cs i n z x is
plain_found w (carrying l t cs) i zero z x is = absurd is
plain_found w (carrying l t cs) i (suc n) z x is = plain_found w cs i n z x is

mutual
  pub flat_found : (laws : Laws) (w : View) (s : List CoreValue) (t : Ty) (k : ℕ) (x : State) (v : Val) → FlatShows w s t k v → content_of (met_flat w s t k v) ≤ x.left
      → Found (read_flat (seen_by w) (shape_of_type t) (drop k s) x) v
  flat_found laws w s bool k x (truth b) h room = record { after = x; is = ap (λ n. read_ok (truth (not (n == 0))) x) (at_first 4 s k) ∙ ap (λ c. read_ok (truth c) x) (sym h) }
  flat_found laws w s bool k x v h room = absurd h
  flat_found laws w s (signed b) k x (signed_number z) h room = record {
    after = x;
    is = ap (λ n. read_ok (signed_number (as_signed (width_bytes b) n)) x) (at_first (width_bytes b) s k) ∙ ap (λ c. read_ok (signed_number c) x) (sym h);
  }
  flat_found laws w s (signed b) k x v h room = absurd h
  flat_found laws w s (unsigned b) k x (number n) h room = record { after = x; is = ap (λ m. read_ok (number m) x) (at_first (width_bytes b) s k) ∙ ap (λ c. read_ok (number c) x) (sym h) }
  flat_found laws w s (unsigned b) k x v h room = absurd h
  flat_found laws w s char k x (scalar c) h room =
      let n = wrapped_at 4 (drop k s) 0 in
      let e : c ≡ n = h.0 ∙ sym (at_first 4 s k) in
      record { after = x; is = char_found n x (subst IsScalarValue e h.1) ∙ ap (λ d. read_ok (scalar d) x) (sym e) }
  flat_found laws w s char k x v h room = absurd h
  flat_found laws w s string k x (text cs) h room =
      let found = laws.text_read w.memory w.encoding (wrapped_at 4 s k) (wrapped_at 4 s (k + 1)) cs x h (omega (arith, room)) in
      record { after = found.0; is = two_slots (λ a n. read_text w.memory w.encoding a n x) s k ∙ found.1 }
  flat_found laws w s string k x v h room = absurd h
  flat_found laws w s (list t) k x (elements vs) h room =
      let found = laws.elements_read w t (wrapped_at 4 s k) (wrapped_at 4 s (k + 1)) x vs h room in
      mapped_found elements (read_elements (read_at (seen_by w) (shape_of_type t)) w.memory (head_of t) (wrapped_at 4 (drop k s) 0) (wrapped_at 4 (drop k s) 1) x) vs
      (record { after = found.0; is = two_slots (λ a n. read_elements (read_at (seen_by w) (shape_of_type t)) w.memory (head_of t) a n x) s k ∙ found.1 })
  flat_found laws w s (list t) k x v h room = absurd h
  flat_found laws w s (fixed_list t n) k x (parts vs) h room =
      let each = each_found (read_flat (seen_by w) (shape_of_type t)) s (FlatShows w s t) w.table (met_flat w s t) (λ j a b u e. flat_shows laws w s t j a b u e) (λ j a u e r. flat_found laws w s t j a u e r)
      (width_of t) k x vs h.1 room in
      mapped_found parts (read_flat_each (read_flat (seen_by w) (shape_of_type t)) (width_of t) n (drop k s) x) vs
      (subst (λ m. Found (read_flat_each (read_flat (seen_by w) (shape_of_type t)) (width_of t) m (drop k s) x) vs) h.0 each)
  flat_found laws w s (fixed_list t n) k x v h room = absurd h
  flat_found laws w s (fields f fs) k x (parts vs) h room = mapped_found parts (read_flat_parts (seen_by w) (parts_from (parts_at fs 0)) (drop k s) x) vs (fields_found laws w s fs 0 k x vs h room)
  flat_found laws w s (fields f fs) k x v h room = absurd h
  flat_found laws w s (cases c cs) k x (bare i) h room =
      let n = wrapped_at 4 (drop k s) 0 in
      let e : n ≡ i = at_first 4 s k ∙ h.0 in
      record { after = x; is = plain_found w cs n n (drop 1 (drop k s)) x (subst (IsPlainCase cs) (sym e) h.1) ∙ ap (λ j. read_ok (bare j) x) e }
  flat_found laws w s (cases c cs) k x (bearing i v) h room =
      let n = wrapped_at 4 (drop k s) 0 in
      let e : n ≡ i = at_first 4 s k ∙ h.0 in
      let found = payload_found laws w s cs (k + 1) i i x v h.1 room in
      let there = subst (λ z. Found (read_flat_case (seen_by w) (payloads_from (payloads_of cs)) i i z x) (bearing i v)) (sym (drop_twice 1 k s)) found in
      subst (λ j. Found (read_flat_case (seen_by w) (payloads_from (payloads_of cs)) j j (drop 1 (drop k s)) x) (bearing i v)) (sym e) there
  flat_found laws w s (cases c cs) k x v h room = absurd h
  flat_found laws w s (flags ls) k x (flag_set n) h room = record { after = x; is = ap (λ m. read_ok (flag_set (m % 2 ^ length ls)) x) (at_first 4 s k) ∙ ap (λ c. read_ok (flag_set c) x) (sym h) }
  flat_found laws w s (flags ls) k x v h room = absurd h
  flat_found laws w s (own r) k x (handle g) h room =
      let found = laws.own_read w.table (wrapped_at 4 s k) r g x h in
      record { after = found.0; is = ap (λ i. read_handle w.table (handle_type.Own r) i x) (at_first 4 s k) ∙ found.1 }
  flat_found laws w s (own r) k x v h room = absurd h
  flat_found laws w s (borrow r) k x (handle g) h room =
      let found = laws.borrow_read w.table (wrapped_at 4 s k) r g x h in
      record { after = found.0; is = ap (λ i. read_handle w.table (handle_type.Borrow r) i x) (at_first 4 s k) ∙ found.1 }
  flat_found laws w s (borrow r) k x v h room = absurd h

  fields_found : (laws : Laws) (w : View) (s : List CoreValue) (fs : Fields) (end k : ℕ) (x : State) (vs : Vals) → FlatShowFields w s fs k vs → content_of (met_flat_fields w s fs k vs) ≤ x.left
      → Found (read_flat_parts (seen_by w) (parts_from (parts_at fs end)) (drop k s) x) vs
  fields_found laws w s no_fields end k x no_vals h room = record { after = x; is = refl }
  fields_found laws w s no_fields end k x (val v vs) h room = absurd h
  fields_found laws w s (field l t fs) end k x no_vals h room = absurd h
  fields_found laws w s (field l t fs) end k x (val v vs) h room =
      let next = align_to (align_of t) end + size_of t in
      let both = content_both (met_flat w s t k v) (met_flat_fields w s fs (k + width_of t) vs) in
      let first = flat_found laws w s t k x v h.0 (omega (arith, both, room)) in
      let met = (flat_shows laws w s t k x first.after v first.is).1 in
      let rest = fields_found laws w s fs next (k + width_of t) first.after vs h.1 (omega (arith, both, room, met.counted)) in
      let there = subst (λ z. Found (read_flat_parts (seen_by w) (parts_from (parts_at fs next)) z first.after) vs) (sym (drop_twice (width_of t) k s)) rest in
      let behind = mapped_found (λ us. val v us) (read_flat_parts (seen_by w) (parts_from (parts_at fs next)) (drop (width_of t) (drop k s)) first.after) vs there in
      record {
        after = behind.after;
        is = bind_found (read_flat (seen_by w) (shape_of_type t) (drop k s) x) (λ r. mapped (λ us. val r.0 us) (read_flat_parts (seen_by w) (parts_from (parts_at fs next)) (drop (width_of t) (drop k s)) r.1)) (v, first.after) (read_ok (val v vs) behind.after) first.is behind.is;
      }

  payload_found : (laws : Laws) (w : View) (s : List CoreValue) (cs : Cases) (k i n : ℕ) (x : State) (v : Val) → FlatShowsPayload w s cs k n v → content_of (met_flat_payload w s cs k n v) ≤ x.left
      → Found (read_flat_case (seen_by w) (payloads_from (payloads_of cs)) i n (drop k s) x) (bearing i v)
  payload_found laws w s no_cases k i n x v h room = absurd h
  payload_found laws w s (plain l cs) k i zero x v h room = absurd h
  payload_found laws w s (plain l cs) k i (suc n) x v h room = payload_found laws w s cs k i n x v h room
  payload_found laws w s (carrying l t cs) k i zero x v h room = mapped_found (λ u. bearing i u) (read_flat (seen_by w) (shape_of_type t) (drop k s) x) v (flat_found laws w s t k x v h room)
  payload_found laws w s (carrying l t cs) k i (suc n) x v h room = payload_found laws w s cs k i n x v h room
