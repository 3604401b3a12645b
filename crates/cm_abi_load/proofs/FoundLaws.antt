-- Bytes that show a value are read as it, where its content is within what is left.
use Rattle.std.proofs.Common.{◌≡◌, ℕ, zero, suc, ◌+◌, ◌-◌, ◌*◌, ◌≤◌, List, length, Some, Ok, refl, sym, ap, subst, ◌∙◌, arith}
use Rattle.std.specs.Prelude.{if◌then◌else◌}
use Rattle.std.proofs.lemmas.Bool.{le-ltb}
use Rattle.cm_types.specs.declared.resource.ResourceId.{ResourceId}
use Rattle.cm_types.specs.Types.{Ty, Fields, Cases, bool, signed, unsigned, char, string, list, fixed_list, fields, cases, flags, own, borrow, no_fields, field, no_cases, plain, carrying}
use Rattle.cm_types.specs.Values.{HandleValue, Val, Vals, IsScalarValue, no_vals, val, truth, signed_number, number, scalar, text, elements, parts, bare, bearing, flag_set, handle, count_of, IsPlainCase}
use Rattle.cm_types.specs.TypedValues.{is_scalar_value}
use Rattle.cm_handles.specs.Handles.{Handles, handle_at, look_up, of_resource}
use Rattle.cm_handles.specs.declared.handle.Handle.{Handle}
use Rattle.cm_layout.specs.declared.heads.Head.{Head}
use Rattle.cm_layout.specs.declared.layouts.HandleType.TheVariants as handle_type
use Rattle.cm_layout.specs.Alignment.{align_to}
use Rattle.cm_layout.specs.Sizes.{align_of, size_of, case_count, discriminant_size, payload_offset}
use Rattle.cm_layout.specs.Shapes.{shape_of_type, parts_at, parts_from, payloads_of, payloads_from, head_of}
use Rattle.cm_abi_model.specs.Numbers.{number_at}
use Rattle.cm_abi_model.specs.Shows.{Shows, ShowEach, ShowFields, ShowsElements, ShowsHandle, ShowsOwned, ShowsPayload}
use Rattle.cm_abi_model.specs.Taken.{Met, content_of, met_at, met_each, met_in_fields, met_in_payload}
use Rattle.cm_abi_model.specs.Texts.{IsAligned, ShowsText, bytes_from, charset_of, text_align, text_size}
use Rattle.cm_abi_model.specs.Views.{View}
use Rattle.cm_abi_model.specs.declared.encoding.StringEncoding.{StringEncoding}
use Rattle.cm_abi_model.specs.declared.fault.AbiFault.TheVariants as fault
use Rattle.cm_abi_load.specs.Decoded.{decoded}
use Rattle.cm_abi_load.specs.Decoding.{text_decoded}
use Rattle.cm_abi_load.specs.Outcomes.{Outcome, State, mapped, ◌>>=◌}
use Rattle.cm_abi_load.specs.Reading.{after_meeting, after_text, read_at, read_case, read_each, read_elements, read_handle, read_parts, read_text, region, seen_by, text_value, value_of_handle}
use Rattle.cm_abi_load.proofs.ReadLaws.{read_shows}
use Rattle.cm_abi_load.proofs.ShownLaws.{IsTold, read_err, read_ok}
use Rattle.cm_handles.proofs.HandleLaws.{as_read}
use Rattle.cm_abi_model.proofs.TakenLemmas.{content_both}
use Rattle.cm_abi_model.proofs.TextsLaws.{multiple}
use Rattle.cm_handles.proofs.HandlesLaws.{same_true}
use Rattle.cm_types.proofs.TypedValueLaws.{scalar_complete}

-- reading comes to a value
pub record Found {A : Type 0} (r : Outcome A) (v : A) : Type 0 where
  pub after : State
  pub is : r ≡ Ok (v, after)

pub bind_found : {A B : Type 0} (r : Outcome A) (f : A × State → Outcome B) (x : A × State) (y : Outcome B) → r ≡ Ok x → f x ≡ y → (r >>= f) ≡ y
bind_found r f x y is there = ap (λ q. q >>= f) is ∙ there

pub mapped_found : {A B : Type 0} (f : A → B) (r : Outcome A) (v : A) → Found r v → Found (mapped f r) (f v)
mapped_found f r v x = record { after = x.after; is = ap (mapped f) x.is }

-- ---- regions

pub region_there : (memory : List ℕ) (align at size : ℕ) (s : State) → IsAligned align at → at + size ≤ length memory → size ≤ s.left
    → region memory align at size s ≡ Ok (tt, record s { left = s.left - size })
unfolding region
region_there memory align at size s aligned inside room =
    rw (multiple align at aligned, le-ltb (length memory) (at + size) inside, le-ltb s.left size room) refl

-- ---- texts

pub text_found_at : (memory : List ℕ) (e : StringEncoding) (at n : ℕ) (cs : List ℕ) (s : State) → ShowsText e memory at n cs → text_size e n ≤ s.left
    → Found (read_text memory e at n s) (text cs)
unfolding read_text
text_found_at memory e at n cs s shown room =
    let behind = record s { left = s.left - text_size e n } in
    let d = decoded (charset_of e n) (bytes_from memory at (text_size e n)) in
    record {
      after = after_text e n behind;
      is = bind_found (region memory (text_align e) at (text_size e n) s) (λ r. text_value d (after_text e n r.1)) (tt, behind) (read_ok (text cs) (after_text e n behind))
          (region_there memory (text_align e) at (text_size e n) s shown.aligned shown.inside room)
          (ap (λ o. text_value o (after_text e n behind)) (text_decoded (charset_of e n) cs (bytes_from memory at (text_size e n)) shown.text));
    }

-- ---- values in a row

-- what is shown, within what is left, is found
abbrev pub IsFound : (ℕ → State → Outcome Val) → (ℕ → Val → Type 0) → (ℕ → Val → List Met) → Type 0
IsFound R S M = (p : ℕ) (s : State) (v : Val) → S p v → content_of (M p v) ≤ s.left → Found (R p s) v

pub each_found : (R : ℕ → State → Outcome Val) (S : ℕ → Val → Type 0) (T : Handles) (M : ℕ → Val → List Met) → IsTold R S T M → IsFound R S M
    → (size p : ℕ) (s : State) (vs : Vals) → ShowEach S size p vs → content_of (met_each M size p vs) ≤ s.left → Found (read_each R size (count_of vs) p s) vs
each_found R S T M told one size p s no_vals shown room = record { after = s; is = refl }
each_found R S T M told one size p s (val v vs) shown room =
    let both = content_both (M p v) (met_each M size (p + size) vs) in
    let first = one p s v shown.0 (omega (arith, both, room)) in
    let met = (told p s first.after v first.is).1 in
    let rest = each_found R S T M told one size (p + size) first.after vs shown.1 (omega (arith, both, room, met.counted)) in
    let behind = mapped_found (λ us. val v us) (read_each R size (count_of vs) (p + size) first.after) vs rest in
    let more : count_of (val v vs) ≡ suc (count_of vs) = omega arith in
    record {
      after = behind.after;
      is = ap (λ m. read_each R size m p s) more
          ∙ bind_found (R p s) (λ r. mapped (λ us. val r.0 us) (read_each R size (count_of vs) (p + size) r.1)) (v, first.after) (read_ok (val v vs) behind.after) first.is behind.is;
    }

pub elements_found : (R : ℕ → State → Outcome Val) (S : ℕ → Val → Type 0) (T : Handles) (M : ℕ → Val → List Met) → IsTold R S T M → IsFound R S M
    → (memory : List ℕ) (h : Head) (at n : ℕ) (s : State) (vs : Vals) → ShowsElements S memory h.align h.size at n vs
    → count_of vs * h.size + content_of (met_each M h.size at vs) ≤ s.left → Found (read_elements R memory h at n s) vs
unfolding read_elements
elements_found R S T M told one memory h at n s vs shown room =
    let size_is : count_of vs * h.size ≡ n * h.size = ap (λ m. m * h.size) shown.count in
    let behind = record s { left = s.left - n * h.size } in
    let each = each_found R S T M told one h.size at behind vs shown.each (omega (arith, size_is, room)) in
    record {
      after = each.after;
      is = bind_found (region memory h.align at (n * h.size) s) (λ r. read_each R h.size n at r.1) (tt, behind) (read_ok vs each.after)
          (region_there memory h.align at (n * h.size) s shown.aligned shown.inside (omega (arith, size_is, room)))
          (ap (λ m. read_each R h.size m at behind) (sym shown.count) ∙ each.is);
    }

-- ---- chars

pub char_found : (c : ℕ) (s : State) → IsScalarValue c → (if is_scalar_value c then read_ok (scalar c) s else read_err fault.BadChar s) ≡ read_ok (scalar c) s
char_found c s is = rw (scalar_complete c is) refl

-- ---- handles

looked : (table : Handles) (index : ℕ) (r : ResourceId) (h : Handle) → handle_at table index ≡ Some h → h.resource ≡ r → look_up table index r ≡ Ok h
looked table index r h stands of = ap (λ o. of_resource o r) stands ∙ (rw (same_true h.resource r of) refl)

as_value : (h : Handle) (r : ResourceId) (v : HandleValue) → h.resource ≡ r → v ≡ as_read h r → value_of_handle h ≡ handle v
as_value h r v of is = ap (λ x. handle (as_read h x)) of ∙ ap handle (sym is)

pub own_found : (table : Handles) (index : ℕ) (r : ResourceId) (v : HandleValue) (s : State) → ShowsOwned table index r v → Found (read_handle table (handle_type.Own r) index s) (handle v)
unfolding read_handle
own_found table index r v s shown =
    let h = shown.handle.entry in
    let behind = after_meeting s (handle_type.Own r) index in
    record {
      after = behind;
      is = rw (looked table index r h shown.handle.stands shown.handle.of_resource, shown.owned)
          (ap (λ x. read_ok x behind) (as_value h r v shown.handle.of_resource shown.handle.value));
    }

pub borrow_found : (table : Handles) (index : ℕ) (r : ResourceId) (v : HandleValue) (s : State) → ShowsHandle table index r v → Found (read_handle table (handle_type.Borrow r) index s) (handle v)
unfolding read_handle
borrow_found table index r v s shown =
    let h = shown.entry in
    let behind = after_meeting s (handle_type.Borrow r) index in
    record {
      after = behind;
      is = rw (looked table index r h shown.stands shown.of_resource) (ap (λ x. read_ok x behind) (as_value h r v shown.of_resource shown.value));
    }

-- ---- cases that carry nothing

pub plain_found : (w : View) (cs : Cases) (i n p : ℕ) (s : State) → IsPlainCase cs n → read_case (seen_by w) (payloads_from (payloads_of cs)) i n p s ≡ read_ok (bare i) s
plain_found w no_cases i n p s is = absurd is
plain_found w (plain l cs) i zero p s is = refl
plain_found w (plain l cs) i (suc n) p s is = plain_found w cs i n p s is
plain_found w (carrying l t cs) i zero p s is = absurd is
plain_found w (carrying l t cs) i (suc n) p s is = plain_found w cs i n p s is

mutual
  pub shown_found : (w : View) (t : Ty) (p : ℕ) (s : State) (v : Val) → Shows w t p v → content_of (met_at w t p v) ≤ s.left → Found (read_at (seen_by w) (shape_of_type t) p s) v
  shown_found w bool p s (truth b) h room = record { after = s; is = ap (λ c. read_ok (truth c) s) (sym h) }
  shown_found w bool p s v h room = absurd h
  shown_found w (signed k) p s (signed_number z) h room = record { after = s; is = ap (λ c. read_ok (signed_number c) s) (sym h) }
  shown_found w (signed k) p s v h room = absurd h
  shown_found w (unsigned k) p s (number n) h room = record { after = s; is = ap (λ c. read_ok (number c) s) (sym h) }
  shown_found w (unsigned k) p s v h room = absurd h
  shown_found w char p s (scalar c) h room = record {
    after = s;
    is = char_found (number_at 4 w.memory p) s (subst IsScalarValue h.0 h.1) ∙ ap (λ d. read_ok (scalar d) s) (sym h.0);
  }
  shown_found w char p s v h room = absurd h
  shown_found w string p s (text cs) h room = text_found_at w.memory w.encoding (number_at 4 w.memory p) (number_at 4 w.memory (p + 4)) cs s h (omega (arith, room))
  shown_found w string p s v h room = absurd h
  shown_found w (list t) p s (elements vs) h room =
      mapped_found elements (read_elements (read_at (seen_by w) (shape_of_type t)) w.memory (head_of t) (number_at 4 w.memory p) (number_at 4 w.memory (p + 4)) s) vs
      (elements_found (read_at (seen_by w) (shape_of_type t)) (Shows w t) w.table (met_at w t) (λ q a b u e. read_shows w t q a b u e) (λ q a u e r. shown_found w t q a u e r)
      w.memory (head_of t) (number_at 4 w.memory p) (number_at 4 w.memory (p + 4)) s vs h room)
  shown_found w (list t) p s v h room = absurd h
  shown_found w (fixed_list t n) p s (parts vs) h room =
      let each = each_found (read_at (seen_by w) (shape_of_type t)) (Shows w t) w.table (met_at w t) (λ q a b u e. read_shows w t q a b u e) (λ q a u e r. shown_found w t q a u e r)
      (size_of t) p s vs h.1 room in
      mapped_found parts (read_each (read_at (seen_by w) (shape_of_type t)) (size_of t) n p s) vs
      (subst (λ m. Found (read_each (read_at (seen_by w) (shape_of_type t)) (size_of t) m p s) vs) h.0 each)
  shown_found w (fixed_list t n) p s v h room = absurd h
  shown_found w (fields k fs) p s (parts vs) h room = mapped_found parts (read_parts (seen_by w) (parts_from (parts_at fs 0)) p s) vs (fields_found w fs p 0 s vs h room)
  shown_found w (fields k fs) p s v h room = absurd h
  shown_found w (cases k cs) p s (bare i) h room =
      let n = number_at (discriminant_size (case_count cs)) w.memory p in
      record { after = s; is = plain_found w cs n n (p + payload_offset cs) s (subst (IsPlainCase cs) (sym h.0) h.1) ∙ ap (λ j. read_ok (bare j) s) h.0 }
  shown_found w (cases k cs) p s (bearing i v) h room =
      let q = p + payload_offset cs in
      let found = payload_found w cs q i i s v h.1 room in
      subst (λ j. Found (read_case (seen_by w) (payloads_from (payloads_of cs)) j j q s) (bearing i v)) (sym h.0) found
  shown_found w (cases k cs) p s v h room = absurd h
  shown_found w (flags ls) p s (flag_set n) h room = record { after = s; is = ap (λ c. read_ok (flag_set c) s) (sym h) }
  shown_found w (flags ls) p s v h room = absurd h
  shown_found w (own r) p s (handle x) h room = own_found w.table (number_at 4 w.memory p) r x s h
  shown_found w (own r) p s v h room = absurd h
  shown_found w (borrow r) p s (handle x) h room = borrow_found w.table (number_at 4 w.memory p) r x s h
  shown_found w (borrow r) p s v h room = absurd h

  fields_found : (w : View) (fs : Fields) (p end : ℕ) (s : State) (vs : Vals) → ShowFields w fs p end vs → content_of (met_in_fields w fs p end vs) ≤ s.left
      → Found (read_parts (seen_by w) (parts_from (parts_at fs end)) p s) vs
  fields_found w no_fields p end s no_vals h room = record { after = s; is = refl }
  fields_found w no_fields p end s (val v vs) h room = absurd h
  fields_found w (field l t fs) p end s no_vals h room = absurd h
  fields_found w (field l t fs) p end s (val v vs) h room =
      let at = p + align_to (align_of t) end in
      let next = align_to (align_of t) end + size_of t in
      let both = content_both (met_at w t at v) (met_in_fields w fs p next vs) in
      let first = shown_found w t at s v h.0 (omega (arith, both, room)) in
      let met = (read_shows w t at s first.after v first.is).1 in
      let rest = fields_found w fs p next first.after vs h.1 (omega (arith, both, room, met.counted)) in
      let behind = mapped_found (λ us. val v us) (read_parts (seen_by w) (parts_from (parts_at fs next)) p first.after) vs rest in
      record {
        after = behind.after;
        is = bind_found (read_at (seen_by w) (shape_of_type t) at s) (λ r. mapped (λ us. val r.0 us) (read_parts (seen_by w) (parts_from (parts_at fs next)) p r.1)) (v, first.after) (read_ok (val v vs) behind.after) first.is behind.is;
      }

  payload_found : (w : View) (cs : Cases) (p i n : ℕ) (s : State) (v : Val) → ShowsPayload w cs p n v → content_of (met_in_payload w cs p n v) ≤ s.left
      → Found (read_case (seen_by w) (payloads_from (payloads_of cs)) i n p s) (bearing i v)
  payload_found w no_cases p i n s v h room = absurd h
  payload_found w (plain l cs) p i zero s v h room = absurd h
  payload_found w (plain l cs) p i (suc n) s v h room = payload_found w cs p i n s v h room
  payload_found w (carrying l t cs) p i zero s v h room = mapped_found (λ u. bearing i u) (read_at (seen_by w) (shape_of_type t) p s) v (shown_found w t p s v h room)
  payload_found w (carrying l t cs) p i (suc n) s v h room = payload_found w cs p i n s v h room
