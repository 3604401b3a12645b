-- What is read at an address is what the bytes there show.
use Rattle.std.proofs.Common.{◌≡◌, ℕ, zero, suc, ◌+◌, ◌-◌, ◌≤◌, Bool, true, false, List, [], ◌∷◌, Option, Some, None, Result, Ok, Err, refl, sym, ap, subst, ◌∙◌}
use Rattle.std.specs.Prelude.{if◌then◌else◌}
use Rattle.cm_types.specs.declared.resource.ResourceId.{ResourceId}
use Rattle.cm_types.specs.Types.{Ty, Fields, Cases, CasesKind, bool, signed, unsigned, char, string, list, fixed_list, fields, cases, flags, own, borrow, no_fields, field, no_cases, plain, carrying}
use Rattle.cm_types.specs.Values.{HandleValue, Val, Vals, no_vals, val, text, elements, parts, bare, bearing, handle, IsPlainCase}
use Rattle.cm_handles.specs.Handles.{Handles, handle_at, is_borrow, is_same_resource, look_up, of_resource}
use Rattle.cm_handles.specs.declared.handle.Handle.{Handle}
use Rattle.cm_handles.specs.declared.handle.HandleKind.{HandleKind}
use Rattle.cm_handles.specs.declared.handle.HandleKind.TheVariants.{Owned, Borrowed}
use Rattle.cm_handles.specs.declared.fault.HandleFault.{HandleFault}
use Rattle.cm_handles.specs.declared.fault.HandleFault.TheVariants as handle_fault
use Rattle.cm_layout.specs.declared.layouts.HandleType.TheVariants as handle_type
use Rattle.cm_layout.specs.Alignment.{align_to}
use Rattle.cm_layout.specs.Sizes.{align_of, size_of, case_count, discriminant_size, payload_offset}
use Rattle.cm_layout.specs.Shapes.{shape_of_type, parts_at, parts_from, payloads_of, payloads_from, head_of}
use Rattle.cm_abi_model.specs.Numbers.{number_at}
use Rattle.cm_abi_model.specs.Shows.{Shows, ShowFields, ShowsHandle, ShowsOwned, ShowsPayload}
use Rattle.cm_abi_model.specs.Texts.{ShowsText, bytes_from, charset_of, text_align, text_size}
use Rattle.cm_abi_model.specs.Views.{View}
use Rattle.cm_abi_model.specs.declared.fault.AbiFault.{AbiFault}
use Rattle.cm_abi_model.specs.declared.encoding.StringEncoding.{StringEncoding}
use Rattle.cm_abi_load.specs.Decoded.{decoded}
use Rattle.cm_abi_model.specs.Taken.{lent, met_at, met_in_fields, met_in_payload, taken}
use Rattle.cm_abi_load.specs.Meeting.{Meets}
use Rattle.cm_abi_load.specs.Outcomes.{State, mapped}
use Rattle.cm_abi_load.specs.Reading.{after_meeting, after_text, handle_value, read_at, read_case, read_each, read_elements, read_handle, read_parts, read_text, region, seen_by, text_value, value_of_handle}
use Rattle.cm_abi_load.specs.Decoding.{decoded_text}
use Rattle.cm_abi_load.proofs.MeetLaws.{meets_both, meets_borrow, meets_none, meets_own, meets_text}
use Rattle.cm_abi_load.proofs.ShownLaws.{bind_ok, char_ok, each_shown, elements_shown, mapped_ok, moved, read_ok, region_ok}
use Rattle.cm_handles.proofs.HandleLaws.{as_read}
use Rattle.cm_handles.proofs.HandlesLaws.{same_is}

-- what is read at an address is shown there, and what is met in it is told
abbrev pub Told : View → Ty → ℕ → State → Val → State → Type 0
Told w t p s v after = Shows w t p v × Meets w.table s after (met_at w t p v)

-- strings
text_found : (P : Val → State → Type 0) (d : Option (List ℕ)) (s t : State) (v : Val) → text_value d s ≡ Ok (v, t) → ((cs : List ℕ) → d ≡ Some cs → P (text cs) s) → P v t
text_found P None s t v e h = absurd (cc)
text_found P (Some cs) s t v e h = moved P (text cs) v s t e (h cs refl)

pub text_shown : (P : Val → State → Type 0) (memory : List ℕ) (e : StringEncoding) (at n : ℕ) (s t : State) (v : Val) → read_text memory e at n s ≡ Ok (v, t)
    → ((cs : List ℕ) → ShowsText e memory at n cs → text_size e n ≤ s.left → P (text cs) (after_text e n (record s { left = s.left - text_size e n }))) → P v t
unfolding read_text
text_shown P memory e at n s t v is h =
    let first = bind_ok (region memory (text_align e) at (text_size e n) s) (λ r. text_value (decoded (charset_of e n) (bytes_from memory at (text_size e n))) (after_text e n r.1)) (v, t) is in
    let there = region_ok memory (text_align e) at (text_size e n) s first.0 first.1 in
    text_found P (decoded (charset_of e n) (bytes_from memory at (text_size e n))) (after_text e n first.0.1) t v first.2 (λ cs found. subst (λ x. P (text cs) (after_text e n x)) there.counted
    (h cs (record { aligned = there.aligned; inside = there.inside; text = decoded_text (charset_of e n) cs (bytes_from memory at (text_size e n)) found }) there.room))

found_of : (o : Option Handle) (r : ResourceId) (h : Handle) → of_resource o r ≡ Ok h → (o ≡ Some h) × (h.resource ≡ r)
found_of None r h e = absurd (cc)
found_of (Some x) r h e = picked (is_same_resource x.resource r) refl e
  where
    picked : (b : Bool) → is_same_resource x.resource r ≡ b → (if b then Ok x else Err handle_fault.WrongResource) ≡ Ok h → (Some x ≡ Some h) × (h.resource ≡ r)
    picked true is k = let same : x ≡ h = cc in (ap Some same, ap (λ (y : Handle). y.resource) (sym same) ∙ same_is x.resource r is)
    picked false is k = absurd (cc)

owned_of : (P : Val → State → Type 0) (h : Handle) (k : HandleKind) → h.kind ≡ k → (s t : State) (e : AbiFault × State) (v : Val)
    → (if is_borrow k then Err e else read_ok (value_of_handle h) s) ≡ read_ok v t → (h.kind ≡ Owned → P (value_of_handle h) s) → P v t
owned_of P h Owned kind s t e v is go = moved P (value_of_handle h) v s t is (go kind)
owned_of P h (Borrowed call) kind s t e v is go = absurd (cc)

shown_as : (h : Handle) (r : ResourceId) → h.resource ≡ r → as_read h h.resource ≡ as_read h r
shown_as h r e = ap (as_read h) e

own_shown : (P : Val → State → Type 0) (table : Handles) (index : ℕ) (r : ResourceId) (s t : State) (v : Val) (looked : Result Handle HandleFault) → look_up table index r ≡ looked
    → handle_value (handle_type.Own r) looked s ≡ Ok (v, t) → ((h : Handle) → handle_at table index ≡ Some h → h.resource ≡ r → h.kind ≡ Owned → P (value_of_handle h) s) → P v t
own_shown P table index r s t v (Err handle_fault.NoHandle) e is go = absurd (cc)
own_shown P table index r s t v (Err handle_fault.WrongResource) e is go = absurd (cc)
own_shown P table index r s t v (Err handle_fault.StillLent) e is go = absurd (cc)
own_shown P table index r s t v (Err handle_fault.NotOwned) e is go = absurd (cc)
own_shown P table index r s t v (Err handle_fault.Full) e is go = absurd (cc)
own_shown P table index r s t v (Err handle_fault.Memory) e is go = absurd (cc)
own_shown P table index r s t v (Ok h) e is go =
    let found = found_of (handle_at table index) r h e in
    owned_of P h h.kind refl s t _ v is (λ kind. go h found.0 found.1 kind)

borrow_shown : (P : Val → State → Type 0) (table : Handles) (index : ℕ) (r : ResourceId) (s t : State) (v : Val) (looked : Result Handle HandleFault) → look_up table index r ≡ looked
    → handle_value (handle_type.Borrow r) looked s ≡ Ok (v, t) → ((h : Handle) → handle_at table index ≡ Some h → h.resource ≡ r → P (value_of_handle h) s) → P v t
borrow_shown P table index r s t v (Err handle_fault.NoHandle) e is go = absurd (cc)
borrow_shown P table index r s t v (Err handle_fault.WrongResource) e is go = absurd (cc)
borrow_shown P table index r s t v (Err handle_fault.StillLent) e is go = absurd (cc)
borrow_shown P table index r s t v (Err handle_fault.NotOwned) e is go = absurd (cc)
borrow_shown P table index r s t v (Err handle_fault.Full) e is go = absurd (cc)
borrow_shown P table index r s t v (Err handle_fault.Memory) e is go = absurd (cc)
borrow_shown P table index r s t v (Ok h) e is go =
    let found = found_of (handle_at table index) r h e in
    moved P (value_of_handle h) v s t is (go h found.0 found.1)

handle_is : (table : Handles) (index : ℕ) (r : ResourceId) (h : Handle) → handle_at table index ≡ Some h → h.resource ≡ r
    → ShowsHandle table index r (as_read h h.resource)
handle_is table index r h stands of = record { entry = h; stands = stands; of_resource = of; value = shown_as h r of }

own_is : (table : Handles) (index : ℕ) (r : ResourceId) (h : Handle) → handle_at table index ≡ Some h → h.resource ≡ r → h.kind ≡ Owned
    → ShowsOwned table index r (as_read h h.resource)
unfolding handle_is
own_is table index r h stands of kind = record { handle = handle_is table index r h stands of; owned = kind }

-- what is read as a handle, and what is met
pub own_read : (P : Val → State → Type 0) (table : Handles) (index : ℕ) (r : ResourceId) (s t : State) (v : Val) → read_handle table (handle_type.Own r) index s ≡ Ok (v, t)
    → ((h : HandleValue) → ShowsOwned table index r h → (after : State) → Meets table s after (taken index ∷ []) → P (handle h) after) → P v t
unfolding read_handle
own_read P table index r s t v e go =
    own_shown P table index r (after_meeting s (handle_type.Own r) index) t v (look_up table index r) refl e (λ h stands of kind.
    go _ (own_is table index r h stands of kind) (after_meeting s (handle_type.Own r) index) (meets_own table s r index h stands of kind))

pub borrow_read : (P : Val → State → Type 0) (table : Handles) (index : ℕ) (r : ResourceId) (s t : State) (v : Val) → read_handle table (handle_type.Borrow r) index s ≡ Ok (v, t)
    → ((h : HandleValue) → ShowsHandle table index r h → (after : State) → Meets table s after (lent index ∷ []) → P (handle h) after) → P v t
unfolding read_handle
borrow_read P table index r s t v e go =
    borrow_shown P table index r (after_meeting s (handle_type.Borrow r) index) t v (look_up table index r) refl e (λ h stands of.
    go _ (handle_is table index r h stands of) (after_meeting s (handle_type.Borrow r) index) (meets_borrow table s r index h stands of))

mutual
  pub read_shows : (w : View) (t : Ty) (p : ℕ) (s after : State) (v : Val) → read_at (seen_by w) (shape_of_type t) p s ≡ Ok (v, after) → Told w t p s v after
  read_shows w bool p s after v e = moved (Told w bool p s) _ v s after e (refl, meets_none w.table s)
  read_shows w (signed k) p s after v e = moved (Told w (signed k) p s) _ v s after e (refl, meets_none w.table s)
  read_shows w (unsigned k) p s after v e = moved (Told w (unsigned k) p s) _ v s after e (refl, meets_none w.table s)
  read_shows w char p s after v e = char_ok (Told w char p s) (number_at 4 w.memory p) s after v e (λ is. ((refl, is), meets_none w.table s))
  read_shows w string p s after v e =
      text_shown (Told w string p s) w.memory w.encoding (number_at 4 w.memory p) (number_at 4 w.memory (p + 4)) s after v e
      (λ cs shown room. (shown, meets_text w.table s w.encoding (number_at 4 w.memory (p + 4)) room))
  read_shows w (list t) p s after v e =
      let r = mapped_ok elements (read_elements (read_at (seen_by w) (shape_of_type t)) w.memory (head_of t) (number_at 4 w.memory p) (number_at 4 w.memory (p + 4)) s) (v, after) e in
      subst (λ u. Told w (list t) p s u after) r.2
      (elements_shown (read_at (seen_by w) (shape_of_type t)) (Shows w t) w.table (met_at w t) (λ q a b u h. read_shows w t q a b u h) w.memory (head_of t) (number_at 4 w.memory p) (number_at 4 w.memory (p + 4)) s after r.0 r.1)
  read_shows w (fixed_list t n) p s after v e =
      let r = mapped_ok parts (read_each (read_at (seen_by w) (shape_of_type t)) (size_of t) n p s) (v, after) e in
      let each = each_shown (read_at (seen_by w) (shape_of_type t)) (Shows w t) w.table (met_at w t) (λ q a b u h. read_shows w t q a b u h) (size_of t) n p s after r.0 r.1 in
      subst (λ u. Told w (fixed_list t n) p s u after) r.2 ((each.0, each.1), each.2)
  read_shows w (fields k fs) p s after v e =
      let r = mapped_ok parts (read_parts (seen_by w) (parts_from (parts_at fs 0)) p s) (v, after) e in
      subst (λ u. Told w (fields k fs) p s u after) r.2 (fields_shown w fs p 0 s after r.0 r.1)
  read_shows w (cases k cs) p s after v e =
      let i = number_at (discriminant_size (case_count cs)) w.memory p in
      case_shown w k cs cs p i refl i s after v (λ u h. h) (λ u h. h) (λ u. refl) e
  read_shows w (flags ls) p s after v e = moved (Told w (flags ls) p s) _ v s after e (refl, meets_none w.table s)
  read_shows w (own r) p s after v e = own_read (Told w (own r) p s) w.table (number_at 4 w.memory p) r s after v e (λ h shown a met. (shown, met))
  read_shows w (borrow r) p s after v e = borrow_read (Told w (borrow r) p s) w.table (number_at 4 w.memory p) r s after v e (λ h shown a met. (shown, met))

  fields_shown : (w : View) (fs : Fields) (p end : ℕ) (s after : State) (vs : Vals) → read_parts (seen_by w) (parts_from (parts_at fs end)) p s ≡ Ok (vs, after)
      → ShowFields w fs p end vs × Meets w.table s after (met_in_fields w fs p end vs)
  fields_shown w no_fields p end s after vs e = moved (λ us a. ShowFields w no_fields p end us × Meets w.table s a (met_in_fields w no_fields p end us)) no_vals vs s after e (tt, meets_none w.table s)
  fields_shown w (field l t fs) p end s after vs e =
      let at = p + align_to (align_of t) end in
      let next = align_to (align_of t) end + size_of t in
      let first = bind_ok (read_at (seen_by w) (shape_of_type t) at s) (λ r. mapped (λ us. val r.0 us) (read_parts (seen_by w) (parts_from (parts_at fs next)) p r.1)) (vs, after) e in
      let rest = mapped_ok (λ us. val first.0.0 us) (read_parts (seen_by w) (parts_from (parts_at fs next)) p first.0.1) (vs, after) first.2 in
      let here = read_shows w t at s first.0.1 first.0.0 first.1 in
      let below = fields_shown w fs p next first.0.1 after rest.0 rest.1 in
      subst (λ us. ShowFields w (field l t fs) p end us × Meets w.table s after (met_in_fields w (field l t fs) p end us)) rest.2
      ((here.0, below.0), meets_both w.table s first.0.1 after (met_at w t at first.0.0) (met_in_fields w fs p next rest.0) here.1 below.1)

  -- of all cases those before the rest are left out
  case_shown : (w : View) (k : CasesKind) (all rest : Cases) (p i : ℕ) → number_at (discriminant_size (case_count all)) w.memory p ≡ i → (n : ℕ) (s after : State) (v : Val)
      → ((u : ℕ) → IsPlainCase rest n → IsPlainCase all i) → ((u : Val) → ShowsPayload w rest (p + payload_offset all) n u → ShowsPayload w all (p + payload_offset all) i u)
      → ((u : Val) → met_in_payload w rest (p + payload_offset all) n u ≡ met_in_payload w all (p + payload_offset all) i u)
      → read_case (seen_by w) (payloads_from (payloads_of rest)) i n (p + payload_offset all) s ≡ Ok (v, after) → Told w (cases k all) p s v after
  case_shown w k all no_cases p i is n s after v bare_is bearing_is met_is e = absurd (cc)
  case_shown w k all (plain l cs) p i is zero s after v bare_is bearing_is met_is e = moved (Told w (cases k all) p s) (bare i) v s after e ((is, bare_is 0 tt), meets_none w.table s)
  case_shown w k all (plain l cs) p i is (suc n) s after v bare_is bearing_is met_is e = case_shown w k all cs p i is n s after v bare_is bearing_is met_is e
  case_shown w k all (carrying l t cs) p i is zero s after v bare_is bearing_is met_is e =
      let r = mapped_ok (λ u. bearing i u) (read_at (seen_by w) (shape_of_type t) (p + payload_offset all) s) (v, after) e in
      let here = read_shows w t (p + payload_offset all) s after r.0 r.1 in
      subst (λ u. Told w (cases k all) p s u after) r.2 ((is, bearing_is r.0 here.0), subst (Meets w.table s after) (met_is r.0) here.1)
  case_shown w k all (carrying l t cs) p i is (suc n) s after v bare_is bearing_is met_is e = case_shown w k all cs p i is n s after v bare_is bearing_is met_is e
