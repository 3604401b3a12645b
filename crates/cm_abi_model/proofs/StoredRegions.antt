-- What is stored of a value lies in its own place and in the regions of its parts.
use Rattle.std.proofs.Common.{◌≡◌, ℕ, zero, suc, ◌+◌, ◌-◌, ◌*◌, ◌/◌, ◌≤◌, ◌⊎◌, inl, inr, Bool, List, [], ◌∷◌, ◌++◌, length, refl, sym, subst, arith}
use Rattle.std.specs.Prelude.{max, if◌then◌else◌}
use Rattle.std.proofs.lemmas.Bool.{cases_Bool}
use Rattle.cm_types.specs.Types.{Ty, Fields, Cases, width_bytes, bool, signed, unsigned, char, string, list, fixed_list, fields, cases, flags, own, borrow, no_fields, field, no_cases, plain, carrying}
use Rattle.cm_types.specs.Values.{Val, Vals, no_vals, val, truth, signed_number, number, scalar, text, elements, parts, bare, bearing, flag_set, handle, count_of, HasType, HaveTypes, IsCarriedCase, AllVals}
use Rattle.cm_layout.specs.Alignment.{align_to}
use Rattle.cm_layout.specs.Sizes.{align_of, align_of_fields, align_of_payloads, size_of, end_of, greatest_payload, case_count, discriminant_size, flags_size, payload_offset}
use Rattle.cm_abi_model.specs.declared.encoding.StringEncoding.{StringEncoding}
use Rattle.cm_abi_model.specs.Parts.{Part, text_part, element_part, parts_in, parts_in_fields, parts_in_payload, parts_each, part_count, handle_count}
use Rattle.cm_abi_model.specs.Receives.{behind, behind_each, behind_fields, behind_payload, call_bytes}
use Rattle.cm_abi_model.specs.Regions.{IsIn, IsInPart, AllAt}
use Rattle.cm_abi_model.specs.Requests.{stored_charset, text_bytes, is_spilled, tuple_of, call_parts}
use Rattle.cm_abi_model.specs.Stores.{Placed, Given, place_of, placed, bytes_of, pointer_bytes, store_each, stored, stored_fields, stored_payload}
use Rattle.cm_abi_model.specs.Views.{Way}
use Rattle.cm_abi_model.proofs.StoredShows.{counted}
use Rattle.cm_layout.proofs.SizeLemmas.{place_above}
use Rattle.cm_layout.proofs.AlignLemmas.{discriminant_pos, flags_pos, payloads_align_pos}
use Rattle.cm_layout.proofs.LaidLaws.{end_grows}
use Rattle.cm_types.proofs.TypesLaws.{width_some}

-- ---- bytes at addresses

pub all_append : (P : ℕ → Type 0) (xs ys : List Placed) → AllAt P xs → AllAt P ys → AllAt P (xs ++ ys)
all_append P [] ys x y = y
all_append P (b ∷ xs) ys x y = (x.0, all_append P xs ys x.1 y)

pub all_weaker : (P Q : ℕ → Type 0) → ((a : ℕ) → P a → Q a) → (xs : List Placed) → AllAt P xs → AllAt Q xs
all_weaker P Q h [] x = x
all_weaker P Q h (b ∷ xs) x = (h b.0 x.0, all_weaker P Q h xs x.1)

pub all_placed : (at : ℕ) (bs : List ℕ) → AllAt (IsIn at (length bs)) (placed at bs)
all_placed at [] = tt {0}
all_placed at (b ∷ bs) = (
  (omega arith, omega arith),
  all_weaker (IsIn (at + 1) (length bs)) (IsIn at (suc (length bs))) (λ a h. (omega (arith, h.0), omega (arith, h.1))) (placed (at + 1) bs)
      (all_placed (at + 1) bs),
)

bytes_count : (n x : ℕ) → length (bytes_of n x) ≡ n
unfolding bytes_of
bytes_count zero x = refl
bytes_count (suc n) x = omega (arith, bytes_count n (x / 256))

pub number_inside : (n at x : ℕ) → AllAt (IsIn at n) (placed at (bytes_of n x))
number_inside n at x = subst (λ m. AllAt (IsIn at m) (placed at (bytes_of n x))) (bytes_count n x) (all_placed at (bytes_of n x))

-- ---- sizes

pub max_left : (a b : ℕ) → a ≤ max a b
max_left a b = omega arith

pub max_right : (a b : ℕ) → b ≤ max a b
max_right a b = omega arith

mutual
  pub align_some : (t : Ty) → 1 ≤ align_of t
  align_some bool = omega arith
  align_some (signed w) = width_some w
  align_some (unsigned w) = width_some w
  align_some char = omega arith
  align_some string = omega arith
  align_some (list t) = omega arith
  align_some (fixed_list t n) = align_some t
  align_some (fields k fs) = fields_align_some fs
  align_some (cases k cs) =
      omega (arith, discriminant_pos (case_count cs), max_left (discriminant_size (case_count cs)) (align_of_payloads cs))
  align_some (flags ls) = flags_pos (length ls)
  align_some (own r) = omega arith
  align_some (borrow r) = omega arith

  pub fields_align_some : (fs : Fields) → 1 ≤ align_of_fields fs
  fields_align_some no_fields = omega arith
  fields_align_some (field l t fs) = omega (arith, align_some t, max_left (align_of t) (align_of_fields fs))

-- what has cases ends behind its greatest payload
pub cases_end : (cs : Cases) (n : ℕ) → n ≡ max (discriminant_size (case_count cs)) (align_of_payloads cs)
    → payload_offset cs + greatest_payload cs ≤ align_to n (payload_offset cs + greatest_payload cs)
cases_end cs n e =
    place_above n (payload_offset cs + greatest_payload cs)
    (omega (arith, e, discriminant_pos (case_count cs), max_left (discriminant_size (case_count cs)) (align_of_payloads cs)))

module _ (target : StringEncoding) (g : Given) (charset : g.charset ≡ stored_charset target) where
  -- in the regions of parts among others
  pub in_left : (ps qs : List Part) (k a : ℕ) → IsInPart target g k ps a → IsInPart target g k (ps ++ qs) a
  in_left [] qs k a h = absurd h
  in_left (p ∷ ps) qs k a (inl h) = inl h
  in_left (p ∷ ps) qs k a (inr h) = inr (in_left ps qs (k + 1) a h)

  pub in_right : (ps qs : List Part) (k n a : ℕ) → length ps ≡ n → IsInPart target g (k + n) qs a → IsInPart target g k (ps ++ qs) a
  in_right [] qs k n a e h = subst (λ i. IsInPart target g i qs a) (omega (arith, e)) h
  in_right (p ∷ ps) qs k n a e h =
      inr (in_right ps qs (k + 1) (n - 1) a (omega (arith, e)) (subst (λ i. IsInPart target g i qs a) (omega (arith, e)) h))

  -- in a place, or in the regions of parts
  abbrev pub Near : ℕ → ℕ → ℕ → List Part → ℕ → Type 0
  Near p size k ps a = IsIn p size a ⊎ IsInPart target g k ps a

  pub near_left : (p size q more : ℕ) (k : ℕ) (ps qs : List Part) → q ≤ p → p + size ≤ q + more → (a : ℕ) → Near p size k ps a
      → Near q more k (ps ++ qs) a
  near_left p size q more k ps qs low high a (inl h) = inl (omega (arith, low, h.0), omega (arith, high, h.1))
  near_left p size q more k ps qs low high a (inr h) = inr (in_left ps qs k a h)

  pub near_right : (p size q more : ℕ) (k n : ℕ) (ps qs : List Part) → length ps ≡ n → q ≤ p → p + size ≤ q + more → (a : ℕ)
      → Near p size (k + n) qs a → Near q more k (ps ++ qs) a
  near_right p size q more k n ps qs e low high a (inl h) = inl (omega (arith, low, h.0), omega (arith, high, h.1))
  near_right p size q more k n ps qs e low high a (inr h) = inr (in_right ps qs k n a e h)

  pub near_own : (p size q more : ℕ) (k : ℕ) (ps : List Part) → q ≤ p → p + size ≤ q + more → (a : ℕ) → IsIn p size a → Near q more k ps a
  near_own p size q more k ps low high a h = inl (omega (arith, low, h.0), omega (arith, high, h.1))

  abbrev pub Inside : Ty → Val → ℕ → ℕ → ℕ → Type 0
  Inside t v p k h = AllAt (Near p (size_of t) k (parts_in t v)) (stored g t v p k h)

  pub each_inside : (t : Ty) → ((v : Val) (p k h : ℕ) → HasType t v → Inside t v p k h) → (vs : Vals) (p k h : ℕ) → AllVals (HasType t) vs
      → AllAt (Near p (count_of vs * size_of t) k (parts_each (parts_in t) vs)) (store_each (stored g t) (size_of t) vs p k h)
  each_inside t one no_vals p k h typed = tt {0}
  each_inside t one (val v vs) p k h typed =
      let s = size_of t in
      let n = count_of vs in
      let wide : (1 + n) * s ≡ s + n * s = mul-suc n s in
      all_append _ (stored g t v p k h) _
      (all_weaker _ _ (near_left p s p ((1 + n) * s) k (parts_in t v) (parts_each (parts_in t) vs) (omega arith) (omega (arith, wide))) _
      (one v p k h typed.0))
      (all_weaker _ _
      (near_right (p + s) (n * s) p ((1 + n) * s) k (part_count v) (parts_in t v) (parts_each (parts_in t) vs) (counted t v typed.0).0
      (omega arith) (omega (arith, wide))) _
      (each_inside t one vs (p + s) (k + part_count v) (h + handle_count v) typed.1))
    where
      mul-suc : (n s : ℕ) → (1 + n) * s ≡ s + n * s
      mul-suc n s = grind arith

  pub near_same : (p size q more : ℕ) (k : ℕ) (ps : List Part) → q ≤ p → p + size ≤ q + more → (a : ℕ) → Near p size k ps a → Near q more k ps a
  near_same p size q more k ps low high a (inl h) = inl (omega (arith, low, h.0), omega (arith, high, h.1))
  near_same p size q more k ps low high a (inr h) = inr h

  pub own_inside : (n p q more x k : ℕ) (ps : List Part) → q ≤ p → p + n ≤ q + more → AllAt (Near q more k ps) (placed p (bytes_of n x))
  own_inside n p q more x k ps low high =
      all_weaker (IsIn p n) _ (near_own p n q more k ps low high) (placed p (bytes_of n x)) (number_inside n p x)

  pointer_inside : (p at n k : ℕ) (ps : List Part) → AllAt (Near p 8 k ps) (pointer_bytes p at n)
  pointer_inside p at n k ps =
      all_append _ (placed p (bytes_of 4 at)) _ (own_inside 4 p p 8 at k ps (omega arith) (omega arith))
      (own_inside 4 (p + 4) p 8 n k ps (omega arith) (omega arith))

  pub text_inside : (cs : List ℕ) (k a : ℕ) → IsIn (place_of g k) (length (text_bytes g.charset cs)) a
      → IsInPart target g k (text_part cs ∷ []) a
  text_inside cs k a h = inl (subst (λ c. IsIn (place_of g k) (length (text_bytes c cs)) a) charset h)

  pub elements_inside : (count size align k : ℕ) (ps : List Part) (a : ℕ) → Near (place_of g k) (count * size) (k + 1) ps a
      → IsInPart target g k (element_part count size align ∷ ps) a
  elements_inside count size align k ps a (inl h) = inl h
  elements_inside count size align k ps a (inr h) = inr h

  pub cases_room : (c : Cases) (n : ℕ) → n ≡ max (discriminant_size (case_count c)) (align_of_payloads c)
      → discriminant_size (case_count c) ≤ align_to n (payload_offset c + greatest_payload c)
  cases_room c n e =
      omega (arith, cases_end c n e, place_above (align_of_payloads c) (discriminant_size (case_count c)) (payloads_align_pos c))

  mutual
    pub inside : (t : Ty) (v : Val) (p k h : ℕ) → HasType t v → Inside t v p k h
    inside bool (truth b) p k h typed = (inl (omega arith, omega arith), tt {0})
    inside (signed w) (signed_number z) p k h typed = own_inside (width_bytes w) p p (width_bytes w) _ k [] (omega arith) (omega arith)
    inside (unsigned w) (number n) p k h typed = own_inside (width_bytes w) p p (width_bytes w) n k [] (omega arith) (omega arith)
    inside char (scalar c) p k h typed = own_inside 4 p p 4 c k [] (omega arith) (omega arith)
    inside string (text cs) p k h typed =
        all_append _ (pointer_bytes p (place_of g k) _) _ (pointer_inside p (place_of g k) _ k (text_part cs ∷ []))
        (all_weaker (IsIn (place_of g k) (length (text_bytes g.charset cs))) _ (λ a h. inr (text_inside cs k a h)) _
        (all_placed (place_of g k) (text_bytes g.charset cs)))
    inside (list t) (elements vs) p k h typed =
        all_append _ (pointer_bytes p (place_of g k) (count_of vs)) _ (pointer_inside p (place_of g k) (count_of vs) k (element_part (count_of vs) (size_of t) (align_of t) ∷ parts_each (parts_in t) vs))
        (all_weaker (Near (place_of g k) (count_of vs * size_of t) (k + 1) (parts_each (parts_in t) vs)) _
        (λ a h. inr (elements_inside (count_of vs) (size_of t) (align_of t) k (parts_each (parts_in t) vs) a h)) _
        (each_inside t (inside t) vs (place_of g k) (k + 1) h typed))
    inside (fixed_list t n) (parts vs) p k h typed =
        subst (λ m. AllAt (Near p (m * size_of t) k (parts_each (parts_in t) vs)) (store_each (stored g t) (size_of t) vs p k h)) typed.0
        (each_inside t (inside t) vs p k h typed.1)
    inside (fields c fs) (parts vs) p k h typed =
        all_weaker _ _
        (near_same (p + 0) (end_of fs 0 - 0) p (align_to (align_of_fields fs) (end_of fs 0)) k (parts_in_fields fs vs) (omega arith)
        (omega (arith, place_above (align_of_fields fs) (end_of fs 0) (fields_align_some fs)))) _
        (fields_inside fs vs p 0 k h typed)
    inside (cases c cs) (bare i) p k h typed =
        own_inside (discriminant_size (case_count cs)) p p (size_of (cases c cs)) i k [] (omega arith) (omega (arith, cases_room cs _ refl))
    inside (cases c cs) (bearing i v) p k h typed =
        all_append _ (placed p (bytes_of (discriminant_size (case_count cs)) i)) _
        (own_inside (discriminant_size (case_count cs)) p p (size_of (cases c cs)) i k (parts_in_payload cs i v) (omega arith) (omega (arith, cases_room cs _ refl)))
        (all_weaker _ _
        (near_same (p + payload_offset cs) (greatest_payload cs) p (size_of (cases c cs)) k (parts_in_payload cs i v) (omega arith) (omega (arith, cases_end cs _ refl))) _
        (payload_inside cs i v (p + payload_offset cs) k h typed))
    inside (flags ls) (flag_set n) p k h typed = own_inside (flags_size (length ls)) p p (flags_size (length ls)) n k [] (omega arith) (omega arith)
    inside (own r) (handle e) p k h typed = own_inside 4 p p 4 _ k [] (omega arith) (omega arith)
    inside (borrow r) (handle e) p k h typed = own_inside 4 p p 4 _ k [] (omega arith) (omega arith)
    inside t v p k h typed = absurd typed

    pub fields_inside : (fs : Fields) (vs : Vals) (p end k h : ℕ) → HaveTypes fs vs
        → AllAt (Near (p + end) (end_of fs end - end) k (parts_in_fields fs vs)) (stored_fields g fs vs p end k h)
    fields_inside no_fields no_vals p end k h typed = tt {0}
    fields_inside no_fields (val v vs) p end k h typed = absurd typed
    fields_inside (field l t fs) no_vals p end k h typed = absurd typed
    fields_inside (field l t fs) (val v vs) p end k h typed =
        let q = align_to (align_of t) end in
        let past = end_grows fs (q + size_of t) in
        let low = place_above (align_of t) end (align_some t) in
        let room = end_of fs (q + size_of t) - end in
        all_append _ (stored g t v (p + q) k h) _
        (all_weaker _ _
        (near_left (p + q) (size_of t) (p + end) room k (parts_in t v) (parts_in_fields fs vs) (omega (arith, low)) (omega (arith, past, low))) _
        (inside t v (p + q) k h typed.0))
        (all_weaker _ _
        (near_right (p + (q + size_of t)) (end_of fs (q + size_of t) - (q + size_of t)) (p + end) room k (part_count v) (parts_in t v)
        (parts_in_fields fs vs) (counted t v typed.0).0 (omega (arith, low)) (omega (arith, past, low))) _
        (fields_inside fs vs p (q + size_of t) (k + part_count v) (h + handle_count v) typed.1))

    pub payload_inside : (cs : Cases) (i : ℕ) (v : Val) (p k h : ℕ) → IsCarriedCase cs i v
        → AllAt (Near p (greatest_payload cs) k (parts_in_payload cs i v)) (stored_payload g cs i v p k h)
    payload_inside no_cases i v p k h typed = absurd typed
    payload_inside (plain l cs) zero v p k h typed = absurd typed
    payload_inside (plain l cs) (suc i) v p k h typed = payload_inside cs i v p k h typed
    payload_inside (carrying l t cs) zero v p k h typed =
        all_weaker _ _
        (near_same p (size_of t) p (max (size_of t) (greatest_payload cs)) k (parts_in t v) (omega arith) (omega (arith, max_left (size_of t) (greatest_payload cs)))) _
        (inside t v p k h typed)
    payload_inside (carrying l t cs) (suc i) v p k h typed =
        all_weaker _ _
        (near_same p (greatest_payload cs) p (max (size_of t) (greatest_payload cs)) k (parts_in_payload cs i v) (omega arith)
        (omega (arith, max_right (size_of t) (greatest_payload cs)))) _
        (payload_inside cs i v p k h typed)

  -- ---- behind core values

  pub behind_each_inside : (t : Ty) → ((v : Val) (k h : ℕ) → HasType t v → AllAt (IsInPart target g k (parts_in t v)) (behind g t v k h))
      → (vs : Vals) (k h : ℕ) → AllVals (HasType t) vs
      → AllAt (IsInPart target g k (parts_each (parts_in t) vs)) (behind_each (behind g t) vs k h)
  behind_each_inside t one no_vals k h typed = tt {0}
  behind_each_inside t one (val v vs) k h typed =
      all_append _ (behind g t v k h) _
      (all_weaker _ _ (in_left (parts_in t v) (parts_each (parts_in t) vs) k) _ (one v k h typed.0))
      (all_weaker _ _ (λ a. in_right (parts_in t v) (parts_each (parts_in t) vs) k (part_count v) a (counted t v typed.0).0) _
      (behind_each_inside t one vs (k + part_count v) (h + handle_count v) typed.1))

  mutual
    pub behind_inside : (t : Ty) (v : Val) (k h : ℕ) → HasType t v → AllAt (IsInPart target g k (parts_in t v)) (behind g t v k h)
    behind_inside bool (truth b) k h typed = tt {0}
    behind_inside (signed w) (signed_number z) k h typed = tt {0}
    behind_inside (unsigned w) (number n) k h typed = tt {0}
    behind_inside char (scalar c) k h typed = tt {0}
    behind_inside string (text cs) k h typed =
        all_weaker (IsIn (place_of g k) (length (text_bytes g.charset cs))) _ (text_inside cs k) _ (all_placed (place_of g k) (text_bytes g.charset cs))
    behind_inside (list t) (elements vs) k h typed =
        all_weaker (Near (place_of g k) (count_of vs * size_of t) (k + 1) (parts_each (parts_in t) vs)) _
        (elements_inside (count_of vs) (size_of t) (align_of t) k (parts_each (parts_in t) vs)) _
        (each_inside t (inside t) vs (place_of g k) (k + 1) h typed)
    behind_inside (fixed_list t n) (parts vs) k h typed = behind_each_inside t (behind_inside t) vs k h typed.1
    behind_inside (fields c fs) (parts vs) k h typed = behind_fields_inside fs vs k h typed
    behind_inside (cases c cs) (bare i) k h typed = tt {0}
    behind_inside (cases c cs) (bearing i v) k h typed = behind_payload_inside cs i v k h typed
    behind_inside (flags ls) (flag_set n) k h typed = tt {0}
    behind_inside (own r) (handle e) k h typed = tt {0}
    behind_inside (borrow r) (handle e) k h typed = tt {0}
    behind_inside t v k h typed = absurd typed

    pub behind_fields_inside : (fs : Fields) (vs : Vals) (k h : ℕ) → HaveTypes fs vs
        → AllAt (IsInPart target g k (parts_in_fields fs vs)) (behind_fields g fs vs k h)
    behind_fields_inside no_fields no_vals k h typed = tt {0}
    behind_fields_inside no_fields (val v vs) k h typed = absurd typed
    behind_fields_inside (field l t fs) no_vals k h typed = absurd typed
    behind_fields_inside (field l t fs) (val v vs) k h typed =
        all_append _ (behind g t v k h) _
        (all_weaker _ _ (in_left (parts_in t v) (parts_in_fields fs vs) k) _ (behind_inside t v k h typed.0))
        (all_weaker _ _ (λ a. in_right (parts_in t v) (parts_in_fields fs vs) k (part_count v) a (counted t v typed.0).0) _
        (behind_fields_inside fs vs (k + part_count v) (h + handle_count v) typed.1))

    pub behind_payload_inside : (cs : Cases) (i : ℕ) (v : Val) (k h : ℕ) → IsCarriedCase cs i v
        → AllAt (IsInPart target g k (parts_in_payload cs i v)) (behind_payload g cs i v k h)
    behind_payload_inside no_cases i v k h typed = absurd typed
    behind_payload_inside (plain l cs) zero v k h typed = absurd typed
    behind_payload_inside (plain l cs) (suc i) v k h typed = behind_payload_inside cs i v k h typed
    behind_payload_inside (carrying l t cs) zero v k h typed = behind_inside t v k h typed
    behind_payload_inside (carrying l t cs) (suc i) v k h typed = behind_payload_inside cs i v k h typed

-- ---- a call

pub call_inside : (way : Way) (types : Fields) (g : Given) (v : Val) (target : StringEncoding) → HasType (tuple_of types) v
    → g.charset ≡ stored_charset target → AllAt (IsInPart target g 0 (call_parts way types v)) (call_bytes g way types v)
call_inside way types g v target typed charset = elim (cases_Bool (is_spilled way types)) [
  | inl e ↦ subst (λ b. Goal b b) (sym e)
      (all_weaker (Near target g charset (place_of g 0) (size_of (tuple_of types)) 1 (parts_in (tuple_of types) v)) _
      (λ a h. first a h) _ (inside target g charset (tuple_of types) v (place_of g 0) 1 0 typed))
  | inr e ↦ subst (λ b. Goal b b) (sym e) (behind_inside target g charset (tuple_of types) v 0 0 typed)
]
  where
    area : Part
    area = element_part 1 (size_of (tuple_of types)) (align_of (tuple_of types))

    Goal : Bool → Bool → Type 0
    Goal b c =
        AllAt (IsInPart target g 0 (if b then area ∷ parts_in (tuple_of types) v else parts_in (tuple_of types) v))
        (if c then stored g (tuple_of types) v (place_of g 0) 1 0 else behind g (tuple_of types) v 0 0)

    first : (a : ℕ) → Near target g charset (place_of g 0) (size_of (tuple_of types)) 1 (parts_in (tuple_of types) v) a
        → IsInPart target g 0 (area ∷ parts_in (tuple_of types) v) a
    first a (inl h) = inl (h.0, omega (arith, h.1))
    first a (inr h) = inr h
