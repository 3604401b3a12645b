-- No address is stored to twice, so each byte that is stored stays.
use Rattle.std.proofs.Common.{◌≡◌, ℕ, zero, suc, ◌+◌, ◌-◌, ◌*◌, ◌<◌, ◌≤◌, inl, inr, Bool, true, false, List, [], ◌∷◌, ◌++◌, length, refl, sym, subst, ◌∙◌, arith}
use Rattle.std.specs.Prelude.{max, if◌then◌else◌}
use Rattle.cm_types.specs.Types.{Ty, Fields, Cases, bool, signed, unsigned, char, string, list, fixed_list, fields, cases, flags, own, borrow, no_fields, field, no_cases, plain, carrying}
use Rattle.cm_types.specs.Values.{Val, Vals, no_vals, val, truth, signed_number, number, scalar, text, elements, parts, bare, bearing, flag_set, handle, count_of, HasType, HaveTypes, IsCarriedCase, AllVals}
use Rattle.cm_layout.specs.Alignment.{align_to}
use Rattle.cm_layout.specs.Sizes.{align_of, align_of_fields, align_of_payloads, size_of, end_of, greatest_payload, case_count, discriminant_size, payload_offset}
use Rattle.cm_abi_model.specs.declared.encoding.StringEncoding.{StringEncoding}
use Rattle.cm_abi_model.specs.Parts.{Part, text_part, element_part, parts_in, parts_in_fields, parts_in_payload, parts_each, part_count, handle_count}
use Rattle.cm_abi_model.specs.Receives.{behind, behind_each, behind_fields, behind_payload, call_bytes}
use Rattle.cm_abi_model.specs.Regions.{IsIn, IsInPart, AllAt, AreApart, ArePlaced}
use Rattle.cm_abi_model.specs.Requests.{stored_charset, is_spilled, tuple_of, call_parts}
use Rattle.cm_abi_model.specs.Stores.{Placed, Given, place_of, placed, bytes_of, pointer_bytes, store_each, stored, stored_fields, stored_payload, Holds, IsBeside, Framed, poke}
use Rattle.cm_abi_model.specs.Views.{Way}
use Rattle.cm_abi_model.proofs.StoredShows.{counted}
use Rattle.std.proofs.Common.{slice_index, slice_set}
use Rattle.std.proofs.lemmas.List.{get_or-set_same, get_or-set_other, length-set}
use Rattle.cm_abi_model.proofs.StoredRegions.{all_append, all_weaker, all_placed, number_inside, align_some, fields_align_some, cases_end, max_left, max_right, in_left, in_right, Near, inside, each_inside, fields_inside, payload_inside, behind_inside, behind_each_inside, behind_fields_inside, call_inside}
use Rattle.cm_layout.proofs.SizeLemmas.{place_above}
use Rattle.cm_layout.proofs.LaidLaws.{end_grows}
use Rattle.cm_layout.proofs.AlignLemmas.{payloads_align_pos}

-- ---- bytes at addresses of their own

abbrev NoTwice : List Placed → Type 0
NoTwice [] = Unit {0}
NoTwice (b ∷ bs) = IsBeside b.0 bs × NoTwice bs

beside_all : (P : ℕ → Type 0) (a : ℕ) → (P a → ⊥) → (xs : List Placed) → AllAt P xs → IsBeside a xs
beside_all P a never [] x = tt {0}
beside_all P a never (b ∷ xs) x = ((λ e. never (subst P (sym e) x.0)), beside_all P a never xs x.1)

beside_append : (a : ℕ) (xs ys : List Placed) → IsBeside a xs → IsBeside a ys → IsBeside a (xs ++ ys)
beside_append a [] ys x y = y
beside_append a (b ∷ xs) ys x y = (x.0, beside_append a xs ys x.1 y)

once_append : (P Q : ℕ → Type 0) → ((a : ℕ) → P a → Q a → ⊥) → (xs ys : List Placed) → AllAt P xs → AllAt Q ys → NoTwice xs → NoTwice ys
    → NoTwice (xs ++ ys)
once_append P Q apart [] ys px qy nx ny = ny
once_append P Q apart (b ∷ xs) ys px qy nx ny =
    (beside_append b.0 xs ys nx.0 (beside_all Q b.0 (apart b.0 px.0) ys qy), once_append P Q apart xs ys px.1 qy nx.1 ny)

once_placed : (at : ℕ) (bs : List ℕ) → NoTwice (placed at bs)
once_placed at [] = tt {0}
once_placed at (b ∷ bs) =
    (beside_all (IsIn (at + 1) (length bs)) at (λ h. absurd (omega (arith, h.0))) (placed (at + 1) bs) (all_placed (at + 1) bs), once_placed (at + 1) bs)

pointer_own : (p at n : ℕ) → AllAt (IsIn p 8) (pointer_bytes p at n)
pointer_own p at n =
    all_append (IsIn p 8) (placed p (bytes_of 4 at)) _
    (all_weaker (IsIn p 4) (IsIn p 8) (λ a h. (h.0, omega (arith, h.1))) _ (number_inside 4 p at))
    (all_weaker (IsIn (p + 4) 4) (IsIn p 8) (λ a h. (omega (arith, h.0), omega (arith, h.1))) _ (number_inside 4 (p + 4) n))

pointer_once : (p at n : ℕ) → NoTwice (pointer_bytes p at n)
pointer_once p at n =
    once_append (IsIn p 4) (IsIn (p + 4) 4) (λ a h i. absurd (omega (arith, h.1, i.0))) _ _ (number_inside 4 p at) (number_inside 4 (p + 4) n)
    (once_placed p (bytes_of 4 at)) (once_placed (p + 4) (bytes_of 4 n))

-- ---- stored once, they stay

pub stays : (bs : List Placed) (m : List ℕ) (a : ℕ) → IsBeside a bs → slice_index (poke bs m) a ≡ slice_index m a
stays [] m a x = refl
stays (b ∷ bs) m a x = stays bs (slice_set m b.0 b.1) a x.1 ∙ get_or-set_other m b.0 a b.1 0 x.0

pub poke_length : (bs : List Placed) (m : List ℕ) → length (poke bs m) ≡ length m
poke_length [] m = refl
poke_length (b ∷ bs) m = poke_length bs (slice_set m b.0 b.1) ∙ length-set m b.0 b.1

held_once : (bs : List Placed) (m : List ℕ) → NoTwice bs → AllAt (λ a. a < length m) bs → Holds (poke bs m) bs
held_once [] m n x = tt {0}
held_once (b ∷ bs) m n x = (
  stays bs (slice_set m b.0 b.1) b.0 n.0 ∙ get_or-set_same m b.0 b.1 0 x.0,
  held_once bs (slice_set m b.0 b.1) n.1
      (all_weaker (λ a. a < length m) (λ a. a < length (slice_set m b.0 b.1)) (λ a h. subst (λ l. a < l) (sym (length-set m b.0 b.1)) h) bs x.1),
)

-- ---- a value

module _ (target : StringEncoding) (g : Given) (charset : g.charset ≡ stored_charset target) where
  abbrev Clear : ℕ → ℕ → ℕ → List Part → Type 0
  Clear p size k ps = (a : ℕ) → IsIn p size a → IsInPart target g k ps a → ⊥

  apart_left : (ps qs : List Part) (k : ℕ) → AreApart target g k (ps ++ qs) → AreApart target g k ps
  apart_left [] qs k x = tt {0}
  apart_left (p ∷ ps) qs k x =
      ((λ a h i. x.0 a h (in_left target g charset ps qs (k + 1) a i)), apart_left ps qs (k + 1) x.1)

  apart_right : (ps qs : List Part) (k n : ℕ) → length ps ≡ n → AreApart target g k (ps ++ qs) → AreApart target g (k + n) qs
  apart_right [] qs k n e x = subst (λ i. AreApart target g i qs) (omega (arith, e)) x
  apart_right (p ∷ ps) qs k n e x =
      subst (λ i. AreApart target g i qs) (omega (arith, e)) (apart_right ps qs (k + 1) (n - 1) (omega (arith, e)) x.1)

  across : (ps qs : List Part) (k n a : ℕ) → length ps ≡ n → AreApart target g k (ps ++ qs) → IsInPart target g k ps a
      → IsInPart target g (k + n) qs a → ⊥
  across [] qs k n a e x h i = h
  across (p ∷ ps) qs k n a e x (inl h) i =
      x.0 a h
      (in_right target g charset ps qs (k + 1) (n - 1) a (omega (arith, e)) (subst (λ j. IsInPart target g j qs a) (omega (arith, e)) i))
  across (p ∷ ps) qs k n a e x (inr h) i =
      across ps qs (k + 1) (n - 1) a (omega (arith, e)) x.1 h (subst (λ j. IsInPart target g j qs a) (omega (arith, e)) i)

  -- two neighbours in a place
  two_near : (o m p s q r k n : ℕ) (ps qs : List Part) → length ps ≡ n → o ≤ p → p + s ≤ q → q + r ≤ o + m → Clear o m k (ps ++ qs)
      → AreApart target g k (ps ++ qs) → (a : ℕ) → Near target g charset p s k ps a → Near target g charset q r (k + n) qs a → ⊥
  two_near o m p s q r k n ps qs e low mid high clear apart a (inl h) (inl i) = absurd (omega (arith, h.1, i.0, mid))
  two_near o m p s q r k n ps qs e low mid high clear apart a (inl h) (inr i) =
      clear a (omega (arith, low, h.0), omega (arith, h.1, mid, high)) (in_right target g charset ps qs k n a e i)
  two_near o m p s q r k n ps qs e low mid high clear apart a (inr h) (inl i) =
      clear a (omega (arith, low, mid, i.0), omega (arith, i.1, high)) (in_left target g charset ps qs k a h)
  two_near o m p s q r k n ps qs e low mid high clear apart a (inr h) (inr i) = across ps qs k n a e apart h i

  clear_left : (o m p s k : ℕ) (ps qs : List Part) → o ≤ p → p + s ≤ o + m → Clear o m k (ps ++ qs) → Clear p s k ps
  clear_left o m p s k ps qs low high clear a h i =
      clear a (omega (arith, low, h.0), omega (arith, h.1, high)) (in_left target g charset ps qs k a i)

  clear_right : (o m p s k n : ℕ) (ps qs : List Part) → length ps ≡ n → o ≤ p → p + s ≤ o + m → Clear o m k (ps ++ qs) → Clear p s (k + n) qs
  clear_right o m p s k n ps qs e low high clear a h i =
      clear a (omega (arith, low, h.0), omega (arith, h.1, high)) (in_right target g charset ps qs k n a e i)

  clear_same : (o m p s k : ℕ) (ps : List Part) → o ≤ p → p + s ≤ o + m → Clear o m k ps → Clear p s k ps
  clear_same o m p s k ps low high clear a h i = clear a (omega (arith, low, h.0), omega (arith, h.1, high)) i

  times : (n s : ℕ) → (1 + n) * s ≡ s + n * s
  times n s = grind arith

  case_apart : (p d off size more k : ℕ) (ps : List Part) → d ≤ off → off + size ≤ more → Clear p more k ps → (a : ℕ) → IsIn p d a
      → Near target g charset (p + off) size k ps a → ⊥
  case_apart p d off size more k ps low high clear a h (inl i) = absurd (omega (arith, h.1, i.0, low))
  case_apart p d off size more k ps low high clear a h (inr i) = clear a (h.0, omega (arith, h.1, low, high)) i

  each_once : (t : Ty) → ((v : Val) (p k h : ℕ) → HasType t v → Clear p (size_of t) k (parts_in t v) → AreApart target g k (parts_in t v)
      → NoTwice (stored g t v p k h)) → (vs : Vals) (p k h : ℕ) → AllVals (HasType t) vs
      → Clear p (count_of vs * size_of t) k (parts_each (parts_in t) vs) → AreApart target g k (parts_each (parts_in t) vs)
      → NoTwice (store_each (stored g t) (size_of t) vs p k h)
  each_once t one no_vals p k h typed clear apart = tt {0}
  each_once t one (val v vs) p k h typed clear apart =
      let s = size_of t in
      let n = count_of vs in
      let wide = times n s in
      let ps = parts_in t v in
      let qs = parts_each (parts_in t) vs in
      let c = (counted t v typed.0).0 in
      once_append (Near target g charset p s k ps) (Near target g charset (p + s) (n * s) (k + part_count v) qs)
      (two_near p ((1 + n) * s) p s (p + s) (n * s) k (part_count v) ps qs c (omega arith) (omega arith) (omega (arith, wide)) clear apart)
      _ _ (inside target g charset t v p k h typed.0)
      (each_inside target g charset t (inside target g charset t) vs (p + s) (k + part_count v) (h + handle_count v) typed.1)
      (one v p k h typed.0 (clear_left p ((1 + n) * s) p s k ps qs (omega arith) (omega (arith, wide)) clear) (apart_left ps qs k apart))
      (each_once t one vs (p + s) (k + part_count v) (h + handle_count v) typed.1
      (clear_right p ((1 + n) * s) (p + s) (n * s) k (part_count v) ps qs c (omega arith) (omega (arith, wide)) clear)
      (apart_right ps qs k (part_count v) c apart))

  mutual
    once : (t : Ty) (v : Val) (p k h : ℕ) → HasType t v → Clear p (size_of t) k (parts_in t v) → AreApart target g k (parts_in t v)
        → NoTwice (stored g t v p k h)
    once bool (truth b) p k h typed clear apart = (tt {0}, tt {0})
    once (signed w) (signed_number z) p k h typed clear apart = once_placed p _
    once (unsigned w) (number n) p k h typed clear apart = once_placed p _
    once char (scalar c) p k h typed clear apart = once_placed p _
    once string (text cs) p k h typed clear apart =
        once_append (IsIn p 8) (IsInPart target g k (text_part cs ∷ [])) clear (pointer_bytes p (place_of g k) _) _
        (pointer_own p (place_of g k) _) (behind_inside target g charset string (text cs) k h typed) (pointer_once p (place_of g k) _)
        (once_placed (place_of g k) _)
    once (list t) (elements vs) p k h typed clear apart =
        once_append (IsIn p 8) (IsInPart target g k (parts_in (list t) (elements vs))) clear (pointer_bytes p (place_of g k) (count_of vs)) _
        (pointer_own p (place_of g k) (count_of vs)) (behind_inside target g charset (list t) (elements vs) k h typed)
        (pointer_once p (place_of g k) (count_of vs))
        (each_once t (once t) vs (place_of g k) (k + 1) h typed apart.0 apart.1)
    once (fixed_list t n) (parts vs) p k h typed clear apart =
        each_once t (once t) vs p k h typed.1
        (subst (λ m. Clear p (m * size_of t) k (parts_each (parts_in t) vs)) (sym typed.0) clear) apart
    once (fields c fs) (parts vs) p k h typed clear apart =
        fields_once fs vs p 0 k h typed
        (clear_same p (align_to (align_of_fields fs) (end_of fs 0)) (p + 0) (end_of fs 0 - 0) k (parts_in_fields fs vs) (omega arith)
        (omega (arith, place_above (align_of_fields fs) (end_of fs 0) (fields_align_some fs))) clear) apart
    once (cases c cs) (bare i) p k h typed clear apart = once_placed p _
    once (cases c cs) (bearing i v) p k h typed clear apart =
        let d = discriminant_size (case_count cs) in
        let off = payload_offset cs in
        let low = place_above (align_of_payloads cs) d (payloads_align_pos cs) in
        let past = cases_end cs _ refl in
        once_append (IsIn p d) (Near target g charset (p + off) (greatest_payload cs) k (parts_in_payload cs i v))
        (case_apart p d off (greatest_payload cs) (size_of (cases c cs)) k (parts_in_payload cs i v) low (omega (arith, past)) clear)
        (placed p (bytes_of d i)) _ (number_inside d p i) (payload_inside target g charset cs i v (p + off) k h typed)
        (once_placed p (bytes_of d i))
        (payload_once cs i v (p + off) k h typed
        (clear_same p (size_of (cases c cs)) (p + off) (greatest_payload cs) k (parts_in_payload cs i v) (omega arith) (omega (arith, past)) clear) apart)
    once (flags ls) (flag_set n) p k h typed clear apart = once_placed p _
    once (own r) (handle e) p k h typed clear apart = once_placed p _
    once (borrow r) (handle e) p k h typed clear apart = once_placed p _
    once t v p k h typed clear apart = absurd typed

    fields_once : (fs : Fields) (vs : Vals) (p end k h : ℕ) → HaveTypes fs vs → Clear (p + end) (end_of fs end - end) k (parts_in_fields fs vs)
        → AreApart target g k (parts_in_fields fs vs) → NoTwice (stored_fields g fs vs p end k h)
    fields_once no_fields no_vals p end k h typed clear apart = tt {0}
    fields_once no_fields (val v vs) p end k h typed clear apart = absurd typed
    fields_once (field l t fs) no_vals p end k h typed clear apart = absurd typed
    fields_once (field l t fs) (val v vs) p end k h typed clear apart =
        let q = align_to (align_of t) end in
        let s = size_of t in
        let past = end_grows fs (q + s) in
        let low = place_above (align_of t) end (align_some t) in
        let room = end_of fs (q + s) - end in
        let rest = end_of fs (q + s) - (q + s) in
        let ps = parts_in t v in
        let qs = parts_in_fields fs vs in
        let c = (counted t v typed.0).0 in
        once_append (Near target g charset (p + q) s k ps) (Near target g charset (p + (q + s)) rest (k + part_count v) qs)
        (two_near (p + end) room (p + q) s (p + (q + s)) rest k (part_count v) ps qs c (omega (arith, low)) (omega arith) (omega (arith, past, low)) clear apart)
        _ _ (inside target g charset t v (p + q) k h typed.0)
        (fields_inside target g charset fs vs p (q + s) (k + part_count v) (h + handle_count v) typed.1)
        (once t v (p + q) k h typed.0 (clear_left (p + end) room (p + q) s k ps qs (omega (arith, low)) (omega (arith, past, low)) clear) (apart_left ps qs k apart))
        (fields_once fs vs p (q + s) (k + part_count v) (h + handle_count v) typed.1
        (clear_right (p + end) room (p + (q + s)) rest k (part_count v) ps qs c (omega (arith, low)) (omega (arith, past, low)) clear)
        (apart_right ps qs k (part_count v) c apart))

    payload_once : (cs : Cases) (i : ℕ) (v : Val) (p k h : ℕ) → IsCarriedCase cs i v → Clear p (greatest_payload cs) k (parts_in_payload cs i v)
        → AreApart target g k (parts_in_payload cs i v) → NoTwice (stored_payload g cs i v p k h)
    payload_once no_cases i v p k h typed clear apart = absurd typed
    payload_once (plain l cs) zero v p k h typed clear apart = absurd typed
    payload_once (plain l cs) (suc i) v p k h typed clear apart = payload_once cs i v p k h typed clear apart
    payload_once (carrying l t cs) zero v p k h typed clear apart =
        once t v p k h typed
        (clear_same p (max (size_of t) (greatest_payload cs)) p (size_of t) k (parts_in t v) (omega arith) (omega (arith, max_left (size_of t) (greatest_payload cs))) clear)
        apart
    payload_once (carrying l t cs) (suc i) v p k h typed clear apart =
        payload_once cs i v p k h typed
        (clear_same p (max (size_of t) (greatest_payload cs)) p (greatest_payload cs) k (parts_in_payload cs i v) (omega arith)
        (omega (arith, max_right (size_of t) (greatest_payload cs))) clear)
        apart

  -- ---- behind core values

  each_behind_once : (t : Ty) → ((v : Val) (k h : ℕ) → HasType t v → AreApart target g k (parts_in t v) → NoTwice (behind g t v k h))
      → (vs : Vals) (k h : ℕ) → AllVals (HasType t) vs → AreApart target g k (parts_each (parts_in t) vs)
      → NoTwice (behind_each (behind g t) vs k h)
  each_behind_once t one no_vals k h typed apart = tt {0}
  each_behind_once t one (val v vs) k h typed apart =
      let ps = parts_in t v in
      let qs = parts_each (parts_in t) vs in
      let c = (counted t v typed.0).0 in
      once_append (IsInPart target g k ps) (IsInPart target g (k + part_count v) qs) (λ a. across ps qs k (part_count v) a c apart) _ _
      (behind_inside target g charset t v k h typed.0)
      (behind_each_inside target g charset t (behind_inside target g charset t) vs (k + part_count v) (h + handle_count v) typed.1)
      (one v k h typed.0 (apart_left ps qs k apart))
      (each_behind_once t one vs (k + part_count v) (h + handle_count v) typed.1 (apart_right ps qs k (part_count v) c apart))

  mutual
    behind_once : (t : Ty) (v : Val) (k h : ℕ) → HasType t v → AreApart target g k (parts_in t v) → NoTwice (behind g t v k h)
    behind_once bool (truth b) k h typed apart = tt {0}
    behind_once (signed w) (signed_number z) k h typed apart = tt {0}
    behind_once (unsigned w) (number n) k h typed apart = tt {0}
    behind_once char (scalar c) k h typed apart = tt {0}
    behind_once string (text cs) k h typed apart = once_placed (place_of g k) _
    behind_once (list t) (elements vs) k h typed apart = each_once t (once t) vs (place_of g k) (k + 1) h typed apart.0 apart.1
    behind_once (fixed_list t n) (parts vs) k h typed apart = each_behind_once t (behind_once t) vs k h typed.1 apart
    behind_once (fields c fs) (parts vs) k h typed apart = fields_behind_once fs vs k h typed apart
    behind_once (cases c cs) (bare i) k h typed apart = tt {0}
    behind_once (cases c cs) (bearing i v) k h typed apart = payload_behind_once cs i v k h typed apart
    behind_once (flags ls) (flag_set n) k h typed apart = tt {0}
    behind_once (own r) (handle e) k h typed apart = tt {0}
    behind_once (borrow r) (handle e) k h typed apart = tt {0}
    behind_once t v k h typed apart = absurd typed

    fields_behind_once : (fs : Fields) (vs : Vals) (k h : ℕ) → HaveTypes fs vs → AreApart target g k (parts_in_fields fs vs)
        → NoTwice (behind_fields g fs vs k h)
    fields_behind_once no_fields no_vals k h typed apart = tt {0}
    fields_behind_once no_fields (val v vs) k h typed apart = absurd typed
    fields_behind_once (field l t fs) no_vals k h typed apart = absurd typed
    fields_behind_once (field l t fs) (val v vs) k h typed apart =
        let ps = parts_in t v in
        let qs = parts_in_fields fs vs in
        let c = (counted t v typed.0).0 in
        once_append (IsInPart target g k ps) (IsInPart target g (k + part_count v) qs) (λ a. across ps qs k (part_count v) a c apart) _ _
        (behind_inside target g charset t v k h typed.0)
        (behind_fields_inside target g charset fs vs (k + part_count v) (h + handle_count v) typed.1)
        (behind_once t v k h typed.0 (apart_left ps qs k apart))
        (fields_behind_once fs vs (k + part_count v) (h + handle_count v) typed.1 (apart_right ps qs k (part_count v) c apart))

    payload_behind_once : (cs : Cases) (i : ℕ) (v : Val) (k h : ℕ) → IsCarriedCase cs i v → AreApart target g k (parts_in_payload cs i v)
        → NoTwice (behind_payload g cs i v k h)
    payload_behind_once no_cases i v k h typed apart = absurd typed
    payload_behind_once (plain l cs) zero v k h typed apart = absurd typed
    payload_behind_once (plain l cs) (suc i) v k h typed apart = payload_behind_once cs i v k h typed apart
    payload_behind_once (carrying l t cs) zero v k h typed apart = behind_once t v k h typed apart
    payload_behind_once (carrying l t cs) (suc i) v k h typed apart = payload_behind_once cs i v k h typed apart

  -- ---- a call

  in_memory : (n k : ℕ) (ps : List Part) (a : ℕ) → ArePlaced target n g k ps → IsInPart target g k ps a → a < n
  in_memory n k [] a x h = absurd h
  in_memory n k (p ∷ ps) a x (inl h) = omega (arith, h.1, x.0.inside)
  in_memory n k (p ∷ ps) a x (inr h) = in_memory n (k + 1) ps a x.1 h

  call_once : (way : Way) (types : Fields) (v : Val) → HasType (tuple_of types) v → AreApart target g 0 (call_parts way types v)
      → NoTwice (call_bytes g way types v)
  call_once way types v typed apart = by_case (is_spilled way types) apart
    where
      area : Part
      area = element_part 1 (size_of (tuple_of types)) (align_of (tuple_of types))

      wide : Clear (place_of g 0) (1 * size_of (tuple_of types)) 1 (parts_in (tuple_of types) v)
          → Clear (place_of g 0) (size_of (tuple_of types)) 1 (parts_in (tuple_of types) v)
      wide clear a h i = clear a (h.0, omega (arith, h.1)) i

      by_case : (b : Bool) → AreApart target g 0 (if b then element_part 1 (size_of (tuple_of types)) (align_of (tuple_of types)) ∷ parts_in (tuple_of types) v else parts_in (tuple_of types) v)
          → NoTwice (if b then stored g (tuple_of types) v (place_of g 0) 1 0 else behind g (tuple_of types) v 0 0)
      by_case true x = once (tuple_of types) v (place_of g 0) 1 0 typed (wide x.0) x.1
      by_case false x = behind_once (tuple_of types) v 0 0 typed x

pub call_stays : (way : Way) (types : Fields) (g : Given) (v : Val) (target : StringEncoding) (memory : List ℕ) → HasType (tuple_of types) v
    → g.charset ≡ stored_charset target → ArePlaced target (length memory) g 0 (call_parts way types v)
    → AreApart target g 0 (call_parts way types v)
    → Holds (poke (call_bytes g way types v) memory) (call_bytes g way types v)
    × Framed memory (poke (call_bytes g way types v) memory) (call_bytes g way types v)
call_stays way types g v target memory typed charset placed apart =
    let bytes = call_bytes g way types v in (
      held_once bytes memory (call_once target g charset way types v typed apart)
          (all_weaker (IsInPart target g 0 (call_parts way types v)) (λ a. a < length memory)
          (λ a h. in_memory target g charset (length memory) 0 (call_parts way types v) a placed h) bytes
          (call_inside way types g v target typed charset)),
      record { length_stays = poke_length bytes memory; others_stay = λ a beside. stays bytes memory a beside },
    )
