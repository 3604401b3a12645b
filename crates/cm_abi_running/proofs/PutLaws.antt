-- Running the puts of a type is storing the value that is read.
use Rattle.std.proofs.Common.{◌≡◌, ℕ, zero, suc, ◌+◌, ◌*◌, ◌-◌, ◌/◌, ◌%◌, ◌^◌, ◌<◌, ◌≤◌, ◌⊎◌, inl, inr, ◌==◌, not, List, [], ◌∷◌, ◌++◌, refl, sym, ap, subst, ◌∙◌, arith}
use Rattle.std.proofs.lemmas.Bool.{cases_lt, eqb-true, lt-ltb, le-ltb}
use Rattle.std.proofs.Math.Nat.{mod-eq_of_lt}
use Rattle.std.specs.Prelude.{Bool, true, false, nat_lt, if◌then◌else◌, slice_index, Option, Some, None, Result, Ok, Err, neg_ℤ, pos, ⊤}
use Rattle.cm_types.specs.Values.{HandleValue, Val, Vals, no_vals, val, truth, signed_number, number, scalar, text, elements, parts, bare, bearing, flag_set, handle, count_of}
use Rattle.cm_types.specs.TypedValues.{is_scalar_value}
use Rattle.cm_handles.specs.Handles.{is_borrow, look_up}
use Rattle.cm_handles.specs.declared.handle.Handle.{Handle}
use Rattle.cm_handles.specs.declared.fault.HandleFault.{HandleFault}
use Rattle.cm_handles.specs.declared.fault.HandleFault.TheVariants as handle_fault
use Rattle.cm_layout.specs.declared.heads.Head.{Head}
use Rattle.cm_layout.specs.declared.layouts.HandleType.{HandleType}
use Rattle.cm_layout.specs.declared.layouts.HandleType.TheVariants as handle_type
use Rattle.cm_layout.specs.declared.layouts.Leaf.{Leaf}
use Rattle.cm_layout.specs.declared.layouts.Leaf.TheVariants as leaf
use Rattle.cm_layout.specs.Laid.{leaf_size}
use Rattle.cm_layout.specs.Shapes.{Shape, Parts, Payloads, leaf_shape, string_shape, list_shape, fixed_list_shape, fields_shape, cases_shape, handle_shape, no_parts, part, no_payloads, nothing, carried}
use Rattle.cm_abi_model.specs.declared.fault.AbiFault.{AbiFault}
use Rattle.cm_abi_model.specs.declared.fault.AbiFault.TheVariants as fault
use Rattle.cm_abi_model.specs.Numbers.{as_signed, number_at}
use Rattle.cm_abi_model.specs.Parts.{handle_count, handle_count_each, part_count, part_count_each}
use Rattle.cm_abi_model.specs.Stores.{Given, Placed, bytes_of, from_signed, number_of, place_of, placed, pointer_bytes, store_each}
use Rattle.cm_abi_load.specs.Decoded.{decoded}
use Rattle.cm_abi_load.specs.Outcomes.{Outcome, State, mapped, ◌>>=◌}
use Rattle.cm_abi_load.specs.Leaves.{handle_value_fault}
use Rattle.cm_abi_model.specs.Texts.{bytes_from, charset_of, text_align, text_size}
use Rattle.cm_abi_load.specs.Reading.{Source, after_meeting, after_text, handle_value, region, resource_of, value_of_handle, leaf_value, read_at, read_case, read_each, read_elements, read_handle, read_parts, read_text, text_value}
use Rattle.cm_abi_load.specs.Sized.{ArePartsSized, ArePayloadsSized, IsNumberSize, IsSized, IsSizedLeaf}
use Rattle.cm_abi_store.specs.Storing.{stored_by, stored_by_case, stored_by_fields}
use Rattle.cm_abi_programs.specs.Puts.{Puts, field_puts, flags_put, handle_put, leaf_puts, list_put, no_puts, one_put, payload_puts, puts_of, run_put, text_put, truth_put, with_placed}
use Rattle.cm_abi_running.specs.Putting.{Written, all_written, case_written, copied, list_written, or_no_scalars, scalars_of_text, stored_as, text_written, written_bytes, written_each, written_then}
use Rattle.cm_abi_running.proofs.PutLemmas.{cases_written, not_moved, number_back, one_written, placed_written, row_written, written_none, written_same, written_twice}

-- ---- what was read

abbrev Is_ok : {A B : Type 0} → Result A B → Type 0
Is_ok (Ok x) = ⊤
Is_ok (Err e) = ⊥

-- this was read, or not, and the reader has come so far
abbrev pub read_as : {A : Type 0} → A → State → Outcome A
read_as u s = Ok (u, s)

abbrev pub failed : (A : Type 0) → AbiFault × State → Outcome A
failed A e = Err e

pub no_read : {A : Type 0} (e : AbiFault × State) (v : A) (after : State) → failed A e ≡ read_as v after → ⊥
no_read {A} e v after is = subst (λ (r : Outcome A). Is_ok r) (sym is) tt

-- where both of two readings came to an end, the first did
pub came : {A B : Type 0} (r : Outcome A) (f : A × State → Outcome B) (v : B) (after : State) → (r >>= f) ≡ read_as v after
    → (x : A × State) × (r ≡ Ok x) × (f x ≡ read_as v after)
came (Ok x) f v after is = (x, refl, is)
came (Err e) f v after is = absurd (no_read e v after is)

abbrev okay : {A : Type 0} (B : Type 0) → A → Result A B
okay B x = Ok x

abbrev ok_or : {A B : Type 0} → A → Result A B → A
ok_or d (Ok x) = x
ok_or d (Err e) = d

ok_same : {A : Type 0} (B : Type 0) (x y : A) → okay B x ≡ okay B y → x ≡ y
ok_same B x y e = ap (λ r. ok_or x r) e

pub value_is : {A : Type 0} (u v : A) (s after : State) → read_as u s ≡ read_as v after → u ≡ v
value_is {A} u v s after is =
    let x : A × State = (u, s) in
    let y : A × State = (v, after) in
    ap (λ (r : A × State). r.0) (ok_same (AbiFault × State) x y is)

-- what reading made of something that was read
pub made : {A B : Type 0} (J : A → B) (r : Outcome A) (v : B) (after : State) → mapped J r ≡ Ok (v, after) → (u : A) × (r ≡ Ok (u, after)) × (J u ≡ v)
made {A} {B} J (Ok x) v after is =
    let y : B × State = (J x.0, x.1) in
    let z : B × State = (v, after) in
    let both : y ≡ z = ok_same (AbiFault × State) y z is in
    (x.0, ap (λ s. read_as x.0 s) (ap (λ (r : B × State). r.1) both), ap (λ (r : B × State). r.0) both)
made J (Err e) v after is = absurd (no_read e v after is)

-- a scalar, where the number is one
abbrev pub scalar_read : Bool → ℕ → State → Outcome Val
scalar_read b n s = if b then Ok (scalar n, s) else Err (fault.BadChar, s)

-- a handle, unless it is a borrow
abbrev owned_read : Bool → Val → State → Outcome Val
owned_read b u s = if b then Err (fault.NotOwned, s) else Ok (u, s)

faulty : (e : HandleFault) (s after : State) (v : Val) → handle_value_fault e s ≡ Ok (v, after) → ⊥
faulty handle_fault.WrongResource s after v is = no_read (fault.WrongResource, s) v after is
faulty handle_fault.NoHandle s after v is = no_read (fault.NoHandle, s) v after is
faulty handle_fault.StillLent s after v is = no_read (fault.NoHandle, s) v after is
faulty handle_fault.NotOwned s after v is = no_read (fault.NoHandle, s) v after is
faulty handle_fault.Full s after v is = no_read (fault.NoHandle, s) v after is
faulty handle_fault.Memory s after v is = no_read (fault.NoHandle, s) v after is

pub found_is : (t : HandleType) (r : Result Handle HandleFault) (s after : State) (v : Val) → handle_value t r s ≡ Ok (v, after)
    → (e : HandleValue) × (handle e ≡ v)
found_is t (Err e) s after v is = absurd (faulty e s after v is)
found_is (handle_type.Own r) (Ok e) s after v is = owned (is_borrow e.kind) is
  where
    owned : (b : Bool) → owned_read b (value_of_handle e) s ≡ Ok (v, after) → (x : HandleValue) × (handle x ≡ v)
    owned true is = absurd (no_read (fault.NotOwned, s) v after is)
    owned false is = (_, value_is (value_of_handle e) v s after is)
found_is (handle_type.Borrow r) (Ok e) s after v is = (_, value_is (value_of_handle e) v s after is)

-- as many values are read as there are
pub each_counted : (read : ℕ → State → Outcome Val) (d n p : ℕ) (s after : State) (vs : Vals) → read_each read d n p s ≡ Ok (vs, after) → count_of vs ≡ n
each_counted read d zero p s after vs is = ap count_of (sym (value_is no_vals vs s after is))
each_counted read d (suc n) p s after vs is =
    let x = came (read p s) (λ r. mapped (λ us. val r.0 us) (read_each read d n (p + d) r.1)) vs after is in
    let us = made (λ us. val x.0.0 us) (read_each read d n (p + d) x.0.1) vs after x.2 in
    let rest = each_counted read d n (p + d) x.0.1 after us.0 us.1 in
    let whole : count_of (val x.0.0 us.0) ≡ count_of vs = ap count_of us.2 in
    omega (arith, rest, whole)

-- ---- what has no part and no handle

abbrev counted : List Placed → ℕ → ℕ → Written
counted bs n m = record { bytes = bs; part = n; handle = m }

as_stored : (bs : List Placed) (k h i j : ℕ) → i ≡ 0 → j ≡ 0 → written_bytes bs k h ≡ counted bs (k + i) (h + j)
as_stored bs k h i j none free = ap (λ n. counted bs n h) {x = k} {y = k + i} (omega (arith, none)) ∙ ap (λ n. counted bs (k + i) n) {x = h} {y = h + j} (omega (arith, free))

-- ---- numbers with a sign

abbrev shift : ℕ → ℕ → ℕ
shift zero x = x
shift (suc b) x = 256 * shift b x

bytes_shifted : (b n x : ℕ) → bytes_of b (n + shift b x) ≡ bytes_of b n
unfolding bytes_of
bytes_shifted zero n x = refl
bytes_shifted (suc b) n x =
    let low : (n + 256 * shift b x) % 256 ≡ n % 256 = omega arith in
    let high : (n + 256 * shift b x) / 256 ≡ n / 256 + shift b x = omega arith in
    rw (low, high, bytes_shifted b (n / 256) x) refl

below_zero : (n : ℕ) → 0 < n → from_signed 8 (neg_ℤ (pos n)) ≡ 2 ^ 64 - n
below_zero zero lt = absurd (omega arith)
below_zero (suc n) lt = omega arith

signed_back : (b n half limit : ℕ) → n < limit → limit ≡ 2 * half → limit ≤ 2 ^ 64 → (x : ℕ) → 2 ^ 64 - limit ≡ shift b x
    → bytes_of b (from_signed 8 (if nat_lt n half then pos n else neg_ℤ (pos (limit - n)))) ≡ bytes_of b n
signed_back b n half limit below is most x shifted = elim (cases_lt n half) [
  | inl lt ↦ rw (lt-ltb n half lt) refl
  | inr past ↦ rw (le-ltb n half past, below_zero (limit - n) (omega (arith, below)), up) (bytes_shifted b n x)
]
  where
    up : 2 ^ 64 - (limit - n) ≡ n + shift b x
    up = omega (arith, below, most, shifted)

module _ (m : List ℕ) (small : (i : ℕ) → slice_index m i < 256) where
  number_below : (b p : ℕ) → number_at b m p < shift b 1
  unfolding number_at
  number_below zero p = omega arith
  number_below (suc b) p =
      let first = small p in
      let rest = number_below b (p + 1) in
      omega (arith, first, rest)

  signed_bytes : (b p : ℕ) → IsNumberSize b → bytes_of b (from_signed 8 (as_signed b (number_at b m p))) ≡ bytes_of b (number_at b m p)
  signed_bytes b p (inl is) = rw is (signed_back 1 (number_at 1 m p) 128 256 (number_below 1 p) refl (omega arith) 0xFF_FFFF_FFFF_FFFF refl)
  signed_bytes b p (inr (inl is)) = rw is (signed_back 2 (number_at 2 m p) 0x8000 0x1_0000 (number_below 2 p) refl (omega arith) 0xFFFF_FFFF_FFFF refl)
  signed_bytes b p (inr (inr (inl is))) = rw is (signed_back 4 (number_at 4 m p) 0x8000_0000 0x1_0000_0000 (number_below 4 p) refl (omega arith) 0xFFFF_FFFF refl)
  signed_bytes b p (inr (inr (inr is))) = rw is (signed_back 8 (number_at 8 m p) 0x8000_0000_0000_0000 0x1_0000_0000_0000_0000 (number_below 8 p) refl (omega arith) 0 refl)

  -- a set of flags with a label for each of its bits
  all_flags : (b p : ℕ) → IsNumberSize b → number_at b m p % 2 ^ (8 * b) ≡ number_at b m p
  all_flags b p (inl is) = rw is (mod-eq_of_lt (number_below 1 p))
  all_flags b p (inr (inl is)) = rw is (mod-eq_of_lt (number_below 2 p))
  all_flags b p (inr (inr (inl is))) = rw is (mod-eq_of_lt (number_below 4 p))
  all_flags b p (inr (inr (inr is))) = rw is (mod-eq_of_lt (number_below 8 p))

one_byte : (b : Bool) → bytes_of 1 (if b then 1 else 0) ≡ (if b then 1 else 0) ∷ []
unfolding bytes_of
one_byte true = refl
one_byte false = refl

-- ---- values

module _ (w : Source) (g : Given) (small : (i : ℕ) → slice_index w.memory i < 256) where
  -- values in a row, as they are stored
  abbrev row_as : Shape → ℕ → Vals → ℕ → ℕ → ℕ → Written
  row_as x d vs q k h =
      record {
        bytes = store_each (stored_by g x) d vs q k h;
        part = k + part_count_each vs;
        handle = h + handle_count_each vs;
      }

  -- fields, as they are stored
  abbrev fields_as : Parts → Vals → ℕ → ℕ → ℕ → Written
  fields_as ps vs q k h =
      record {
        bytes = stored_by_fields g ps vs q k h;
        part = k + part_count_each vs;
        handle = h + handle_count_each vs;
      }

  counted_on : (bs : List Placed) (a b c d e f : ℕ) → a + b + c ≡ a + (b + c) → d + e + f ≡ d + (e + f)
      → counted bs (a + b + c) (d + e + f) ≡ counted bs (a + (b + c)) (d + (e + f))
  counted_on bs a b c d e f i j = ap (λ n. counted bs n (d + e + f)) i ∙ ap (λ n. counted bs (a + (b + c)) n) j

  none_counted : (k h : ℕ) → written_bytes [] k h ≡ counted [] (k + 0) (h + 0)
  none_counted k h = as_stored [] k h 0 0 refl refl

  -- ---- leaves

  leaf_put : (l : Leaf) → IsSizedLeaf l → (p : ℕ) (s after : State) (v : Val) → leaf_value l (number_at (leaf_size l) w.memory p) s ≡ Ok (v, after)
      → (q k h : ℕ) → all_written w g (leaf_puts l) p q k h ≡ stored_as g (leaf_shape l) v q k h
  leaf_put leaf.Bool sized p s after v is q k h =
      let n = number_at 1 w.memory p in
      one_written w g (truth_put 0) p q k h
      ∙ not_moved (λ x y. written_bytes ((y, (if not (number_at 1 w.memory x == 0) then 1 else 0)) ∷ []) k h) p q
      ∙ ap (λ bs. written_bytes (placed q bs) k h) (sym (one_byte (not (n == 0))))
      ∙ as_stored (placed q (bytes_of 1 (if not (n == 0) then 1 else 0))) k h 0 0 refl refl
      ∙ ap (λ u. stored_as g (leaf_shape leaf.Bool) u q k h) (value_is (truth (not (n == 0))) v s after is)
  leaf_put (leaf.Signed b) sized p s after v is q k h =
      let n = number_at b w.memory p in
      one_written w g (run_put 0 b) p q k h
      ∙ not_moved (λ x y. written_bytes (copied w.memory b x y) k h) p q
      ∙ ap (λ bs. written_bytes bs k h) (sym (number_back w.memory small b p q))
      ∙ ap (λ bs. written_bytes (placed q bs) k h) (sym (signed_bytes w.memory small b p sized))
      ∙ as_stored (placed q (bytes_of b (from_signed 8 (as_signed b n)))) k h 0 0 refl refl
      ∙ ap (λ u. stored_as g (leaf_shape (leaf.Signed b)) u q k h) (value_is (signed_number (as_signed b n)) v s after is)
  leaf_put (leaf.Unsigned b) sized p s after v is q k h =
      let n = number_at b w.memory p in
      one_written w g (run_put 0 b) p q k h
      ∙ not_moved (λ x y. written_bytes (copied w.memory b x y) k h) p q
      ∙ ap (λ bs. written_bytes bs k h) (sym (number_back w.memory small b p q))
      ∙ as_stored (placed q (bytes_of b n)) k h 0 0 refl refl
      ∙ ap (λ u. stored_as g (leaf_shape (leaf.Unsigned b)) u q k h) (value_is (number n) v s after is)
  leaf_put leaf.Char sized p s after v is q k h =
      let n = number_at 4 w.memory p in
      one_written w g (run_put 0 4) p q k h
      ∙ not_moved (λ x y. written_bytes (copied w.memory 4 x y) k h) p q
      ∙ ap (λ bs. written_bytes bs k h) (sym (number_back w.memory small 4 p q))
      ∙ as_stored (placed q (bytes_of 4 n)) k h 0 0 refl refl
      ∙ ap (λ u. stored_as g (leaf_shape leaf.Char) u q k h) (scalar_is (is_scalar_value n) n is)
    where
      scalar_is : (b : Bool) (n : ℕ) → scalar_read b n s ≡ Ok (v, after) → scalar n ≡ v
      scalar_is true n is = value_is (scalar n) v s after is
      scalar_is false n is = absurd (no_read (fault.BadChar, s) v after is)
  leaf_put (leaf.Flags labels b) sized p s after v is q k h =
      pick (labels == 8 * b) refl
      ∙ as_stored (placed q (bytes_of b (number_at b w.memory p % 2 ^ labels))) k h 0 0 refl refl
      ∙ ap (λ u. stored_as g (leaf_shape (leaf.Flags labels b)) u q k h) (value_is (flag_set (number_at b w.memory p % 2 ^ labels)) v s after is)
    where
      pick : (all : Bool) → (labels == 8 * b) ≡ all
          → all_written w g (if all then one_put (run_put 0 b) else one_put (flags_put 0 b labels)) p q k h
          ≡ written_bytes (placed q (bytes_of b (number_at b w.memory p % 2 ^ labels))) k h
      pick true e =
          let n = number_at b w.memory p in
          one_written w g (run_put 0 b) p q k h
          ∙ not_moved (λ x y. written_bytes (copied w.memory b x y) k h) p q
          ∙ ap (λ bs. written_bytes bs k h) (sym (number_back w.memory small b p q))
          ∙ ap (λ x. written_bytes (placed q (bytes_of b x)) k h) (sym (all_flags w.memory small b p sized.0))
          ∙ ap (λ x. written_bytes (placed q (bytes_of b (n % 2 ^ x))) k h) (sym (eqb-true labels (8 * b) e))
      pick false e =
          one_written w g (flags_put 0 b labels) p q k h
          ∙ not_moved (λ x y. written_bytes (placed y (bytes_of b (number_at b w.memory x % 2 ^ labels))) k h) p q

  -- ---- strings and handles

  text_put_is : (o : Option (List ℕ)) (s after : State) (v : Val) → text_value o s ≡ Ok (v, after)
      → (q k h : ℕ) → text_written g (or_no_scalars o) q k h ≡ stored_as g string_shape v q k h
  text_put_is None s after v is q k h = absurd (no_read (fault.BadText, s) v after is)
  text_put_is (Some cs) s after v is q k h =
      ap (λ n. whole n) {x = h} {y = h + 0} (omega arith) ∙ ap (λ u. stored_as g string_shape u q k h) (value_is (text cs) v s after is)
    where
      whole : ℕ → Written
      whole n = record { bytes = (stored_as g string_shape (text cs) q k h).bytes; part = k + 1; handle = n }

  string_put : (at n : ℕ) (s after : State) (v : Val) → read_text w.memory w.encoding at n s ≡ Ok (v, after)
      → (q k h : ℕ) → text_written g (scalars_of_text w at n) q k h ≡ stored_as g string_shape v q k h
  unfolding read_text
  string_put at n s after v is q k h =
      let bytes = decoded (charset_of w.encoding n) (bytes_from w.memory at (text_size w.encoding n)) in
      let both = came (region w.memory (text_align w.encoding) at (text_size w.encoding n) s) (λ r. text_value bytes (after_text w.encoding n r.1)) v after is in
      text_put_is bytes (after_text w.encoding n both.0.1) after v both.2 q k h

  handle_put_is : (t : HandleType) (n : ℕ) (s after : State) (v : Val) → read_handle w.table t n s ≡ Ok (v, after)
      → (p q k h : ℕ) → all_written w g (one_put (handle_put 0)) p q k h ≡ stored_as g (handle_shape t) v q k h
  unfolding read_handle
  handle_put_is t n s after v is p q k h =
      let e = found_is t (look_up w.table n (resource_of t)) (after_meeting s t n) after v is in
      one_written w g (handle_put 0) p q k h
      ∙ ap (λ y. counted (placed y (bytes_of 4 (number_of g h))) k (h + 1)) {x = q + 0} {y = q} (omega arith)
      ∙ ap (λ i. counted (placed q (bytes_of 4 (number_of g h))) i (h + 1)) {x = k} {y = k + 0} (omega arith)
      ∙ ap (λ u. stored_as g (handle_shape t) u q k h) e.1

  -- ---- values in a row

  module _ (x : Shape) (W : ℕ → ℕ → ℕ → ℕ → Written)
      (one : (p : ℕ) (s after : State) (v : Val) → read_at w x p s ≡ Ok (v, after) → (q k h : ℕ) → W p q k h ≡ stored_as g x v q k h) where
    pub each_put_is : (d n p : ℕ) (s after : State) (vs : Vals) → read_each (read_at w x) d n p s ≡ Ok (vs, after)
        → (q k h : ℕ) → written_each W d n p q k h ≡ row_as x d vs q k h
    each_put_is d zero p s after vs is q k h = none_counted k h ∙ ap (λ us. row_as x d us q k h) (value_is no_vals vs s after is)
    each_put_is d (suc n) p s after vs is q k h =
        let r = came (read_at w x p s) (λ r. mapped (λ us. val r.0 us) (read_each (read_at w x) d n (p + d) r.1)) vs after is in
        let us = made (λ us. val r.0.0 us) (read_each (read_at w x) d n (p + d) r.0.1) vs after r.2 in
        ap (λ a. written_then a (written_each W d n (p + d) (q + d))) (one p s r.0.1 r.0.0 r.1 q k h)
        ∙ written_same (stored_as g x r.0.0 q k h) (written_each W d n (p + d) (q + d)) (row_as x d us.0 (q + d))
        (λ k h. each_put_is d n (p + d) r.0.1 after us.0 us.1 (q + d) k h)
        ∙ counted_on _ k (part_count r.0.0) (part_count_each us.0) h (handle_count r.0.0) (handle_count_each us.0) (omega arith) (omega arith)
        ∙ ap (λ us. row_as x d us q k h) us.2

    list_put_is : (e : Head) (at n : ℕ) (s after : State) (v : Val) → mapped elements (read_elements (read_at w x) w.memory e at n s) ≡ Ok (v, after)
        → (q k h : ℕ) → list_written g W e.size at n q k h ≡ stored_as g (list_shape e x) v q k h
    unfolding read_elements
    list_put_is e at n s after v is q k h =
        let vs = made elements (read_elements (read_at w x) w.memory e at n s) v after is in
        let r = came (region w.memory e.align at (n * e.size) s) (λ r. read_each (read_at w x) e.size n at r.1) vs.0 after vs.1 in
        let head : Written = record { bytes = pointer_bytes q (place_of g k) n; part = k + 1; handle = h } in
        written_same head (written_each W e.size n at (place_of g k)) (row_as x e.size vs.0 (place_of g k))
        (λ k' h'. each_put_is e.size n at r.0.1 after vs.0 r.2 (place_of g k) k' h')
        ∙ ap (λ i. whole vs.0 i (k + 1 + part_count_each vs.0)) (sym (each_counted (read_at w x) e.size n at r.0.1 after vs.0 r.2))
        ∙ ap (λ i. whole vs.0 (count_of vs.0) i) {x = k + 1 + part_count_each vs.0} {y = k + (1 + part_count_each vs.0)} (omega arith)
        ∙ ap (λ u. stored_as g (list_shape e x) u q k h) vs.2
      where
        whole : Vals → ℕ → ℕ → Written
        whole vs i j =
            record {
              bytes = pointer_bytes q (place_of g k) i ++ store_each (stored_by g x) e.size vs (place_of g k) (k + 1) h;
              part = j;
              handle = h + handle_count_each vs;
            }

  -- ---- cases

  abbrev carried_as : Payloads → ℕ → Val → ℕ → ℕ → ℕ → Written
  carried_as ps n u q k h =
      record {
        bytes = stored_by_case g ps n u q k h;
        part = k + part_count u;
        handle = h + handle_count u;
      }

  case_joined : (b d : ℕ) (ps : Payloads) (i : ℕ) (v : Val) (W : ℕ → ℕ → ℕ → Written)
      → ((bare i ≡ v) × ((q k h : ℕ) → W q k h ≡ written_bytes [] k h)) ⊎ ((u : Val) × (bearing i u ≡ v) × ((q k h : ℕ) → W q k h ≡ carried_as ps i u q k h))
      → (q k h : ℕ) → written_then (written_bytes (placed q (bytes_of b i)) k h) (W (q + d)) ≡ stored_as g (cases_shape b d ps) v q k h
  case_joined b d ps i v W (inl r) q k h =
      written_same (written_bytes (placed q (bytes_of b i)) k h) (W (q + d)) (λ k h. written_bytes [] k h) (λ k h. r.1 (q + d) k h)
      ∙ written_none (written_bytes (placed q (bytes_of b i)) k h)
      ∙ as_stored (placed q (bytes_of b i)) k h 0 0 refl refl
      ∙ ap (λ u. stored_as g (cases_shape b d ps) u q k h) r.0
  case_joined b d ps i v W (inr r) q k h =
      written_same (written_bytes (placed q (bytes_of b i)) k h) (W (q + d)) (carried_as ps i r.0 (q + d)) (λ k h. r.2 (q + d) k h)
      ∙ ap (λ u. stored_as g (cases_shape b d ps) u q k h) r.1

  -- ---- all values

  mutual
    pub stored_put : (x : Shape) → IsSized x → (p : ℕ) (s after : State) (v : Val) → read_at w x p s ≡ Ok (v, after)
        → (q k h : ℕ) → all_written w g (puts_of x) p q k h ≡ stored_as g x v q k h
    stored_put (leaf_shape l) sized p s after v is q k h = leaf_put l sized p s after v is q k h
    stored_put string_shape sized p s after v is q k h =
        one_written w g (text_put 0) p q k h
        ∙ not_moved (λ a b. text_written g (scalars_of_text w (number_at 4 w.memory a) (number_at 4 w.memory (a + 4))) b k h) p q
        ∙ string_put (number_at 4 w.memory p) (number_at 4 w.memory (p + 4)) s after v is q k h
    stored_put (list_shape e x) sized p s after v is q k h =
        one_written w g (list_put 0 e.size (puts_of x)) p q k h
        ∙ not_moved (λ a b. list_written g (all_written w g (puts_of x)) e.size (number_at 4 w.memory a) (number_at 4 w.memory (a + 4)) b k h) p q
        ∙ list_put_is x (all_written w g (puts_of x)) (λ p s after v is q k h. stored_put x sized.1 p s after v is q k h)
        e (number_at 4 w.memory p) (number_at 4 w.memory (p + 4)) s after v is q k h
    stored_put (fixed_list_shape e x n) sized p s after v is q k h =
        let vs = made parts (read_each (read_at w x) e.size n p s) v after is in
        row_written w g e.size n (puts_of x) p q k h
        ∙ each_put_is x (all_written w g (puts_of x)) (λ p s after v is q k h. stored_put x sized p s after v is q k h) e.size n p s after vs.0 vs.1 q k h
        ∙ ap (λ u. stored_as g (fixed_list_shape e x n) u q k h) vs.2
    stored_put (fields_shape ps) sized p s after v is q k h =
        let vs = made parts (read_parts w ps p s) v after is in
        fields_put ps sized no_puts p s after vs.0 vs.1 q k h
        ∙ ap (λ u. stored_as g (fields_shape ps) u q k h) vs.2
    stored_put (cases_shape b d ps) sized p s after v is q k h =
        cases_written w g small b d (payload_puts ps) p q k h
        ∙ case_joined b d ps (number_at b w.memory p) v (case_written w g (payload_puts ps) (number_at b w.memory p) (p + d))
        (case_put ps sized.2 (number_at b w.memory p) (number_at b w.memory p) (p + d) s after v is) q k h
    stored_put (handle_shape t) sized p s after v is q k h = handle_put_is t (number_at 4 w.memory p) s after v is p q k h

    fields_put : (ps : Parts) → ArePartsSized ps → (cs : Puts) (p : ℕ) (s after : State) (vs : Vals) → read_parts w ps p s ≡ Ok (vs, after)
        → (q k h : ℕ) → all_written w g (field_puts ps cs) p q k h ≡ written_then (all_written w g cs p q k h) (fields_as ps vs q)
    fields_put no_parts sized cs p s after vs is q k h =
        sym (written_none (all_written w g cs p q k h))
        ∙ written_same (all_written w g cs p q k h) (λ k h. written_bytes [] k h) (fields_as no_parts no_vals q) none_counted
        ∙ ap (λ us. written_then (all_written w g cs p q k h) (fields_as no_parts us q)) (value_is no_vals vs s after is)
    fields_put (part o e x ps) sized cs p s after vs is q k h =
        let r = came (read_at w x (p + o) s) (λ r. mapped (λ us. val r.0 us) (read_parts w ps p r.1)) vs after is in
        let us = made (λ us. val r.0.0 us) (read_parts w ps p r.0.1) vs after r.2 in
        let here = all_written w g cs p q k h in
        fields_put ps sized.1 (with_placed o cs (puts_of x)) p r.0.1 after us.0 us.1 q k h
        ∙ ap (λ a. written_then a (fields_as ps us.0 q)) (placed_written w g o cs (puts_of x) p q k h)
        ∙ written_twice here (all_written w g (puts_of x) (p + o) (q + o)) (fields_as ps us.0 q)
        ∙ written_same here (λ k h. written_then (all_written w g (puts_of x) (p + o) (q + o) k h) (fields_as ps us.0 q)) (fields_as (part o e x ps) (val r.0.0 us.0) q)
        (λ k h.
        ap (λ a. written_then a (fields_as ps us.0 q)) (stored_put x sized.0 (p + o) s r.0.1 r.0.0 r.1 (q + o) k h)
        ∙ counted_on _ k (part_count r.0.0) (part_count_each us.0) h (handle_count r.0.0) (handle_count_each us.0) (omega arith) (omega arith))
        ∙ ap (λ us. written_then here (fields_as (part o e x ps) us q)) us.2

    -- what the case of this number carries, if it carries anything
    case_put : (ps : Payloads) → ArePayloadsSized ps → (i n p : ℕ) (s after : State) (v : Val) → read_case w ps i n p s ≡ Ok (v, after)
        → ((bare i ≡ v) × ((q k h : ℕ) → case_written w g (payload_puts ps) n p q k h ≡ written_bytes [] k h))
        ⊎ ((u : Val) × (bearing i u ≡ v) × ((q k h : ℕ) → case_written w g (payload_puts ps) n p q k h ≡ carried_as ps n u q k h))
    case_put no_payloads sized i n p s after v is = absurd (no_read (fault.BadCase, s) v after is)
    case_put (nothing ps) sized i zero p s after v is = inl (value_is (bare i) v s after is, λ q k h. refl)
    case_put (nothing ps) sized i (suc n) p s after v is = case_put ps sized i n p s after v is
    case_put (carried e x ps) sized i zero p s after v is =
        let u = made (λ v. bearing i v) (read_at w x p s) v after is in
        inr (u.0, u.2, λ q k h. stored_put x sized.0 p s after u.0 u.1 q k h)
    case_put (carried e x ps) sized i (suc n) p s after v is = case_put ps sized.1 i n p s after v is
