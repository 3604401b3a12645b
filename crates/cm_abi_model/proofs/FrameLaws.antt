-- What no byte of a value is stays.
use Rattle.std.proofs.Common.{◌≡◌, ℕ, zero, suc, ◌+◌, ◌/◌, ◌<◌, ◌≤◌, ◌⊎◌, inl, inr, List, [], ◌∷◌, ◌++◌, length, slice_index, refl, ap, arith}
use Rattle.cm_types.specs.Types.{Ty, Fields, Cases, width_bytes, bits_8, bits_32, bool, signed, unsigned, char, string, list, fixed_list, fields, cases, flags, own, borrow, no_fields, field, no_cases, plain, carrying, record_type}
use Rattle.cm_types.specs.Values.{Val, Vals, no_vals, val, truth, signed_number, number, scalar, text, elements, parts, bare, bearing, flag_set, handle, count_of}
use Rattle.cm_layout.specs.Alignment.{align_to}
use Rattle.cm_layout.specs.Sizes.{align_of, size_of, case_count, discriminant_size, flags_size, payload_offset}
use Rattle.cm_abi_model.specs.Parts.{part_count, handle_count}
use Rattle.cm_abi_model.specs.Regions.{IsIn}
use Rattle.cm_abi_model.specs.Requests.{text_bytes, text_units}
use Rattle.cm_abi_model.specs.Stores.{Given, Placed, Storing, Framed, IsBeside, bytes_of, number_of, place_of, placed, pointer_bytes, store_each, stored, stored_fields, stored_payload}
use Rattle.cm_abi_model.specs.Leaves.{IsByteOf, IsByteOfEach, IsByteOfFields, IsByteOfPayload}

beside_append : (a : ℕ) (xs ys : List Placed) → IsBeside a xs → IsBeside a ys → IsBeside a (xs ++ ys)
beside_append a [] ys x y = y
beside_append a (b ∷ xs) ys x y = (x.0, beside_append a xs ys x.1 y)

beside_placed : (a p : ℕ) (bs : List ℕ) → (IsIn p (length bs) a → ⊥) → IsBeside a (placed p bs)
beside_placed a p [] n = tt {0}
beside_placed a p (b ∷ bs) n =
    ((λ e. n (omega (arith, e), omega (arith, e))), beside_placed a (p + 1) bs (λ h. n (omega (arith, h.0), omega (arith, h.1))))

bytes_length : (n x : ℕ) → length (bytes_of n x) ≡ n
unfolding bytes_of
bytes_length zero x = refl
bytes_length (suc n) x = ap suc (bytes_length n (x / 256))

beside_number : (a p n x : ℕ) → (IsIn p n a → ⊥) → IsBeside a (placed p (bytes_of n x))
beside_number a p n x h = beside_placed a p (bytes_of n x) (λ i. h (i.0, omega (arith, i.1, bytes_length n x)))

beside_pointer : (a p at n : ℕ) → (IsIn p 8 a → ⊥) → IsBeside a (pointer_bytes p at n)
beside_pointer a p at n h = beside_append a (placed p (bytes_of 4 at)) _ (beside_number a p 4 at (λ i. h (i.0, omega (arith, i.1)))) (beside_number a (p + 4) 4 n (λ i. h (omega (arith, i.0), omega (arith, i.1))))

beside_each : (a : ℕ) (S : Storing) (B : Val → ℕ → ℕ → ℕ → Type 0) → ((v : Val) (p k h : ℕ) → (B v p k a → ⊥) → IsBeside a (S v p k h)) → (size : ℕ) (vs : Vals) (p k h : ℕ)
    → (IsByteOfEach B size vs p k a → ⊥) → IsBeside a (store_each S size vs p k h)
beside_each a S B each size no_vals p k h n = tt {0}
beside_each a S B each size (val v vs) p k h n =
    beside_append a (S v p k h) _ (each v p k h (λ b. n (inl b))) (beside_each a S B each size vs (p + size) (k + part_count v) (h + handle_count v) (λ b. n (inr b)))

mutual
  beside : (a : ℕ) (g : Given) (t : Ty) (v : Val) (p k h : ℕ) → (IsByteOf g t v p k a → ⊥) → IsBeside a (stored g t v p k h)
  beside a g bool (truth b) p k h n = (n, tt {0})
  beside a g (signed w) (signed_number z) p k h n = beside_number a p (width_bytes w) _ n
  beside a g (unsigned w) (number x) p k h n = beside_number a p (width_bytes w) x n
  beside a g char (scalar c) p k h n = beside_number a p 4 c n
  beside a g string (text cs) p k h n =
      beside_append a (pointer_bytes p (place_of g k) (text_units g.charset cs)) _
      (beside_pointer a p (place_of g k) (text_units g.charset cs) (λ i. n (inl i)))
      (beside_placed a (place_of g k) (text_bytes g.charset cs) (λ i. n (inr i)))
  beside a g (list t) (elements vs) p k h n =
      beside_append a (pointer_bytes p (place_of g k) (count_of vs)) _
      (beside_pointer a p (place_of g k) (count_of vs) (λ i. n (inl i)))
      (beside_each a (stored g t) (IsByteOf g t) (λ v q j i m. beside a g t v q j i m) (size_of t) vs (place_of g k) (k + 1) h (λ i. n (inr i)))
  beside a g (fixed_list t c) (parts vs) p k h n = beside_each a (stored g t) (IsByteOf g t) (λ v q j i m. beside a g t v q j i m) (size_of t) vs p k h n
  beside a g (fields f fs) (parts vs) p k h n = beside_fields a g fs vs p 0 k h n
  beside a g (cases c cs) (bare i) p k h n = beside_number a p (discriminant_size (case_count cs)) i n
  beside a g (cases c cs) (bearing i v) p k h n =
      beside_append a (placed p (bytes_of (discriminant_size (case_count cs)) i)) _
      (beside_number a p (discriminant_size (case_count cs)) i (λ j. n (inl j)))
      (beside_payload a g cs i v (p + payload_offset cs) k h (λ j. n (inr j)))
  beside a g (flags ls) (flag_set x) p k h n = beside_number a p (flags_size (length ls)) x n
  beside a g (own r) (handle e) p k h n = beside_number a p 4 (number_of g h) n
  beside a g (borrow r) (handle e) p k h n = beside_number a p 4 (number_of g h) n
  beside a g t v p k h n = tt {0}

  beside_fields : (a : ℕ) (g : Given) (fs : Fields) (vs : Vals) (p end k h : ℕ) → (IsByteOfFields g fs vs p end k a → ⊥) → IsBeside a (stored_fields g fs vs p end k h)
  beside_fields a g no_fields vs p end k h n = tt {0}
  beside_fields a g (field l t fs) no_vals p end k h n = tt {0}
  beside_fields a g (field l t fs) (val v vs) p end k h n =
      beside_append a (stored g t v (p + align_to (align_of t) end) k h) _
      (beside a g t v (p + align_to (align_of t) end) k h (λ b. n (inl b)))
      (beside_fields a g fs vs p (align_to (align_of t) end + size_of t) (k + part_count v) (h + handle_count v) (λ b. n (inr b)))

  beside_payload : (a : ℕ) (g : Given) (cs : Cases) (i : ℕ) (v : Val) (p k h : ℕ) → (IsByteOfPayload g cs i v p k a → ⊥) → IsBeside a (stored_payload g cs i v p k h)
  beside_payload a g no_cases i v p k h n = tt {0}
  beside_payload a g (plain l cs) zero v p k h n = tt {0}
  beside_payload a g (plain l cs) (suc i) v p k h n = beside_payload a g cs i v p k h n
  beside_payload a g (carrying l t cs) zero v p k h n = beside a g t v p k h n
  beside_payload a g (carrying l t cs) (suc i) v p k h n = beside_payload a g cs i v p k h n

pub others_stay : (old new : List ℕ) (g : Given) (t : Ty) (v : Val) (p k h : ℕ) → Framed old new (stored g t v p k h) → (a : ℕ) → (IsByteOf g t v p k a → ⊥) → slice_index new a ≡ slice_index old a
others_stay old new g t v p k h f a n = f.others_stay a (beside a g t v p k h n)

pub length_stays : (old new : List ℕ) (bs : List Placed) → Framed old new bs → length new ≡ length old
length_stays old new bs f = f.length_stays

pub around_stays : (old new : List ℕ) (p n x : ℕ) → Framed old new (placed p (bytes_of n x)) → (a : ℕ) → (a < p) ⊎ (p + n ≤ a) → slice_index new a ≡ slice_index old a
around_stays old new p n x f a out = f.others_stay a (beside_number a p n x (λ i. elim out [ inl before ↦ absurd (omega (arith, before, i.0)) | inr behind ↦ absurd (omega (arith, behind, i.1)) ]))

pub padding_stays : (old new : List ℕ) (g : Given) (l m : List ℕ) (x y p k h : ℕ)
    → Framed old new (stored g (fields record_type (field l (unsigned bits_8) (field m (unsigned bits_32) no_fields))) (parts (val (number x) (val (number y) no_vals))) p k h)
    → (a : ℕ) → p < a → a < p + 4 → slice_index new a ≡ slice_index old a
padding_stays old new g l m x y p k h f a above below =
    f.others_stay a (beside a g (fields record_type (field l (unsigned bits_8) (field m (unsigned bits_32) no_fields))) (parts (val (number x) (val (number y) no_vals))) p k h never)
  where
    never : IsByteOf g (fields record_type (field l (unsigned bits_8) (field m (unsigned bits_32) no_fields))) (parts (val (number x) (val (number y) no_vals))) p k a → ⊥
    never b = elim b [
      | inl first ↦ absurd (omega (arith, first.1, above))
      | inr rest ↦ elim rest [ inl second ↦ absurd (omega (arith, second.0, below)) | inr none ↦ none ]
    ]
