-- By the layout of a type the same bytes are stored as by the type.
use Rattle.std.proofs.Common.{◌≡◌, ℕ, zero, suc, ◌+◌, ◌*◌, ◌/◌, ◌%◌, ◌-◌, ◌^◌, ◌≤◌, Bool, true, false, [], ◌∷◌, ◌++◌, refl, ap, ◌∙◌, arith, ℤ, pos, negsuc}
use Rattle.std.proofs.lemmas.Int.{ints}
use Rattle.std.specs.Prelude.{if◌then◌else◌}
use Rattle.cm_types.specs.Types.{Ty, Fields, Cases, Width, width_bytes, bits_8, bits_16, bits_32, bits_64, bool, signed, unsigned, char, string, list, fixed_list, fields, cases, flags, own, borrow, no_fields, field, no_cases, plain, carrying}
use Rattle.cm_types.specs.Values.{Val, Vals, no_vals, val, truth, signed_number, number, scalar, text, elements, parts, bare, bearing, flag_set, handle, count_of, AllVals, FitsSignedWidth, HasType, HaveTypes, IsCarriedCase}
use Rattle.cm_layout.specs.Alignment.{align_to}
use Rattle.cm_layout.specs.Shapes.{parts_at, parts_from, payloads_from, payloads_of, shape_of_type}
use Rattle.cm_layout.specs.Sizes.{align_of, case_count, discriminant_size, payload_offset, size_of}
use Rattle.cm_abi_model.specs.Parts.{handle_count, part_count}
use Rattle.cm_abi_model.specs.Stores.{Given, Storing, bytes_of, from_signed, place_of, placed, pointer_bytes, store_each, stored, stored_fields, stored_payload}
use Rattle.cm_abi_store.specs.Storing.{stored_by, stored_by_case, stored_by_fields}

-- ---- numbers

truth_byte : (b : Bool) (p : ℕ) → placed p (bytes_of 1 (if b then 1 else 0)) ≡ (p, (if b then 1 else 0)) ∷ []
unfolding bytes_of
truth_byte true p = refl
truth_byte false p = refl

-- a number behind so many bytes
abbrev behind_bytes : ℕ → ℕ → ℕ
behind_bytes zero y = y
behind_bytes (suc k) y = 256 * behind_bytes k y

-- what is above so many bytes is left out
bytes_below : (k x y : ℕ) → bytes_of k (x + behind_bytes k y) ≡ bytes_of k x
unfolding bytes_of
bytes_below zero x y = refl
bytes_below (suc k) x y =
    let low : (x + 256 * behind_bytes k y) % 256 ≡ x % 256 = omega arith in
    let high : (x + 256 * behind_bytes k y) / 256 ≡ x / 256 + behind_bytes k y = omega arith in
    rw (low, high) (ap (λ bs. x % 256 ∷ bs) (bytes_below k (x / 256) y))

same_signed : (w : Width) (z : ℤ) → FitsSignedWidth w z → bytes_of (width_bytes w) (from_signed 8 z) ≡ bytes_of (width_bytes w) (from_signed (width_bytes w) z)
same_signed w (pos n) fits = refl
same_signed bits_8 (negsuc n) fits =
    let small : n + 1 ≤ 128 = grind (arith, ints, fits.0) in
    let split : 2 ^ 64 - (n + 1) ≡ (2 ^ 8 - (n + 1)) + behind_bytes 1 (2 ^ 56 - 1) = omega (arith, small) in
    ap (bytes_of 1) split ∙ bytes_below 1 (2 ^ 8 - (n + 1)) (2 ^ 56 - 1)
same_signed bits_16 (negsuc n) fits =
    let small : n + 1 ≤ 2 ^ 15 = grind (arith, ints, fits.0) in
    let split : 2 ^ 64 - (n + 1) ≡ (2 ^ 16 - (n + 1)) + behind_bytes 2 (2 ^ 48 - 1) = omega (arith, small) in
    ap (bytes_of 2) split ∙ bytes_below 2 (2 ^ 16 - (n + 1)) (2 ^ 48 - 1)
same_signed bits_32 (negsuc n) fits =
    let small : n + 1 ≤ 2 ^ 31 = grind (arith, ints, fits.0) in
    let split : 2 ^ 64 - (n + 1) ≡ (2 ^ 32 - (n + 1)) + behind_bytes 4 (2 ^ 32 - 1) = omega (arith, small) in
    ap (bytes_of 4) split ∙ bytes_below 4 (2 ^ 32 - (n + 1)) (2 ^ 32 - 1)
same_signed bits_64 (negsuc n) fits = refl

-- ---- values

pub same_each : (S R : Storing) (Q : Val → Type 0) (size : ℕ) (vs : Vals) (p k h : ℕ) → ((v : Val) (p k h : ℕ) → Q v → S v p k h ≡ R v p k h) → AllVals Q vs
    → store_each S size vs p k h ≡ store_each R size vs p k h
same_each S R Q size no_vals p k h one all = refl
same_each S R Q size (val v vs) p k h one all =
    ap (λ bs. bs ++ store_each S size vs (p + size) (k + part_count v) (h + handle_count v)) (one v p k h all.0)
    ∙ ap (λ bs. R v p k h ++ bs) (same_each S R Q size vs (p + size) (k + part_count v) (h + handle_count v) one all.1)

mutual
  pub same_stored : (g : Given) (t : Ty) (v : Val) (p k h : ℕ) → HasType t v → stored_by g (shape_of_type t) v p k h ≡ stored g t v p k h
  same_stored g bool (truth b) p k h typed = truth_byte b p
  same_stored g (signed w) (signed_number z) p k h typed = ap (placed p) (same_signed w z typed)
  same_stored g (unsigned w) (number n) p k h typed = refl
  same_stored g char (scalar c) p k h typed = refl
  same_stored g string (text cs) p k h typed = refl
  same_stored g (list t) (elements vs) p k h typed =
      ap (λ bs. pointer_bytes p (place_of g k) (count_of vs) ++ bs) (same_each (stored_by g (shape_of_type t)) (stored g t) (HasType t) (size_of t) vs (place_of g k) (k + 1) h (same_stored g t) typed)
  same_stored g (fixed_list t n) (parts vs) p k h typed = same_each (stored_by g (shape_of_type t)) (stored g t) (HasType t) (size_of t) vs p k h (same_stored g t) typed.1
  same_stored g (fields kind fs) (parts vs) p k h typed = same_stored_fields g fs 0 vs p k h typed
  same_stored g (cases kind cs) (bare i) p k h typed = refl
  same_stored g (cases kind cs) (bearing i v) p k h typed =
      ap (λ bs. placed p (bytes_of (discriminant_size (case_count cs)) i) ++ bs) (same_stored_case g cs i v (p + payload_offset cs) k h typed)
  same_stored g (flags ls) (flag_set n) p k h typed = refl
  same_stored g (own r) (handle e) p k h typed = refl
  same_stored g (borrow r) (handle e) p k h typed = refl
  same_stored g _ _ p k h typed = absurd typed

  same_stored_fields : (g : Given) (fs : Fields) (end : ℕ) (vs : Vals) (p k h : ℕ) → HaveTypes fs vs
      → stored_by_fields g (parts_from (parts_at fs end)) vs p k h ≡ stored_fields g fs vs p end k h
  same_stored_fields g no_fields end vs p k h typed = refl
  same_stored_fields g (field l t fs) end no_vals p k h typed = absurd typed
  same_stored_fields g (field l t fs) end (val v vs) p k h typed =
      ap (λ bs. bs ++ stored_by_fields g (parts_from (parts_at fs (align_to (align_of t) end + size_of t))) vs p (k + part_count v) (h + handle_count v)) (same_stored g t v (p + align_to (align_of t) end) k h typed.0)
      ∙ ap (λ bs. stored g t v (p + align_to (align_of t) end) k h ++ bs) (same_stored_fields g fs (align_to (align_of t) end + size_of t) vs p (k + part_count v) (h + handle_count v) typed.1)

  same_stored_case : (g : Given) (cs : Cases) (i : ℕ) (v : Val) (p k h : ℕ) → IsCarriedCase cs i v
      → stored_by_case g (payloads_from (payloads_of cs)) i v p k h ≡ stored_payload g cs i v p k h
  same_stored_case g no_cases i v p k h typed = absurd typed
  same_stored_case g (plain l cs) zero v p k h typed = absurd typed
  same_stored_case g (plain l cs) (suc i) v p k h typed = same_stored_case g cs i v p k h typed
  same_stored_case g (carrying l t cs) zero v p k h typed = same_stored g t v p k h typed
  same_stored_case g (carrying l t cs) (suc i) v p k h typed = same_stored_case g cs i v p k h typed
