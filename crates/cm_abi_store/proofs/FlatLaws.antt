-- By the layout of a type a value is passed as by the type.
use Rattle.std.proofs.Common.{◌≡◌, ℕ, zero, suc, ◌+◌, ◌^◌, ◌<◌, ◌≤◌, List, ◌++◌, refl, ap, ◌∙◌, arith, ℤ, pos, negsuc}
use Rattle.std.proofs.lemmas.Int.{ints}
use Rattle.cm_types.specs.Types.{Ty, Fields, Cases, Width, width_bytes, bits_8, bits_16, bits_32, bits_64, bool, signed, unsigned, char, string, list, fixed_list, fields, cases, flags, own, borrow, no_fields, field, no_cases, plain, carrying}
use Rattle.cm_types.specs.Values.{Val, Vals, no_vals, val, truth, signed_number, number, scalar, text, elements, parts, bare, bearing, flag_set, handle, AllVals, FitsSignedWidth, HasType, HaveTypes, IsCarriedCase}
use Rattle.cm_layout.specs.Alignment.{align_to}
use Rattle.cm_layout.specs.Shapes.{parts_at, parts_from, payloads_from, payloads_of, shape_of_type}
use Rattle.cm_layout.specs.Sizes.{align_of, size_of}
use Rattle.cm_layout.specs.declared.layouts.Leaf.TheVariants as leaf
use Rattle.cm_abi_model.specs.FlatShows.{width_of}
use Rattle.cm_abi_model.specs.Parts.{handle_count, part_count}
use Rattle.cm_abi_model.specs.Receives.{behind, behind_each, behind_fields, behind_payload, put, slot_bytes, slots_of, slots_of_fields, slots_of_payload}
use Rattle.cm_abi_model.specs.Stores.{Given, Placed, from_signed, place_of, stored}
use Rattle.cm_abi_store.specs.FlatLowering.{behind_by, behind_by_case, behind_by_fields, flat_number, slots_by, slots_by_case, slots_by_fields}
use Rattle.cm_abi_store.specs.Storing.{stored_by}
use Rattle.cm_abi_store.proofs.LayoutLaws.{same_each, same_stored}

signed_passed : (w : Width) (z : ℤ) → FitsSignedWidth w z → flat_number (leaf.Signed (width_bytes w)) (signed_number z) ≡ from_signed (slot_bytes w) z
signed_passed bits_8 (pos n) fits = let small : n < 128 = grind (arith, ints, fits.1) in omega (arith, small)
signed_passed bits_8 (negsuc n) fits = let small : n + 1 ≤ 128 = grind (arith, ints, fits.0) in omega (arith, small)
signed_passed bits_16 (pos n) fits = let small : n < 2 ^ 15 = grind (arith, ints, fits.1) in omega (arith, small)
signed_passed bits_16 (negsuc n) fits = let small : n + 1 ≤ 2 ^ 15 = grind (arith, ints, fits.0) in omega (arith, small)
signed_passed bits_32 (pos n) fits = let small : n < 2 ^ 31 = grind (arith, ints, fits.1) in omega (arith, small)
signed_passed bits_32 (negsuc n) fits = let small : n + 1 ≤ 2 ^ 31 = grind (arith, ints, fits.0) in omega (arith, small)
signed_passed bits_64 (pos n) fits = refl
signed_passed bits_64 (negsuc n) fits = refl

mutual
  pub same_slots : (g : Given) (t : Ty) (v : Val) (s k h : ℕ) → HasType t v → slots_by g (shape_of_type t) v s k h ≡ slots_of g t v s k h
  same_slots g bool (truth b) s k h typed = refl
  same_slots g (signed w) (signed_number z) s k h typed = ap (put s) (signed_passed w z typed)
  same_slots g (unsigned w) (number n) s k h typed = refl
  same_slots g char (scalar c) s k h typed = refl
  same_slots g string (text cs) s k h typed = refl
  same_slots g (list t) (elements vs) s k h typed = refl
  same_slots g (fixed_list t n) (parts vs) s k h typed = same_each (slots_by g (shape_of_type t)) (slots_of g t) (HasType t) (width_of t) vs s k h (same_slots g t) typed.1
  same_slots g (fields kind fs) (parts vs) s k h typed = same_slots_fields g fs 0 vs s k h typed
  same_slots g (cases kind cs) (bare i) s k h typed = refl
  same_slots g (cases kind cs) (bearing i v) s k h typed = ap (λ ns. put s i ++ ns) (same_slots_case g cs i v (s + 1) k h typed)
  same_slots g (flags ls) (flag_set n) s k h typed = refl
  same_slots g (own r) (handle e) s k h typed = refl
  same_slots g (borrow r) (handle e) s k h typed = refl
  same_slots g _ _ s k h typed = absurd typed

  same_slots_fields : (g : Given) (fs : Fields) (end : ℕ) (vs : Vals) (s k h : ℕ) → HaveTypes fs vs
      → slots_by_fields g (parts_from (parts_at fs end)) vs s k h ≡ slots_of_fields g fs vs s k h
  same_slots_fields g no_fields end vs s k h typed = refl
  same_slots_fields g (field l t fs) end no_vals s k h typed = absurd typed
  same_slots_fields g (field l t fs) end (val v vs) s k h typed =
      ap (λ ns. ns ++ slots_by_fields g (parts_from (parts_at fs (align_to (align_of t) end + size_of t))) vs (s + width_of t) (k + part_count v) (h + handle_count v)) (same_slots g t v s k h typed.0)
      ∙ ap (λ ns. slots_of g t v s k h ++ ns) (same_slots_fields g fs (align_to (align_of t) end + size_of t) vs (s + width_of t) (k + part_count v) (h + handle_count v) typed.1)

  same_slots_case : (g : Given) (cs : Cases) (i : ℕ) (v : Val) (s k h : ℕ) → IsCarriedCase cs i v
      → slots_by_case g (payloads_from (payloads_of cs)) i v s k h ≡ slots_of_payload g cs i v s k h
  same_slots_case g no_cases i v s k h typed = absurd typed
  same_slots_case g (plain l cs) zero v s k h typed = absurd typed
  same_slots_case g (plain l cs) (suc i) v s k h typed = same_slots_case g cs i v s k h typed
  same_slots_case g (carrying l t cs) zero v s k h typed = same_slots g t v s k h typed
  same_slots_case g (carrying l t cs) (suc i) v s k h typed = same_slots_case g cs i v s k h typed

same_behind_each : (B C : Val → ℕ → ℕ → List Placed) (Q : Val → Type 0) (vs : Vals) (k h : ℕ) → ((v : Val) (k h : ℕ) → Q v → B v k h ≡ C v k h) → AllVals Q vs
    → behind_each B vs k h ≡ behind_each C vs k h
same_behind_each B C Q no_vals k h one all = refl
same_behind_each B C Q (val v vs) k h one all =
    ap (λ bs. bs ++ behind_each B vs (k + part_count v) (h + handle_count v)) (one v k h all.0)
    ∙ ap (λ bs. C v k h ++ bs) (same_behind_each B C Q vs (k + part_count v) (h + handle_count v) one all.1)

mutual
  pub same_behind : (g : Given) (t : Ty) (v : Val) (k h : ℕ) → HasType t v → behind_by g (shape_of_type t) v k h ≡ behind g t v k h
  same_behind g bool (truth b) k h typed = refl
  same_behind g (signed w) (signed_number z) k h typed = refl
  same_behind g (unsigned w) (number n) k h typed = refl
  same_behind g char (scalar c) k h typed = refl
  same_behind g string (text cs) k h typed = refl
  same_behind g (list t) (elements vs) k h typed = same_each (stored_by g (shape_of_type t)) (stored g t) (HasType t) (size_of t) vs (place_of g k) (k + 1) h (same_stored g t) typed
  same_behind g (fixed_list t n) (parts vs) k h typed = same_behind_each (behind_by g (shape_of_type t)) (behind g t) (HasType t) vs k h (same_behind g t) typed.1
  same_behind g (fields kind fs) (parts vs) k h typed = same_behind_fields g fs 0 vs k h typed
  same_behind g (cases kind cs) (bare i) k h typed = refl
  same_behind g (cases kind cs) (bearing i v) k h typed = same_behind_case g cs i v k h typed
  same_behind g (flags ls) (flag_set n) k h typed = refl
  same_behind g (own r) (handle e) k h typed = refl
  same_behind g (borrow r) (handle e) k h typed = refl
  same_behind g _ _ k h typed = absurd typed

  same_behind_fields : (g : Given) (fs : Fields) (end : ℕ) (vs : Vals) (k h : ℕ) → HaveTypes fs vs
      → behind_by_fields g (parts_from (parts_at fs end)) vs k h ≡ behind_fields g fs vs k h
  same_behind_fields g no_fields end vs k h typed = refl
  same_behind_fields g (field l t fs) end no_vals k h typed = absurd typed
  same_behind_fields g (field l t fs) end (val v vs) k h typed =
      ap (λ bs. bs ++ behind_by_fields g (parts_from (parts_at fs (align_to (align_of t) end + size_of t))) vs (k + part_count v) (h + handle_count v)) (same_behind g t v k h typed.0)
      ∙ ap (λ bs. behind g t v k h ++ bs) (same_behind_fields g fs (align_to (align_of t) end + size_of t) vs (k + part_count v) (h + handle_count v) typed.1)

  same_behind_case : (g : Given) (cs : Cases) (i : ℕ) (v : Val) (k h : ℕ) → IsCarriedCase cs i v
      → behind_by_case g (payloads_from (payloads_of cs)) i v k h ≡ behind_payload g cs i v k h
  same_behind_case g no_cases i v k h typed = absurd typed
  same_behind_case g (plain l cs) zero v k h typed = absurd typed
  same_behind_case g (plain l cs) (suc i) v k h typed = same_behind_case g cs i v k h typed
  same_behind_case g (carrying l t cs) zero v k h typed = same_behind g t v k h typed
  same_behind_case g (carrying l t cs) (suc i) v k h typed = same_behind_case g cs i v k h typed
