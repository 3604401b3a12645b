-- What is passed of a value, and stored behind it, tells of its handles no more than their numbers.
use Rattle.std.proofs.Common.{◌≡◌, ℕ, zero, suc, ◌+◌, ◌%◌, ◌^◌, List, [], ◌++◌, ◌==◌, refl, sym, ap, ◌∙◌}
use Rattle.std.specs.Prelude.{if◌then◌else◌}
use Rattle.cm_types.specs.Values.{HandleValue, Val, Vals, no_vals, val, truth, signed_number, number, scalar, text, elements, parts, bare, bearing, flag_set, handle}
use Rattle.cm_layout.specs.declared.layouts.Leaf.{Leaf}
use Rattle.cm_layout.specs.declared.layouts.Leaf.TheVariants as leaf
use Rattle.cm_layout.specs.Shapes.{Shape, Parts, Payloads, leaf_shape, string_shape, list_shape, fixed_list_shape, fields_shape, cases_shape, handle_shape, no_parts, part, no_payloads, nothing, carried}
use Rattle.cm_abi_model.specs.Parts.{handle_count, part_count}
use Rattle.cm_abi_model.specs.Receives.{behind_each, put}
use Rattle.cm_abi_model.specs.Stores.{Given, Placed, place_of}
use Rattle.cm_abi_store.specs.FlatLowering.{behind_by, behind_by_case, behind_by_fields, flat_number, slots_by, slots_by_case, slots_by_fields}
use Rattle.cm_abi_store.specs.Storing.{stored_by}
use Rattle.cm_abi_running.specs.Shown.{all_without_handles, some_handle, without_handles}
use Rattle.cm_abi_copy.proofs.ReadLemmas.{same_count}
use Rattle.cm_abi_copy.proofs.StoredLemmas.{each_stays, number_stays}

flat_stays : (l : Leaf) (v : Val) → flat_number l (without_handles v) ≡ flat_number l v
flat_stays leaf.Bool v = number_stays v
flat_stays (leaf.Signed w) v = ap (λ n. if w == 8 then n else n % 2 ^ 32) (number_stays v)
flat_stays (leaf.Unsigned w) v = number_stays v
flat_stays leaf.Char v = number_stays v
flat_stays (leaf.Flags labels w) v = number_stays v

module _ (parts_stay : (v : Val) → part_count (without_handles v) ≡ part_count v) (handles_stay : (v : Val) → handle_count (without_handles v) ≡ handle_count v)
    (stored_stays : (g : Given) (sh : Shape) (v : Val) (p k h : ℕ) → stored_by g sh (without_handles v) p k h ≡ stored_by g sh v p k h) where
  behind_stays : (B : Val → ℕ → ℕ → List Placed) (vs : Vals) (k h : ℕ) → ((v : Val) (k h : ℕ) → B (without_handles v) k h ≡ B v k h) → behind_each B (all_without_handles vs) k h ≡ behind_each B vs k h
  behind_stays B no_vals k h one = refl
  behind_stays B (val v vs) k h one =
      rw (parts_stay v, handles_stay v, one v k h) (ap (λ xs. B v k h ++ xs) (behind_stays B vs (k + part_count v) (h + handle_count v) one))

  mutual
    pub passed_stay : (g : Given) (sh : Shape) (v : Val) (s k h : ℕ) → slots_by g sh (without_handles v) s k h ≡ slots_by g sh v s k h
    passed_stay g (leaf_shape l) v s k h = ap (put s) (flat_stays l v)
    passed_stay g (list_shape e sh) (elements vs) s k h = ap (λ n. put s (place_of g k) ++ put (s + 1) n) (same_count vs)
    passed_stay g (fixed_list_shape e sh n) (parts vs) s k h = each_stays (slots_by g sh) e.width vs s k h (passed_stay g sh)
    passed_stay g (fields_shape ps) (parts vs) s k h = fields_stay g ps vs s k h
    passed_stay g (cases_shape d o ps) (bearing i v) s k h = ap (λ xs. put s i ++ xs) (case_stays g ps i v (s + 1) k h)
    passed_stay g _ (truth b) s k h = refl
    passed_stay g _ (signed_number z) s k h = refl
    passed_stay g _ (number n) s k h = refl
    passed_stay g _ (scalar x) s k h = refl
    passed_stay g _ (text cs) s k h = refl
    passed_stay g _ (elements vs) s k h = refl
    passed_stay g _ (parts vs) s k h = refl
    passed_stay g _ (bare i) s k h = refl
    passed_stay g _ (bearing i v) s k h = refl
    passed_stay g _ (flag_set n) s k h = refl
    passed_stay g _ (handle e) s k h = refl

    fields_stay : (g : Given) (ps : Parts) (vs : Vals) (s k h : ℕ) → slots_by_fields g ps (all_without_handles vs) s k h ≡ slots_by_fields g ps vs s k h
    fields_stay g no_parts vs s k h = refl
    fields_stay g (part o e sh ps) no_vals s k h = refl
    fields_stay g (part o e sh ps) (val v vs) s k h =
        rw (parts_stay v, handles_stay v, passed_stay g sh v s k h) (ap (λ xs. slots_by g sh v s k h ++ xs) (fields_stay g ps vs (s + e.width) (k + part_count v) (h + handle_count v)))

    case_stays : (g : Given) (ps : Payloads) (i : ℕ) (v : Val) (s k h : ℕ) → slots_by_case g ps i (without_handles v) s k h ≡ slots_by_case g ps i v s k h
    case_stays g no_payloads i v s k h = refl
    case_stays g (nothing ps) zero v s k h = refl
    case_stays g (nothing ps) (suc i) v s k h = case_stays g ps i v s k h
    case_stays g (carried e sh ps) zero v s k h = passed_stay g sh v s k h
    case_stays g (carried e sh ps) (suc i) v s k h = case_stays g ps i v s k h

  no_bytes : (g : Given) (sh : Shape) (e : HandleValue) (k h : ℕ) → behind_by g sh (handle e) k h ≡ []
  no_bytes g (leaf_shape l) e k h = refl
  no_bytes g string_shape e k h = refl
  no_bytes g (list_shape x sh) e k h = refl
  no_bytes g (fixed_list_shape x sh n) e k h = refl
  no_bytes g (fields_shape ps) e k h = refl
  no_bytes g (cases_shape d o ps) e k h = refl
  no_bytes g (handle_shape x) e k h = refl

  mutual
    pub bytes_stay : (g : Given) (sh : Shape) (v : Val) (k h : ℕ) → behind_by g sh (without_handles v) k h ≡ behind_by g sh v k h
    bytes_stay g (list_shape e sh) (elements vs) k h = each_stays (stored_by g sh) e.size vs (place_of g k) (k + 1) h (stored_stays g sh)
    bytes_stay g (fixed_list_shape e sh n) (parts vs) k h = behind_stays (behind_by g sh) vs k h (bytes_stay g sh)
    bytes_stay g (fields_shape ps) (parts vs) k h = field_bytes_stay g ps vs k h
    bytes_stay g (cases_shape d o ps) (bearing i v) k h = case_bytes_stay g ps i v k h
    bytes_stay g _ (truth b) k h = refl
    bytes_stay g _ (signed_number z) k h = refl
    bytes_stay g _ (number n) k h = refl
    bytes_stay g _ (scalar x) k h = refl
    bytes_stay g _ (text cs) k h = refl
    bytes_stay g _ (elements vs) k h = refl
    bytes_stay g _ (parts vs) k h = refl
    bytes_stay g _ (bare i) k h = refl
    bytes_stay g _ (bearing i v) k h = refl
    bytes_stay g _ (flag_set n) k h = refl
    bytes_stay g sh (handle e) k h = no_bytes g sh some_handle k h ∙ sym (no_bytes g sh e k h)

    field_bytes_stay : (g : Given) (ps : Parts) (vs : Vals) (k h : ℕ) → behind_by_fields g ps (all_without_handles vs) k h ≡ behind_by_fields g ps vs k h
    field_bytes_stay g no_parts vs k h = refl
    field_bytes_stay g (part o e sh ps) no_vals k h = refl
    field_bytes_stay g (part o e sh ps) (val v vs) k h =
        rw (parts_stay v, handles_stay v, bytes_stay g sh v k h) (ap (λ xs. behind_by g sh v k h ++ xs) (field_bytes_stay g ps vs (k + part_count v) (h + handle_count v)))

    case_bytes_stay : (g : Given) (ps : Payloads) (i : ℕ) (v : Val) (k h : ℕ) → behind_by_case g ps i (without_handles v) k h ≡ behind_by_case g ps i v k h
    case_bytes_stay g no_payloads i v k h = refl
    case_bytes_stay g (nothing ps) zero v k h = refl
    case_bytes_stay g (nothing ps) (suc i) v k h = case_bytes_stay g ps i v k h
    case_bytes_stay g (carried e sh ps) zero v k h = bytes_stay g sh v k h
    case_bytes_stay g (carried e sh ps) (suc i) v k h = case_bytes_stay g ps i v k h
