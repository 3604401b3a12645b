-- What is stored and passed of a value tells of its handles no more than their numbers.
use Rattle.std.proofs.Common.{◌≡◌, ℕ, zero, suc, ◌+◌, ◌++◌, refl, ap}
use Rattle.cm_types.specs.Values.{Val, Vals, no_vals, val, truth, signed_number, number, scalar, text, elements, parts, bare, bearing, flag_set, handle, count_of}
use Rattle.cm_layout.specs.Laid.{leaf_size}
use Rattle.cm_layout.specs.Shapes.{Shape, Parts, Payloads, leaf_shape, list_shape, fixed_list_shape, fields_shape, cases_shape, no_parts, part, no_payloads, nothing, carried}
use Rattle.cm_abi_model.specs.Parts.{handle_count, part_count}
use Rattle.cm_abi_model.specs.Stores.{Given, Storing, bytes_of, place_of, placed, pointer_bytes, store_each}
use Rattle.cm_abi_store.specs.Storing.{number_in, stored_by, stored_by_case, stored_by_fields}
use Rattle.cm_abi_copy.proofs.ReadLemmas.{handles_stay, parts_stay, same_count}
use Rattle.cm_abi_running.specs.Shown.{all_without_handles, without_handles}

pub number_stays : (v : Val) → number_in (without_handles v) ≡ number_in v
number_stays (truth b) = refl
number_stays (signed_number z) = refl
number_stays (number n) = refl
number_stays (scalar c) = refl
number_stays (text cs) = refl
number_stays (elements vs) = refl
number_stays (parts vs) = refl
number_stays (bare i) = refl
number_stays (bearing i v) = refl
number_stays (flag_set n) = refl
number_stays (handle h) = refl

pub each_stays : (S : Storing) (size : ℕ) (vs : Vals) (p k h : ℕ) → ((v : Val) (p k h : ℕ) → S (without_handles v) p k h ≡ S v p k h) → store_each S size (all_without_handles vs) p k h ≡ store_each S size vs p k h
each_stays S size no_vals p k h one = refl
each_stays S size (val v vs) p k h one =
    rw (parts_stay v, handles_stay v, one v p k h) (ap (λ xs. S v p k h ++ xs) (each_stays S size vs (p + size) (k + part_count v) (h + handle_count v) one))

mutual
  pub stored_stays : (g : Given) (sh : Shape) (v : Val) (p k h : ℕ) → stored_by g sh (without_handles v) p k h ≡ stored_by g sh v p k h
  stored_stays g (leaf_shape l) v p k h = ap (λ n. placed p (bytes_of (leaf_size l) n)) (number_stays v)
  stored_stays g (list_shape e sh) (elements vs) p k h =
      rw (same_count vs) (ap (λ xs. pointer_bytes p (place_of g k) (count_of vs) ++ xs) (each_stays (stored_by g sh) e.size vs (place_of g k) (k + 1) h (stored_stays g sh)))
  stored_stays g (fixed_list_shape e sh n) (parts vs) p k h = each_stays (stored_by g sh) e.size vs p k h (stored_stays g sh)
  stored_stays g (fields_shape ps) (parts vs) p k h = fields_stay g ps vs p k h
  stored_stays g (cases_shape d o ps) (bearing i v) p k h = ap (λ xs. placed p (bytes_of d i) ++ xs) (case_stays g ps i v (p + o) k h)
  stored_stays g _ (truth b) p k h = refl
  stored_stays g _ (signed_number z) p k h = refl
  stored_stays g _ (number n) p k h = refl
  stored_stays g _ (scalar x) p k h = refl
  stored_stays g _ (text cs) p k h = refl
  stored_stays g _ (elements vs) p k h = refl
  stored_stays g _ (parts vs) p k h = refl
  stored_stays g _ (bare i) p k h = refl
  stored_stays g _ (bearing i v) p k h = refl
  stored_stays g _ (flag_set n) p k h = refl
  stored_stays g _ (handle e) p k h = refl

  fields_stay : (g : Given) (ps : Parts) (vs : Vals) (p k h : ℕ) → stored_by_fields g ps (all_without_handles vs) p k h ≡ stored_by_fields g ps vs p k h
  fields_stay g no_parts vs p k h = refl
  fields_stay g (part o e sh ps) no_vals p k h = refl
  fields_stay g (part o e sh ps) (val v vs) p k h =
      rw (parts_stay v, handles_stay v, stored_stays g sh v (p + o) k h) (ap (λ xs. stored_by g sh v (p + o) k h ++ xs) (fields_stay g ps vs p (k + part_count v) (h + handle_count v)))

  case_stays : (g : Given) (ps : Payloads) (i : ℕ) (v : Val) (p k h : ℕ) → stored_by_case g ps i (without_handles v) p k h ≡ stored_by_case g ps i v p k h
  case_stays g no_payloads i v p k h = refl
  case_stays g (nothing ps) zero v p k h = refl
  case_stays g (nothing ps) (suc i) v p k h = case_stays g ps i v p k h
  case_stays g (carried e sh ps) zero v p k h = stored_stays g sh v p k h
  case_stays g (carried e sh ps) (suc i) v p k h = case_stays g ps i v p k h
