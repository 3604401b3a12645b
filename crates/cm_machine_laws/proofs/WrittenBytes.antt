-- What is stored of a value is bytes, below 256.
use Rattle.std.proofs.Common.{◌≡◌, refl, ℕ, zero, suc, ◌+◌, ◌/◌, ◌<◌, Bool, true, false, cond, ◌-◌}
use Rattle.std.proofs.Common.{List, [], ◌∷◌, ◌++◌, length, sym, subst, arith}
use Rattle.std.specs.Prelude.{⊤, nat_lt, ◌^◌, if◌then◌else◌}
use Rattle.std.specs.Prelude.{◌%◌}
use Rattle.std.specs.List.{AllByRecursion, flat_map}
use Rattle.std.proofs.lemmas.Bool.Decides.{nat_tests}
use Rattle.cm_types.specs.Types.{Ty, Fields, Cases, width_bytes, bool, signed, unsigned, char}
use Rattle.cm_types.specs.Types.{string, list, fixed_list, fields, cases, flags, own, borrow}
use Rattle.cm_types.specs.Types.{no_fields, field, no_cases, plain, carrying}
use Rattle.cm_types.specs.Values.{Val, Vals, no_vals, val, truth, signed_number, number, scalar}
use Rattle.cm_types.specs.Values.{text, elements, parts, bare, bearing, flag_set, handle, count_of}
use Rattle.cm_types.specs.Values.{HasType, HaveTypes, IsCarriedCase, IsScalarValue, AllVals}
use Rattle.cm_layout.specs.Alignment.{align_to}
use Rattle.cm_layout.specs.Sizes.{align_of, size_of, case_count, discriminant_size, flags_size}
use Rattle.cm_layout.specs.Sizes.{payload_offset}
use Rattle.cm_abi_model.specs.declared.encoding.StringEncoding.{StringEncoding}
use Rattle.cm_abi_model.specs.declared.encoding.StringEncoding.TheVariants as encoding
use Rattle.cm_abi_model.specs.Parts.{part_count, handle_count}
use Rattle.cm_abi_model.specs.Receives.{behind, behind_each, behind_fields, behind_payload}
use Rattle.cm_abi_model.specs.Receives.{call_bytes}
use Rattle.cm_abi_model.specs.Requests.{stored_charset, text_bytes, is_spilled, tuple_of}
use Rattle.cm_abi_model.specs.Stores.{Placed, Given, place_of, placed, bytes_of, pointer_bytes}
use Rattle.cm_abi_model.specs.Stores.{store_each, stored, stored_fields, stored_payload}
use Rattle.cm_abi_model.specs.Texts.{Charset, spell}
use Rattle.cm_abi_model.specs.Views.{Way}
use Rattle.cm_text.specs.Utf16.{bytes_of_unit, spell_utf16}
use Rattle.cm_text.specs.Utf8.{following, spell_utf8}

abbrev pub AreSmall : List ℕ → Type 0
AreSmall [] = ⊤
AreSmall (b ∷ bs) = (b < 2 ^ 8) × AreSmall bs

abbrev pub ArePlacedBytes : List Placed → Type 0
ArePlacedBytes [] = ⊤
ArePlacedBytes (b ∷ bs) = (b.1 < 2 ^ 8) × ArePlacedBytes bs

small_append : (xs ys : List ℕ) → AreSmall xs → AreSmall ys → AreSmall (xs ++ ys)
small_append [] ys x y = y
small_append (b ∷ xs) ys x y = (x.0, small_append xs ys x.1 y)

all_append : (xs ys : List Placed) → ArePlacedBytes xs → ArePlacedBytes ys → ArePlacedBytes (xs ++ ys)
all_append [] ys x y = y
all_append (b ∷ xs) ys x y = (x.0, all_append xs ys x.1 y)

all_placed : (at : ℕ) (bs : List ℕ) → AreSmall bs → ArePlacedBytes (placed at bs)
all_placed at [] x = tt
all_placed at (b ∷ bs) x = (x.0, all_placed (at + 1) bs x.1)

small_number : (n x : ℕ) → AreSmall (bytes_of n x)
unfolding bytes_of
small_number zero x = tt
small_number (suc n) x = (omega arith, small_number n (x / 256))

number_bytes : (n at x : ℕ) → ArePlacedBytes (placed at (bytes_of n x))
number_bytes n at x = all_placed at (bytes_of n x) (small_number n x)

pointer_written : (p at n : ℕ) → ArePlacedBytes (pointer_bytes p at n)
pointer_written p at n = all_append (placed p (bytes_of 4 at)) (placed (p + 4) (bytes_of 4 n)) (number_bytes 4 p at) (number_bytes 4 (p + 4) n)

-- ---- text

utf8_small : (c : ℕ) → c < 0x110000 → AreSmall (spell_utf8 c)
utf8_small c below = by (nat_lt c 0x80) refl where
  three : (b : Bool) → nat_lt c 0x10000 ≡ b → AreSmall (if b then (0xE0 + c / 4096) ∷ following (c / 64) ∷ following c ∷ [] else (0xF0 + c / 262144) ∷ following (c / 4096) ∷ following (c / 64) ∷ following c ∷ [])
  three true e = (grind (arith, nat_tests), (omega arith, (omega arith, tt)))
  three false e = (omega (arith, below), (omega arith, (omega arith, (omega arith, tt))))

  two : (b : Bool) → nat_lt c 0x800 ≡ b → AreSmall (if b then (0xC0 + c / 64) ∷ following c ∷ [] else (if nat_lt c 0x10000 then (0xE0 + c / 4096) ∷ following (c / 64) ∷ following c ∷ [] else (0xF0 + c / 262144) ∷ following (c / 4096) ∷ following (c / 64) ∷ following c ∷ []))
  two true e = (grind (arith, nat_tests), (omega arith, tt))
  two false e = three (nat_lt c 0x10000) refl

  by : (b : Bool) → nat_lt c 0x80 ≡ b → AreSmall (if b then c ∷ [] else (if nat_lt c 0x800 then (0xC0 + c / 64) ∷ following c ∷ [] else (if nat_lt c 0x10000 then (0xE0 + c / 4096) ∷ following (c / 64) ∷ following c ∷ [] else (0xF0 + c / 262144) ∷ following (c / 4096) ∷ following (c / 64) ∷ following c ∷ [])))
  by true e = (grind (arith, nat_tests), tt)
  by false e = two (nat_lt c 0x800) refl

utf16_small : (c : ℕ) → c < 0x110000 → AreSmall (spell_utf16 c)
utf16_small c below = by (nat_lt c 0x1_0000) refl where
  by : (b : Bool) → nat_lt c 0x1_0000 ≡ b → AreSmall (flat_map bytes_of_unit (cond b (c ∷ []) ((0xD800 + (c - 0x1_0000) / 0x400) ∷ (0xDC00 + (c - 0x1_0000) % 0x400) ∷ [])))
  by true e = (omega arith, (grind (arith, nat_tests), tt))
  by false e = (omega arith, (omega (arith, below), (omega arith, (omega arith, tt))))

spelled_small : (e : StringEncoding) (c : ℕ) → IsScalarValue c → AreSmall (spell (stored_charset e) c)
spelled_small encoding.Utf8 c is = utf8_small c is.0
spelled_small encoding.Utf16 c is = utf16_small c is.0
spelled_small encoding.Latin1OrUtf16 c is = utf16_small c is.0

text_small : (e : StringEncoding) (cs : List ℕ) → AllByRecursion IsScalarValue cs → AreSmall (text_bytes (stored_charset e) cs)
text_small e [] all = tt
text_small e (c ∷ cs) all = small_append (spell (stored_charset e) c) (text_bytes (stored_charset e) cs) (spelled_small e c all.0) (text_small e cs all.1)

module _ (e : StringEncoding) (g : Given) (stored_in : g.charset ≡ stored_charset e) where
  text_written : (cs : List ℕ) (at : ℕ) → AllByRecursion IsScalarValue cs → ArePlacedBytes (placed at (text_bytes g.charset cs))
  text_written cs at all = all_placed at (text_bytes g.charset cs) (subst (λ (s : Charset). AreSmall (text_bytes s cs)) (sym stored_in) (text_small e cs all))

  each_written : (t : Ty) → ((v : Val) (p k h : ℕ) → HasType t v → ArePlacedBytes (stored g t v p k h)) → (size : ℕ) (vs : Vals) (p k h : ℕ) → AllVals (HasType t) vs → ArePlacedBytes (store_each (stored g t) size vs p k h)
  each_written t one size no_vals p k h typed = tt
  each_written t one size (val v vs) p k h typed =
      all_append (stored g t v p k h) (store_each (stored g t) size vs (p + size) (k + part_count v) (h + handle_count v)) (one v p k h typed.0)
      (each_written t one size vs (p + size) (k + part_count v) (h + handle_count v) typed.1)

  mutual
    written : (t : Ty) (v : Val) (p k h : ℕ) → HasType t v → ArePlacedBytes (stored g t v p k h)
    written bool (truth true) p k h typed = (omega arith, tt)
    written bool (truth false) p k h typed = (omega arith, tt)
    written (signed w) (signed_number z) p k h typed = number_bytes (width_bytes w) p _
    written (unsigned w) (number n) p k h typed = number_bytes (width_bytes w) p n
    written char (scalar c) p k h typed = number_bytes 4 p c
    written string (text cs) p k h typed =
        all_append (pointer_bytes p (place_of g k) _) _ (pointer_written p (place_of g k) _) (text_written cs (place_of g k) typed)
    written (list t) (elements vs) p k h typed =
        all_append (pointer_bytes p (place_of g k) (count_of vs)) _ (pointer_written p (place_of g k) (count_of vs))
        (each_written t (written t) (size_of t) vs (place_of g k) (k + 1) h typed)
    written (fixed_list t n) (parts vs) p k h typed = each_written t (written t) (size_of t) vs p k h typed.1
    written (fields c fs) (parts vs) p k h typed = fields_written fs vs p 0 k h typed
    written (cases c cs) (bare i) p k h typed = number_bytes (discriminant_size (case_count cs)) p i
    written (cases c cs) (bearing i v) p k h typed =
        all_append (placed p (bytes_of (discriminant_size (case_count cs)) i)) _ (number_bytes (discriminant_size (case_count cs)) p i)
        (payload_written cs i v (p + payload_offset cs) k h typed)
    written (flags ls) (flag_set n) p k h typed = number_bytes (flags_size (length ls)) p n
    written (own r) (handle e) p k h typed = number_bytes 4 p _
    written (borrow r) (handle e) p k h typed = number_bytes 4 p _
    written t v p k h typed = absurd typed

    fields_written : (fs : Fields) (vs : Vals) (p end k h : ℕ) → HaveTypes fs vs → ArePlacedBytes (stored_fields g fs vs p end k h)
    fields_written no_fields no_vals p end k h typed = tt
    fields_written no_fields (val v vs) p end k h typed = absurd typed
    fields_written (field l t fs) no_vals p end k h typed = absurd typed
    fields_written (field l t fs) (val v vs) p end k h typed =
        all_append (stored g t v (p + align_to (align_of t) end) k h) _ (written t v (p + align_to (align_of t) end) k h typed.0)
        (fields_written fs vs p (align_to (align_of t) end + size_of t) (k + part_count v) (h + handle_count v) typed.1)

    payload_written : (cs : Cases) (i : ℕ) (v : Val) (p k h : ℕ) → IsCarriedCase cs i v → ArePlacedBytes (stored_payload g cs i v p k h)
    payload_written no_cases i v p k h typed = absurd typed
    payload_written (plain l cs) zero v p k h typed = absurd typed
    payload_written (plain l cs) (suc i) v p k h typed = payload_written cs i v p k h typed
    payload_written (carrying l t cs) zero v p k h typed = written t v p k h typed
    payload_written (carrying l t cs) (suc i) v p k h typed = payload_written cs i v p k h typed

  each_behind : (t : Ty) → ((v : Val) (k h : ℕ) → HasType t v → ArePlacedBytes (behind g t v k h)) → (vs : Vals) (k h : ℕ) → AllVals (HasType t) vs → ArePlacedBytes (behind_each (behind g t) vs k h)
  each_behind t one no_vals k h typed = tt
  each_behind t one (val v vs) k h typed =
      all_append (behind g t v k h) _ (one v k h typed.0) (each_behind t one vs (k + part_count v) (h + handle_count v) typed.1)

  mutual
    written_behind : (t : Ty) (v : Val) (k h : ℕ) → HasType t v → ArePlacedBytes (behind g t v k h)
    written_behind bool (truth b) k h typed = tt
    written_behind (signed w) (signed_number z) k h typed = tt
    written_behind (unsigned w) (number n) k h typed = tt
    written_behind char (scalar c) k h typed = tt
    written_behind string (text cs) k h typed = text_written cs (place_of g k) typed
    written_behind (list t) (elements vs) k h typed = each_written t (written t) (size_of t) vs (place_of g k) (k + 1) h typed
    written_behind (fixed_list t n) (parts vs) k h typed = each_behind t (written_behind t) vs k h typed.1
    written_behind (fields c fs) (parts vs) k h typed = fields_behind fs vs k h typed
    written_behind (cases c cs) (bare i) k h typed = tt
    written_behind (cases c cs) (bearing i v) k h typed = payload_behind cs i v k h typed
    written_behind (flags ls) (flag_set n) k h typed = tt
    written_behind (own r) (handle e) k h typed = tt
    written_behind (borrow r) (handle e) k h typed = tt
    written_behind t v k h typed = absurd typed

    fields_behind : (fs : Fields) (vs : Vals) (k h : ℕ) → HaveTypes fs vs → ArePlacedBytes (behind_fields g fs vs k h)
    fields_behind no_fields no_vals k h typed = tt
    fields_behind no_fields (val v vs) k h typed = absurd typed
    fields_behind (field l t fs) no_vals k h typed = absurd typed
    fields_behind (field l t fs) (val v vs) k h typed =
        all_append (behind g t v k h) _ (written_behind t v k h typed.0) (fields_behind fs vs (k + part_count v) (h + handle_count v) typed.1)

    payload_behind : (cs : Cases) (i : ℕ) (v : Val) (k h : ℕ) → IsCarriedCase cs i v → ArePlacedBytes (behind_payload g cs i v k h)
    payload_behind no_cases i v k h typed = absurd typed
    payload_behind (plain l cs) zero v k h typed = absurd typed
    payload_behind (plain l cs) (suc i) v k h typed = payload_behind cs i v k h typed
    payload_behind (carrying l t cs) zero v k h typed = written_behind t v k h typed
    payload_behind (carrying l t cs) (suc i) v k h typed = payload_behind cs i v k h typed

-- What a call stores is bytes.
pub call_written : (e : StringEncoding) (g : Given) (way : Way) (types : Fields) (v : Val) → g.charset ≡ stored_charset e → HasType (tuple_of types) v → ArePlacedBytes (call_bytes g way types v)
call_written e g way types v charset typed = by (is_spilled way types) where
  by : (b : Bool) → ArePlacedBytes (if b then stored g (tuple_of types) v (place_of g 0) 1 0 else behind g (tuple_of types) v 0 0)
  by true = written e g charset (tuple_of types) v (place_of g 0) 1 0 typed
  by false = written_behind e g charset (tuple_of types) v 0 0 typed
