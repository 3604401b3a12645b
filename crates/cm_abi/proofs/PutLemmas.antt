-- The numbers of a value are put into its slots in order, each where the kind of its type fits it.
use Rattle.std.proofs.Common.{◌≡◌, ℕ, zero, suc, ◌+◌, ◌/◌, ◌^◌, ◌<◌, ◌≤◌, Bool, true, false, List, [], ◌∷◌, ◌++◌, length, refl, sym, subst, arith, pos, negsuc, ℤ}
use Rattle.std.specs.Prelude.{if◌then◌else◌}
use Rattle.std.proofs.Math.Nat.{pow-le-pow_right}
use Rattle.std.proofs.lemmas.Bool.{leb-true}
use Rattle.std.proofs.lemmas.Int.{ints}
use Rattle.std.proofs.lemmas.List.{length-append}
use Rattle.cm_types.specs.declared.core_value.CoreKind.{CoreKind}
use Rattle.cm_types.specs.declared.core_value.CoreKind.TheVariants as kind
use Rattle.cm_types.specs.Spellable.{are_spellable, are_spellable_payloads, is_spellable}
use Rattle.cm_types.specs.Types.{Ty, Fields, Cases, Width, bits_8, bits_16, bits_32, bits_64, bool, signed, unsigned, char, string, list, fixed_list, fields, cases, flags, own, borrow, no_fields, field, no_cases, plain, carrying}
use Rattle.cm_types.specs.Values.{Val, Vals, no_vals, val, truth, signed_number, number, scalar, text, elements, parts, bare, bearing, flag_set, handle, count_of, AllVals, FitsSignedWidth, FitsWidth, HasType, HaveTypes, IsCarriedCase}
use Rattle.cm_layout.specs.Flattening.{copies, flat_of, flat_of_cases, flat_of_fields, number_kind}
use Rattle.cm_abi_model.specs.FlatShows.{width_of}
use Rattle.cm_abi_model.specs.Parts.{AllCasesFit, CasesFit, Part, text_part, element_part, handle_count, part_count, parts_each, parts_in, parts_in_fields, parts_in_payload}
use Rattle.cm_abi_model.specs.Receives.{put, slot_bytes, slots_of, slots_of_fields, slots_of_payload}
use Rattle.cm_abi_model.specs.Requests.{text_bytes, text_units}
use Rattle.cm_abi_model.specs.Stores.{Given, from_signed, number_of, place_of, store_each}
use Rattle.cm_abi_model.specs.Texts.{Charset, unit_size, utf8, utf16, latin1}
use Rattle.cm_abi.specs.Kinds.{IsNumberOf}
use Rattle.cm_abi.proofs.PokeLemmas.{Covers, PutsIn, covers_behind, covers_join_left, covers_join_right, covers_left, covers_right, longer_left, put_one, puts_append, puts_upper}
use Rattle.cm_lemmas.proofs.Bools.{both_true}
use Rattle.cm_layout.proofs.FlatteningLaws.{join_long}

bool_small : (b : Bool) → (if b then 1 else 0) < 2 ^ 32
bool_small true = omega arith
bool_small false = omega arith

signed_small : (w : Width) (z : ℤ) → FitsSignedWidth w z → IsNumberOf (number_kind w) (from_signed (slot_bytes w) z)
signed_small bits_8 (pos n) fits = let small : n < 128 = grind (arith, ints, fits.1) in omega (arith, small)
signed_small bits_8 (negsuc n) fits = omega arith
signed_small bits_16 (pos n) fits = let small : n < 2 ^ 15 = grind (arith, ints, fits.1) in omega (arith, small)
signed_small bits_16 (negsuc n) fits = omega arith
signed_small bits_32 (pos n) fits = let small : n < 2 ^ 31 = grind (arith, ints, fits.1) in omega (arith, small)
signed_small bits_32 (negsuc n) fits = omega arith
signed_small bits_64 z fits = tt {0}

unsigned_small : (w : Width) (n : ℕ) → FitsWidth w n → IsNumberOf (number_kind w) n
unsigned_small bits_8 n fits = omega (arith, fits)
unsigned_small bits_16 n fits = omega (arith, fits)
unsigned_small bits_32 n fits = fits
unsigned_small bits_64 n fits = tt {0}

flags_small : (ls n : ℕ) → ls ≤ 32 → n < 2 ^ ls → n < 2 ^ 32
flags_small ls n few h = omega (arith, h, pow-le-pow_right {n = 2} (omega arith) {i = ls} {j = 32} few)

units_small : (c : Charset) (n : ℕ) → n < 2 ^ 32 → n / unit_size c < 2 ^ 32
units_small utf8 n h = omega (arith, h)
units_small utf16 n h = omega (arith, h)
units_small latin1 n h = omega (arith, h)

-- each part is short: the bytes of a string, and the elements of a list, are counted in 32 bits
abbrev pub AreShort : Charset → List Part → Type 0
AreShort c [] = Unit {0}
AreShort c (text_part cs ∷ ps) = (length (text_bytes c cs) < 2 ^ 32) × AreShort c ps
AreShort c (element_part n size align ∷ ps) = (n < 2 ^ 32) × AreShort c ps

short_left : (c : Charset) (ps qs : List Part) → AreShort c (ps ++ qs) → AreShort c ps
short_left c [] qs h = tt {0}
short_left c (text_part cs ∷ ps) qs h = (h.0, short_left c ps qs h.1)
short_left c (element_part n size align ∷ ps) qs h = (h.0, short_left c ps qs h.1)

short_right : (c : Charset) (ps qs : List Part) → AreShort c (ps ++ qs) → AreShort c qs
short_right c [] qs h = h
short_right c (text_part cs ∷ ps) qs h = short_right c ps qs h.1
short_right c (element_part n size align ∷ ps) qs h = short_right c ps qs h.1

copies_next : (n : ℕ) (xs : List CoreKind) → copies (1 + n) xs ≡ xs ++ copies n xs
copies_next n xs = let e : 1 + n ≡ suc n = omega arith in rw e refl

-- ---- a value

module _ (ks : List CoreKind) (g : Given) (places : (k : ℕ) → place_of g k < 2 ^ 32) (numbers : (h : ℕ) → number_of g h < 2 ^ 32) where
  two_puts : (s m n : ℕ) → Covers ks s (kind.I32 ∷ kind.I32 ∷ []) → m < 2 ^ 32 → n < 2 ^ 32 → PutsIn ks s (s + 2) (put s m ++ put (s + 1) n)
  two_puts s m n c fit_m fit_n =
      puts_append ks s (s + 1) (s + 2) (put s m) (put (s + 1) n) (put_one ks s kind.I32 (kind.I32 ∷ []) m c fit_m)
      (puts_upper ks (s + 1) (s + 1 + 1) (s + 2) (put (s + 1) n) (omega arith) (put_one ks (s + 1) kind.I32 [] n (covers_behind ks s kind.I32 (kind.I32 ∷ []) c) fit_n))

  -- what comes behind the core values of a type
  behind_type : (s : ℕ) (xs ys : List CoreKind) (ps qs : List (ℕ × ℕ)) → PutsIn ks s (s + length xs) ps → PutsIn ks (s + length xs) (s + length xs + length ys) qs
      → PutsIn ks s (s + length (xs ++ ys)) (ps ++ qs)
  behind_type s xs ys ps qs h i =
      subst (λ e. PutsIn ks s e (ps ++ qs)) (omega (arith, length-append xs ys)) (puts_append ks s (s + length xs) (s + length xs + length ys) ps qs h i)

  abbrev Puts : Ty → Val → Type 0
  Puts t v = (s k h : ℕ) → HasType t v → CasesFit v → AreShort g.charset (parts_in t v) → Covers ks s (flat_of t) → PutsIn ks s (s + width_of t) (slots_of g t v s k h)

  each_puts : (t : Ty) → ((v : Val) → Puts t v) → (vs : Vals) (s k h : ℕ) → AllVals (HasType t) vs → AllCasesFit vs → AreShort g.charset (parts_each (parts_in t) vs)
      → Covers ks s (copies (count_of vs) (flat_of t)) → PutsIn ks s (s + length (copies (count_of vs) (flat_of t))) (store_each (slots_of g t) (width_of t) vs s k h)
  each_puts t one no_vals s k h typed small short c = omega arith
  each_puts t one (val v vs) s k h typed small short c =
      let more = copies_next (count_of vs) (flat_of t) in
      let both : Covers ks s (flat_of t ++ copies (count_of vs) (flat_of t)) = subst (λ xs. Covers ks s xs) more c in
      subst (λ xs. PutsIn ks s (s + length xs) (store_each (slots_of g t) (width_of t) (val v vs) s k h)) (sym more)
      (behind_type s (flat_of t) (copies (count_of vs) (flat_of t)) (slots_of g t v s k h) _
      (one v s k h typed.0 small.0 (short_left g.charset _ _ short) (covers_left ks s (flat_of t) (copies (count_of vs) (flat_of t)) both))
      (each_puts t one vs (s + width_of t) (k + part_count v) (h + handle_count v) typed.1 small.1 (short_right g.charset (parts_in t v) _ short)
      (covers_right ks s (flat_of t) (copies (count_of vs) (flat_of t)) both)))

  mutual
    pub value_puts : (t : Ty) → is_spellable t ≡ true → (v : Val) (s k h : ℕ) → HasType t v → CasesFit v → AreShort g.charset (parts_in t v)
        → Covers ks s (flat_of t) → PutsIn ks s (s + width_of t) (slots_of g t v s k h)
    value_puts bool ok (truth b) s k h typed small short c = put_one ks s kind.I32 [] _ c (bool_small b)
    value_puts (signed w) ok (signed_number z) s k h typed small short c = put_one ks s (number_kind w) [] _ c (signed_small w z typed)
    value_puts (unsigned w) ok (number n) s k h typed small short c = put_one ks s (number_kind w) [] n c (unsigned_small w n typed)
    value_puts char ok (scalar n) s k h typed small short c = put_one ks s kind.I32 [] n c (omega (arith, typed.0))
    value_puts string ok (text cs) s k h typed small short c =
        two_puts s (place_of g k) (text_units g.charset cs) c (places k) (units_small g.charset _ short.0)
    value_puts (list t) ok (elements vs) s k h typed small short c = two_puts s (place_of g k) (count_of vs) c (places k) short.0
    value_puts (fixed_list t n) ok (parts vs) s k h typed small short c =
        subst (λ m. PutsIn ks s (s + length (copies m (flat_of t))) (store_each (slots_of g t) (width_of t) vs s k h)) typed.0
        (each_puts t (λ v. value_puts t (both_true _ _ ok).1 v) vs s k h typed.1 small short
        (subst (λ m. Covers ks s (copies m (flat_of t))) (sym typed.0) c))
    value_puts (fields f fs) ok (parts vs) s k h typed small short c = fields_puts fs (both_true _ _ ok).1 vs s k h typed small short c
    value_puts (cases f cs) ok (bare i) s k h typed small short c =
        puts_upper ks s (s + 1) (s + width_of (cases f cs)) (put s i) (omega arith) (put_one ks s kind.I32 (flat_of_cases cs) i c small)
    value_puts (cases f cs) ok (bearing i v) s k h typed small short c =
        subst (λ e. PutsIn ks s e (put s i ++ slots_of_payload g cs i v (s + 1) k h)) (omega arith)
        (puts_append ks s (s + 1) (s + 1 + length (flat_of_cases cs)) (put s i) _ (put_one ks s kind.I32 (flat_of_cases cs) i c small.0)
        (payload_puts cs (both_true _ _ ok).1 i v (s + 1) k h typed small.1 short (covers_behind ks s kind.I32 (flat_of_cases cs) c)))
    value_puts (flags ls) ok (flag_set n) s k h typed small short c =
        put_one ks s kind.I32 [] n c (flags_small (length ls) n (leb-true (length ls) 32 (both_true _ _ ok).1) typed)
    value_puts (own r) ok (handle e) s k h typed small short c = put_one ks s kind.I32 [] (number_of g h) c (numbers h)
    value_puts (borrow r) ok (handle e) s k h typed small short c = put_one ks s kind.I32 [] (number_of g h) c (numbers h)
    value_puts t ok v s k h typed small short c = absurd typed

    pub fields_puts : (fs : Fields) → are_spellable fs ≡ true → (vs : Vals) (s k h : ℕ) → HaveTypes fs vs → AllCasesFit vs → AreShort g.charset (parts_in_fields fs vs)
        → Covers ks s (flat_of_fields fs) → PutsIn ks s (s + length (flat_of_fields fs)) (slots_of_fields g fs vs s k h)
    fields_puts no_fields ok no_vals s k h typed small short c = omega arith
    fields_puts no_fields ok (val v vs) s k h typed small short c = absurd typed
    fields_puts (field l t fs) ok no_vals s k h typed small short c = absurd typed
    fields_puts (field l t fs) ok (val v vs) s k h typed small short c =
        behind_type s (flat_of t) (flat_of_fields fs) (slots_of g t v s k h) _
        (value_puts t (both_true _ _ ok).0 v s k h typed.0 small.0 (short_left g.charset _ _ short) (covers_left ks s (flat_of t) (flat_of_fields fs) c))
        (fields_puts fs (both_true _ _ ok).1 vs (s + width_of t) (k + part_count v) (h + handle_count v) typed.1 small.1 (short_right g.charset (parts_in t v) _ short)
        (covers_right ks s (flat_of t) (flat_of_fields fs) c))

    payload_puts : (cs : Cases) → are_spellable_payloads cs ≡ true → (i : ℕ) (v : Val) (s k h : ℕ) → IsCarriedCase cs i v → CasesFit v
        → AreShort g.charset (parts_in_payload cs i v) → Covers ks s (flat_of_cases cs) → PutsIn ks s (s + length (flat_of_cases cs)) (slots_of_payload g cs i v s k h)
    payload_puts no_cases ok i v s k h typed small short c = absurd typed
    payload_puts (plain l cs) ok zero v s k h typed small short c = absurd typed
    payload_puts (plain l cs) ok (suc i) v s k h typed small short c = payload_puts cs ok i v s k h typed small short c
    payload_puts (carrying l t cs) ok zero v s k h typed small short c =
        puts_upper ks s (s + width_of t) _ (slots_of g t v s k h) (omega (arith, longer_left (flat_of t) (flat_of_cases cs)))
        (value_puts t (both_true _ _ ok).0 v s k h typed small short (covers_join_left ks s (flat_of t) (flat_of_cases cs) c))
    payload_puts (carrying l t cs) ok (suc i) v s k h typed small short c =
        puts_upper ks s (s + length (flat_of_cases cs)) _ (slots_of_payload g cs i v s k h) (omega (arith, join_long (flat_of t) (flat_of_cases cs)))
        (payload_puts cs (both_true _ _ ok).1 i v s k h typed small short (covers_join_right ks s (flat_of t) (flat_of_cases cs) c))
