-- The numbers that pass a value fit the kinds of their slots.
use Rattle.std.proofs.Common.{◌≡◌, ℕ, zero, suc, ◌+◌, ◌^◌, ◌<◌, ◌≤◌, Bool, true, false, List, [], ◌∷◌, ◌++◌, length, refl, sym, arith, ℤ, pos, negsuc}
use Rattle.std.proofs.lemmas.Bool.{and_parts, leb-true}
use Rattle.std.proofs.lemmas.Int.{ints}
use Rattle.std.proofs.Math.Pow.{pow_mono}
use Rattle.std.specs.Prelude.{⊤, slice_index, slice_set, if◌then◌else◌}
use Rattle.cm_types.specs.declared.core_value.CoreKind.{CoreKind}
use Rattle.cm_types.specs.declared.core_value.CoreKind.TheVariants as kind
use Rattle.cm_types.specs.Spellable.{are_spellable, are_spellable_payloads, is_spellable}
use Rattle.cm_types.specs.Types.{Ty, Fields, Cases, Width, bits_8, bits_16, bits_32, bits_64, bool, signed, unsigned, char, string, list, fixed_list, fields, cases, flags, own, borrow, no_fields, field, no_cases, plain, carrying}
use Rattle.cm_types.specs.Values.{Val, Vals, no_vals, val, truth, signed_number, number, scalar, text, elements, parts, bare, bearing, flag_set, handle, count_of, AllVals, FitsSignedWidth, FitsWidth, HasType, HaveTypes, IsCarriedCase}
use Rattle.cm_layout.specs.Flattening.{copies, flat_of, flat_of_cases, flat_of_fields, join, join_slots, number_kind}
use Rattle.cm_layout.specs.Sizes.{align_of, size_of}
use Rattle.cm_abi_model.specs.declared.encoding.StringEncoding.{StringEncoding}
use Rattle.cm_abi_model.specs.FlatShows.{width_of}
use Rattle.cm_abi_model.specs.Parts.{AllCasesFit, CasesFit, element_part, handle_count, part_count, parts_each, parts_in, parts_in_fields, parts_in_payload}
use Rattle.cm_abi_model.specs.Receives.{Serves, call_kinds, call_numbers, put, slot_bytes, slots_of, slots_of_fields, slots_of_payload}
use Rattle.cm_abi_model.specs.Regions.{ArePlaced}
use Rattle.cm_abi_model.specs.Requests.{call_parts, is_spilled, stored_charset, text_bytes, text_units, tuple_of}
use Rattle.cm_abi_model.specs.Stores.{Given, Placed, from_signed, number_of, place_of, poke, store_each}
use Rattle.cm_abi_model.specs.Texts.{Charset, latin1, utf16, utf8}
use Rattle.cm_abi_model.specs.Views.{View, Way}
use Rattle.cm_abi_store.specs.Kinds.{FitKinds, kind_limit, slot_limit}
use Rattle.cm_abi_store.proofs.FittingLaws.{counted, placed_both}

-- limits of slots are those of these kinds, or greater
abbrev Covers : (ℕ → ℕ) → ℕ → List CoreKind → Type 0
Covers B s [] = ⊤
Covers B s (k ∷ ks) = (kind_limit k ≤ B s) × Covers B (s + 1) ks

abbrev AllFit : (ℕ → ℕ) → List Placed → Type 0
AllFit B [] = ⊤
AllFit B (x ∷ xs) = (x.1 < B x.0) × AllFit B xs

fit_both : (B : ℕ → ℕ) (xs ys : List Placed) → AllFit B xs → AllFit B ys → AllFit B (xs ++ ys)
fit_both B [] ys first rest = rest
fit_both B (x ∷ xs) ys first rest = (first.0, fit_both B xs ys first.1 rest)

cover_both : (B : ℕ → ℕ) (s m : ℕ) (xs ys : List CoreKind) → m ≡ s + length xs → Covers B s (xs ++ ys) → Covers B s xs × Covers B m ys
cover_both B s m [] ys at covers = let same : m ≡ s = omega (arith, at) in (tt, rw same covers)
cover_both B s m (x ∷ xs) ys at covers =
    let rest = cover_both B (s + 1) m xs ys (omega (arith, at)) covers.1 in
    ((covers.0, rest.0), rest.1)

join_limits : (j k : CoreKind) → (kind_limit j ≤ kind_limit (join j k)) × (kind_limit k ≤ kind_limit (join j k))
join_limits kind.I32 kind.I32 = (omega arith, omega arith)
join_limits kind.I32 kind.I64 = (omega arith, omega arith)
join_limits kind.I64 kind.I32 = (omega arith, omega arith)
join_limits kind.I64 kind.I64 = (omega arith, omega arith)

cover_joined : (B : ℕ → ℕ) (s : ℕ) (xs ys : List CoreKind) → Covers B s (join_slots xs ys) → Covers B s xs × Covers B s ys
cover_joined B s [] ys covers = (tt, covers)
cover_joined B s (x ∷ xs) [] covers = (covers, tt)
cover_joined B s (x ∷ xs) (y ∷ ys) covers =
    let one = join_limits x y in
    let rest = cover_joined B (s + 1) xs ys covers.1 in
    ((omega (arith, one.0, covers.0), rest.0), (omega (arith, one.1, covers.0), rest.1))

covers_own : (B : ℕ → ℕ) (s : ℕ) (ks : List CoreKind) → ((i j : ℕ) → j ≡ s + i → slot_limit ks i ≤ B j) → Covers B s ks
covers_own B s [] all = tt
covers_own B s (k ∷ ks) all = (all 0 s (omega arith), covers_own B (s + 1) ks (λ i j is. all (suc i) j (omega (arith, is))))

-- ---- numbers

signed_below : (w : Width) (z : ℤ) → FitsSignedWidth w z → from_signed (slot_bytes w) z < kind_limit (number_kind w)
signed_below bits_8 (pos n) fits = let small : n < 128 = grind (arith, ints, fits.1) in omega (arith, small)
signed_below bits_8 (negsuc n) fits = let small : n + 1 ≤ 128 = grind (arith, ints, fits.0) in omega (arith, small)
signed_below bits_16 (pos n) fits = let small : n < 2 ^ 15 = grind (arith, ints, fits.1) in omega (arith, small)
signed_below bits_16 (negsuc n) fits = let small : n + 1 ≤ 2 ^ 15 = grind (arith, ints, fits.0) in omega (arith, small)
signed_below bits_32 (pos n) fits = let small : n < 2 ^ 31 = grind (arith, ints, fits.1) in omega (arith, small)
signed_below bits_32 (negsuc n) fits = let small : n + 1 ≤ 2 ^ 31 = grind (arith, ints, fits.0) in omega (arith, small)
signed_below bits_64 (pos n) fits = let small : n < 2 ^ 63 = grind (arith, ints, fits.1) in omega (arith, small)
signed_below bits_64 (negsuc n) fits = let small : n + 1 ≤ 2 ^ 63 = grind (arith, ints, fits.0) in omega (arith, small)

number_below : (w : Width) (n : ℕ) → FitsWidth w n → n < kind_limit (number_kind w)
number_below bits_8 n fits = omega (arith, fits)
number_below bits_16 n fits = omega (arith, fits)
number_below bits_32 n fits = omega (arith, fits)
number_below bits_64 n fits = omega (arith, fits)

units_below : (s : Charset) (cs : List ℕ) (n : ℕ) → length (text_bytes s cs) ≤ n → text_units s cs ≤ n
units_below utf8 cs n inside = omega (arith, inside)
units_below utf16 cs n inside = omega (arith, inside)
units_below latin1 cs n inside = omega (arith, inside)

module _ (e : StringEncoding) (n : ℕ) (g : Given) (B : ℕ → ℕ) (is : g.charset ≡ stored_charset e) (small : n < 2 ^ 32) (places : (k : ℕ) → place_of g k < 2 ^ 32) (numbers : (h : ℕ) → number_of g h < 2 ^ 32) where
  each_fit : (Q : Val → Type 0) (t : Ty) (vs : Vals) (s k h : ℕ)
      → ((v : Val) (s k h : ℕ) → Q v → CasesFit v → ArePlaced e n g k (parts_in t v) → Covers B s (flat_of t) → AllFit B (slots_of g t v s k h)) → ((v : Val) → Q v → length (parts_in t v) ≡ part_count v)
      → AllVals Q vs → AllCasesFit vs → ArePlaced e n g k (parts_each (parts_in t) vs) → Covers B s (copies (count_of vs) (flat_of t)) → AllFit B (store_each (slots_of g t) (width_of t) vs s k h)
  each_fit Q t no_vals s k h one count all fit placed covers = tt
  each_fit Q t (val v vs) s k h one count all fit placed covers =
      let size = count v all.0 in
      let parts_of = placed_both e n g is k (parts_in t v) (parts_each (parts_in t) vs) (k + part_count v) (omega (arith, size)) placed in
      let slots = cover_both B s (s + width_of t) (flat_of t) (copies (count_of vs) (flat_of t)) refl (rw (sym (copies_next (count_of vs) (flat_of t))) covers) in
      fit_both B (slots_of g t v s k h) _ (one v s k h all.0 fit.0 parts_of.0 slots.0) (each_fit Q t vs (s + width_of t) (k + part_count v) (h + handle_count v) one count all.1 fit.1 parts_of.1 slots.1)
    where
      copies_next : (m : ℕ) (xs : List CoreKind) → copies (1 + m) xs ≡ xs ++ copies m xs
      copies_next m xs = let next : 1 + m ≡ suc m = omega arith in rw next refl

  mutual
    numbers_fit : (t : Ty) → is_spellable t ≡ true → (v : Val) (s k h : ℕ) → HasType t v → CasesFit v → ArePlaced e n g k (parts_in t v) → Covers B s (flat_of t) → AllFit B (slots_of g t v s k h)
    numbers_fit bool spell (truth true) s k h typed fit placed covers = (omega (arith, covers.0), tt)
    numbers_fit bool spell (truth false) s k h typed fit placed covers = (omega (arith, covers.0), tt)
    numbers_fit (signed w) spell (signed_number z) s k h typed fit placed covers = let b = signed_below w z typed in (omega (arith, b, covers.0), tt)
    numbers_fit (unsigned w) spell (number m) s k h typed fit placed covers = let b = number_below w m typed in (omega (arith, b, covers.0), tt)
    numbers_fit char spell (scalar c) s k h typed fit placed covers = (omega (arith, typed.0, covers.0), tt)
    numbers_fit string spell (text cs) s k h typed fit placed covers =
        let place = places k in
        let inside : length (text_bytes g.charset cs) ≤ n = rw is (omega (arith, placed.0.inside)) in
        let units = units_below g.charset cs n inside in
        (omega (arith, place, covers.0), (omega (arith, units, small, covers.1.0), tt))
    numbers_fit (list t) spell (elements vs) s k h typed fit placed covers =
        let place = places k in
        (omega (arith, place, covers.0), (omega (arith, placed.0.counted, covers.1.0), tt))
    numbers_fit (fixed_list t c) spell (parts vs) s k h typed fit placed covers =
        each_fit (HasType t) t vs s k h (numbers_fit t (and_parts _ _ spell).1) (counted t) typed.1 fit placed (rw typed.0 covers)
    numbers_fit (fields kind fs) spell (parts vs) s k h typed fit placed covers = fields_fit fs (and_parts _ _ spell).1 vs s k h typed fit placed covers
    numbers_fit (cases kind cs) spell (bare i) s k h typed fit placed covers = (omega (arith, fit, covers.0), tt)
    numbers_fit (cases kind cs) spell (bearing i v) s k h typed fit placed covers =
        (omega (arith, fit.0, covers.0), case_fits cs (and_parts _ _ spell).1 i v (s + 1) k h typed fit.1 placed covers.1)
    numbers_fit (flags ls) spell (flag_set m) s k h typed fit placed covers =
        let few : length ls ≤ 32 = leb-true (length ls) 32 (and_parts _ _ spell).1 in
        (omega (arith, typed, covers.0, pow_mono {i = length ls} {j = 32} few), tt)
    numbers_fit (own r) spell (handle x) s k h typed fit placed covers = let b = numbers h in (omega (arith, b, covers.0), tt)
    numbers_fit (borrow r) spell (handle x) s k h typed fit placed covers = let b = numbers h in (omega (arith, b, covers.0), tt)
    numbers_fit _ spell _ s k h typed fit placed covers = absurd typed

    fields_fit : (fs : Fields) → are_spellable fs ≡ true → (vs : Vals) (s k h : ℕ) → HaveTypes fs vs → AllCasesFit vs → ArePlaced e n g k (parts_in_fields fs vs) → Covers B s (flat_of_fields fs) → AllFit B (slots_of_fields g fs vs s k h)
    fields_fit no_fields spell vs s k h typed fit placed covers = tt
    fields_fit (field l t fs) spell no_vals s k h typed fit placed covers = absurd typed
    fields_fit (field l t fs) spell (val v vs) s k h typed fit placed covers =
        let size = counted t v typed.0 in
        let spelled = and_parts _ _ spell in
        let parts_of = placed_both e n g is k (parts_in t v) (parts_in_fields fs vs) (k + part_count v) (omega (arith, size)) placed in
        let slots = cover_both B s (s + width_of t) (flat_of t) (flat_of_fields fs) refl covers in
        fit_both B (slots_of g t v s k h) _ (numbers_fit t spelled.0 v s k h typed.0 fit.0 parts_of.0 slots.0) (fields_fit fs spelled.1 vs (s + width_of t) (k + part_count v) (h + handle_count v) typed.1 fit.1 parts_of.1 slots.1)

    case_fits : (cs : Cases) → are_spellable_payloads cs ≡ true → (i : ℕ) (v : Val) (s k h : ℕ) → IsCarriedCase cs i v → CasesFit v → ArePlaced e n g k (parts_in_payload cs i v) → Covers B s (flat_of_cases cs) → AllFit B (slots_of_payload g cs i v s k h)
    case_fits no_cases spell i v s k h typed fit placed covers = absurd typed
    case_fits (plain l cs) spell zero v s k h typed fit placed covers = absurd typed
    case_fits (plain l cs) spell (suc i) v s k h typed fit placed covers = case_fits cs spell i v s k h typed fit placed covers
    case_fits (carrying l t cs) spell zero v s k h typed fit placed covers = numbers_fit t (and_parts _ _ spell).0 v s k h typed fit placed (cover_joined B s (flat_of t) (flat_of_cases cs) covers).0
    case_fits (carrying l t cs) spell (suc i) v s k h typed fit placed covers = case_fits cs (and_parts _ _ spell).1 i v s k h typed fit placed (cover_joined B s (flat_of t) (flat_of_cases cs) covers).1

-- ---- in slots

set_fits : (B : ℕ → ℕ) (m : List ℕ) (p x : ℕ) → x < B p → ((i : ℕ) → slice_index m i < B i) → (i : ℕ) → slice_index (slice_set m p x) i < B i
set_fits B [] p x lt all i = all i
set_fits B (y ∷ m) zero x lt all zero = lt
set_fits B (y ∷ m) zero x lt all (suc i) = all (suc i)
set_fits B (y ∷ m) (suc p) x lt all zero = all zero
set_fits B (y ∷ m) (suc p) x lt all (suc i) = set_fits (λ j. B (suc j)) m p x lt (λ j. all (suc j)) i

poke_fits : (B : ℕ → ℕ) (xs : List Placed) (m : List ℕ) → AllFit B xs → ((i : ℕ) → slice_index m i < B i) → (i : ℕ) → slice_index (poke xs m) i < B i
poke_fits B [] m fit all = all
poke_fits B (x ∷ xs) m fit all = poke_fits B xs (slice_set m x.0 x.1) fit.1 (set_fits B m x.0 x.1 fit.0 all)

pub call_fits : (w : View) (way : Way) (types : Fields) (g : Given) (v : Val) (slots : List ℕ) → HasType (tuple_of types) v → g.charset ≡ stored_charset w.encoding → Serves w way types g v
    → ArePlaced w.encoding (length w.memory) g 0 (call_parts way types v)
    → ((k : ℕ) → place_of g k < 2 ^ 32) → ((h : ℕ) → number_of g h < 2 ^ 32) → FitKinds (call_kinds way types) slots → FitKinds (call_kinds way types) (poke (call_numbers g way types v) slots)
call_fits w way types g v slots typed is s stand places numbers all = poke_fits (slot_limit (call_kinds way types)) (call_numbers g way types v) slots (one (is_spilled way types) stand) all
  where
    one : (b : Bool) → ArePlaced w.encoding (length w.memory) g 0 (if b then element_part 1 (size_of (tuple_of types)) (align_of (tuple_of types)) ∷ parts_in (tuple_of types) v else parts_in (tuple_of types) v)
        → AllFit (slot_limit (if b then kind.I32 ∷ [] else flat_of_fields types)) (if b then put 0 (place_of g 0) else slots_of g (tuple_of types) v 0 0 0)
    one true placed = (places 0, tt)
    one false placed =
        let B = slot_limit (flat_of_fields types) in
        tuple_fits v B typed s.cases placed (covers_own B 0 (flat_of_fields types) (λ i j at. let same : j ≡ i = omega (arith, at) in rw same (omega arith)))
      where
        tuple_fits : (v : Val) (B : ℕ → ℕ) → HasType (tuple_of types) v → CasesFit v → ArePlaced w.encoding (length w.memory) g 0 (parts_in (tuple_of types) v) → Covers B 0 (flat_of_fields types) → AllFit B (slots_of g (tuple_of types) v 0 0 0)
        tuple_fits (parts vs) B typed fit placed covers = fields_fit w.encoding (length w.memory) g B is s.memory places numbers types s.spellable vs 0 0 0 typed fit placed covers
        tuple_fits _ B typed fit placed covers = absurd typed
