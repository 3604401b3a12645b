-- What core values pass.
use Rattle.std.proofs.Common.{◌≡◌, ℕ, zero, suc, ℤ, pos, ◌+◌, ◌*◌, ◌%◌, ◌^◌, ◌<◌, ◌≤◌, inl, inr, Bool, true, false, not, ◌==◌, List, length, Some, None, refl, sym, ap, subst, ◌∙◌, arith, [], ◌∷◌, if◌then◌else◌}
use Rattle.std.proofs.lemmas.Bool.Decides.{nat_tests}
use Rattle.std.proofs.lemmas.Int.{ints}
use Rattle.std.proofs.lemmas.List.{get_or_default}
use Rattle.std.proofs.Math.Nat.{mod-lt}
use Rattle.std.proofs.lemmas.Nat.{pow_pos}
use Rattle.std.specs.Prelude.{neg_ℤ, ◌≤ℤ◌, ◌<ℤ◌}
use Rattle.cm_types.specs.declared.core_value.CoreValue.{CoreValue}
use Rattle.cm_types.specs.declared.core_value.CoreValue.TheVariants as core_value
use Rattle.cm_types.specs.declared.resource.ResourceId.{ResourceId}
use Rattle.cm_types.specs.Types.{Ty, Fields, FieldsKind, Cases, CasesKind, Width, width_bytes, bits_8, bits_16, bits_32, bits_64, bool, signed, unsigned, char, string, list, fixed_list, fields, cases, flags, own, borrow, tuple_type, no_fields, field, no_cases, plain, carrying}
use Rattle.cm_types.specs.Values.{Val, Vals, HandleValue, no_vals, val, truth, signed_number, number, scalar, text, elements, parts, bare, bearing, flag_set, handle, count_of, FitsSignedWidth, IsScalarValue}
use Rattle.cm_handles.specs.declared.handle.Handle.{Handle}
use Rattle.cm_handles.specs.declared.handle.HandleKind.TheVariants.{Owned}
use Rattle.cm_layout.specs.Flattening.{flat_of_fields}
use Rattle.cm_layout.specs.Sizes.{field_count, field_type}
use Rattle.cm_abi_model.specs.Denotes.{Denotes}
use Rattle.cm_abi_model.specs.FlatShows.{FlatShowFields, FlatShows, FlatShowsPayload, width_of}
use Rattle.cm_abi_model.specs.Numbers.{as_signed, slot_at, slot_number, wrapped_at}
use Rattle.cm_abi_model.specs.Receives.{behind, call_bytes, call_kinds, call_numbers, put, slots_of}
use Rattle.cm_abi_model.specs.Stores.{Given, place_of, stored}
use Rattle.cm_abi_model.specs.Texts.{ShowsText}
use Rattle.cm_abi_model.specs.Views.{View, Way, params, results}
use Rattle.cm_abi_model.specs.Requests.{is_spilled}
use Rattle.cm_types.specs.declared.core_value.CoreKind.TheVariants as kind
use Rattle.cm_abi_model.specs.Bytes.{AreBytes, IsTwosComplement, bit_of}
use Rattle.cm_abi_model.specs.PartPlaces.{AreElements, IsCase, IsHandle, value_at}
use Rattle.cm_abi_model.specs.Passed.{AreFieldsIn, AreFirst, AreLowBits, ArePassed, IsCore, IsCore32, IsTupleAt}
use Rattle.cm_abi_model.specs.Strings.{IsString}
use Rattle.cm_abi_model.proofs.BitLaws.{bits_kept, kept_below}
use Rattle.cm_abi_model.proofs.FieldLaws.{elements_only, elements_read, handle_only, handle_read, plain_only, plain_read, row_shown, show_row}
use Rattle.cm_abi_model.proofs.FlagLaws.{bits_same}
use Rattle.cm_abi_model.proofs.NumberLaws.{signed_only, signed_read, signed_stored}
use Rattle.cm_abi_model.proofs.StringLaws.{shown_string, string_shown}
use Rattle.cm_lemmas.proofs.Numbers.{lt_true, lt_false}

-- ---- the number of a core value

core_is : (slots : List CoreValue) (k n : ℕ) → IsCore slots k n → slot_at slots k ≡ n
core_is slots k n h = elim h.number [
  | inl i ↦ ap slot_number (get_or_default slots k (core_value.I32 0) (core_value.I32 n) h.there ∙ i)
  | inr i ↦ ap slot_number (get_or_default slots k (core_value.I32 0) (core_value.I64 n) h.there ∙ i)
]

wrapped_is : (b : ℕ) (slots : List CoreValue) (k n : ℕ) → IsCore slots k n → wrapped_at b slots k ≡ n % 2 ^ (8 * b)
wrapped_is b slots k n h = ap (λ x. x % 2 ^ (8 * b)) (core_is slots k n h)

core32_is : (slots : List CoreValue) (k n : ℕ) → IsCore32 slots k n → wrapped_at 4 slots k ≡ n
core32_is slots k n h = let small = h.below in wrapped_is 4 slots k n h.core ∙ omega (arith, small)

-- ---- leaves

pub zero_passed : (w : View) (s : List CoreValue) (k : ℕ) (b : Bool) → IsCore32 s k 0 → FlatShows w s bool k (truth b) → b ≡ false
zero_passed w s k b c h = h ∙ ap (λ n. not (n == 0)) (core32_is s k 0 c)

pub other_passed : (w : View) (s : List CoreValue) (k n : ℕ) (b : Bool) → IsCore32 s k n → 0 < n → FlatShows w s bool k (truth b) → b ≡ true
other_passed w s k n b c some h =
    let same = core32_is s k n c in
    let test : not (wrapped_at 4 s k == 0) ≡ true = grind (arith, nat_tests, same, some) in
    h ∙ test

pub unsigned_passed : (w : View) (s : List CoreValue) (t : Width) (k n m : ℕ) → IsCore s k n → FlatShows w s (unsigned t) k (number m) → m ≡ n % 2 ^ (8 * width_bytes t)
unsigned_passed w s t k n m c h = h ∙ wrapped_is (width_bytes t) s k n c

below_bytes : (t : Width) (n : ℕ) → n % 2 ^ (8 * width_bytes t) < 256 ^ width_bytes t
below_bytes bits_8 n = mod-lt n (pow_pos 8)
below_bytes bits_16 n = mod-lt n (pow_pos 16)
below_bytes bits_32 n = mod-lt n (pow_pos 32)
below_bytes bits_64 n = mod-lt n (pow_pos 64)

pub signed_passed : (w : View) (s : List CoreValue) (t : Width) (k n : ℕ) (z : ℤ) → IsCore s k n → FlatShows w s (signed t) k (signed_number z)
    → IsTwosComplement (8 * width_bytes t) (n % 2 ^ (8 * width_bytes t)) z
signed_passed w s t k n z c h =
    let x = n % 2 ^ (8 * width_bytes t) in
    subst (λ y. IsTwosComplement (8 * width_bytes t) x y) (sym (h ∙ ap (λ y. as_signed (width_bytes t) y) (wrapped_is (width_bytes t) s k n c))) (signed_read t x (below_bytes t n))

pub scalar_passed : (w : View) (s : List CoreValue) (k n c : ℕ) → IsCore32 s k n → FlatShows w s char k (scalar c) → (c ≡ n) × IsScalarValue c
scalar_passed w s k n c i h = (h.0 ∙ core32_is s k n i, h.1)

pub labels_passed : (w : View) (s : List CoreValue) (ls : List (List ℕ)) (k n set : ℕ) → IsCore32 s k n → FlatShows w s (flags ls) k (flag_set set) → AreLowBits n (length ls) set
labels_passed w s ls k n set c h =
    let same : set ≡ n % 2 ^ length ls = h ∙ ap (λ x. x % 2 ^ length ls) (core32_is s k n c) in
    record { below = omega (arith, same, kept_below n (length ls)); each = λ i lt. ap (λ x. bit_of x i) same ∙ bits_kept n (length ls) i lt }

pub labels_pass : (w : View) (s : List CoreValue) (ls : List (List ℕ)) (k n set : ℕ) → IsCore32 s k n → AreLowBits n (length ls) set → FlatShows w s (flags ls) k (flag_set set)
labels_pass w s ls k n set c h =
    bits_same (length ls) set (n % 2 ^ length ls) h.below (kept_below n (length ls)) (λ i lt. h.each i lt ∙ sym (bits_kept n (length ls) i lt))
    ∙ sym (ap (λ x. x % 2 ^ length ls) (core32_is s k n c))

-- ---- pointers

pub string_passed : (w : View) (s : List CoreValue) (k at n : ℕ) (cs : List ℕ) → AreBytes w.memory → IsCore32 s k at → IsCore32 s (k + 1) n → FlatShows w s string k (text cs) → IsString w at n cs
string_passed w s k at n cs bytes c d h =
    string_shown w at n cs bytes
    (subst (λ x. ShowsText w.encoding w.memory x n cs) (core32_is s k at c) (subst (λ x. ShowsText w.encoding w.memory (wrapped_at 4 s k) x cs) (core32_is s (k + 1) n d) h))

pub string_pass : (w : View) (s : List CoreValue) (k at n : ℕ) (cs : List ℕ) → IsCore32 s k at → IsCore32 s (k + 1) n → IsString w at n cs → FlatShows w s string k (text cs)
string_pass w s k at n cs c d h =
    subst (λ x. ShowsText w.encoding w.memory (wrapped_at 4 s k) x cs) (sym (core32_is s (k + 1) n d))
    (subst (λ x. ShowsText w.encoding w.memory x n cs) (sym (core32_is s k at c)) (shown_string w at n cs h))

pub list_passed : (w : View) (s : List CoreValue) (t : Ty) (k at n : ℕ) (vs : Vals) → IsCore32 s k at → IsCore32 s (k + 1) n → FlatShows w s (list t) k (elements vs)
    → (count_of vs ≡ n) × AreElements w t at vs
list_passed w s t k at n vs c d h =
    (h.count ∙ core32_is s (k + 1) n d, subst (λ x. AreElements w t x vs) (core32_is s k at c) (elements_read w t (wrapped_at 4 s k) (wrapped_at 4 s (k + 1)) vs h))

pub list_pass : (w : View) (s : List CoreValue) (t : Ty) (k at n : ℕ) (vs : Vals) → IsCore32 s k at → IsCore32 s (k + 1) n → count_of vs ≡ n → AreElements w t at vs
    → FlatShows w s (list t) k (elements vs)
list_pass w s t k at n vs c d e h =
    elements_only w t (wrapped_at 4 s k) (wrapped_at 4 s (k + 1)) vs (core32_is s (k + 1) n d ∙ sym e) (subst (λ x. AreElements w t x vs) (sym (core32_is s k at c)) h)

pub own_passed : (w : View) (s : List CoreValue) (r : ResourceId) (k index : ℕ) (h : HandleValue) → IsCore32 s k index → FlatShows w s (own r) k (handle h)
    → (e : Handle) × IsHandle w.table index r e h × (e.kind ≡ Owned)
own_passed w s r k index h c x =
    (x.handle.entry, subst (λ i. IsHandle w.table i r x.handle.entry h) (core32_is s k index c) (handle_read w.table (wrapped_at 4 s k) r h x.handle), x.owned)

pub own_pass : (w : View) (s : List CoreValue) (r : ResourceId) (k index : ℕ) (e : Handle) (h : HandleValue) → IsCore32 s k index → IsHandle w.table index r e h → e.kind ≡ Owned
    → FlatShows w s (own r) k (handle h)
unfolding handle_only
own_pass w s r k index e h c x owned =
    record { handle = handle_only w.table (wrapped_at 4 s k) r e h (subst (λ i. IsHandle w.table i r e h) (sym (core32_is s k index c)) x); owned = owned }

pub borrow_passed : (w : View) (s : List CoreValue) (r : ResourceId) (k index : ℕ) (h : HandleValue) → IsCore32 s k index → FlatShows w s (borrow r) k (handle h)
    → (e : Handle) × IsHandle w.table index r e h
borrow_passed w s r k index h c x = (x.entry, subst (λ i. IsHandle w.table i r x.entry h) (core32_is s k index c) (handle_read w.table (wrapped_at 4 s k) r h x))

pub borrow_pass : (w : View) (s : List CoreValue) (r : ResourceId) (k index : ℕ) (e : Handle) (h : HandleValue) → IsCore32 s k index → IsHandle w.table index r e h
    → FlatShows w s (borrow r) k (handle h)
borrow_pass w s r k index e h c x = handle_only w.table (wrapped_at 4 s k) r e h (subst (λ i. IsHandle w.table i r e h) (sym (core32_is s k index c)) x)

-- ---- fields, rows and cases

unfoldable pub first_from : Fields → ℕ → ℕ
first_from no_fields i = 0
first_from (field l t fs) zero = 0
first_from (field l t fs) (suc i) = width_of t + first_from fs i

first_zero : (fs : Fields) → first_from fs 0 ≡ 0
unfolding first_from
first_zero no_fields = refl
first_zero (field l t fs) = refl

first_next : (fs : Fields) (i : ℕ) → suc i < field_count fs → first_from fs (suc i) ≡ first_from fs i + width_of (field_type fs i)
unfolding first_from
first_next no_fields i lt = absurd (omega (arith, lt))
first_next (field l t fs) zero lt = omega (arith, first_zero fs)
first_next (field l t fs) (suc i) lt = omega (arith, first_next fs i (omega (arith, lt)))

pub first_is : (fs : Fields) (first : ℕ → ℕ) → AreFirst fs first → (i : ℕ) → i < field_count fs → first i ≡ first_from fs i
first_is fs first h zero lt = h.start ∙ sym (first_zero fs)
first_is fs first h (suc i) lt =
    ap first {x = suc i} {y = i + 1} (omega arith) ∙ h.next i (omega (arith, lt)) ∙ ap (λ x. x + width_of (field_type fs i)) (first_is fs first h i (omega (arith, lt)))
    ∙ sym (first_next fs i lt)

fields_in : (w : View) (s : List CoreValue) (fs : Fields) (k : ℕ) (vs : Vals) → FlatShowFields w s fs k vs
    → (count_of vs ≡ field_count fs) × ((i : ℕ) → i < field_count fs → FlatShows w s (field_type fs i) (k + first_from fs i) (value_at vs i))
unfolding first_from
fields_in w s no_fields k no_vals h = (refl, λ i lt. absurd (omega (arith, lt)))
fields_in w s no_fields k (val v vs) h = absurd h
fields_in w s (field l t fs) k no_vals h = absurd h
fields_in w s (field l t fs) k (val v vs) h =
    let rest = fields_in w s fs (k + width_of t) vs h.1 in
    (omega (arith, rest.0), each rest.1)
  where
    each : ((i : ℕ) → i < field_count fs → FlatShows w s (field_type fs i) (k + width_of t + first_from fs i) (value_at vs i))
        → (i : ℕ) → i < suc (field_count fs) → FlatShows w s (field_type (field l t fs) i) (k + first_from (field l t fs) i) (value_at (val v vs) i)
    each rest zero lt = subst (λ q. FlatShows w s t q v) {x = k} {y = k + 0} (omega arith) h.0
    each rest (suc i) lt = subst (λ q. FlatShows w s (field_type fs i) q (value_at vs i)) {x = k + width_of t + first_from fs i} {y = k + (width_of t + first_from fs i)} (omega arith) (rest i (omega (arith, lt)))

in_fields : (w : View) (s : List CoreValue) (fs : Fields) (k : ℕ) (vs : Vals) → count_of vs ≡ field_count fs
    → ((i : ℕ) → i < field_count fs → FlatShows w s (field_type fs i) (k + first_from fs i) (value_at vs i)) → FlatShowFields w s fs k vs
unfolding first_from
in_fields w s no_fields k no_vals n h = tt {0}
in_fields w s no_fields k (val v vs) n h = absurd (omega (arith, n))
in_fields w s (field l t fs) k no_vals n h = absurd (omega (arith, n))
in_fields w s (field l t fs) k (val v vs) n h = (
  subst (λ q. FlatShows w s t q v) {x = k + 0} {y = k} (omega arith) (h 0 (omega arith)),
  in_fields w s fs (k + width_of t) vs (omega (arith, n))
      (λ i lt. subst (λ q. FlatShows w s (field_type fs i) q (value_at vs i)) {x = k + (width_of t + first_from fs i)} {y = k + width_of t + first_from fs i} (omega arith) (h (suc i) (omega (arith, lt)))),
)

pub fields_passed : (w : View) (s : List CoreValue) (f : FieldsKind) (fs : Fields) (first : ℕ → ℕ) (k : ℕ) (vs : Vals) → AreFirst fs first → FlatShows w s (fields f fs) k (parts vs)
    → AreFieldsIn w s fs first k vs
fields_passed w s f fs first k vs o h =
    let all = fields_in w s fs k vs h in
    record { count = all.0; each = λ i lt. subst (λ n. FlatShows w s (field_type fs i) (k + n) (value_at vs i)) (sym (first_is fs first o i lt)) (all.1 i lt) }

pub fields_pass : (w : View) (s : List CoreValue) (f : FieldsKind) (fs : Fields) (first : ℕ → ℕ) (k : ℕ) (vs : Vals) → AreFirst fs first → AreFieldsIn w s fs first k vs
    → FlatShows w s (fields f fs) k (parts vs)
fields_pass w s f fs first k vs o h =
    in_fields w s fs k vs h.count (λ i lt. subst (λ n. FlatShows w s (field_type fs i) (k + n) (value_at vs i)) (first_is fs first o i lt) (h.each i lt))

pub there_are_first : (fs : Fields) → (first : ℕ → ℕ) × AreFirst fs first
there_are_first fs =
    (first_from fs, record { start = first_zero fs; next = λ i lt. ap (first_from fs) {x = i + 1} {y = suc i} (omega arith) ∙ first_next fs i (omega (arith, lt)) })

pub fixed_passed : (w : View) (s : List CoreValue) (t : Ty) (n k : ℕ) (vs : Vals) → FlatShows w s (fixed_list t n) k (parts vs) → (count_of vs ≡ n) × ArePassed w s t k vs
fixed_passed w s t n k vs h = (h.0, record { each = row_shown (FlatShows w s t) (width_of t) k vs h.1 })

pub fixed_pass : (w : View) (s : List CoreValue) (t : Ty) (n k : ℕ) (vs : Vals) → count_of vs ≡ n → ArePassed w s t k vs → FlatShows w s (fixed_list t n) k (parts vs)
fixed_pass w s t n k vs e h = (e, show_row (FlatShows w s t) (width_of t) k vs h.each)

payload_in : (w : View) (s : List CoreValue) (cs : Cases) (k i : ℕ) (v : Val) → FlatShowsPayload w s cs k i v → (t : Ty) × IsCase cs i (Some t) × FlatShows w s t k v
payload_in w s no_cases k i v h = absurd h
payload_in w s (plain l cs) k zero v h = absurd h
payload_in w s (plain l cs) k (suc i) v h = payload_in w s cs k i v h
payload_in w s (carrying l t cs) k zero v h = (t, refl, h)
payload_in w s (carrying l t cs) k (suc i) v h = payload_in w s cs k i v h

in_payload : (w : View) (s : List CoreValue) (cs : Cases) (k i : ℕ) (v : Val) (t : Ty) → IsCase cs i (Some t) → FlatShows w s t k v → FlatShowsPayload w s cs k i v
in_payload w s no_cases k i v t c h = absurd c
in_payload w s (plain l cs) k zero v t c h = absurd (some_none c)
  where
    some_none : Some t ≡ None → ⊥
    some_none e = cc
in_payload w s (plain l cs) k (suc i) v t c h = in_payload w s cs k i v t c h
in_payload w s (carrying l u cs) k zero v t c h = subst (λ x. FlatShows w s x k v) (some_is c) h
  where
    some_is : Some t ≡ Some u → t ≡ u
    some_is e = cc
in_payload w s (carrying l u cs) k (suc i) v t c h = in_payload w s cs k i v t c h

pub bare_passed : (w : View) (s : List CoreValue) (x : CasesKind) (cs : Cases) (k n i : ℕ) → IsCore32 s k n → FlatShows w s (cases x cs) k (bare i) → (i ≡ n) × IsCase cs i None
bare_passed w s x cs k n i c h = (sym h.0 ∙ core32_is s k n c, plain_read cs i h.1)

pub bare_pass : (w : View) (s : List CoreValue) (x : CasesKind) (cs : Cases) (k i : ℕ) → IsCore32 s k i → IsCase cs i None → FlatShows w s (cases x cs) k (bare i)
bare_pass w s x cs k i c h = (core32_is s k i c, plain_only cs i h)

pub bearing_passed : (w : View) (s : List CoreValue) (x : CasesKind) (cs : Cases) (k n i : ℕ) (v : Val) → IsCore32 s k n → FlatShows w s (cases x cs) k (bearing i v)
    → (i ≡ n) × ((t : Ty) × IsCase cs i (Some t) × FlatShows w s t (k + 1) v)
bearing_passed w s x cs k n i v c h = (sym h.0 ∙ core32_is s k n c, payload_in w s cs (k + 1) i v h.1)

pub bearing_pass : (w : View) (s : List CoreValue) (x : CasesKind) (cs : Cases) (k i : ℕ) (v : Val) (t : Ty) → IsCore32 s k i → IsCase cs i (Some t) → FlatShows w s t (k + 1) v
    → FlatShows w s (cases x cs) k (bearing i v)
bearing_pass w s x cs k i v t c h f = (core32_is s k i c, in_payload w s cs (k + 1) i v t h f)

-- ---- lowered numbers

fits_more : (half more : ℕ) (z : ℤ) → half ≤ more → (neg_ℤ (pos half) ≤ℤ z) × (z <ℤ pos half) → (neg_ℤ (pos more) ≤ℤ z) × (z <ℤ pos more)
fits_more half more z le h = (grind (arith, ints, h.0, le), grind (arith, ints, h.1, le))

pub narrow_passed : (g : Given) (t : Width) (z : ℤ) (s k h : ℕ) → width_bytes t ≤ 4 → FitsSignedWidth t z → (n : ℕ) × (slots_of g (signed t) (signed_number z) s k h ≡ put s n) × (n < 2 ^ 32) × IsTwosComplement 32 n z
narrow_passed g bits_8 z s k h few fits = let r = signed_stored bits_32 z (fits_more (2 ^ 7) (2 ^ 31) z (omega arith) fits) in (_, refl, r.0, r.1)
narrow_passed g bits_16 z s k h few fits = let r = signed_stored bits_32 z (fits_more (2 ^ 15) (2 ^ 31) z (omega arith) fits) in (_, refl, r.0, r.1)
narrow_passed g bits_32 z s k h few fits = let r = signed_stored bits_32 z fits in (_, refl, r.0, r.1)
narrow_passed g bits_64 z s k h few fits = absurd (omega (arith, few))

pub wide_passed : (g : Given) (z : ℤ) (s k h : ℕ) → FitsSignedWidth bits_64 z → (n : ℕ) × (slots_of g (signed bits_64) (signed_number z) s k h ≡ put s n) × (n < 2 ^ 64) × IsTwosComplement 64 n z
wide_passed g z s k h fits = let r = signed_stored bits_64 z fits in (_, refl, r.0, r.1)

pub u16_example : (w : View) (s : List CoreValue) (k m : ℕ) → IsCore s k 0x1FFFE → FlatShows w s (unsigned bits_16) k (number m) → m ≡ 65534
u16_example w s k m c h = unsigned_passed w s bits_16 k 0x1FFFE m c h

pub s8_example : (w : View) (s : List CoreValue) (k : ℕ) (z : ℤ) → IsCore s k 0xFFFFFFFE → FlatShows w s (signed bits_8) k (signed_number z) → z ≡ neg_ℤ (pos 2)
s8_example w s k z c h = h ∙ ap (λ x. as_signed 1 x) (wrapped_is 1 s k 0xFFFFFFFE c)

pub s8_lowered : (g : Given) (s k h : ℕ) → slots_of g (signed bits_8) (signed_number (neg_ℤ (pos 2))) s k h ≡ put s 0xFFFFFFFE
s8_lowered g s k h = refl

-- ---- a call

tuple_at : (w : View) (types : Fields) (p q : ℕ) (v : Val) → p ≡ q → IsTupleAt w types p v → IsTupleAt w types q v
tuple_at w types p q v e h = subst (λ x. IsTupleAt w types x v) e h

pub params_flat : (w : View) (types : Fields) (slots : List CoreValue) (v : Val) → length (flat_of_fields types) ≤ 16 → Denotes w params types slots v → FlatShows w slots (fields tuple_type types) 0 v
params_flat w types slots v few d = elim d [ inl f ↦ f.shown | inr f ↦ absurd (omega (arith, few, f.spilled)) ]

pub params_spilled : (w : View) (types : Fields) (slots : List CoreValue) (p : ℕ) (v : Val) → 16 < length (flat_of_fields types) → IsCore32 slots 0 p → Denotes w params types slots v → IsTupleAt w types p v
params_spilled w types slots p v many c d = elim d [
  | inl f ↦ absurd (omega (arith, many, f.fits))
  | inr f ↦ tuple_at w types (wrapped_at 4 slots 0) p v (core32_is slots 0 p c) (record { aligned = f.aligned; inside = f.inside; shown = f.shown })
]

pub results_flat : (w : View) (types : Fields) (slots : List CoreValue) (v : Val) → length (flat_of_fields types) ≤ 1 → Denotes w results types slots v → FlatShows w slots (fields tuple_type types) 0 v
results_flat w types slots v few d = elim d [ inl f ↦ f.shown | inr f ↦ absurd (omega (arith, few, f.spilled)) ]

pub results_spilled : (w : View) (types : Fields) (slots : List CoreValue) (p : ℕ) (v : Val) → 1 < length (flat_of_fields types) → IsCore32 slots 0 p → Denotes w results types slots v → IsTupleAt w types p v
results_spilled w types slots p v many c d = elim d [
  | inl f ↦ absurd (omega (arith, many, f.fits))
  | inr f ↦ tuple_at w types (wrapped_at 4 slots 0) p v (core32_is slots 0 p c) (record { aligned = f.aligned; inside = f.inside; shown = f.shown })
]

pub params_pass : (w : View) (types : Fields) (slots : List CoreValue) (v : Val) → length (flat_of_fields types) ≤ 16 → FlatShows w slots (fields tuple_type types) 0 v → Denotes w params types slots v
params_pass w types slots v few h = inl (record { fits = few; shown = h })

pub params_behind : (w : View) (types : Fields) (slots : List CoreValue) (p : ℕ) (v : Val) → 16 < length (flat_of_fields types) → IsCore32 slots 0 p → IsTupleAt w types p v → Denotes w params types slots v
params_behind w types slots p v many c h =
    let t = tuple_at w types p (wrapped_at 4 slots 0) v (sym (core32_is slots 0 p c)) h in
    inr (record { spilled = many; aligned = t.aligned; inside = t.inside; shown = t.shown })

pub results_pass : (w : View) (types : Fields) (slots : List CoreValue) (v : Val) → length (flat_of_fields types) ≤ 1 → FlatShows w slots (fields tuple_type types) 0 v → Denotes w results types slots v
results_pass w types slots v few h = inl (record { fits = few; shown = h })

pub results_behind : (w : View) (types : Fields) (slots : List CoreValue) (p : ℕ) (v : Val) → 1 < length (flat_of_fields types) → IsCore32 slots 0 p → IsTupleAt w types p v → Denotes w results types slots v
results_behind w types slots p v many c h =
    let t = tuple_at w types p (wrapped_at 4 slots 0) v (sym (core32_is slots 0 p c)) h in
    inr (record { spilled = many; aligned = t.aligned; inside = t.inside; shown = t.shown })

-- ---- what is passed is shown

pub zero_pass : (w : View) (s : List CoreValue) (k : ℕ) → IsCore32 s k 0 → FlatShows w s bool k (truth false)
zero_pass w s k c = sym (ap (λ n. not (n == 0)) (core32_is s k 0 c))

pub other_pass : (w : View) (s : List CoreValue) (k n : ℕ) → IsCore32 s k n → 0 < n → FlatShows w s bool k (truth true)
other_pass w s k n c some =
    let same = core32_is s k n c in
    let test : not (wrapped_at 4 s k == 0) ≡ true = grind (arith, nat_tests, same, some) in
    sym test

pub unsigned_pass : (w : View) (s : List CoreValue) (t : Width) (k n : ℕ) → IsCore s k n → FlatShows w s (unsigned t) k (number (n % 2 ^ (8 * width_bytes t)))
unsigned_pass w s t k n c = sym (wrapped_is (width_bytes t) s k n c)

pub signed_pass : (w : View) (s : List CoreValue) (t : Width) (k n : ℕ) (z : ℤ) → IsCore s k n → IsTwosComplement (8 * width_bytes t) (n % 2 ^ (8 * width_bytes t)) z
    → FlatShows w s (signed t) k (signed_number z)
signed_pass w s t k n z c h = signed_only t (n % 2 ^ (8 * width_bytes t)) z (below_bytes t n) h ∙ sym (ap (λ y. as_signed (width_bytes t) y) (wrapped_is (width_bytes t) s k n c))

pub scalar_pass : (w : View) (s : List CoreValue) (k c : ℕ) → IsCore32 s k c → IsScalarValue c → FlatShows w s char k (scalar c)
scalar_pass w s k c i is = (sym (core32_is s k c i), is)

-- ---- a call that is lowered

abbrev pub IsPassedBehind : Given → Way → Fields → Val → Type 0
IsPassedBehind g way types v =
    (call_kinds way types ≡ kind.I32 ∷ []) × (call_numbers g way types v ≡ put 0 (place_of g 0)) × (call_bytes g way types v ≡ stored g (fields tuple_type types) v (place_of g 0) 1 0)

behind_by : (g : Given) (way : Way) (types : Fields) (v : Val) → is_spilled way types ≡ true → IsPassedBehind g way types v
behind_by g way types v e = (
  ap (λ b. if b then kind.I32 ∷ [] else flat_of_fields types) e,
  ap (λ b. if b then put 0 (place_of g 0) else slots_of g (fields tuple_type types) v 0 0 0) e,
  ap (λ b. if b then stored g (fields tuple_type types) v (place_of g 0) 1 0 else behind g (fields tuple_type types) v 0 0) e,
)

pub params_lowered : (g : Given) (types : Fields) (v : Val) → 16 < length (flat_of_fields types) → IsPassedBehind g params types v
params_lowered g types v many = behind_by g params types v (lt_true 16 (length (flat_of_fields types)) many)

pub results_lowered : (g : Given) (types : Fields) (v : Val) → 1 < length (flat_of_fields types) → IsPassedBehind g results types v
results_lowered g types v many = behind_by g results types v (lt_true 1 (length (flat_of_fields types)) many)

pub params_kinds : (types : Fields) → length (flat_of_fields types) ≤ 16 → call_kinds params types ≡ flat_of_fields types
params_kinds types few = ap (λ b. if b then kind.I32 ∷ [] else flat_of_fields types) (lt_false 16 (length (flat_of_fields types)) few)

pub results_kinds : (types : Fields) → length (flat_of_fields types) ≤ 1 → call_kinds results types ≡ flat_of_fields types
results_kinds types few = ap (λ b. if b then kind.I32 ∷ [] else flat_of_fields types) (lt_false 1 (length (flat_of_fields types)) few)
