-- A value with the number of each handle in the handle's place, and the types of such values: they
-- are stored and passed as the values with handles are.
use Rattle.std.proofs.Common.{◌≡◌, ℕ, zero, suc, ◌+◌, ◌*◌, ◌^◌, ◌<◌, not, List, [], ◌∷◌, ◌++◌}
use Rattle.std.proofs.Common.{length, refl, ap, ◌∙◌, arith}
use Rattle.std.specs.Prelude.{max, ◌&&◌, nat_lt, if◌then◌else◌}
use Rattle.cm_types.specs.declared.core_value.CoreKind.TheVariants as kind
use Rattle.cm_types.specs.Spellable.{are_spellable, are_spellable_payloads, has_no_cases}
use Rattle.cm_types.specs.Spellable.{has_no_fields, is_spellable}
use Rattle.cm_types.specs.Types.{Ty, Fields, Cases, bits_32, bool, signed, unsigned, char, string}
use Rattle.cm_types.specs.Types.{list, fixed_list, fields, cases, flags, own, borrow, no_fields}
use Rattle.cm_types.specs.Types.{field, no_cases, plain, carrying}
use Rattle.cm_types.specs.Values.{Val, Vals, no_vals, val, truth, signed_number, number, scalar}
use Rattle.cm_types.specs.Values.{text, elements, parts, bare, bearing, flag_set, handle, count_of}
use Rattle.cm_types.specs.Values.{AllVals, HasType, HaveTypes, IsCarriedCase, IsPlainCase}
use Rattle.cm_layout.specs.Alignment.{align_to}
use Rattle.cm_layout.specs.Sizes.{align_of, align_of_fields, align_of_payloads, case_count}
use Rattle.cm_layout.specs.Sizes.{discriminant_size, end_of, greatest_payload, payload_offset}
use Rattle.cm_layout.specs.Sizes.{size_of}
use Rattle.cm_layout.specs.Flattening.{copies, flat_of, flat_of_cases, flat_of_fields, join_slots}
use Rattle.cm_abi_model.specs.FlatShows.{width_of}
use Rattle.cm_abi_model.specs.Parts.{AllCasesFit, CasesFit, element_part, handle_count, part_count}
use Rattle.cm_abi_model.specs.Parts.{part_count_each, parts_each, parts_in, parts_in_fields}
use Rattle.cm_abi_model.specs.Parts.{parts_in_payload}
use Rattle.cm_abi_model.specs.Receives.{behind, behind_each, behind_fields, behind_payload}
use Rattle.cm_abi_model.specs.Receives.{leaves_each, leaves_in, leaves_in_fields, leaves_in_payload}
use Rattle.cm_abi_model.specs.Receives.{put, slots_of, slots_of_fields, slots_of_payload}
use Rattle.cm_abi_model.specs.Requests.{CarryNoString, HasNoString, HaveNoString}
use Rattle.cm_abi_model.specs.Stores.{Given, bytes_of, number_of, place_of, placed, pointer_bytes}
use Rattle.cm_abi_model.specs.Stores.{store_each, stored, stored_fields, stored_payload}

-- ---- types and values

abbrev mutual
  -- a type with a number of 32 bits in the place of each handle
  pub numeric : Ty → Ty
  numeric bool = bool
  numeric (signed w) = signed w
  numeric (unsigned w) = unsigned w
  numeric char = char
  numeric string = string
  numeric (list t) = list (numeric t)
  numeric (fixed_list t n) = fixed_list (numeric t) n
  numeric (fields k fs) = fields k (numeric_fields fs)
  numeric (cases k cs) = cases k (numeric_cases cs)
  numeric (flags ls) = flags ls
  numeric (own r) = unsigned bits_32
  numeric (borrow r) = unsigned bits_32

  pub numeric_fields : Fields → Fields
  numeric_fields no_fields = no_fields
  numeric_fields (field l t fs) = field l (numeric t) (numeric_fields fs)

  pub numeric_cases : Cases → Cases
  numeric_cases no_cases = no_cases
  numeric_cases (plain l cs) = plain l (numeric_cases cs)
  numeric_cases (carrying l t cs) = carrying l (numeric t) (numeric_cases cs)

abbrev mutual
  -- a value with the number of each handle, from this one on, in the place of the handle
  pub numbered : Given → Val → ℕ → Val
  numbered g (truth b) h = truth b
  numbered g (signed_number z) h = signed_number z
  numbered g (number n) h = number n
  numbered g (scalar c) h = scalar c
  numbered g (text cs) h = text cs
  numbered g (elements vs) h = elements (numbered_each g vs h)
  numbered g (parts vs) h = parts (numbered_each g vs h)
  numbered g (bare i) h = bare i
  numbered g (bearing i v) h = bearing i (numbered g v h)
  numbered g (flag_set n) h = flag_set n
  numbered g (handle e) h = number (number_of g h)

  pub numbered_each : Given → Vals → ℕ → Vals
  numbered_each g no_vals h = no_vals
  numbered_each g (val v vs) h = val (numbered g v h) (numbered_each g vs (h + handle_count v))

-- ---- equations

pub two : {A B C : Type 0} (f : A → B → C) (a b : A) (c d : B) → a ≡ b → c ≡ d → f a c ≡ f b d
two f a b c d first second = ap (λ x. f x c) first ∙ ap (f b) second

joined : {A : Type 0} (xs ys us vs : List A) → xs ≡ ys → us ≡ vs → xs ++ us ≡ ys ++ vs
joined xs ys us vs first second = two (λ as' bs. as' ++ bs) xs ys us vs first second

sum_is : (a b c d : ℕ) → a ≡ b → c ≡ d → a + c ≡ b + d
sum_is a b c d first second = omega (arith, first, second)

-- ---- sizes

pub case_count_is : (cs : Cases) → case_count (numeric_cases cs) ≡ case_count cs
case_count_is no_cases = refl
case_count_is (plain l cs) = ap suc (case_count_is cs)
case_count_is (carrying l t cs) = ap suc (case_count_is cs)

mutual
  pub align_is : (t : Ty) → align_of (numeric t) ≡ align_of t
  align_is bool = refl
  align_is (signed w) = refl
  align_is (unsigned w) = refl
  align_is char = refl
  align_is string = refl
  align_is (list t) = refl
  align_is (fixed_list t n) = align_is t
  align_is (fields k fs) = aligns_are fs
  align_is (cases k cs) =
      two (λ n a. max (discriminant_size n) a) _ _ _ _ (case_count_is cs) (payloads_align cs)
  align_is (flags ls) = refl
  align_is (own r) = refl
  align_is (borrow r) = refl

  pub aligns_are : (fs : Fields) → align_of_fields (numeric_fields fs) ≡ align_of_fields fs
  aligns_are no_fields = refl
  aligns_are (field l t fs) = two max _ _ _ _ (align_is t) (aligns_are fs)

  pub payloads_align : (cs : Cases) → align_of_payloads (numeric_cases cs) ≡ align_of_payloads cs
  payloads_align no_cases = refl
  payloads_align (plain l cs) = payloads_align cs
  payloads_align (carrying l t cs) = two max _ _ _ _ (align_is t) (payloads_align cs)

pub offset_is : (cs : Cases) → payload_offset (numeric_cases cs) ≡ payload_offset cs
offset_is cs =
    two (λ a n. align_to a (discriminant_size n)) _ _ _ _ (payloads_align cs) (case_count_is cs)

mutual
  pub size_is : (t : Ty) → size_of (numeric t) ≡ size_of t
  size_is bool = refl
  size_is (signed w) = refl
  size_is (unsigned w) = refl
  size_is char = refl
  size_is string = refl
  size_is (list t) = refl
  size_is (fixed_list t n) = ap (λ s. n * s) (size_is t)
  size_is (fields k fs) = two align_to _ _ _ _ (aligns_are fs) (end_is fs 0 0 refl)
  size_is (cases k cs) =
      two align_to _ _ _ _ (align_is (cases k cs)) (sum_is _ _ _ _ (offset_is cs) (greatest_is cs))
  size_is (flags ls) = refl
  size_is (own r) = refl
  size_is (borrow r) = refl

  pub end_is : (fs : Fields) (a b : ℕ) → a ≡ b → end_of (numeric_fields fs) a ≡ end_of fs b
  end_is no_fields a b same = same
  end_is (field l t fs) a b same =
      end_is fs _ _ (sum_is _ _ _ _ (two align_to _ _ _ _ (align_is t) same) (size_is t))

  pub greatest_is : (cs : Cases) → greatest_payload (numeric_cases cs) ≡ greatest_payload cs
  greatest_is no_cases = refl
  greatest_is (plain l cs) = greatest_is cs
  greatest_is (carrying l t cs) = two max _ _ _ _ (size_is t) (greatest_is cs)

-- ---- core values

mutual
  pub flat_is : (t : Ty) → flat_of (numeric t) ≡ flat_of t
  flat_is bool = refl
  flat_is (signed w) = refl
  flat_is (unsigned w) = refl
  flat_is char = refl
  flat_is string = refl
  flat_is (list t) = refl
  flat_is (fixed_list t n) = ap (copies n) (flat_is t)
  flat_is (fields k fs) = flats_are fs
  flat_is (cases k cs) = ap (λ ks. kind.I32 ∷ ks) (payloads_flat cs)
  flat_is (flags ls) = refl
  flat_is (own r) = refl
  flat_is (borrow r) = refl

  pub flats_are : (fs : Fields) → flat_of_fields (numeric_fields fs) ≡ flat_of_fields fs
  flats_are no_fields = refl
  flats_are (field l t fs) = joined _ _ _ _ (flat_is t) (flats_are fs)

  payloads_flat : (cs : Cases) → flat_of_cases (numeric_cases cs) ≡ flat_of_cases cs
  payloads_flat no_cases = refl
  payloads_flat (plain l cs) = payloads_flat cs
  payloads_flat (carrying l t cs) = two join_slots _ _ _ _ (flat_is t) (payloads_flat cs)

width_is : (t : Ty) → width_of (numeric t) ≡ width_of t
width_is t = ap length (flat_is t)

-- ---- what a file can spell, and where no string stands

no_fields_is : (fs : Fields) → has_no_fields (numeric_fields fs) ≡ has_no_fields fs
no_fields_is no_fields = refl
no_fields_is (field l t fs) = refl

no_cases_is : (cs : Cases) → has_no_cases (numeric_cases cs) ≡ has_no_cases cs
no_cases_is no_cases = refl
no_cases_is (plain l cs) = refl
no_cases_is (carrying l t cs) = refl

mutual
  spellable_is : (t : Ty) → is_spellable (numeric t) ≡ is_spellable t
  spellable_is bool = refl
  spellable_is (signed w) = refl
  spellable_is (unsigned w) = refl
  spellable_is char = refl
  spellable_is string = refl
  spellable_is (list t) = spellable_is t
  spellable_is (fixed_list t n) = ap (λ b. nat_lt 0 n && b) (spellable_is t)
  spellable_is (fields k fs) = two (λ a b. not a && b) _ _ _ _ (no_fields_is fs) (spellables_are fs)
  spellable_is (cases k cs) = two (λ a b. not a && b) _ _ _ _ (no_cases_is cs) (payloads_spelled cs)
  spellable_is (flags ls) = refl
  spellable_is (own r) = refl
  spellable_is (borrow r) = refl

  pub spellables_are : (fs : Fields) → are_spellable (numeric_fields fs) ≡ are_spellable fs
  spellables_are no_fields = refl
  spellables_are (field l t fs) = two (λ a b. a && b) _ _ _ _ (spellable_is t) (spellables_are fs)

  payloads_spelled : (cs : Cases) → are_spellable_payloads (numeric_cases cs)
      ≡ are_spellable_payloads cs
  payloads_spelled no_cases = refl
  payloads_spelled (plain l cs) = payloads_spelled cs
  payloads_spelled (carrying l t cs) =
      two (λ a b. a && b) _ _ _ _ (spellable_is t) (payloads_spelled cs)

mutual
  no_string : (t : Ty) → HasNoString t → HasNoString (numeric t)
  no_string bool h = h
  no_string (signed w) h = h
  no_string (unsigned w) h = h
  no_string char h = h
  no_string string h = h
  no_string (list t) h = no_string t h
  no_string (fixed_list t n) h = no_string t h
  no_string (fields k fs) h = no_strings fs h
  no_string (cases k cs) h = no_string_carried cs h
  no_string (flags ls) h = h
  no_string (own r) h = h
  no_string (borrow r) h = h

  pub no_strings : (fs : Fields) → HaveNoString fs → HaveNoString (numeric_fields fs)
  no_strings no_fields h = h
  no_strings (field l t fs) h = (no_string t h.0, no_strings fs h.1)

  no_string_carried : (cs : Cases) → CarryNoString cs → CarryNoString (numeric_cases cs)
  no_string_carried no_cases h = h
  no_string_carried (plain l cs) h = no_string_carried cs h
  no_string_carried (carrying l t cs) h = (no_string t h.0, no_string_carried cs h.1)

plain_is : (cs : Cases) (i : ℕ) → IsPlainCase cs i → IsPlainCase (numeric_cases cs) i
plain_is no_cases i h = h
plain_is (plain l cs) zero h = h
plain_is (plain l cs) (suc i) h = plain_is cs i h
plain_is (carrying l t cs) zero h = h
plain_is (carrying l t cs) (suc i) h = plain_is cs i h

-- ---- values

module _ (g : Given) where
  pub count_is : (vs : Vals) (h : ℕ) → count_of (numbered_each g vs h) ≡ count_of vs
  count_is no_vals h = refl
  count_is (val v vs) h = ap (λ n. 1 + n) (count_is vs (h + handle_count v))

  mutual
    parts_counted : (v : Val) (h : ℕ) → part_count (numbered g v h) ≡ part_count v
    parts_counted (truth b) h = refl
    parts_counted (signed_number z) h = refl
    parts_counted (number n) h = refl
    parts_counted (scalar c) h = refl
    parts_counted (text cs) h = refl
    parts_counted (elements vs) h = ap (λ n. 1 + n) (parts_counted_each vs h)
    parts_counted (parts vs) h = parts_counted_each vs h
    parts_counted (bare i) h = refl
    parts_counted (bearing i v) h = parts_counted v h
    parts_counted (flag_set n) h = refl
    parts_counted (handle e) h = refl

    parts_counted_each : (vs : Vals) (h : ℕ)
        → part_count_each (numbered_each g vs h) ≡ part_count_each vs
    parts_counted_each no_vals h = refl
    parts_counted_each (val v vs) h =
        sum_is _ _ _ _ (parts_counted v h) (parts_counted_each vs (h + handle_count v))

  mutual
    pub cases_fit : (v : Val) (h : ℕ) → CasesFit v → CasesFit (numbered g v h)
    cases_fit (truth b) h f = f
    cases_fit (signed_number z) h f = f
    cases_fit (number n) h f = f
    cases_fit (scalar c) h f = f
    cases_fit (text cs) h f = f
    cases_fit (elements vs) h f = all_cases_fit vs h f
    cases_fit (parts vs) h f = all_cases_fit vs h f
    cases_fit (bare i) h f = f
    cases_fit (bearing i v) h f = (f.0, cases_fit v h f.1)
    cases_fit (flag_set n) h f = f
    cases_fit (handle e) h f = tt {0}

    all_cases_fit : (vs : Vals) (h : ℕ) → AllCasesFit vs → AllCasesFit (numbered_each g vs h)
    all_cases_fit no_vals h f = f
    all_cases_fit (val v vs) h f = (cases_fit v h f.0, all_cases_fit vs (h + handle_count v) f.1)

  -- the numbers of all handles fit 32 bits
  abbrev pub AreSmall : Type 0
  AreSmall = (j : ℕ) → number_of g j < 2 ^ 32

  typed_each : (t : Ty) → ((v : Val) (h : ℕ) → HasType t v → HasType (numeric t) (numbered g v h))
      → (vs : Vals) (h : ℕ) → AllVals (HasType t) vs
      → AllVals (HasType (numeric t)) (numbered_each g vs h)
  typed_each t one no_vals h y = y
  typed_each t one (val v vs) h y = (one v h y.0, typed_each t one vs (h + handle_count v) y.1)

  mutual
    pub typed_is : AreSmall → (t : Ty) (v : Val) (h : ℕ) → HasType t v
        → HasType (numeric t) (numbered g v h)
    typed_is small bool (truth b) h y = y
    typed_is small (signed w) (signed_number z) h y = y
    typed_is small (unsigned w) (number n) h y = y
    typed_is small char (scalar c) h y = y
    typed_is small string (text cs) h y = y
    typed_is small (list t) (elements vs) h y = typed_each t (typed_is small t) vs h y
    typed_is small (fixed_list t n) (parts vs) h y =
        (count_is vs h ∙ y.0, typed_each t (typed_is small t) vs h y.1)
    typed_is small (fields k fs) (parts vs) h y = types_are small fs vs h y
    typed_is small (cases k cs) (bare i) h y = plain_is cs i y
    typed_is small (cases k cs) (bearing i v) h y = carried_is small cs i v h y
    typed_is small (flags ls) (flag_set n) h y = y
    typed_is small (own r) (handle e) h y = small h
    typed_is small (borrow r) (handle e) h y = small h
    typed_is small t v h y = absurd y

    types_are : AreSmall → (fs : Fields) (vs : Vals) (h : ℕ) → HaveTypes fs vs
        → HaveTypes (numeric_fields fs) (numbered_each g vs h)
    types_are small no_fields no_vals h y = y
    types_are small no_fields (val v vs) h y = absurd y
    types_are small (field l t fs) no_vals h y = absurd y
    types_are small (field l t fs) (val v vs) h y =
        (typed_is small t v h y.0, types_are small fs vs (h + handle_count v) y.1)

    carried_is : AreSmall → (cs : Cases) (i : ℕ) (v : Val) (h : ℕ) → IsCarriedCase cs i v
        → IsCarriedCase (numeric_cases cs) i (numbered g v h)
    carried_is small no_cases i v h y = absurd y
    carried_is small (plain l cs) zero v h y = absurd y
    carried_is small (plain l cs) (suc i) v h y = carried_is small cs i v h y
    carried_is small (carrying l t cs) zero v h y = typed_is small t v h y
    carried_is small (carrying l t cs) (suc i) v h y = carried_is small cs i v h y

  -- ---- no handle is left

  no_leaves_each : (t : Ty) → ((v : Val) (h : ℕ) → HasType t v
      → leaves_in (numeric t) (numbered g v h) ≡ [])
      → (vs : Vals) (h : ℕ) → AllVals (HasType t) vs
      → leaves_each (leaves_in (numeric t)) (numbered_each g vs h) ≡ []
  no_leaves_each t one no_vals h y = refl
  no_leaves_each t one (val v vs) h y =
      joined _ _ _ _ (one v h y.0) (no_leaves_each t one vs (h + handle_count v) y.1)

  mutual
    pub no_leaves : (t : Ty) (v : Val) (h : ℕ) → HasType t v
        → leaves_in (numeric t) (numbered g v h) ≡ []
    no_leaves bool (truth b) h y = refl
    no_leaves (signed w) (signed_number z) h y = refl
    no_leaves (unsigned w) (number n) h y = refl
    no_leaves char (scalar c) h y = refl
    no_leaves string (text cs) h y = refl
    no_leaves (list t) (elements vs) h y = no_leaves_each t (no_leaves t) vs h y
    no_leaves (fixed_list t n) (parts vs) h y = no_leaves_each t (no_leaves t) vs h y.1
    no_leaves (fields k fs) (parts vs) h y = no_leaves_in fs vs h y
    no_leaves (cases k cs) (bare i) h y = refl
    no_leaves (cases k cs) (bearing i v) h y = no_leaves_carried cs i v h y
    no_leaves (flags ls) (flag_set n) h y = refl
    no_leaves (own r) (handle e) h y = refl
    no_leaves (borrow r) (handle e) h y = refl
    no_leaves t v h y = absurd y

    no_leaves_in : (fs : Fields) (vs : Vals) (h : ℕ) → HaveTypes fs vs
        → leaves_in_fields (numeric_fields fs) (numbered_each g vs h) ≡ []
    no_leaves_in no_fields no_vals h y = refl
    no_leaves_in no_fields (val v vs) h y = absurd y
    no_leaves_in (field l t fs) no_vals h y = absurd y
    no_leaves_in (field l t fs) (val v vs) h y =
        joined _ _ _ _ (no_leaves t v h y.0) (no_leaves_in fs vs (h + handle_count v) y.1)

    no_leaves_carried : (cs : Cases) (i : ℕ) (v : Val) (h : ℕ) → IsCarriedCase cs i v
        → leaves_in_payload (numeric_cases cs) i (numbered g v h) ≡ []
    no_leaves_carried no_cases i v h y = absurd y
    no_leaves_carried (plain l cs) zero v h y = absurd y
    no_leaves_carried (plain l cs) (suc i) v h y = no_leaves_carried cs i v h y
    no_leaves_carried (carrying l t cs) zero v h y = no_leaves t v h y
    no_leaves_carried (carrying l t cs) (suc i) v h y = no_leaves_carried cs i v h y

  -- ---- parts

  part_is : (a b s u c d : ℕ) → a ≡ b → s ≡ u → c ≡ d → element_part a s c ≡ element_part b u d
  part_is a b s u c d one two three = cc

  parts_each_are : (t : Ty) → ((v : Val) (h : ℕ) → HasType t v
      → parts_in (numeric t) (numbered g v h) ≡ parts_in t v)
      → (vs : Vals) (h : ℕ) → AllVals (HasType t) vs
      → parts_each (parts_in (numeric t)) (numbered_each g vs h) ≡ parts_each (parts_in t) vs
  parts_each_are t one no_vals h y = refl
  parts_each_are t one (val v vs) h y =
      joined _ _ _ _ (one v h y.0) (parts_each_are t one vs (h + handle_count v) y.1)

  mutual
    pub parts_are : (t : Ty) (v : Val) (h : ℕ) → HasType t v
        → parts_in (numeric t) (numbered g v h) ≡ parts_in t v
    parts_are bool (truth b) h y = refl
    parts_are (signed w) (signed_number z) h y = refl
    parts_are (unsigned w) (number n) h y = refl
    parts_are char (scalar c) h y = refl
    parts_are string (text cs) h y = refl
    parts_are (list t) (elements vs) h y =
        two (λ p ps. p ∷ ps) _ _ _ _ (part_is _ _ _ _ _ _ (count_is vs h) (size_is t) (align_is t))
        (parts_each_are t (parts_are t) vs h y)
    parts_are (fixed_list t n) (parts vs) h y = parts_each_are t (parts_are t) vs h y.1
    parts_are (fields k fs) (parts vs) h y = parts_in_fields_are fs vs h y
    parts_are (cases k cs) (bare i) h y = refl
    parts_are (cases k cs) (bearing i v) h y = parts_carried_are cs i v h y
    parts_are (flags ls) (flag_set n) h y = refl
    parts_are (own r) (handle e) h y = refl
    parts_are (borrow r) (handle e) h y = refl
    parts_are t v h y = absurd y

    parts_in_fields_are : (fs : Fields) (vs : Vals) (h : ℕ) → HaveTypes fs vs
        → parts_in_fields (numeric_fields fs) (numbered_each g vs h) ≡ parts_in_fields fs vs
    parts_in_fields_are no_fields no_vals h y = refl
    parts_in_fields_are no_fields (val v vs) h y = absurd y
    parts_in_fields_are (field l t fs) no_vals h y = absurd y
    parts_in_fields_are (field l t fs) (val v vs) h y =
        joined _ _ _ _ (parts_are t v h y.0) (parts_in_fields_are fs vs (h + handle_count v) y.1)

    parts_carried_are : (cs : Cases) (i : ℕ) (v : Val) (h : ℕ) → IsCarriedCase cs i v
        → parts_in_payload (numeric_cases cs) i (numbered g v h) ≡ parts_in_payload cs i v
    parts_carried_are no_cases i v h y = absurd y
    parts_carried_are (plain l cs) zero v h y = absurd y
    parts_carried_are (plain l cs) (suc i) v h y = parts_carried_are cs i v h y
    parts_carried_are (carrying l t cs) zero v h y = parts_are t v h y
    parts_carried_are (carrying l t cs) (suc i) v h y = parts_carried_are cs i v h y

  -- ---- bytes

  placed_is : (p q : ℕ) (as' bs : List ℕ) → p ≡ q → as' ≡ bs → placed p as' ≡ placed q bs
  placed_is p q as' bs first second = two placed p q as' bs first second

  pointer_is : (p q a b n m : ℕ) → p ≡ q → a ≡ b → n ≡ m → pointer_bytes p a n ≡ pointer_bytes q b m
  pointer_is p q a b n m first second third =
      joined _ _ _ _ (placed_is p q _ _ first (ap (bytes_of 4) second))
      (placed_is (p + 4) (q + 4) _ _ (ap (λ x. x + 4) first) (ap (bytes_of 4) third))

  stored_each_is : (t : Ty) → ((v : Val) (p q k m h j : ℕ) → p ≡ q → k ≡ m → HasType t v
      → stored g (numeric t) (numbered g v h) p k j ≡ stored g t v q m h)
      → (vs : Vals) (p q k m h j : ℕ) → p ≡ q → k ≡ m → AllVals (HasType t) vs
      → store_each (stored g (numeric t)) (size_of (numeric t)) (numbered_each g vs h) p k j
      ≡ store_each (stored g t) (size_of t) vs q m h
  stored_each_is t one no_vals p q k m h j at part y = refl
  stored_each_is t one (val v vs) p q k m h j at part y =
      joined _ _ _ _ (one v p q k m h j at part y.0)
      (stored_each_is t one vs _ _ _ _ (h + handle_count v) _ (sum_is _ _ _ _ at (size_is t))
      (sum_is _ _ _ _ part (parts_counted v h)) y.1)

  mutual
    pub stored_is : (t : Ty) (v : Val) (p q k m h j : ℕ) → p ≡ q → k ≡ m → HasType t v
        → stored g (numeric t) (numbered g v h) p k j ≡ stored g t v q m h
    stored_is bool (truth b) p q k m h j at part y = ap (λ x. (x, (if b then 1 else 0)) ∷ []) at
    stored_is (signed w) (signed_number z) p q k m h j at part y = placed_is p q _ _ at refl
    stored_is (unsigned w) (number n) p q k m h j at part y = placed_is p q _ _ at refl
    stored_is char (scalar c) p q k m h j at part y = placed_is p q _ _ at refl
    stored_is string (text cs) p q k m h j at part y =
        joined _ _ _ _ (pointer_is p q _ _ _ _ at (ap (place_of g) part) refl)
        (placed_is _ _ _ _ (ap (place_of g) part) refl)
    stored_is (list t) (elements vs) p q k m h j at part y =
        joined _ _ _ _ (pointer_is p q _ _ _ _ at (ap (place_of g) part) (count_is vs h))
        (stored_each_is t (stored_is t) vs _ _ (k + 1) (m + 1) h j (ap (place_of g) part)
        (ap (λ x. x + 1) part) y)
    stored_is (fixed_list t n) (parts vs) p q k m h j at part y =
        stored_each_is t (stored_is t) vs p q k m h j at part y.1
    stored_is (fields f fs) (parts vs) p q k m h j at part y =
        stored_fields_are fs vs p q 0 0 k m h j at refl part y
    stored_is (cases c cs) (bare i) p q k m h j at part y =
        placed_is p q _ _ at (ap (λ n. bytes_of (discriminant_size n) i) (case_count_is cs))
    stored_is (cases c cs) (bearing i v) p q k m h j at part y =
        joined _ _ _ _ (placed_is p q _ _ at
        (ap (λ n. bytes_of (discriminant_size n) i) (case_count_is cs)))
        (stored_carried_is cs i v _ _ k m h j (sum_is _ _ _ _ at (offset_is cs)) part y)
    stored_is (flags ls) (flag_set n) p q k m h j at part y = placed_is p q _ _ at refl
    stored_is (own r) (handle e) p q k m h j at part y = placed_is p q _ _ at refl
    stored_is (borrow r) (handle e) p q k m h j at part y = placed_is p q _ _ at refl
    stored_is t v p q k m h j at part y = absurd y

    stored_fields_are : (fs : Fields) (vs : Vals) (p q a b k m h j : ℕ) → p ≡ q → a ≡ b → k ≡ m
        → HaveTypes fs vs
        → stored_fields g (numeric_fields fs) (numbered_each g vs h) p a k j
        ≡ stored_fields g fs vs q b m h
    stored_fields_are no_fields no_vals p q a b k m h j at end part y = refl
    stored_fields_are no_fields (val v vs) p q a b k m h j at end part y = absurd y
    stored_fields_are (field l t fs) no_vals p q a b k m h j at end part y = absurd y
    stored_fields_are (field l t fs) (val v vs) p q a b k m h j at end part y =
        let start : align_to (align_of (numeric t)) a ≡ align_to (align_of t) b =
        two align_to _ _ _ _ (align_is t) end in
        joined _ _ _ _ (stored_is t v _ _ k m h j (sum_is _ _ _ _ at start) part y.0)
        (stored_fields_are fs vs p q _ _ _ _ (h + handle_count v) _ at
        (sum_is _ _ _ _ start (size_is t)) (sum_is _ _ _ _ part (parts_counted v h)) y.1)

    stored_carried_is : (cs : Cases) (i : ℕ) (v : Val) (p q k m h j : ℕ) → p ≡ q → k ≡ m
        → IsCarriedCase cs i v
        → stored_payload g (numeric_cases cs) i (numbered g v h) p k j
        ≡ stored_payload g cs i v q m h
    stored_carried_is no_cases i v p q k m h j at part y = absurd y
    stored_carried_is (plain l cs) zero v p q k m h j at part y = absurd y
    stored_carried_is (plain l cs) (suc i) v p q k m h j at part y =
        stored_carried_is cs i v p q k m h j at part y
    stored_carried_is (carrying l t cs) zero v p q k m h j at part y =
        stored_is t v p q k m h j at part y
    stored_carried_is (carrying l t cs) (suc i) v p q k m h j at part y =
        stored_carried_is cs i v p q k m h j at part y

  -- ---- slots

  put_is : (s u a b : ℕ) → s ≡ u → a ≡ b → put s a ≡ put u b
  put_is s u a b first second = two put s u a b first second

  slots_each_are : (t : Ty) → ((v : Val) (p q k m h j : ℕ) → p ≡ q → k ≡ m → HasType t v
      → slots_of g (numeric t) (numbered g v h) p k j ≡ slots_of g t v q m h)
      → (vs : Vals) (p q k m h j : ℕ) → p ≡ q → k ≡ m → AllVals (HasType t) vs
      → store_each (slots_of g (numeric t)) (width_of (numeric t)) (numbered_each g vs h) p k j
      ≡ store_each (slots_of g t) (width_of t) vs q m h
  slots_each_are t one no_vals p q k m h j at part y = refl
  slots_each_are t one (val v vs) p q k m h j at part y =
      joined _ _ _ _ (one v p q k m h j at part y.0)
      (slots_each_are t one vs _ _ _ _ (h + handle_count v) _ (sum_is _ _ _ _ at (width_is t))
      (sum_is _ _ _ _ part (parts_counted v h)) y.1)

  mutual
    pub slots_are : (t : Ty) (v : Val) (p q k m h j : ℕ) → p ≡ q → k ≡ m → HasType t v
        → slots_of g (numeric t) (numbered g v h) p k j ≡ slots_of g t v q m h
    slots_are bool (truth b) p q k m h j at part y = put_is p q _ _ at refl
    slots_are (signed w) (signed_number z) p q k m h j at part y = put_is p q _ _ at refl
    slots_are (unsigned w) (number n) p q k m h j at part y = put_is p q _ _ at refl
    slots_are char (scalar c) p q k m h j at part y = put_is p q _ _ at refl
    slots_are string (text cs) p q k m h j at part y =
        joined _ _ _ _ (put_is p q _ _ at (ap (place_of g) part))
        (put_is (p + 1) (q + 1) _ _ (ap (λ x. x + 1) at) refl)
    slots_are (list t) (elements vs) p q k m h j at part y =
        joined _ _ _ _ (put_is p q _ _ at (ap (place_of g) part))
        (put_is (p + 1) (q + 1) _ _ (ap (λ x. x + 1) at) (count_is vs h))
    slots_are (fixed_list t n) (parts vs) p q k m h j at part y =
        slots_each_are t (slots_are t) vs p q k m h j at part y.1
    slots_are (fields f fs) (parts vs) p q k m h j at part y =
        slots_of_fields_are fs vs p q k m h j at part y
    slots_are (cases c cs) (bare i) p q k m h j at part y = put_is p q _ _ at refl
    slots_are (cases c cs) (bearing i v) p q k m h j at part y =
        joined _ _ _ _ (put_is p q _ _ at refl)
        (slots_carried_are cs i v (p + 1) (q + 1) k m h j (ap (λ x. x + 1) at) part y)
    slots_are (flags ls) (flag_set n) p q k m h j at part y = put_is p q _ _ at refl
    slots_are (own r) (handle e) p q k m h j at part y = put_is p q _ _ at refl
    slots_are (borrow r) (handle e) p q k m h j at part y = put_is p q _ _ at refl
    slots_are t v p q k m h j at part y = absurd y

    slots_of_fields_are : (fs : Fields) (vs : Vals) (p q k m h j : ℕ) → p ≡ q → k ≡ m
        → HaveTypes fs vs
        → slots_of_fields g (numeric_fields fs) (numbered_each g vs h) p k j
        ≡ slots_of_fields g fs vs q m h
    slots_of_fields_are no_fields no_vals p q k m h j at part y = refl
    slots_of_fields_are no_fields (val v vs) p q k m h j at part y = absurd y
    slots_of_fields_are (field l t fs) no_vals p q k m h j at part y = absurd y
    slots_of_fields_are (field l t fs) (val v vs) p q k m h j at part y =
        joined _ _ _ _ (slots_are t v p q k m h j at part y.0)
        (slots_of_fields_are fs vs _ _ _ _ (h + handle_count v) _ (sum_is _ _ _ _ at (width_is t))
        (sum_is _ _ _ _ part (parts_counted v h)) y.1)

    slots_carried_are : (cs : Cases) (i : ℕ) (v : Val) (p q k m h j : ℕ) → p ≡ q → k ≡ m
        → IsCarriedCase cs i v
        → slots_of_payload g (numeric_cases cs) i (numbered g v h) p k j
        ≡ slots_of_payload g cs i v q m h
    slots_carried_are no_cases i v p q k m h j at part y = absurd y
    slots_carried_are (plain l cs) zero v p q k m h j at part y = absurd y
    slots_carried_are (plain l cs) (suc i) v p q k m h j at part y =
        slots_carried_are cs i v p q k m h j at part y
    slots_carried_are (carrying l t cs) zero v p q k m h j at part y =
        slots_are t v p q k m h j at part y
    slots_carried_are (carrying l t cs) (suc i) v p q k m h j at part y =
        slots_carried_are cs i v p q k m h j at part y

  -- ---- bytes behind slots

  behind_each_is : (t : Ty) → ((v : Val) (k m h j : ℕ) → k ≡ m → HasType t v
      → behind g (numeric t) (numbered g v h) k j ≡ behind g t v m h)
      → (vs : Vals) (k m h j : ℕ) → k ≡ m → AllVals (HasType t) vs
      → behind_each (behind g (numeric t)) (numbered_each g vs h) k j
      ≡ behind_each (behind g t) vs m h
  behind_each_is t one no_vals k m h j part y = refl
  behind_each_is t one (val v vs) k m h j part y =
      joined _ _ _ _ (one v k m h j part y.0)
      (behind_each_is t one vs _ _ (h + handle_count v) _
      (sum_is _ _ _ _ part (parts_counted v h)) y.1)

  mutual
    pub behind_is : (t : Ty) (v : Val) (k m h j : ℕ) → k ≡ m → HasType t v
        → behind g (numeric t) (numbered g v h) k j ≡ behind g t v m h
    behind_is bool (truth b) k m h j part y = refl
    behind_is (signed w) (signed_number z) k m h j part y = refl
    behind_is (unsigned w) (number n) k m h j part y = refl
    behind_is char (scalar c) k m h j part y = refl
    behind_is string (text cs) k m h j part y = placed_is _ _ _ _ (ap (place_of g) part) refl
    behind_is (list t) (elements vs) k m h j part y =
        stored_each_is t (stored_is t) vs _ _ (k + 1) (m + 1) h j (ap (place_of g) part)
        (ap (λ x. x + 1) part) y
    behind_is (fixed_list t n) (parts vs) k m h j part y =
        behind_each_is t (behind_is t) vs k m h j part y.1
    behind_is (fields f fs) (parts vs) k m h j part y = behind_fields_are fs vs k m h j part y
    behind_is (cases c cs) (bare i) k m h j part y = refl
    behind_is (cases c cs) (bearing i v) k m h j part y = behind_carried_is cs i v k m h j part y
    behind_is (flags ls) (flag_set n) k m h j part y = refl
    behind_is (own r) (handle e) k m h j part y = refl
    behind_is (borrow r) (handle e) k m h j part y = refl
    behind_is t v k m h j part y = absurd y

    behind_fields_are : (fs : Fields) (vs : Vals) (k m h j : ℕ) → k ≡ m → HaveTypes fs vs
        → behind_fields g (numeric_fields fs) (numbered_each g vs h) k j ≡ behind_fields g fs vs m h
    behind_fields_are no_fields no_vals k m h j part y = refl
    behind_fields_are no_fields (val v vs) k m h j part y = absurd y
    behind_fields_are (field l t fs) no_vals k m h j part y = absurd y
    behind_fields_are (field l t fs) (val v vs) k m h j part y =
        joined _ _ _ _ (behind_is t v k m h j part y.0)
        (behind_fields_are fs vs _ _ (h + handle_count v) _
        (sum_is _ _ _ _ part (parts_counted v h)) y.1)

    behind_carried_is : (cs : Cases) (i : ℕ) (v : Val) (k m h j : ℕ) → k ≡ m → IsCarriedCase cs i v
        → behind_payload g (numeric_cases cs) i (numbered g v h) k j ≡ behind_payload g cs i v m h
    behind_carried_is no_cases i v k m h j part y = absurd y
    behind_carried_is (plain l cs) zero v k m h j part y = absurd y
    behind_carried_is (plain l cs) (suc i) v k m h j part y =
        behind_carried_is cs i v k m h j part y
    behind_carried_is (carrying l t cs) zero v k m h j part y = behind_is t v k m h j part y
    behind_carried_is (carrying l t cs) (suc i) v k m h j part y =
        behind_carried_is cs i v k m h j part y
