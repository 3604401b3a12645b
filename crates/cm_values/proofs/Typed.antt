-- What a text spells has the type.
use Rattle.std.proofs.Common.{◌≡◌, ℕ, zero, suc, pos, neg_ℤ, ◌*◌, ◌-◌, ◌^◌, ◌<◌, ◌≤◌, Bool, true, false, if◌then◌else◌, nat_lt, nat_le, nat_eq, List, [], ◌∷◌, length, Option, Some, None, Result, Ok, Err, refl, sym, ap, subst, ◌∙◌, arith, inl, inr, ◌⊎◌}
use Rattle.std.specs.Prelude.{codes, ◌≤ℤ◌, ◌<ℤ◌}
use Rattle.std.specs.Int.RustNames.{bit_or}
use Rattle.std.specs.List.{AllByRecursion, list_all}
use Rattle.std.specs.Str.{bytes_eq, chars, is_utf8}
use Rattle.std.proofs.Math.Pow.{pow_mono, pow-lt}
use Rattle.std.proofs.lemmas.Bool.{and_parts, eqb-true, ltb-true}
use Rattle.std.proofs.lemmas.Int.{ints}
use Rattle.std.proofs.lemmas.Nat.{or_lt}
use Rattle.std.proofs.lemmas.Str.{IsUtf8-from_is_utf8, scalars-chars}
use Rattle.cm_types.specs.Types.{Ty, Fields, Cases, FieldsKind, Width, bool, signed, unsigned, char, string, list, fixed_list, fields, cases, flags, own, borrow, no_fields, field, no_cases, plain, carrying, width_bytes, bits_8, bits_16, bits_32, bits_64}
use Rattle.cm_types.specs.Values.{Val, truth, scalar, text, bare, bearing, HasType, HaveTypes, IsCarriedCase, IsPlainCase, AllVals, count_of}
use Rattle.cm_types.specs.ValueTrees.{vals_from}
use Rattle.cm_types.specs.TypedValues.{is_scalar_value}
use Rattle.cm_types.proofs.TypedValueLemmas.{scalars_of_text}
use Rattle.cm_types.proofs.TypedValueLaws.{sound}
use Rattle.cm_lemmas.proofs.Equations.{ok_is}
use Rattle.cm_lemmas.proofs.Results.{err_of}
use Rattle.cm_values.specs.declared.value_fault.ValueReason.{ValueReason}
use Rattle.cm_values.specs.declared.value_fault.ValueReason.TheVariants as reason
use Rattle.cm_values.specs.Grammar.{first_or, Grammar, StepsSpell}
use Rattle.cm_values.specs.Lists.{inner_items, items, next_item, some_items}
use Rattle.cm_values.specs.Quoted.{only_one, utf8_bytes}
use Rattle.cm_values.specs.Values.{case_rest, char_value, flags_on, inner_flags, members, so_many, string_value, truth_of, value, where_so}
use Rattle.cm_values.specs.Whole.{Spells}
use Rattle.cm_values.proofs.SpellFlags.{between}
use Rattle.cm_values.specs.Words.{is_plain, known, magnitude, number_below, one_more, place_in, read_on}

-- ---- tables

cond_ok : {A : Type 0} (b : Bool) (x y z : A) → (if b then x else y) ≡ z → ((b ≡ true) × (x ≡ z)) ⊎ ((b ≡ false) × (y ≡ z))
cond_ok true x y z e = inl (refl, e)
cond_ok false x y z e = inr (refl, e)

no_ok : {A : Type 0} (why : ValueReason) (x : A) → err_of A why ≡ Ok x → ⊥
no_ok why x e = absurd cc

below : (limit : ℕ) (ds : List ℕ) (n : ℕ) → number_below limit ds ≡ Ok n → n < limit
below limit ds n e = elim (cond_ok (is_plain ds) (if nat_lt (read_on 10 0 ds) limit then Ok (read_on 10 0 ds) else Err reason.OutOfRange) (Err reason.Unexpected) (Ok n) e) [
  | inl p ↦ elim (cond_ok (nat_lt (read_on 10 0 ds) limit) (Ok (read_on 10 0 ds)) (Err reason.OutOfRange) (Ok n) p.1) [
    | inl q ↦ subst (λ (m : ℕ). m < limit) (ok_is ValueReason (read_on 10 0 ds) n q.1) (ltb-true (read_on 10 0 ds) limit q.0)
    | inr q ↦ absurd (no_ok reason.OutOfRange n q.1)
  ]
  | inr p ↦ absurd (no_ok reason.Unexpected n p.1)
]

mag_below : (limit n : ℕ) (front : List ℕ) (next : Option ℕ) → (magnitude limit).Spells n front next → n < limit
mag_below limit n front next s = below limit s.0 n s.2

truth_typed : (w : List ℕ) (v : Val) → truth_of w ≡ Ok v → HasType bool v
truth_typed w v e = elim (cond_ok (bytes_eq w (codes "true")) (Ok (truth true)) (if bytes_eq w (codes "false") then Ok (truth false) else Err reason.Unexpected) (Ok v) e) [
  | inl p ↦ subst (HasType bool) (ok_is ValueReason (truth true) v p.1) tt
  | inr p ↦ elim (cond_ok (bytes_eq w (codes "false")) (Ok (truth false)) (Err reason.Unexpected) (Ok v) p.1) [
    | inl q ↦ subst (HasType bool) (ok_is ValueReason (truth false) v q.1) tt
    | inr q ↦ absurd (no_ok reason.Unexpected v q.1)
  ]
]

half_some : (k : Width) → 0 < 2 ^ (8 * width_bytes k - 1)
half_some bits_8 = omega arith
half_some bits_16 = omega arith
half_some bits_32 = omega arith
half_some bits_64 = omega arith

neg_fits : (n limit : ℕ) → n < suc limit → 0 < limit → (neg_ℤ (pos limit) ≤ℤ neg_ℤ (pos n)) × (neg_ℤ (pos n) <ℤ pos limit)
neg_fits n limit lt some = (omega (arith, ints), omega (arith, ints))

pos_fits : (n limit : ℕ) → n < limit → (neg_ℤ (pos limit) ≤ℤ pos n) × (pos n <ℤ pos limit)
pos_fits n limit lt = (omega (arith, ints), omega (arith, ints))

signed_typed : (k : Width) (v : Val) (front : List ℕ) (next : Option ℕ) → (value (signed k)).Spells v front next → HasType (signed k) v
signed_typed k v front next s = elim s.4 [
  | inl p ↦ subst (HasType (signed k)) (sym p.1.4.4.0) (neg_fits p.1.4.0 (2 ^ (8 * width_bytes k - 1)) (mag_below (suc (2 ^ (8 * width_bytes k - 1))) p.1.4.0 p.1.4.1 (first_or p.1.4.2 next) p.1.4.3) (half_some k))
  | inr p ↦ subst (HasType (signed k)) (sym p.1.4.0) (pos_fits p.1.0 (2 ^ (8 * width_bytes k - 1)) (mag_below (2 ^ (8 * width_bytes k - 1)) p.1.0 p.1.1 (first_or p.1.2 next) p.1.3))
]

-- ---- texts

utf8_typed : (x bytes : List ℕ) → utf8_bytes x ≡ Ok bytes → list_all is_scalar_value (chars bytes) ≡ true
utf8_typed x bytes e = elim (cond_ok (is_utf8 x) (Ok x) (Err reason.NotUtf8) (Ok bytes) e) [
  | inl p ↦ subst (λ (z : List ℕ). list_all is_scalar_value (chars z) ≡ true) (ok_is ValueReason x bytes p.1) (sym (scalars_of_text (chars x) (scalars-chars x (IsUtf8-from_is_utf8 x p.0))))
  | inr p ↦ absurd (no_ok reason.NotUtf8 bytes p.1)
]

string_typed : (v : Val) (front : List ℕ) (next : Option ℕ) → string_value.Spells v front next → HasType string v
string_typed v front next s = subst (HasType string) (sym s.4.4.0) (sound string (text (chars s.4.0)) (utf8_typed s.4.3.0 s.4.0 s.4.3.2))

only_is : (cs : List ℕ) (c : ℕ) → only_one cs ≡ Ok c → cs ≡ c ∷ []
only_is [] c e = absurd cc
only_is (d ∷ []) c e = ap (λ (z : ℕ). z ∷ []) (ok_is ValueReason d c e)
only_is (d ∷ f ∷ cs) c e = absurd cc

char_typed : (v : Val) (front : List ℕ) (next : Option ℕ) → char_value.Spells v front next → HasType char v
char_typed v front next s =
    let bytes = s.4.3.0 in
    let all = utf8_typed s.4.3.1.0 bytes s.4.3.1.2 in
    let one : chars bytes ≡ s.4.0 ∷ [] = only_is (chars bytes) s.4.0 s.4.3.2 in
    subst (HasType char) (sym s.4.4.0) (sound char (scalar s.4.0) (and_parts _ _ (subst (λ (z : List ℕ). list_all is_scalar_value z ≡ true) one all)).0)

-- ---- things of lists

some_no_none : {A : Type 0} (x : A) (e : Option A) → e ≡ Some x → e ≡ None → ⊥
some_no_none x e p q = absurd cc

same_some : {A : Type 0} (x y : A) (o p : Option A) → o ≡ Some x → p ≡ Some y → o ≡ p → x ≡ y
same_some x y o p a b e = cc

module _ {A : Type 0} (g : Grammar A) (P : A → Type 0) (each : (x : A) (front : List ℕ) (next : Option ℕ) → g.Spells x front next → P x) (c : ℕ) where
  item_is : (x : A) (front : List ℕ) (next : Option ℕ) → (next_item c g).Spells (Some x) front next → P x
  item_is x front next s = elim s.4 [
    | inl p ↦ elim p.1.4.4 [
      | inl q ↦ absurd (some_no_none x (Some x) refl q.1.0)
      | inr q ↦ subst P (sym (same_some x q.1.0 (Some x) (Some q.1.0) refl refl q.1.4.0)) (each q.1.0 q.1.1 (first_or q.1.2 next) q.1.3)
    ]
    | inr p ↦ absurd (some_no_none x (Some x) refl p.1.0)
  ]

  steps_are : (xs : List A) (front : List ℕ) (next : Option ℕ) → StepsSpell (next_item c g) xs front next → AllByRecursion P xs
  steps_are [] front next s = tt
  steps_are (x ∷ xs) front next s = (item_is x s.0 (first_or s.1 next) s.2, steps_are xs s.1 next s.3)

  some_are : (xs : List A) (front : List ℕ) (next : Option ℕ) → (some_items c g).Spells xs front next → AllByRecursion P xs
  some_are xs front next s = subst (AllByRecursion P) (sym s.4.4.0) (each s.0 s.1 (first_or s.2 next) s.3, steps_are s.4.0 s.4.1 (first_or s.4.2 next) s.4.3)

  pub inner_are : (xs : List A) (front : List ℕ) (next : Option ℕ) → (inner_items c g).Spells xs front next → AllByRecursion P xs
  inner_are xs front next s = elim s.4 [
    | inl p ↦ subst (AllByRecursion P) (sym p.1.0) tt
    | inr p ↦ some_are xs s.2 next p.1
  ]

  pub items_are : (o : ℕ) (xs : List A) (front : List ℕ) (next : Option ℕ) → (items o c g).Spells xs front next → AllByRecursion P xs
  items_are o xs front next s = subst (AllByRecursion P) (sym s.4.4.4.0) (inner_are s.4.0 s.4.1 (first_or s.4.2 next) s.4.3)

all_vals : (t : Ty) (vs : List Val) → AllByRecursion (HasType t) vs → AllVals (HasType t) (vals_from vs)
all_vals t [] h = tt
all_vals t (v ∷ vs) h = (h.0, all_vals t vs h.1)

count_is : (vs : List Val) → count_of (vals_from vs) ≡ length vs
count_is [] = refl
count_is (v ∷ vs) = omega (arith, count_is vs)

so_many_is : (n : ℕ) (ws vs : List Val) → so_many n ws ≡ Ok vs → (length vs ≡ n) × (ws ≡ vs)
so_many_is n ws vs e = elim (cond_ok (nat_eq (length ws) n) (Ok ws) (Err reason.WrongLength) (Ok vs) e) [
  | inl p ↦ let same : ws ≡ vs = ok_is ValueReason ws vs p.1 in (ap length (sym same) ∙ eqb-true (length ws) n p.0, same)
  | inr p ↦ absurd (no_ok reason.WrongLength vs p.1)
]

-- ---- names and flags

one_further : (ns : List (List ℕ)) (r : Result ℕ ValueReason) (i : ℕ) → ((m : ℕ) → r ≡ Ok m → m < length ns) → one_more r ≡ Ok i → i < suc (length ns)
one_further ns (Ok m) i below f = let same : suc m ≡ i = ok_is ValueReason (suc m) i f in omega (arith, below m refl)
one_further ns (Err why) i below f = absurd (no_ok why i f)

place_below : (names : List (List ℕ)) (l : List ℕ) (i : ℕ) → place_in names l ≡ Ok i → i < length names
place_below [] l i e = absurd (no_ok reason.UnknownName i e)
place_below (n ∷ ns) l i e = elim (cond_ok (bytes_eq n l) (Ok 0) (one_more (place_in ns l)) (Ok i) e) [
  | inl p ↦ let same : 0 ≡ i = ok_is ValueReason 0 i p.1 in omega arith
  | inr p ↦ one_further ns (place_in ns l) i (λ m h. place_below ns l m h) p.1
]

known_below : (names : List (List ℕ)) (i : ℕ) (front : List ℕ) (next : Option ℕ) → (known names).Spells i front next → i < length names
known_below names i front next s = place_below names s.4.0 i s.4.2

flags_below : (n k : ℕ) (places : List ℕ) → n < 2 ^ k → AllByRecursion (λ i. i < k) places → flags_on n places < 2 ^ k
flags_below n k [] small all = small
flags_below n k (i ∷ places) small all =
    let one : 2 ^ i < 2 ^ k = pow-lt {i = i} {j = k} all.0 in
    flags_below (bit_or n (2 ^ i)) k places (or_lt k n (2 ^ i) small one) all.1

inner_flags_below : (ls : List (List ℕ)) (n : ℕ) (front : List ℕ) (next : Option ℕ) → (inner_flags ls).Spells n front next → n < 2 ^ length ls
inner_flags_below ls n front next s =
    let some : 2 ^ 0 ≤ 2 ^ length ls = pow_mono {i = 0} {j = length ls} (omega arith) in
    elim s.4 [
      | inl p ↦ subst (λ (m : ℕ). m < 2 ^ length ls) (sym p.1.0) (omega arith)
      | inr p ↦ subst (λ (m : ℕ). m < 2 ^ length ls) (sym p.1.4.0) (flags_below 0 (length ls) p.1.0 (omega arith) (some_are (known ls) (λ i. i < length ls) (known_below ls) 0x7D p.1.0 p.1.1 (first_or p.1.2 next) p.1.3))
    ]

where_is : {A : Type 0} (b : Bool) (g : Grammar A) (x : A) (front : List ℕ) (next : Option ℕ) → (where_so b g).Spells x front next → g.Spells x front next
where_is true g x front next s = s
where_is false g x front next s = absurd s

-- ---- values

-- what the case at a place says of a value
abbrev CaseIs : Cases → ℕ → ℕ → Val → Type 0
CaseIs cs i n v = ((v ≡ bare n) × IsPlainCase cs i) ⊎ ((w : Val) × (v ≡ bearing n w) × IsCarriedCase cs i w)

mutual
  pub value_typed : (t : Ty) (v : Val) (front : List ℕ) (next : Option ℕ) → (value t).Spells v front next → HasType t v
  value_typed bool v front next s = truth_typed s.4.0 v s.4.2
  value_typed (signed k) v front next s = signed_typed k v front next s
  value_typed (unsigned k) v front next s = subst (HasType (unsigned k)) (sym s.4.4.0) (mag_below (2 ^ (8 * width_bytes k)) s.4.0 s.4.1 (first_or s.4.2 next) s.4.3)
  value_typed char v front next s = char_typed v front next s
  value_typed string v front next s = string_typed v front next s
  value_typed (list t) v front next s = subst (HasType (list t)) (sym s.4.0) (all_vals t s.0 (items_are (value t) (HasType t) (value_typed t) 0x5D 0x5B s.0 s.1 (first_or s.2 next) s.3))
  value_typed (fixed_list t n) v front next s =
      let m = so_many_is n s.4.3.0 s.4.0 s.4.3.2 in
      let all = items_are (value t) (HasType t) (value_typed t) 0x5D 0x5B s.4.3.0 s.4.1 (first_or s.4.2 next) s.4.3.1 in
      subst (HasType (fixed_list t n)) (sym s.4.4.0) (count_is s.4.0 ∙ m.0, all_vals t s.4.0 (subst (AllByRecursion (HasType t)) m.1 all))
  value_typed (fields k fs) v front next s = subst (HasType (fields k fs)) (sym s.4.4.4.0) (members_typed k fs s.4.0 s.4.1 (first_or s.4.2 next) s.4.3)
  value_typed (cases k cs) v front next s = elim (rest_typed cs s.0 s.0 v s.2 next s.4) [
    | inl p ↦ subst (HasType (cases k cs)) (sym p.0) p.1
    | inr p ↦ subst (HasType (cases k cs)) (sym p.1) p.2
  ]
  value_typed (flags ls) v front next s =
      let w = where_is (nat_le (length ls) 32) (between ls) v front next s in
      subst (HasType (flags ls)) (sym w.4.4.4.0) (inner_flags_below ls w.4.0 w.4.1 (first_or w.4.2 next) w.4.3)
  value_typed (own r) v front next s = subst (HasType (own r)) (sym s.4.4.4.4.0) refl
  value_typed (borrow r) v front next s = subst (HasType (borrow r)) (sym s.4.4.4.4.0) refl

  members_typed : (k : FieldsKind) (fs : Fields) (vs : List Val) (front : List ℕ) (next : Option ℕ) → (members k fs).Spells vs front next → HaveTypes fs (vals_from vs)
  members_typed k no_fields vs front next s = subst (λ (z : List Val). HaveTypes no_fields (vals_from z)) (sym s.0) tt
  members_typed k (field l t fs) vs front next s =
      let v = subst (HasType t) (sym s.3.4.4.4.0) (value_typed t s.3.4.0 s.3.4.1 (first_or s.3.4.2 (first_or s.2 next)) s.3.4.3) in
      subst (λ (z : List Val). HaveTypes (field l t fs) (vals_from z)) (sym s.4.4.0) (v, members_typed k fs s.4.0 s.4.1 (first_or s.4.2 next) s.4.3)

  rest_typed : (cs : Cases) (i n : ℕ) (v : Val) (front : List ℕ) (next : Option ℕ) → (case_rest cs i n).Spells v front next → CaseIs cs i n v
  rest_typed no_cases i n v front next s = absurd s
  rest_typed (plain l cs) zero n v front next s = inl (s.0, tt)
  rest_typed (plain l cs) (suc i) n v front next s = rest_typed cs i n v front next s
  rest_typed (carrying l t cs) zero n v front next s = inr (s.4.0, s.4.4.4.0, value_typed t s.4.0 s.4.1 (first_or s.4.2 next) s.4.3)
  rest_typed (carrying l t cs) (suc i) n v front next s = rest_typed cs i n v front next s

pub text_typed : (t : Ty) (bytes : List ℕ) (v : Val) → Spells t bytes v → HasType t v
text_typed t bytes v s = subst (HasType t) (sym s.4.4.0) (value_typed t s.0 s.1 (first_or s.2 None) s.3)
