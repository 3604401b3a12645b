-- The test for values of a type says yes exactly to those that have it.
use Rattle.std.proofs.Common.{◌≡◌, inl, inr, ℕ, zero, suc, ℤ, Bool, true, false, ◌||◌, nat_lt, List, [], ◌∷◌, refl, sym, ap, ◌∙◌, subst}
use Rattle.std.specs.Prelude.{◌≤ℤ◌, ◌<ℤ◌}
use Rattle.std.specs.List.{list_all, AllByRecursion}
use Rattle.std.specs.Int.Signed.{le_z_yes, lt_z_yes}
use lib.Dec.{T}
use Rattle.std.proofs.lemmas.Bool.{and_parts, and_from, false≢true, ltb-true, lt-ltb, eqb-true, eq-eqb, cases_Bool}
use Rattle.cm_types.specs.Types.{Ty, Fields, Cases, bool, signed, unsigned, char, string, list, fixed_list, fields, cases, flags, own, borrow, no_fields, field, no_cases, plain, carrying}
use Rattle.cm_types.specs.Values.{Val, Vals, no_vals, val, truth, signed_number, number, scalar, text, elements, parts, bare, bearing, flag_set, handle, HasType, HaveTypes, IsCarriedCase, IsPlainCase, AllVals, IsScalarValue}
use Rattle.cm_types.specs.TypedValues.{is_between, is_scalar_value, is_plain_case, all_vals, has_type, have_types, is_carried_case}
use Rattle.cm_types.proofs.ResourceLaws.{resource_sound, resource_complete}

true_T : (b : Bool) → b ≡ true → T b
true_T b e = subst T (sym e) tt

T_true : (b : Bool) → T b → b ≡ true
T_true true t = refl
T_true false t = absurd t

between_sound : (a z b : ℤ) → is_between a z b ≡ true → (a ≤ℤ z) × (z <ℤ b)
between_sound a z b h =
    let p = and_parts _ _ h in
    (le_z_yes (true_T _ p.0), lt_z_yes (true_T _ p.1))

between_complete : (a z b : ℤ) → (a ≤ℤ z) × (z <ℤ b) → is_between a z b ≡ true
between_complete a z b h = and_from _ _ (T_true _ h.0.le) (T_true _ h.1.lt)

pub scalar_sound : (c : ℕ) → is_scalar_value c ≡ true → IsScalarValue c
scalar_sound c h =
    let p = and_parts _ _ h in (
      ltb-true _ _ p.0,
      elim (cases_Bool (nat_lt c 0xD800)) [
        | inl low ↦ inl (ltb-true _ _ low)
        | inr high ↦ inr (ltb-true _ _ (ap (λ b. b || nat_lt 0xDFFF c) (sym high) ∙ p.1))
      ],
    )

pub scalar_complete : (c : ℕ) → IsScalarValue c → is_scalar_value c ≡ true
scalar_complete c h = and_from _ _ (lt-ltb _ _ h.0) (elim h.1 [
  | inl low ↦ ap (λ b. b || nat_lt 0xDFFF c) (lt-ltb _ _ low)
  | inr high ↦ or_right (nat_lt c 0xD800) (nat_lt 0xDFFF c) (lt-ltb _ _ high)
])
  where
    or_right : (a b : Bool) → b ≡ true → (a || b) ≡ true
    or_right true b e = refl
    or_right false b e = e

scalars_sound : (cs : List ℕ) → list_all is_scalar_value cs ≡ true → AllByRecursion IsScalarValue cs
scalars_sound [] h = tt
scalars_sound (c ∷ cs) h = let p = and_parts _ _ h in (scalar_sound c p.0, scalars_sound cs p.1)

scalars_complete : (cs : List ℕ) → AllByRecursion IsScalarValue cs → list_all is_scalar_value cs ≡ true
scalars_complete [] h = refl
scalars_complete (c ∷ cs) h = and_from _ _ (scalar_complete c h.0) (scalars_complete cs h.1)

plain_sound : (cs : Cases) (i : ℕ) → is_plain_case cs i ≡ true → IsPlainCase cs i
plain_sound no_cases i h = absurd (false≢true h)
plain_sound (plain l cs) zero h = tt
plain_sound (plain l cs) (suc i) h = plain_sound cs i h
plain_sound (carrying l t cs) zero h = absurd (false≢true h)
plain_sound (carrying l t cs) (suc i) h = plain_sound cs i h

plain_complete : (cs : Cases) (i : ℕ) → IsPlainCase cs i → is_plain_case cs i ≡ true
plain_complete no_cases i h = absurd h
plain_complete (plain l cs) zero h = refl
plain_complete (plain l cs) (suc i) h = plain_complete cs i h
plain_complete (carrying l t cs) zero h = absurd h
plain_complete (carrying l t cs) (suc i) h = plain_complete cs i h

all_sound : (p : Val → Bool) (P : Val → Type 0) → ((v : Val) → p v ≡ true → P v) → (vs : Vals) → all_vals p vs ≡ true → AllVals P vs
all_sound p P each no_vals h = tt
all_sound p P each (val v vs) h = let q = and_parts _ _ h in (each v q.0, all_sound p P each vs q.1)

all_complete : (p : Val → Bool) (P : Val → Type 0) → ((v : Val) → P v → p v ≡ true) → (vs : Vals) → AllVals P vs → all_vals p vs ≡ true
all_complete p P each no_vals h = refl
all_complete p P each (val v vs) h = and_from _ _ (each v h.0) (all_complete p P each vs h.1)

mutual
  pub sound : (t : Ty) (v : Val) → has_type t v ≡ true → HasType t v
  sound bool (truth b) h = tt
  sound (signed k) (signed_number z) h = between_sound _ z _ h
  sound (unsigned k) (number n) h = ltb-true _ _ h
  sound char (scalar c) h = scalar_sound c h
  sound string (text cs) h = scalars_sound cs h
  sound (list t) (elements vs) h = all_sound (has_type t) (HasType t) (sound t) vs h
  sound (fixed_list t n) (parts vs) h =
      let p = and_parts _ _ h in
      (eqb-true _ _ p.0, all_sound (has_type t) (HasType t) (sound t) vs p.1)
  sound (fields k fs) (parts vs) h = fields_sound fs vs h
  sound (cases k cs) (bare i) h = plain_sound cs i h
  sound (cases k cs) (bearing i v) h = carried_sound cs i v h
  sound (flags ls) (flag_set n) h = ltb-true _ _ h
  sound (own r) (handle x) h = resource_sound x.resource r h
  sound (borrow r) (handle x) h = resource_sound x.resource r h
  sound _ _ h = absurd (false≢true h)

  fields_sound : (fs : Fields) (vs : Vals) → have_types fs vs ≡ true → HaveTypes fs vs
  fields_sound no_fields no_vals h = tt
  fields_sound no_fields (val v vs) h = absurd (false≢true h)
  fields_sound (field l t fs) no_vals h = absurd (false≢true h)
  fields_sound (field l t fs) (val v vs) h = let p = and_parts _ _ h in (sound t v p.0, fields_sound fs vs p.1)

  carried_sound : (cs : Cases) (i : ℕ) (v : Val) → is_carried_case cs i v ≡ true → IsCarriedCase cs i v
  carried_sound no_cases i v h = absurd (false≢true h)
  carried_sound (plain l cs) zero v h = absurd (false≢true h)
  carried_sound (plain l cs) (suc i) v h = carried_sound cs i v h
  carried_sound (carrying l t cs) zero v h = sound t v h
  carried_sound (carrying l t cs) (suc i) v h = carried_sound cs i v h

mutual
  pub complete : (t : Ty) (v : Val) → HasType t v → has_type t v ≡ true
  complete bool (truth b) h = refl
  complete (signed k) (signed_number z) h = between_complete _ z _ h
  complete (unsigned k) (number n) h = lt-ltb _ _ h
  complete char (scalar c) h = scalar_complete c h
  complete string (text cs) h = scalars_complete cs h
  complete (list t) (elements vs) h = all_complete (has_type t) (HasType t) (complete t) vs h
  complete (fixed_list t n) (parts vs) h = and_from _ _ (eq-eqb _ _ h.0) (all_complete (has_type t) (HasType t) (complete t) vs h.1)
  complete (fields k fs) (parts vs) h = fields_complete fs vs h
  complete (cases k cs) (bare i) h = plain_complete cs i h
  complete (cases k cs) (bearing i v) h = carried_complete cs i v h
  complete (flags ls) (flag_set n) h = lt-ltb _ _ h
  complete (own r) (handle x) h = resource_complete x.resource r h
  complete (borrow r) (handle x) h = resource_complete x.resource r h
  complete _ _ h = absurd h

  fields_complete : (fs : Fields) (vs : Vals) → HaveTypes fs vs → have_types fs vs ≡ true
  fields_complete no_fields no_vals h = refl
  fields_complete no_fields (val v vs) h = absurd h
  fields_complete (field l t fs) no_vals h = absurd h
  fields_complete (field l t fs) (val v vs) h = and_from _ _ (complete t v h.0) (fields_complete fs vs h.1)

  carried_complete : (cs : Cases) (i : ℕ) (v : Val) → IsCarriedCase cs i v → is_carried_case cs i v ≡ true
  carried_complete no_cases i v h = absurd h
  carried_complete (plain l cs) zero v h = absurd h
  carried_complete (plain l cs) (suc i) v h = carried_complete cs i v h
  carried_complete (carrying l t cs) zero v h = complete t v h
  carried_complete (carrying l t cs) (suc i) v h = carried_complete cs i v h
