-- Types are a set: two proofs that two types are equal are the same, since a test tells equal types
-- apart from others.
use Rattle.std.proofs.Common.{◌≡◌, ◌==◌, ◌&&◌, Bool, true, false, refl, sym, ap, ◌∙◌}
use Rattle.std.specs.Str.{bytes_eq}
use Rattle.std.specs.Cmp.Lexicographic.{bytes_decides}
use Rattle.std.proofs.lemmas.Bool.{and_parts, and_from, eqb-true, eq-eqb, false≢true}
use mathlib.Core.HLevel.{hedberg, Discrete}
use Rattle.cm_types.specs.Resources.{same_resource}
use Rattle.cm_types.specs.Types.{Ty, Fields, Cases, bool, signed, unsigned, char, string, list, fixed_list, fields, cases, flags, own, borrow, no_fields, field, no_cases, plain, carrying}
use Rattle.cm_types.proofs.TypesLaws.{cases_kind_same, cases_kind_sound, fields_kind_same, fields_kind_sound, same_cases_kind, same_fields_kind, same_width, width_same, width_sound}
use Rattle.cm_lemmas.proofs.Lists.{same_text, labels_same, labels_sound, same_labels}
use Rattle.cm_types.proofs.ResourceLaws.{resource_same, resource_sound}

abbrev mutual
  -- whether two types are the same
  same_type : Ty → Ty → Bool
  same_type bool bool = true
  same_type (signed j) (signed k) = same_width j k
  same_type (unsigned j) (unsigned k) = same_width j k
  same_type char char = true
  same_type string string = true
  same_type (list t) (list u) = same_type t u
  same_type (fixed_list t m) (fixed_list u n) = (m == n) && same_type t u
  same_type (fields j fs) (fields k gs) = same_fields_kind j k && same_fields fs gs
  same_type (cases j cs) (cases k ds) = same_cases_kind j k && same_cases cs ds
  same_type (flags ks) (flags ls) = same_labels ks ls
  same_type (own r) (own s) = same_resource r s
  same_type (borrow r) (borrow s) = same_resource r s
  same_type _ _ = false

  same_fields : Fields → Fields → Bool
  same_fields no_fields no_fields = true
  same_fields (field k t fs) (field l u gs) =
      bytes_eq k l && same_type t u && same_fields fs gs
  same_fields _ _ = false

  same_cases : Cases → Cases → Bool
  same_cases no_cases no_cases = true
  same_cases (plain k cs) (plain l ds) = bytes_eq k l && same_cases cs ds
  same_cases (carrying k t cs) (carrying l u ds) =
      bytes_eq k l && same_type t u && same_cases cs ds
  same_cases _ _ = false

mutual
  sound : (t u : Ty) → same_type t u ≡ true → t ≡ u
  sound bool bool h = refl
  sound (signed j) (signed k) h = ap signed (width_sound j k h)
  sound (unsigned j) (unsigned k) h = ap unsigned (width_sound j k h)
  sound char char h = refl
  sound string string h = refl
  sound (list t) (list u) h = ap list (sound t u h)
  sound (fixed_list t m) (fixed_list u n) h =
      let p = and_parts _ _ h in
      let e = eqb-true m n p.0 in
      let f = sound t u p.1 in cc
  sound (fields j fs) (fields k gs) h =
      let p = and_parts _ _ h in
      let e = fields_kind_sound j k p.0 in
      let f = fields_sound fs gs p.1 in cc
  sound (cases j cs) (cases k ds) h =
      let p = and_parts _ _ h in
      let e = cases_kind_sound j k p.0 in
      let f = cases_sound cs ds p.1 in cc
  sound (flags ks) (flags ls) h = ap flags (labels_sound ks ls h)
  sound (own r) (own s) h = ap own (resource_sound r s h)
  sound (borrow r) (borrow s) h = ap borrow (resource_sound r s h)
  sound _ _ h = absurd (false≢true h)

  fields_sound : (fs gs : Fields) → same_fields fs gs ≡ true → fs ≡ gs
  fields_sound no_fields no_fields h = refl
  fields_sound (field k t fs) (field l u gs) h =
      let p = and_parts _ _ h in
      let q = and_parts _ _ p.0 in
      let d = same_text k l q.0 in
      let e = sound t u q.1 in
      let f = fields_sound fs gs p.1 in cc
  fields_sound _ _ h = absurd (false≢true h)

  cases_sound : (cs ds : Cases) → same_cases cs ds ≡ true → cs ≡ ds
  cases_sound no_cases no_cases h = refl
  cases_sound (plain k cs) (plain l ds) h =
      let p = and_parts _ _ h in
      let d = same_text k l p.0 in
      let f = cases_sound cs ds p.1 in cc
  cases_sound (carrying k t cs) (carrying l u ds) h =
      let p = and_parts _ _ h in
      let q = and_parts _ _ p.0 in
      let d = same_text k l q.0 in
      let e = sound t u q.1 in
      let f = cases_sound cs ds p.1 in cc
  cases_sound _ _ h = absurd (false≢true h)

mutual
  same : (t : Ty) → same_type t t ≡ true
  same bool = refl
  same (signed j) = width_same j
  same (unsigned j) = width_same j
  same char = refl
  same string = refl
  same (list t) = same t
  same (fixed_list t m) = and_from _ _ (eq-eqb m m refl) (same t)
  same (fields j fs) = and_from _ _ (fields_kind_same j) (fields_same fs)
  same (cases j cs) = and_from _ _ (cases_kind_same j) (cases_same cs)
  same (flags ks) = labels_same ks
  same (own r) = resource_same r
  same (borrow r) = resource_same r

  fields_same : (fs : Fields) → same_fields fs fs ≡ true
  fields_same no_fields = refl
  fields_same (field k t fs) = and_from _ _ (and_from _ _ ((bytes_decides k k).1 refl) (same t)) (fields_same fs)

  cases_same : (cs : Cases) → same_cases cs cs ≡ true
  cases_same no_cases = refl
  cases_same (plain k cs) = and_from _ _ ((bytes_decides k k).1 refl) (cases_same cs)
  cases_same (carrying k t cs) = and_from _ _ (and_from _ _ ((bytes_decides k k).1 refl) (same t)) (cases_same cs)

tested : {A : Type 0} (test : A → A → Bool) → ((x y : A) → test x y ≡ true → x ≡ y) → ((x : A) → test x x ≡ true) → Discrete A
tested {A} test sound same x y = go (test x y) refl
  where
    go : (b : Bool) → test x y ≡ b → Dec (x ≡ y)
    go true e = yes (sound x y e)
    go false e = no (λ p. false≢true (sym e ∙ ap (test x) (sym p) ∙ same x))

pub Ty-set : IsSet Ty
Ty-set = hedberg (tested same_type sound same)

pub Fields-set : IsSet Fields
Fields-set = hedberg (tested same_fields fields_sound fields_same)
