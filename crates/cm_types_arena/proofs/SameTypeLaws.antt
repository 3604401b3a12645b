-- The test for equal types says yes exactly where the types are equal.
use Rattle.std.proofs.Common.{◌≡◌, ℕ, true, List, [], ◌∷◌, Option, Some, None, refl, sym, ap, ◌∙◌}
use Rattle.std.specs.Option.{option_map}
use Rattle.std.proofs.lemmas.Bool.{and_parts, and_from, eqb-true, eq-eqb, false≢true}
use Rattle.cm_types.specs.declared.resource.ResourceId.{ResourceId}
use Rattle.cm_types.specs.Types.{Ty, FuncTy, Fields, Cases, FieldsKind, CasesKind, Width, bits_8, bits_16, bits_32, bits_64, bool, signed, unsigned, char, string, list, fixed_list, fields, cases, flags, own, borrow, no_fields, field, no_cases, plain, carrying, record_type, tuple_type, variant_type, enum_type, option_type, result_type}
use Rattle.cm_types.specs.Resources.{resolve}
use Rattle.cm_types.specs.Resolved.{resolved, resolved_fields, resolved_cases, resolved_func}
use Rattle.cm_types_arena.specs.SameTypes.{same_width, same_fields_kind, same_cases_kind, same_labels, same_type, same_fields, same_cases, same_payload, same_func}
use Rattle.cm_lemmas.proofs.Lists.{text_same, same_text}
use Rattle.cm_types.proofs.TypesLaws.{make_func}
use Rattle.cm_types.proofs.ResourceLaws.{resource_complete, resource_sound}

-- ---- yes only where they are equal

width_sound : (j k : Width) → same_width j k ≡ true → j ≡ k
width_sound bits_8 bits_8 h = refl
width_sound bits_16 bits_16 h = refl
width_sound bits_32 bits_32 h = refl
width_sound bits_64 bits_64 h = refl
width_sound _ _ h = absurd (false≢true h)

width_same : (j : Width) → same_width j j ≡ true
width_same bits_8 = refl
width_same bits_16 = refl
width_same bits_32 = refl
width_same bits_64 = refl

width_complete : (j k : Width) → j ≡ k → same_width j k ≡ true
width_complete j k e = ap (same_width j) (sym e) ∙ width_same j

fields_kind_sound : (j k : FieldsKind) → same_fields_kind j k ≡ true → j ≡ k
fields_kind_sound record_type record_type h = refl
fields_kind_sound tuple_type tuple_type h = refl
fields_kind_sound _ _ h = absurd (false≢true h)

cases_kind_sound : (j k : CasesKind) → same_cases_kind j k ≡ true → j ≡ k
cases_kind_sound variant_type variant_type h = refl
cases_kind_sound enum_type enum_type h = refl
cases_kind_sound option_type option_type h = refl
cases_kind_sound result_type result_type h = refl
cases_kind_sound _ _ h = absurd (false≢true h)

labels_sound : (ks ls : List (List ℕ)) → same_labels ks ls ≡ true → ks ≡ ls
labels_sound [] [] h = refl
labels_sound (k ∷ ks) (l ∷ ls) h =
    let p = and_parts _ _ h in
    let e = same_text k l p.0 in
    let f = labels_sound ks ls p.1 in cc
labels_sound _ _ h = absurd (false≢true h)

-- ---- yes wherever they are equal

fields_kind_same : (j : FieldsKind) → same_fields_kind j j ≡ true
fields_kind_same record_type = refl
fields_kind_same tuple_type = refl

fields_kind_complete : (j k : FieldsKind) → j ≡ k → same_fields_kind j k ≡ true
fields_kind_complete j k e = ap (same_fields_kind j) (sym e) ∙ fields_kind_same j

cases_kind_same : (j : CasesKind) → same_cases_kind j j ≡ true
cases_kind_same variant_type = refl
cases_kind_same enum_type = refl
cases_kind_same option_type = refl
cases_kind_same result_type = refl

cases_kind_complete : (j k : CasesKind) → j ≡ k → same_cases_kind j k ≡ true
cases_kind_complete j k e = ap (same_cases_kind j) (sym e) ∙ cases_kind_same j

labels_same : (ks : List (List ℕ)) → same_labels ks ks ≡ true
labels_same [] = refl
labels_same (k ∷ ks) = and_from _ _ (text_same k k refl) (labels_same ks)

labels_complete : (ks ls : List (List ℕ)) → ks ≡ ls → same_labels ks ls ≡ true
labels_complete ks ls e = ap (same_labels ks) (sym e) ∙ labels_same ks

module _ (rs ss : List ResourceId) where
  mutual
    pub sound : (t u : Ty) → same_type rs ss t u ≡ true → resolved rs t ≡ resolved ss u
    sound bool bool h = refl
    sound (signed j) (signed k) h = ap signed (width_sound j k h)
    sound (unsigned j) (unsigned k) h = ap unsigned (width_sound j k h)
    sound char char h = refl
    sound string string h = refl
    sound (list t) (list u) h = ap list (sound t u h)
    sound (fixed_list t m) (fixed_list u n) h =
        let p = and_parts _ _ h in
        let e = eqb-true m n p.0 in
        let f = sound t u p.1 in cc
    sound (fields j fs) (fields k gs) h =
        let p = and_parts _ _ h in
        let e = fields_kind_sound j k p.0 in
        let f = fields_sound fs gs p.1 in cc
    sound (cases j cs) (cases k ds) h =
        let p = and_parts _ _ h in
        let e = cases_kind_sound j k p.0 in
        let f = cases_sound cs ds p.1 in cc
    sound (flags ks) (flags ls) h = ap flags (labels_sound ks ls h)
    sound (own r) (own s) h = ap own (resource_sound (resolve rs r) (resolve ss s) h)
    sound (borrow r) (borrow s) h = ap borrow (resource_sound (resolve rs r) (resolve ss s) h)
    sound _ _ h = absurd (false≢true h)

    pub fields_sound : (fs gs : Fields) → same_fields rs ss fs gs ≡ true → resolved_fields rs fs ≡ resolved_fields ss gs
    fields_sound no_fields no_fields h = refl
    fields_sound (field k t fs) (field l u gs) h =
        let p = and_parts _ _ h in
        let q = and_parts _ _ p.0 in
        let d = same_text k l q.0 in
        let e = sound t u q.1 in
        let f = fields_sound fs gs p.1 in cc
    fields_sound _ _ h = absurd (false≢true h)

    pub cases_sound : (cs ds : Cases) → same_cases rs ss cs ds ≡ true → resolved_cases rs cs ≡ resolved_cases ss ds
    cases_sound no_cases no_cases h = refl
    cases_sound (plain k cs) (plain l ds) h =
        let p = and_parts _ _ h in
        let d = same_text k l p.0 in
        let f = cases_sound cs ds p.1 in cc
    cases_sound (carrying k t cs) (carrying l u ds) h =
        let p = and_parts _ _ h in
        let q = and_parts _ _ p.0 in
        let d = same_text k l q.0 in
        let e = sound t u q.1 in
        let f = cases_sound cs ds p.1 in cc
    cases_sound _ _ h = absurd (false≢true h)

  mutual
    pub complete : (t u : Ty) → resolved rs t ≡ resolved ss u → same_type rs ss t u ≡ true
    complete bool bool e = refl
    complete (signed j) (signed k) e = width_complete j k cc
    complete (unsigned j) (unsigned k) e = width_complete j k cc
    complete char char e = refl
    complete string string e = refl
    complete (list t) (list u) e = complete t u cc
    complete (fixed_list t m) (fixed_list u n) e = and_from _ _ (eq-eqb m n cc) (complete t u cc)
    complete (fields j fs) (fields k gs) e = and_from _ _ (fields_kind_complete j k cc) (fields_complete fs gs cc)
    complete (cases j cs) (cases k ds) e = and_from _ _ (cases_kind_complete j k cc) (cases_complete cs ds cc)
    complete (flags ks) (flags ls) e = labels_complete ks ls cc
    complete (own r) (own s) e = resource_complete (resolve rs r) (resolve ss s) cc
    complete (borrow r) (borrow s) e = resource_complete (resolve rs r) (resolve ss s) cc
    complete _ _ e = cc

    pub fields_complete : (fs gs : Fields) → resolved_fields rs fs ≡ resolved_fields ss gs → same_fields rs ss fs gs ≡ true
    fields_complete no_fields no_fields e = refl
    fields_complete (field k t fs) (field l u gs) e =
        and_from _ _ (and_from _ _ (text_same k l cc) (complete t u cc)) (fields_complete fs gs cc)
    fields_complete _ _ e = cc

    pub cases_complete : (cs ds : Cases) → resolved_cases rs cs ≡ resolved_cases ss ds → same_cases rs ss cs ds ≡ true
    cases_complete no_cases no_cases e = refl
    cases_complete (plain k cs) (plain l ds) e = and_from _ _ (text_same k l cc) (cases_complete cs ds cc)
    cases_complete (carrying k t cs) (carrying l u ds) e =
        and_from _ _ (and_from _ _ (text_same k l cc) (complete t u cc)) (cases_complete cs ds cc)
    cases_complete _ _ e = cc

  payload_sound : (o p : Option Ty) → same_payload rs ss o p ≡ true → option_map (resolved rs) o ≡ option_map (resolved ss) p
  payload_sound None None h = refl
  payload_sound (Some t) (Some u) h = ap Some (sound t u h)
  payload_sound _ _ h = absurd (false≢true h)

  payload_complete : (o p : Option Ty) → option_map (resolved rs) o ≡ option_map (resolved ss) p → same_payload rs ss o p ≡ true
  payload_complete None None e = refl
  payload_complete (Some t) (Some u) e = complete t u cc
  payload_complete _ _ e = cc

  pub func_sound : (f g : FuncTy) → same_func rs ss f g ≡ true → resolved_func rs f ≡ resolved_func ss g
  func_sound f g h =
      let p = and_parts _ _ h in
      ap (λ ps. make_func ps (option_map (resolved rs) f.result)) (fields_sound f.params g.params p.0)
      ∙ ap (λ r. make_func (resolved_fields ss g.params) r) (payload_sound f.result g.result p.1)

  pub func_complete : (f g : FuncTy) → resolved_func rs f ≡ resolved_func ss g → same_func rs ss f g ≡ true
  func_complete f g e = and_from _ _ (fields_complete f.params g.params (ap (λ h. h.params) e)) (payload_complete f.result g.result (ap (λ h. h.result) e))
