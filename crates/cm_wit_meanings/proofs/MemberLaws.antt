-- What fields and cases stand for.
use Rattle.std.proofs.Common.{◌≡◌, ℕ, ◌<◌, ◌≤◌, ◌+◌, Bool, false, List, [], ◌∷◌, ◌++◌, length, map, get_or, Option, Some, None, IfSome, refl, sym, ap, subst, ◌∙◌, arith, Ok, Err, Vec, Global}
use Rattle.std.specs.Option.{option_map}
use Rattle.std.proofs.lemmas.Bool.{and_right, and_left}
use Rattle.cm_types.specs.Types.{Ty}
use Rattle.cm_types.specs.TypeTrees.{TypedLabel, CaseOf, fields_from, cases_from}
use Rattle.cm_types.specs.Limits.{IsWithin, IsWithinLimits, nodes_of_fields, depth_of_fields, nodes_of_cases, depth_of_cases}
use Rattle.cm_types.specs.Spellable.{is_spellable, are_spellable, are_spellable_payloads, is_spellable_payload}
use Rattle.cm_types_arena.specs.Places.{types_of}
use Rattle.cm_types_arena.specs.TypeDefs.{type_at, field_def_type, case_def_type, IsBelow}
use Rattle.cm_types_arena.specs.declared.types.Types.{Types}
use Rattle.cm_types_arena.specs.declared.type_defs.FieldDef.{FieldDef}
use Rattle.cm_types_arena.specs.declared.type_defs.CaseDef.{CaseDef}
use Rattle.cm_wit_reading.specs.declared.signatures.Typed as typed_code
use Rattle.cm_wit_reading.specs.declared.types.WitType.{WitType}
use Rattle.cm_wit_reading.specs.TypeViews.{payload_tree, type_tree}
use Rattle.cm_wit_reading.specs.SignatureViews.{typed_tree}
use Rattle.cm_wit_reading.specs.declared.interfaces.Case as case_code
use Rattle.cm_wit_reading.specs.Views.{case_tree}
use Rattle.cm_wit_meanings.specs.declared.fault.MeaningFault.{MeaningFault}
use Rattle.cm_wit_meanings.specs.declared.fault.MeaningFault.TheVariants as fault
use Rattle.cm_wit_meanings.specs.declared.scope.Scope as code_scope
use Rattle.cm_wit_meanings.specs.Scopes.{Scope}
use Rattle.cm_wit_meanings.specs.Places.{Extends, ArePlaced, scope_in}
use Rattle.cm_wit_meanings.specs.Meanings.{meaning, each_meaning, typed_meaning, case_meaning, payload_meaning, record_of, variant_of}
use Rattle.cm_wit_meanings.specs.Faults.{IsFaultOf, IsTypeFault}
use Rattle.cm_wit_meanings.specs.Added.{AddedType}
use Rattle.cm_wit_meanings.specs.PartsAdded.{AddedCase, AddedCases, AddedField, AddedFields, is_case_there, is_field_there}
use Rattle.cm_wit_meanings.proofs.PartsFaultLaws.{mapped_fault}
use Rattle.cm_wit_meanings.proofs.PartsPushLaws.{Pushed, pushed_none, pushed_all, pushed_placed, pushed_more, pushed_fault}
use Rattle.cm_lemmas.proofs.Numbers.{below_more}
use Rattle.cm_wit_meanings.proofs.GrowthLaws.{extends_more, extends_same, place_kept}
use Rattle.cm_types_arena.proofs.PlaceLaws.{option_more}

-- ---- one of them

-- a field within the limits, and one that can be spelled
abbrev pub IsFieldWithin : TypedLabel → Type 0
IsFieldWithin f = IsWithinLimits f.1

abbrev pub is_field_spelled : TypedLabel → Bool
is_field_spelled f = is_spellable f.1

-- the same of fields together
abbrev pub ArePartsWithin : List TypedLabel → Type 0
ArePartsWithin fs = IsWithinLimits (record_of fs)

abbrev pub are_parts_spelled : List TypedLabel → Bool
are_parts_spelled fs = are_spellable (fields_from fs)

-- the same of cases together, of a payload, and of a case
abbrev pub AreCasesWithin : List CaseOf → Type 0
AreCasesWithin cs = IsWithinLimits (variant_of cs)

abbrev pub are_cases_spelled : List CaseOf → Bool
are_cases_spelled cs = is_spellable (variant_of cs)

abbrev pub IsPayloadIn : Option Ty → Type 0
IsPayloadIn p = IfSome p IsWithinLimits

abbrev pub IsCaseWithin : CaseOf → Type 0
IsCaseWithin c = IfSome c.1 IsWithinLimits

abbrev pub is_case_spelled : CaseOf → Bool
is_case_spelled c = is_spellable_payload c.1

pub typed_made : (s : Scope) (x : typed_code.Typed) (t : Ty) (types : List Ty) (d : FieldDef) → meaning s (type_tree x.ty) ≡ Some t → d.label ≡ x.name → type_at types d.ty ≡ t → typed_meaning s (typed_tree x) ≡ Some (field_def_type types d)
typed_made s x t types d m l e = ap (option_map (λ (u : Ty). (x.name, u))) m ∙ rw (l, e) refl

pub typed_refused : (s : Scope) (x : typed_code.Typed) (f : MeaningFault) → IsTypeFault (meaning s (type_tree x.ty)) f → IsFaultOf IsFieldWithin is_field_spelled (typed_meaning s (typed_tree x)) f
typed_refused s x f h = mapped_fault (λ (u : Ty). (x.name, u)) IsFieldWithin is_field_spelled (meaning s (type_tree x.ty)) f h

pub field_of : {old new : Types} {p : ℕ} (s : Scope) (x : typed_code.Typed) (d : FieldDef) → AddedType old new (meaning s (type_tree x.ty)) (Ok p) → d.label ≡ x.name → d.ty ≡ p → AddedField old new (typed_meaning s (typed_tree x)) (Ok d)
field_of {old} {new} {p} s x d h l e = record { there = subst (λ (k : ℕ). k < length (types_of new)) (sym e) h.there; meaning = typed_made s x (type_at (types_of new) p) (types_of new) d h.meaning l (ap (type_at (types_of new)) e); fault = tt; grown = h.grown; funcs = h.funcs }

pub payload_made : (s : Scope) (t : WitType) (types : List Ty) (p : ℕ) → meaning s (type_tree t) ≡ Some (type_at types p) → payload_meaning s (Some (type_tree t)) ≡ Some (option_map (type_at types) (Some p))
payload_made s t types p e = ap (option_map Some) e

pub payload_refused : (s : Scope) (t : WitType) (f : MeaningFault) → IsTypeFault (meaning s (type_tree t)) f → IsFaultOf IsPayloadIn is_spellable_payload (payload_meaning s (Some (type_tree t))) f
payload_refused s t f h = mapped_fault Some IsPayloadIn is_spellable_payload (meaning s (type_tree t)) f h

pub ruleset payload_laws = (payload_made, payload_refused, extends_same)

pub case_made : (s : Scope) (c : case_code.Case) (p : Option Ty) (types : List Ty) (d : CaseDef) → payload_meaning s (payload_tree c.ty) ≡ Some p → d.label ≡ c.name → option_map (type_at types) d.payload ≡ p → case_meaning s (case_tree c) ≡ Some (case_def_type types d)
case_made s c p types d m l e = ap (option_map (λ (u : Option Ty). (c.name, u))) m ∙ rw (l, e) refl

pub case_refused : (s : Scope) (c : case_code.Case) (f : MeaningFault) → IsFaultOf IsPayloadIn is_spellable_payload (payload_meaning s (payload_tree c.ty)) f → IsFaultOf IsCaseWithin is_case_spelled (case_meaning s (case_tree c)) f
case_refused s c f h = mapped_fault (λ (u : Option Ty). (c.name, u)) IsCaseWithin is_case_spelled (payload_meaning s (payload_tree c.ty)) f h

-- ---- several

pub each_view : {A B C : Type 0} (meant : B → Option C) (view : A → B) (xs : List A) → each_meaning (λ x. meant (view x)) xs ≡ each_meaning meant (map view xs)
each_view meant view [] = refl
each_view meant view (x ∷ xs) = rw (each_view meant view xs) refl

abbrev pub field_meant : Scope → typed_code.Typed → Option TypedLabel
field_meant s x = typed_meaning s (typed_tree x)

abbrev pub case_meant : Scope → case_code.Case → Option CaseOf
case_meant s c = case_meaning s (case_tree c)

field_kept : (old new : List Ty) (d : FieldDef) → Extends old new → is_field_there (length old) d → field_def_type new d ≡ field_def_type old d
field_kept old new d e h = ap (λ (t : Ty). (d.label, t)) (place_kept old new d.ty e h)

option_kept : (old new : List Ty) (p : Option ℕ) → Extends old new → IsBelow (length old) p → option_map (type_at new) p ≡ option_map (type_at old) p
option_kept old new None e h = refl
option_kept old new (Some p) e h = ap Some (place_kept old new p e h)

case_kept : (old new : List Ty) (d : CaseDef) → Extends old new → is_case_there (length old) d → case_def_type new d ≡ case_def_type old d
case_kept old new d e h = ap (λ (t : Option Ty). (d.label, t)) (option_kept old new d.payload e h)

-- ---- parts of records and variants

fields_within : (most depth : ℕ) (front : List TypedLabel) (t : TypedLabel) (rest : List TypedLabel) → nodes_of_fields (fields_from (front ++ t ∷ rest)) ≤ most → depth_of_fields (fields_from (front ++ t ∷ rest)) ≤ depth → IsWithin most depth t.1
fields_within most depth [] t rest n d = (omega (arith, n), omega (arith, d))
fields_within most depth (x ∷ xs) t rest n d = fields_within most depth xs t rest (omega (arith, n)) (omega (arith, d))

pub field_within : (front : List TypedLabel) (t : TypedLabel) (rest : List TypedLabel) → IsWithinLimits (record_of (front ++ t ∷ rest)) → IsFieldWithin t
field_within front t rest w =
    let fs = fields_from (front ++ t ∷ rest) in
    let p = fields_within (nodes_of_fields fs) (depth_of_fields fs) front t rest (omega arith) (omega arith) in
    (omega (arith, p.0), omega (arith, p.1))

fields_spelled : (front : List TypedLabel) (t : TypedLabel) (rest : List TypedLabel) → is_field_spelled t ≡ false → are_spellable (fields_from (front ++ t ∷ rest)) ≡ false
fields_spelled [] t rest h = and_left (is_spellable t.1) (are_spellable (fields_from rest)) h
fields_spelled (x ∷ xs) t rest h = and_right (is_spellable x.1) (are_spellable (fields_from (xs ++ t ∷ rest))) (fields_spelled xs t rest h)

payload_first : (most depth : ℕ) (l : List ℕ) (p : Option Ty) (rest : List CaseOf) → nodes_of_cases (cases_from ((l, p) ∷ rest)) ≤ most → depth_of_cases (cases_from ((l, p) ∷ rest)) ≤ depth → IfSome p (IsWithin most depth)
payload_first most depth l None rest n d = tt
payload_first most depth l (Some t) rest n d = (omega (arith, n), omega (arith, d))

payload_rest : (most depth : ℕ) (l : List ℕ) (p : Option Ty) (rest : List CaseOf) → nodes_of_cases (cases_from ((l, p) ∷ rest)) ≤ most → depth_of_cases (cases_from ((l, p) ∷ rest)) ≤ depth → (nodes_of_cases (cases_from rest) ≤ most) × (depth_of_cases (cases_from rest) ≤ depth)
payload_rest most depth l None rest n d = (n, d)
payload_rest most depth l (Some t) rest n d = (omega (arith, n), omega (arith, d))

cases_within : (most depth : ℕ) (front : List CaseOf) (c : CaseOf) (rest : List CaseOf) → nodes_of_cases (cases_from (front ++ c ∷ rest)) ≤ most → depth_of_cases (cases_from (front ++ c ∷ rest)) ≤ depth → IfSome c.1 (IsWithin most depth)
cases_within most depth [] c rest n d = payload_first most depth c.0 c.1 rest n d
cases_within most depth (x ∷ xs) c rest n d =
    let p = payload_rest most depth x.0 x.1 (xs ++ c ∷ rest) n d in
    cases_within most depth xs c rest p.0 p.1

payload_wider : (m n a b : ℕ) (p : Option Ty) → a ≤ m → b ≤ n → IfSome p (IsWithin a b) → IfSome p (IsWithin m n)
payload_wider m n a b None q r h = tt
payload_wider m n a b (Some t) q r h = (omega (arith, h.0), omega (arith, h.1))

pub case_within : (front : List CaseOf) (c : CaseOf) (rest : List CaseOf) → IsWithinLimits (variant_of (front ++ c ∷ rest)) → IsCaseWithin c
case_within front c rest w =
    let cs = cases_from (front ++ c ∷ rest) in
    payload_wider _ _ (nodes_of_cases cs) (depth_of_cases cs) c.1 (omega (arith, w.0)) (omega (arith, w.1)) (cases_within (nodes_of_cases cs) (depth_of_cases cs) front c rest (omega arith) (omega arith))

payload_spelled : (l : List ℕ) (p : Option Ty) (rest : List CaseOf) → is_spellable_payload p ≡ false → are_spellable_payloads (cases_from ((l, p) ∷ rest)) ≡ false
payload_spelled l None rest h = absurd cc
payload_spelled l (Some t) rest h = and_left (is_spellable t) (are_spellable_payloads (cases_from rest)) h

others_spelled : (l : List ℕ) (p : Option Ty) (rest : List CaseOf) → are_spellable_payloads (cases_from rest) ≡ false → are_spellable_payloads (cases_from ((l, p) ∷ rest)) ≡ false
others_spelled l None rest h = h
others_spelled l (Some t) rest h = and_right (is_spellable t) (are_spellable_payloads (cases_from rest)) h

cases_spelled : (front : List CaseOf) (c : CaseOf) (rest : List CaseOf) → is_case_spelled c ≡ false → are_spellable_payloads (cases_from (front ++ c ∷ rest)) ≡ false
cases_spelled [] c rest h = payload_spelled c.0 c.1 rest h
cases_spelled (x ∷ xs) c rest h = others_spelled x.0 x.1 (xs ++ c ∷ rest) (cases_spelled xs c rest h)

pub case_spelled : (front : List CaseOf) (c : CaseOf) (rest : List CaseOf) → is_case_spelled c ≡ false → is_spellable (variant_of (front ++ c ∷ rest)) ≡ false
case_spelled front c rest h = and_right _ (are_spellable_payloads (cases_from (front ++ c ∷ rest))) (cases_spelled front c rest h)

-- ---- adding fields

abbrev pub PushedFields : code_scope.Scope → List typed_code.Typed → Types → ℕ → Types → List FieldDef → Type 0
PushedFields sc texts first i now done = Pushed (field_meant (scope_in (types_of first) sc)) field_def_type is_field_there texts first i now done

pub fields_none : (sc : code_scope.Scope) (texts : List typed_code.Typed) (first : Types) (done : List FieldDef) → done ≡ [] → PushedFields sc texts first 0 first done
fields_none sc texts first done e = rw e (pushed_none (field_meant (scope_in (types_of first) sc)) field_def_type is_field_there texts first)

module _ (sc : code_scope.Scope) (texts : List typed_code.Typed) (first now : Types) (placed : ArePlaced (length (types_of first)) sc.table.now) (i : ℕ) (done : List FieldDef) (h : PushedFields sc texts first i now done) where
  pub fields_placed : ArePlaced (length (types_of now)) sc.table.now
  fields_placed = pushed_placed field_meant field_def_type is_field_there sc texts first now placed i done h

  fields_fault : (x : typed_code.Typed) (f : MeaningFault) → i < length texts → x ≡ get_or texts i x → IsFaultOf IsFieldWithin is_field_spelled (field_meant (scope_in (types_of now) sc) x) f → IsFaultOf ArePartsWithin are_parts_spelled (each_meaning (typed_meaning (scope_in (types_of first) sc)) (map typed_tree texts)) f
  fields_fault x f lt is e = subst (λ (o : Option (List TypedLabel)). IsFaultOf ArePartsWithin are_parts_spelled o f) (each_view (typed_meaning (scope_in (types_of first) sc)) typed_tree texts) (pushed_fault field_meant field_def_type is_field_there sc texts first now placed i done h ArePartsWithin are_parts_spelled IsFieldWithin is_field_spelled field_within fields_spelled x f lt is e)

  module _ (next : Types) (x : typed_code.Typed) (lt : i < length texts) (is : x ≡ get_or texts i x) where
    pub field_next : (d : FieldDef) (new : List FieldDef) → AddedField now next (typed_meaning (scope_in (types_of now) sc) (typed_tree x)) (Ok d) → new ≡ done ++ d ∷ [] → PushedFields sc texts first (i + 1) next new
    field_next d new a n = pushed_more field_meant field_def_type is_field_there sc texts first now placed i done h field_kept (λ m n d le q. below_more m n d.ty le q) next x d new lt is a.meaning a.there a.grown a.funcs n

    pub field_stops : (f : MeaningFault) → AddedField now next (typed_meaning (scope_in (types_of now) sc) (typed_tree x)) (Err f) → AddedFields first next (each_meaning (typed_meaning (scope_in (types_of first) sc)) (map typed_tree texts)) (Err f)
    field_stops f a = record { there = tt; meaning = tt; fault = fields_fault x f lt is a.fault; grown = extends_more (types_of first) (types_of now) (types_of next) h.grown a.grown; funcs = a.funcs ∙ h.funcs }

    -- where there is no memory for it
    pub field_lost : (d : FieldDef) → AddedField now next (typed_meaning (scope_in (types_of now) sc) (typed_tree x)) (Ok d) → AddedFields first next (each_meaning (typed_meaning (scope_in (types_of first) sc)) (map typed_tree texts)) (Err fault.Memory)
    field_lost d a = record { there = tt; meaning = tt; fault = tt; grown = extends_more (types_of first) (types_of now) (types_of next) h.grown a.grown; funcs = a.funcs ∙ h.funcs }

  pub fields_added : (v : Vec FieldDef Global) → v.items ≡ done → length texts ≤ i → AddedFields first now (each_meaning (typed_meaning (scope_in (types_of first) sc)) (map typed_tree texts)) (Ok v)
  fields_added v e le = record {
    there = rw e h.there;
    meaning = rw e (sym (each_view (typed_meaning (scope_in (types_of first) sc)) typed_tree texts) ∙ pushed_all (field_meant (scope_in (types_of first) sc)) field_def_type is_field_there texts first now i done le h);
    fault = tt;
    grown = h.grown;
    funcs = h.funcs;
  }

-- ---- adding cases

abbrev pub PushedCases : code_scope.Scope → List case_code.Case → Types → ℕ → Types → List CaseDef → Type 0
PushedCases sc texts first i now done = Pushed (case_meant (scope_in (types_of first) sc)) case_def_type is_case_there texts first i now done

pub cases_none : (sc : code_scope.Scope) (texts : List case_code.Case) (first : Types) (done : List CaseDef) → done ≡ [] → PushedCases sc texts first 0 first done
cases_none sc texts first done e = rw e (pushed_none (case_meant (scope_in (types_of first) sc)) case_def_type is_case_there texts first)

module _ (sc : code_scope.Scope) (texts : List case_code.Case) (first now : Types) (placed : ArePlaced (length (types_of first)) sc.table.now) (i : ℕ) (done : List CaseDef) (h : PushedCases sc texts first i now done) where
  pub cases_placed : ArePlaced (length (types_of now)) sc.table.now
  cases_placed = pushed_placed case_meant case_def_type is_case_there sc texts first now placed i done h

  cases_fault : (x : case_code.Case) (f : MeaningFault) → i < length texts → x ≡ get_or texts i x → IsFaultOf IsCaseWithin is_case_spelled (case_meant (scope_in (types_of now) sc) x) f → IsFaultOf AreCasesWithin are_cases_spelled (each_meaning (case_meaning (scope_in (types_of first) sc)) (map case_tree texts)) f
  cases_fault x f lt is e = subst (λ (o : Option (List CaseOf)). IsFaultOf AreCasesWithin are_cases_spelled o f) (each_view (case_meaning (scope_in (types_of first) sc)) case_tree texts) (pushed_fault case_meant case_def_type is_case_there sc texts first now placed i done h AreCasesWithin are_cases_spelled IsCaseWithin is_case_spelled case_within case_spelled x f lt is e)

  module _ (next : Types) (x : case_code.Case) (lt : i < length texts) (is : x ≡ get_or texts i x) where
    pub case_next : (d : CaseDef) (new : List CaseDef) → AddedCase now next (case_meaning (scope_in (types_of now) sc) (case_tree x)) (Ok d) → new ≡ done ++ d ∷ [] → PushedCases sc texts first (i + 1) next new
    case_next d new a n = pushed_more case_meant case_def_type is_case_there sc texts first now placed i done h case_kept (λ m n d le q. option_more m n d.payload le q) next x d new lt is a.meaning a.there a.grown a.funcs n

    pub case_stops : (f : MeaningFault) → AddedCase now next (case_meaning (scope_in (types_of now) sc) (case_tree x)) (Err f) → AddedCases first next (each_meaning (case_meaning (scope_in (types_of first) sc)) (map case_tree texts)) (Err f)
    case_stops f a = record { there = tt; meaning = tt; fault = cases_fault x f lt is a.fault; grown = extends_more (types_of first) (types_of now) (types_of next) h.grown a.grown; funcs = a.funcs ∙ h.funcs }

    -- where there is no memory for it
    pub case_lost : (d : CaseDef) → AddedCase now next (case_meaning (scope_in (types_of now) sc) (case_tree x)) (Ok d) → AddedCases first next (each_meaning (case_meaning (scope_in (types_of first) sc)) (map case_tree texts)) (Err fault.Memory)
    case_lost d a = record { there = tt; meaning = tt; fault = tt; grown = extends_more (types_of first) (types_of now) (types_of next) h.grown a.grown; funcs = a.funcs ∙ h.funcs }

  pub cases_added : (v : Vec CaseDef Global) → v.items ≡ done → length texts ≤ i → AddedCases first now (each_meaning (case_meaning (scope_in (types_of first) sc)) (map case_tree texts)) (Ok v)
  cases_added v e le = record {
    there = rw e h.there;
    meaning = rw e (sym (each_view (case_meaning (scope_in (types_of first) sc)) case_tree texts) ∙ pushed_all (case_meant (scope_in (types_of first) sc)) case_def_type is_case_there texts first now i done le h);
    fault = tt;
    grown = h.grown;
    funcs = h.funcs;
  }
