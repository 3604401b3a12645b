-- What functions stand for.
use Rattle.std.proofs.Common.{◌≡◌, ℕ, ◌<◌, ◌≤◌, true, List, [], ◌∷◌, ◌++◌, length, map, Option, Some, None, IfSome, IfOk, IfErr, refl, sym, ap, subst, ◌∙◌, arith, Result, Ok, Err, Vec, Global, length-append, codes}
use Rattle.std.specs.Option.{option_map, option_and_then}
use Rattle.std.specs.List.{AllByRecursion}
use Rattle.std.proofs.lemmas.List.{get_or_push}
use Rattle.std.proofs.lemmas.Bool.{and_right, and_left}
use Rattle.cm_types.specs.declared.resource.ResourceId.{ResourceId}
use Rattle.cm_types_arena.specs.Places.{HasFuncParts, funcs_of, types_of}
use Rattle.cm_types_arena.specs.declared.types.Types.{Types}
use Rattle.cm_types.specs.Types.{Ty, FuncTy, borrow, own}
use Rattle.cm_types.specs.TypeTrees.{TypedLabel, fields_from}
use Rattle.cm_types.specs.Limits.{IsWithinLimits}
use Rattle.cm_types.specs.Spellable.{are_spellable, is_spellable_payload}
use Rattle.cm_types_arena.specs.TypeDefs.{type_at, func_at, field_def_type, func_def_type, params_type, IsBelow}
use Rattle.cm_types_arena.specs.declared.funcs.FuncDef.{FuncDef}
use Rattle.cm_types_arena.specs.declared.type_defs.FieldDef.{FieldDef}
use Rattle.cm_wit_reading.specs.declared.signatures.Func as func_code
use Rattle.cm_wit_reading.specs.declared.signatures.Typed as typed_code
use Rattle.cm_wit_reading.specs.declared.interfaces.ResourceFunc.{ResourceFunc}
use Rattle.cm_wit_reading.specs.declared.interfaces.ResourceFunc.TheVariants as func_is
use Rattle.cm_wit_reading.specs.Trees.{constructor}
use Rattle.cm_wit_reading.specs.Views.{resource_func_tree}
use Rattle.cm_wit_reading.specs.SignatureViews.{func_tree, typed_tree}
use Rattle.cm_wit_reading.specs.TypeViews.{type_tree}
use Rattle.cm_wit_meanings.specs.declared.fault.MeaningFault.{MeaningFault}
use Rattle.cm_wit_meanings.specs.declared.fault.MeaningFault.TheVariants as fault
use Rattle.cm_wit_meanings.specs.declared.scope.Scope as code_scope
use Rattle.cm_wit_meanings.specs.Scopes.{Scope}
use Rattle.cm_wit_meanings.specs.Places.{Extends, ArePlaced, scope_in}
use Rattle.cm_wit_meanings.specs.Meanings.{func_meaning, each_meaning, typed_meaning, payload_meaning, resource_func_meaning, with_self}
use Rattle.cm_wit_meanings.specs.Faults.{IsFuncWithin, IsFuncFault, AreFieldsFault, IsPayloadFault, IsTypeFault}
use Rattle.cm_wit_meanings.specs.Added.{AddedType}
use Rattle.cm_wit_meanings.specs.PartsAdded.{AddedFields, AddedFunc}
use Rattle.cm_wit_meanings.proofs.PartsGrowthLaws.{extends_one, arena_within}
use Rattle.cm_wit_meanings.proofs.GrowthLaws.{extends_length, extends_more, extends_same, place_kept}
use Rattle.cm_types_arena.proofs.PlaceLaws.{option_more}
use Rattle.cm_wit_meanings.proofs.ScopeLaws.{scope_kept}

-- ---- the last one

pub func_last : (old new : List FuncTy) (f : FuncTy) (p : ℕ) → new ≡ old ++ f ∷ [] → p ≡ length old → func_at new p ≡ f
func_last old new f p e q = rw (e, q) (get_or_push old f _ (length old) refl)

pub func_there : (old new : List FuncTy) (f : FuncTy) (p : ℕ) → new ≡ old ++ f ∷ [] → p ≡ length old → p < length new
func_there old new f p e q = let n = ap length e ∙ length-append old (f ∷ []) in omega (arith, n, q)

answer_within : (types : Types) (o : Option ℕ) → IsBelow (length (types_of types)) o → IfSome (option_map (type_at (types_of types)) o) IsWithinLimits
answer_within types None h = tt
answer_within types (Some p) h = arena_within types.entries.items types.arena p h

pub func_within : (types : Types) (funcs : List FuncTy) (d : FuncDef) (p : ℕ) → HasFuncParts (length (types_of types)) d → func_at funcs p ≡ func_def_type (types_of types) d → IsWithinLimits (params_type (func_def_type (types_of types) d)) → IsFuncWithin (func_at funcs p)
func_within types funcs d p parts e w = subst IsFuncWithin (sym e) (w, answer_within types d.result parts.1)

pub ruleset push_laws = (extends_same, extends_one, func_last, func_there, func_within)

-- ---- the parts of a function

abbrev pub func_from : Option (List TypedLabel) → Option (Option Ty) → Option FuncTy
func_from ps t = option_and_then (λ xs. option_map (λ u. record { params = fields_from xs; result = u }) t) ps

pub params_refused : (ps : Option (List TypedLabel)) (t : Option (Option Ty)) (f : MeaningFault) → AreFieldsFault ps f → IsFuncFault (func_from ps t) f
params_refused None t fault.NoSuchType h = refl
params_refused (Some xs) t fault.NoSuchType h = absurd cc
params_refused None t fault.TooLarge h = tt
params_refused (Some xs) None fault.TooLarge h = tt
params_refused (Some xs) (Some u) fault.TooLarge h = λ w. h w.0
params_refused None t fault.NotSpellable h = tt
params_refused (Some xs) None fault.NotSpellable h = tt
params_refused (Some xs) (Some u) fault.NotSpellable h = and_left (are_spellable (fields_from xs)) (is_spellable_payload u) h
params_refused ps t fault.Memory h = tt

result_refused_of : (xs : List TypedLabel) (t : Option (Option Ty)) (f : MeaningFault) → IsPayloadFault t f → IsFuncFault (func_from (Some xs) t) f
result_refused_of xs None fault.NoSuchType h = refl
result_refused_of xs (Some u) fault.NoSuchType h = absurd cc
result_refused_of xs None fault.TooLarge h = tt
result_refused_of xs (Some u) fault.TooLarge h = λ w. h w.1
result_refused_of xs None fault.NotSpellable h = tt
result_refused_of xs (Some u) fault.NotSpellable h = and_right (are_spellable (fields_from xs)) (is_spellable_payload u) h
result_refused_of xs t fault.Memory h = tt

pub result_refused : (ps : Option (List TypedLabel)) (xs : List TypedLabel) (t : Option (Option Ty)) (f : MeaningFault) → ps ≡ Some xs → IsPayloadFault t f → IsFuncFault (func_from ps t) f
result_refused ps xs t f e h = rw e (result_refused_of xs t f h)

pub func_made : (ps : Option (List TypedLabel)) (xs : List TypedLabel) (t : Option (Option Ty)) (u : Option Ty) → ps ≡ Some xs → t ≡ Some u → func_from ps t ≡ Some (record { params = fields_from xs; result = u })
func_made ps xs t u e q = rw (e, q) refl

-- ---- fields of types that stay

fields_stay : (old new : List Ty) (fs : List FieldDef) → Extends old new → AllByRecursion (λ d. d.ty < length old) fs → map (field_def_type new) fs ≡ map (field_def_type old) fs
fields_stay old new [] e h = refl
fields_stay old new (d ∷ ds) e h = rw (place_kept old new d.ty e h.0, fields_stay old new ds e h.1) refl

fields_there : (m n : ℕ) (fs : List FieldDef) → m ≤ n → AllByRecursion (λ d. d.ty < m) fs → AllByRecursion (λ d. d.ty < n) fs
fields_there m n [] le h = tt
fields_there m n (d ∷ ds) le h = (omega (arith, h.0), fields_there m n ds le h.1)

pub fields_below : (old new : List Ty) (fs : List FieldDef) → Extends old new → AllByRecursion (λ d. d.ty < length old) fs → AllByRecursion (λ d. d.ty < length new) fs
fields_below old new fs e h = fields_there (length old) (length new) fs (extends_length old new e) h

-- the parameters and the result, one after the other
module _ (sc : code_scope.Scope) (text : func_code.Func) (first mid last : Types) (placed : ArePlaced (length (types_of first)) sc.table.now) (v : Vec FieldDef Global)
    (a : AddedFields first mid (each_meaning (typed_meaning (scope_in (types_of first) sc)) (map typed_tree text.params.items)) (Ok v)) (grown : Extends (types_of mid) (types_of last)) (funcs : funcs_of last ≡ funcs_of mid) where
  same_answer : payload_meaning (scope_in (types_of mid) sc) (option_map type_tree text.result) ≡ payload_meaning (scope_in (types_of first) sc) (option_map type_tree text.result)
  same_answer = ap (λ (s : Scope). payload_meaning s (option_map type_tree text.result)) (scope_kept (types_of first) (types_of mid) sc a.grown placed)

  pub func_added : (t : Option ℕ) (d : FuncDef) → IsBelow (length (types_of last)) t → payload_meaning (scope_in (types_of mid) sc) (option_map type_tree text.result) ≡ Some (option_map (type_at (types_of last)) t) → d.params.items ≡ v.items → d.result ≡ t → AddedFunc first last (func_meaning (scope_in (types_of first) sc) (func_tree text)) (Ok d)
  func_added t d there q e r =
      let stay : map (field_def_type (types_of last)) v.items ≡ map (field_def_type (types_of mid)) v.items = fields_stay (types_of mid) (types_of last) v.items grown a.there in
      record {
        there = rw (e, r) (fields_below (types_of mid) (types_of last) v.items grown a.there, there);
        meaning = func_made (each_meaning (typed_meaning (scope_in (types_of first) sc)) (map typed_tree text.params.items)) (map (field_def_type (types_of last)) v.items) (payload_meaning (scope_in (types_of first) sc) (option_map type_tree text.result)) (option_map (type_at (types_of last)) t) (a.meaning ∙ ap Some (sym stay)) (sym same_answer ∙ q) ∙ sym (rw (e, r) refl);
        fault = tt;
        grown = extends_more (types_of first) (types_of mid) (types_of last) a.grown grown;
        funcs = funcs ∙ a.funcs;
      }

  pub answer_refused : (f : MeaningFault) → IsPayloadFault (payload_meaning (scope_in (types_of mid) sc) (option_map type_tree text.result)) f → AddedFunc first last (func_meaning (scope_in (types_of first) sc) (func_tree text)) (Err f)
  answer_refused f h = record {
    there = tt;
    meaning = tt;
    fault = result_refused (each_meaning (typed_meaning (scope_in (types_of first) sc)) (map typed_tree text.params.items)) (map (field_def_type (types_of mid)) v.items) (payload_meaning (scope_in (types_of first) sc) (option_map type_tree text.result)) f a.meaning (subst (λ (o : Option (Option Ty)). IsPayloadFault o f) same_answer h);
    grown = extends_more (types_of first) (types_of mid) (types_of last) a.grown grown;
    funcs = funcs ∙ a.funcs;
  }

-- ---- the whole function

pub func_placed : (o : Option FuncTy) (x : FuncTy) (funcs : List FuncTy) (r : Result ℕ MeaningFault) → o ≡ Some x → IfOk r (λ p. func_at funcs p ≡ x) → IfOk r (λ p. o ≡ Some (func_at funcs p))
func_placed o x funcs (Ok p) e h = e ∙ ap Some (sym h)
func_placed o x funcs (Err f) e h = tt

pub func_unplaced : (o : Option FuncTy) (x : FuncTy) (r : Result ℕ MeaningFault) → o ≡ Some x → IfErr r (IsFuncFault (Some x)) → IfErr r (IsFuncFault o)
func_unplaced o x (Ok p) e h = tt
func_unplaced o x (Err f) e h = subst (λ (m : Option FuncTy). IsFuncFault m f) (sym e) h

-- ---- with `self`

option_stays : (old new : List Ty) (p : Option ℕ) → Extends old new → IsBelow (length old) p → option_map (type_at new) p ≡ option_map (type_at old) p
option_stays old new None e h = refl
option_stays old new (Some p) e h = ap Some (place_kept old new p e h)

module _ (old new : List Ty) (r : ResourceId) (e : Extends old new) (d : FuncDef) (parts : HasFuncParts (length old) d) where
  pub self_made : (made : FuncDef) (f : FieldDef) → f.label ≡ codes "self" → type_at new f.ty ≡ borrow r → made.params.items ≡ f ∷ d.params.items → made.result ≡ d.result → func_def_type new made ≡ with_self r (func_def_type old d)
  self_made made f a b q s =
      let stay : map (field_def_type new) d.params.items ≡ map (field_def_type old) d.params.items = fields_stay old new d.params.items e parts.0 in
      let answer : option_map (type_at new) d.result ≡ option_map (type_at old) d.result = option_stays old new d.result e parts.1 in
      rw (q, s, stay, answer, a, b) refl

  pub self_there : (made : FuncDef) (f : FieldDef) → f.ty < length new → made.params.items ≡ f ∷ d.params.items → made.result ≡ d.result → HasFuncParts (length new) made
  self_there made f lt q s = rw (q, s) ((lt, fields_below old new d.params.items e parts.0), option_more (length old) (length new) d.result (extends_length old new e) parts.1)

pub self_added : (old new : Types) (r : ResourceId) (d : FuncDef) → HasFuncParts (length (types_of old)) d → (f : FieldDef) (made : FuncDef) → AddedType old new (Some (borrow r)) (Ok f.ty) → f.label ≡ codes "self" → made.params.items ≡ f ∷ d.params.items → made.result ≡ d.result → AddedFunc old new (Some (with_self r (func_def_type (types_of old) d))) (Ok made)
self_added old new r d parts f made a l q s =
    let is : type_at (types_of new) f.ty ≡ borrow r = cc a.meaning in
    record {
      there = self_there (types_of old) (types_of new) r a.grown d parts made f a.there q s;
      meaning = ap Some (sym (self_made (types_of old) (types_of new) r a.grown d parts made f l is q s));
      fault = tt;
      grown = a.grown;
      funcs = a.funcs;
    }

pub self_refused : (r : ResourceId) (f : FuncTy) (why : MeaningFault) → IsTypeFault (Some (borrow r)) why → IsFuncFault (Some (with_self r f)) why
self_refused r f fault.NoSuchType h = absurd cc
self_refused r f fault.TooLarge h = λ w. h (omega (arith, w.0.0), omega (arith, w.0.1))
self_refused r f fault.NotSpellable h = absurd cc
self_refused r f fault.Memory h = tt

-- ---- methods

pub method_refused : (o : Option FuncTy) (r : ResourceId) (f : MeaningFault) → IsFuncFault o f → IsFuncFault (option_map (with_self r) o) f
method_refused None r fault.NoSuchType h = refl
method_refused (Some x) r fault.NoSuchType h = absurd cc
method_refused None r fault.TooLarge h = tt
method_refused (Some x) r fault.TooLarge h = λ w. h ((omega (arith, w.0.0), omega (arith, w.0.1)), w.1)
method_refused None r fault.NotSpellable h = tt
method_refused (Some x) r fault.NotSpellable h = h
method_refused o r fault.Memory h = tt

-- ---- constructors

abbrev pub made_by : ResourceId → List TypedLabel → FuncTy
made_by r ts = record { params = fields_from ts; result = Some (own r) }

pub constructor_refused : (o : Option (List TypedLabel)) (r : ResourceId) (f : MeaningFault) → AreFieldsFault o f → IsFuncFault (option_map (made_by r) o) f
constructor_refused None r fault.NoSuchType h = refl
constructor_refused (Some x) r fault.NoSuchType h = absurd cc
constructor_refused None r fault.TooLarge h = tt
constructor_refused (Some x) r fault.TooLarge h = λ w. h w.0
constructor_refused None r fault.NotSpellable h = tt
constructor_refused (Some x) r fault.NotSpellable h = and_left (are_spellable (fields_from x)) true h
constructor_refused o r fault.Memory h = tt

own_refused : (ts : List TypedLabel) (r : ResourceId) (f : MeaningFault) → IsTypeFault (Some (own r)) f → IsFuncFault (Some (made_by r ts)) f
own_refused ts r fault.NoSuchType h = absurd cc
own_refused ts r fault.TooLarge h = λ w. h w.1
own_refused ts r fault.NotSpellable h = absurd cc
own_refused ts r fault.Memory h = tt

pub constructor_unmade : (o : Option (List TypedLabel)) (ts : List TypedLabel) (r : ResourceId) (f : MeaningFault) → o ≡ Some ts → IsTypeFault (Some (own r)) f → IsFuncFault (option_map (made_by r) o) f
constructor_unmade o ts r f e h = subst (λ (m : Option FuncTy). IsFuncFault m f) (sym (ap (option_map (made_by r)) e)) (own_refused ts r f h)

pub constructor_added : {old mid new : Types} {o : Option (List TypedLabel)} {p : ℕ} (r : ResourceId) (v : Vec FieldDef Global) (d : FuncDef) → AddedFields old mid o (Ok v) → AddedType mid new (Some (own r)) (Ok p) → d.params.items ≡ v.items → d.result ≡ Some p → AddedFunc old new (option_map (made_by r) o) (Ok d)
constructor_added {old} {mid} {new} {o} {p} r v d a b e q =
    let stay : map (field_def_type (types_of new)) v.items ≡ map (field_def_type (types_of mid)) v.items = fields_stay (types_of mid) (types_of new) v.items b.grown a.there in
    let is : type_at (types_of new) p ≡ own r = cc b.meaning in
    record {
      there = rw (e, q) (fields_below (types_of mid) (types_of new) v.items b.grown a.there, b.there);
      meaning = ap (option_map (made_by r)) a.meaning ∙ sym (rw (e, q, stay, is) refl);
      fault = tt;
      grown = extends_more (types_of old) (types_of mid) (types_of new) a.grown b.grown;
      funcs = b.funcs ∙ a.funcs;
    }

-- ---- functions of resources

pub constructor_means : (s : Scope) (r : ResourceId) (text : ResourceFunc) (v : Vec typed_code.Typed Global) (ps : List typed_code.Typed) → text ≡ func_is.Constructor v → ps ≡ v.items → resource_func_meaning s r (resource_func_tree text) ≡ resource_func_meaning s r (constructor (map typed_tree ps))
constructor_means s r text v ps e is = ap (λ (x : ResourceFunc). resource_func_meaning s r (resource_func_tree x)) e ∙ ap (λ (xs : List typed_code.Typed). resource_func_meaning s r (constructor (map typed_tree xs))) (sym is)
