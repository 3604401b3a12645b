-- The sketch of a definition is made of those of the types that it names.
use Rattle.std.proofs.Common.{◌≡◌, ℕ, Bool, true, false, ◌&&◌, ◌||◌, List, [], ◌∷◌, map, Option, Some, None, refl, sym, ap, ◌∙◌, slice_get, codes, if◌then◌else◌}
use Rattle.std.specs.List.{list_all, list_any}
use Rattle.std.specs.Option.{option_map, option_and_then, option_map_or}
use Rattle.std.specs.Str.{bytes_eq}
use Rattle.std.proofs.lemmas.Option.{slice_get-map}
use Rattle.cm_types.specs.declared.def_types.CaseType.{CaseType}
use Rattle.cm_types.specs.declared.def_types.LabeledValType.{LabeledValType}
use Rattle.cm_types.specs.declared.def_types.PrimValType.{PrimValType}
use Rattle.cm_types.specs.declared.def_types.PrimValType.TheVariants as prim
use Rattle.cm_types.specs.declared.def_types.ValType.{ValType}
use Rattle.cm_types.specs.declared.def_types.ValType.TheVariants as val_type
use Rattle.cm_types.specs.declared.resource.ResourceId.{ResourceId}
use Rattle.cm_types.specs.DefTypes.{DefValTypeTree, FuncTypeTree, primitive, record_of, variant_of, list_of, fixed_list_of, tuple_of, flags_of, enum_of, option_of, result_of, own_of, borrow_of}
use Rattle.cm_types.specs.Holds.{holds, fields_hold, cases_hold, is_borrow}
use Rattle.cm_types.specs.Types.{Ty, Fields, Cases, bool, signed, unsigned, char, string, list, fixed_list, fields, cases, flags, own, borrow, field, record_type, tuple_type, variant_type, option_type, result_type}
use Rattle.cm_types.specs.TypeTrees.{case_before, plain_from}
use Rattle.cm_validate_model.specs.Definitions.{TypeDef, value, func_type, resource, instance_type, faulty, sort_of, sorts_of}
use Rattle.cm_validate_model.specs.Scopes.{resource_id, value_in, resource_in, value_of, both, payload_of, fields_in, parts_in, cases_in, value_def_of, func_def_of, primitive_type, option_cases, result_cases}
use Rattle.cm_validate_instances.specs.declared.sketches.Sketch.{Sketch}
use Rattle.cm_validate_instances.specs.declared.sketches.Sketch.TheVariants as sketch
use Rattle.cm_validate_instances.specs.declared.sketches.ValueSketch.{ValueSketch}
use Rattle.cm_validate_instances.specs.declared.sketches.ValueSketch.TheVariants as value_sketch
use Rattle.cm_validate_instances.specs.Definitions.{value_sketched, used, is_used, holds_used, is_payload_used, payload_holds, parts_sketch, handle_sketch, value_def_sketch, self_param, result_owned, func_sketched, func_def_sketch}
use Rattle.cm_validate_instances.specs.Sketches.{sketch_holding, sketch_value, holds_borrow, borrowed, owned, resource_borrowed, resource_owned, self_borrow, own_result, sketch_of, sketch_sort}

-- ---- sorts

sort_told : (t : TypeDef) → sort_of t ≡ sketch_sort (sketch_of t)
sort_told (value t) = refl
sort_told (func_type f) = refl
sort_told (resource n) = refl
sort_told (instance_type i) = refl
sort_told faulty = refl

pub sorts_told : (types : List TypeDef) → sorts_of types ≡ map sketch_sort (map sketch_of types)
sorts_told [] = refl
sorts_told (t ∷ ts) = rw (sort_told t, sorts_told ts) refl

-- ---- value types

holding_told : (b : Bool) → holds_borrow (sketch_holding b) ≡ b
holding_told true = refl
holding_told false = refl

-- a sketch tells whether the type holds a borrow
pub borrow_told : (t : Ty) → holds_borrow (sketch_value t) ≡ holds is_borrow t
borrow_told bool = refl
borrow_told (signed w) = refl
borrow_told (unsigned w) = refl
borrow_told char = refl
borrow_told string = refl
borrow_told (list t) = holding_told (holds is_borrow (list t))
borrow_told (fixed_list t n) = holding_told (holds is_borrow (fixed_list t n))
borrow_told (fields k fs) = holding_told (holds is_borrow (fields k fs))
borrow_told (cases k cs) = holding_told (holds is_borrow (cases k cs))
borrow_told (flags ls) = refl
borrow_told (own r) = refl
borrow_told (borrow r) = refl

primitive_told : (p : PrimValType) → sketch_value (primitive_type p) ≡ value_sketch.Plain
primitive_told prim.Bool = refl
primitive_told prim.S8 = refl
primitive_told prim.U8 = refl
primitive_told prim.S16 = refl
primitive_told prim.U16 = refl
primitive_told prim.S32 = refl
primitive_told prim.U32 = refl
primitive_told prim.S64 = refl
primitive_told prim.U64 = refl
primitive_told prim.Char = refl
primitive_told prim.String = refl

value_there : (o : Option TypeDef) → option_and_then value_sketched (option_map sketch_of o) ≡ option_map sketch_value (option_and_then value_in o)
value_there None = refl
value_there (Some (value t)) = refl
value_there (Some (func_type f)) = refl
value_there (Some (resource n)) = refl
value_there (Some (instance_type i)) = refl
value_there (Some faulty) = refl

-- what an option has, where a test says that it has it
abbrev known : Bool → Bool → Option Bool
known false b = None
known true b = Some b

abbrev or_both : Option Bool → Option Bool → Option Bool
or_both p q = both (λ a b. a || b) p q

known_both : (v w b c : Bool) → or_both (known v b) (known w c) ≡ known (v && w) (b || c)
known_both false w b c = refl
known_both true false b c = refl
known_both true true b c = refl

abbrev pub payload_has : Option Ty → Bool
payload_has None = false
payload_has (Some t) = holds is_borrow t

holding_no_handle : (b : Bool) → (None ≡ borrowed (sketch_holding b)) × (None ≡ owned (sketch_holding b))
holding_no_handle true = (refl, refl)
holding_no_handle false = (refl, refl)

borrowed_told : (t : Ty) → resource_borrowed t ≡ borrowed (sketch_value t)
borrowed_told bool = refl
borrowed_told (signed w) = refl
borrowed_told (unsigned w) = refl
borrowed_told char = refl
borrowed_told string = refl
borrowed_told (list t) = (holding_no_handle (holds is_borrow (list t))).0
borrowed_told (fixed_list t n) = (holding_no_handle (holds is_borrow (fixed_list t n))).0
borrowed_told (fields k fs) = (holding_no_handle (holds is_borrow (fields k fs))).0
borrowed_told (cases k cs) = (holding_no_handle (holds is_borrow (cases k cs))).0
borrowed_told (flags ls) = refl
borrowed_told (own r) = refl
borrowed_told (borrow r) = refl

owned_told : (t : Ty) → resource_owned t ≡ owned (sketch_value t)
owned_told bool = refl
owned_told (signed w) = refl
owned_told (unsigned w) = refl
owned_told char = refl
owned_told string = refl
owned_told (list t) = (holding_no_handle (holds is_borrow (list t))).1
owned_told (fixed_list t n) = (holding_no_handle (holds is_borrow (fixed_list t n))).1
owned_told (fields k fs) = (holding_no_handle (holds is_borrow (fields k fs))).1
owned_told (cases k cs) = (holding_no_handle (holds is_borrow (cases k cs))).1
owned_told (flags ls) = refl
owned_told (own r) = refl
owned_told (borrow r) = refl

module _ (types : List TypeDef) where
  abbrev ss : List Sketch
  ss = map sketch_of types

  -- a type where it is used
  pub used_told : (t : ValType) → used ss t ≡ option_map sketch_value (value_of types t)
  used_told (val_type.Primitive p) = ap Some (sym (primitive_told p))
  used_told (val_type.Index i) = ap (option_and_then value_sketched) (slice_get-map sketch_of types i) ∙ value_there (slice_get types i)

  told : (o : Option ValueSketch) (q : Option Ty) → o ≡ option_map sketch_value q → option_map (holds is_borrow) q ≡ known (option_map_or (λ v. true) o false) (option_map_or holds_borrow o false)
  told o None e = rw e refl
  told o (Some t) e = rw e (ap Some (sym (borrow_told t)))

  value_known : (t : ValType) → option_map (holds is_borrow) (value_of types t) ≡ known (is_used ss t) (holds_used ss t)
  value_known t = told (used ss t) (value_of types t) (used_told t)

  payload_map : (o : Option Ty) → option_map payload_has (option_map (λ x. Some x) o) ≡ option_map (holds is_borrow) o
  payload_map None = refl
  payload_map (Some t) = refl

  pub payload_known : (p : Option ValType) → option_map payload_has (payload_of types p) ≡ known (is_payload_used ss p) (payload_holds ss p)
  payload_known None = refl
  payload_known (Some t) = payload_map (value_of types t) ∙ value_known t

  field_map : (l : List ℕ) (o : Option Ty) (q : Option Fields) → option_map (fields_hold is_borrow) (both (field l) o q) ≡ or_both (option_map (holds is_borrow) o) (option_map (fields_hold is_borrow) q)
  field_map l None q = refl
  field_map l (Some t) None = refl
  field_map l (Some t) (Some fs) = refl

  case_holds : (l : List ℕ) (p : Option Ty) (cs : Cases) → cases_hold is_borrow (case_before l p cs) ≡ (payload_has p || cases_hold is_borrow cs)
  case_holds l None cs = refl
  case_holds l (Some t) cs = refl

  case_map : (l : List ℕ) (o : Option (Option Ty)) (q : Option Cases) → option_map (cases_hold is_borrow) (both (case_before l) o q) ≡ or_both (option_map payload_has o) (option_map (cases_hold is_borrow) q)
  case_map l None q = refl
  case_map l (Some p) None = refl
  case_map l (Some p) (Some cs) = ap Some (case_holds l p cs)

  pub fields_known : (fs : List LabeledValType) → option_map (fields_hold is_borrow) (fields_in types fs) ≡ known (list_all (λ f. is_used ss f.ty) fs) (list_any (λ f. holds_used ss f.ty) fs)
  fields_known [] = refl
  fields_known (f ∷ fs) =
      field_map f.label (value_of types f.ty) (fields_in types fs)
      ∙ ap (λ o. or_both o (option_map (fields_hold is_borrow) (fields_in types fs))) (value_known f.ty)
      ∙ ap (or_both (known (is_used ss f.ty) (holds_used ss f.ty))) (fields_known fs)
      ∙ known_both (is_used ss f.ty) (list_all (λ g. is_used ss g.ty) fs) (holds_used ss f.ty) (list_any (λ g. holds_used ss g.ty) fs)

  parts_known : (ts : List ValType) → option_map (fields_hold is_borrow) (parts_in types ts) ≡ known (list_all (is_used ss) ts) (list_any (holds_used ss) ts)
  parts_known [] = refl
  parts_known (t ∷ ts) =
      field_map [] (value_of types t) (parts_in types ts)
      ∙ ap (λ o. or_both o (option_map (fields_hold is_borrow) (parts_in types ts))) (value_known t)
      ∙ ap (or_both (known (is_used ss t) (holds_used ss t))) (parts_known ts)
      ∙ known_both (is_used ss t) (list_all (is_used ss) ts) (holds_used ss t) (list_any (holds_used ss) ts)

  cases_known : (cs : List CaseType) → option_map (cases_hold is_borrow) (cases_in types cs) ≡ known (list_all (λ c. is_payload_used ss c.payload) cs) (list_any (λ c. payload_holds ss c.payload) cs)
  cases_known [] = refl
  cases_known (c ∷ cs) =
      case_map c.label (payload_of types c.payload) (cases_in types cs)
      ∙ ap (λ o. or_both o (option_map (cases_hold is_borrow) (cases_in types cs))) (payload_known c.payload)
      ∙ ap (or_both (known (is_payload_used ss c.payload) (payload_holds ss c.payload))) (cases_known cs)
      ∙ known_both (is_payload_used ss c.payload) (list_all (λ d. is_payload_used ss d.payload) cs) (payload_holds ss c.payload) (list_any (λ d. payload_holds ss d.payload) cs)

  -- ---- definitions of value types

  abbrev sketch_known : Option Bool → Sketch
  sketch_known None = sketch.Faulty
  sketch_known (Some b) = sketch.Value (sketch_holding b)

  known_sketch : (o : Option Bool) (v b : Bool) → o ≡ known v b → sketch_known o ≡ parts_sketch v b
  known_sketch o false b e = ap sketch_known e
  known_sketch o true b e = ap sketch_known e

  -- a type that is made of parts, and is no handle
  made : {A : Type 0} (make : A → Ty) (test : A → Bool) (o : Option A) (v b : Bool) → ((x : A) → sketch_value (make x) ≡ sketch_holding (test x)) → option_map test o ≡ known v b
      → sketch_of (option_map_or value (option_map make o) faulty) ≡ parts_sketch v b
  made make test None v b same e = known_sketch None v b e
  made make test (Some x) v b same e = ap sketch.Value (same x) ∙ known_sketch (Some (test x)) v b e

  or_nothing : (b : Bool) → (b || false) ≡ b
  or_nothing true = refl
  or_nothing false = refl

  no_payloads : (ls : List (List ℕ)) → cases_hold is_borrow (plain_from ls) ≡ false
  no_payloads [] = refl
  no_payloads (l ∷ ls) = no_payloads ls

  result_holds : (ok error : Option Ty) → cases_hold is_borrow (result_cases ok error) ≡ (payload_has ok || payload_has error)
  result_holds None None = refl
  result_holds None (Some t) = or_nothing (holds is_borrow t)
  result_holds (Some t) None = refl
  result_holds (Some t) (Some u) = ap (λ b. holds is_borrow t || b) (or_nothing (holds is_borrow u))

  result_told : (ok error : Option (Option Ty)) (v w b c : Bool) → option_map payload_has ok ≡ known v b → option_map payload_has error ≡ known w c
      → sketch_of (option_map_or value (both (λ x y. cases result_type (result_cases x y)) ok error) faulty) ≡ parts_sketch (v && w) (b || c)
  result_told ok error v w b c p q = told_both ok error (ap (λ o. or_both o (option_map payload_has error)) p ∙ ap (or_both (known v b)) q ∙ known_both v w b c)
    where
      told_both : (o e : Option (Option Ty)) → or_both (option_map payload_has o) (option_map payload_has e) ≡ known (v && w) (b || c)
          → sketch_of (option_map_or value (both (λ x y. cases result_type (result_cases x y)) o e) faulty) ≡ parts_sketch (v && w) (b || c)
      told_both None e h = known_sketch None (v && w) (b || c) h
      told_both (Some x) None h = known_sketch None (v && w) (b || c) h
      told_both (Some x) (Some y) h = ap (λ t. sketch.Value (sketch_holding t)) (result_holds x y) ∙ known_sketch (Some (payload_has x || payload_has y)) (v && w) (b || c) h

  handle_told : (handle : ResourceId → Ty) (shape : ResourceId → ValueSketch) (o : Option TypeDef) → ((r : ResourceId) → sketch_value (handle r) ≡ shape r)
      → sketch_of (option_map_or value (option_map (λ n. handle (resource_id n)) (option_and_then resource_in o)) faulty) ≡ handle_sketch shape (option_map sketch_of o)
  handle_told handle shape None same = refl
  handle_told handle shape (Some (value t)) same = refl
  handle_told handle shape (Some (func_type f)) same = refl
  handle_told handle shape (Some (resource n)) same = ap sketch.Value (same (resource_id n))
  handle_told handle shape (Some (instance_type i)) same = refl
  handle_told handle shape (Some faulty) same = refl

  pub value_def_told : (v : DefValTypeTree) → sketch_of (value_def_of types v) ≡ value_def_sketch ss v
  value_def_told (primitive p) = ap sketch.Value (primitive_told p)
  value_def_told (record_of fs) = made (fields record_type) (fields_hold is_borrow) (fields_in types fs) (list_all (λ f. is_used ss f.ty) fs) (list_any (λ f. holds_used ss f.ty) fs) (λ x. refl) (fields_known fs)
  value_def_told (variant_of cs) = made (cases variant_type) (cases_hold is_borrow) (cases_in types cs) (list_all (λ c. is_payload_used ss c.payload) cs) (list_any (λ c. payload_holds ss c.payload) cs) (λ x. refl) (cases_known cs)
  value_def_told (list_of t) = made list (holds is_borrow) (value_of types t) (is_used ss t) (holds_used ss t) (λ x. refl) (value_known t)
  value_def_told (fixed_list_of t n) = made (λ x. fixed_list x n) (holds is_borrow) (value_of types t) (is_used ss t) (holds_used ss t) (λ x. refl) (value_known t)
  value_def_told (tuple_of ts) = made (fields tuple_type) (fields_hold is_borrow) (parts_in types ts) (list_all (is_used ss) ts) (list_any (holds_used ss) ts) (λ x. refl) (parts_known ts)
  value_def_told (flags_of ls) = refl
  value_def_told (enum_of ls) = ap (λ b. sketch.Value (sketch_holding b)) (no_payloads ls)
  value_def_told (option_of t) =
      made (λ x. cases option_type (option_cases x)) (holds is_borrow) (value_of types t) (is_used ss t) (holds_used ss t) (λ x. ap sketch_holding (or_nothing (holds is_borrow x))) (value_known t)
  value_def_told (result_of ok error) = result_told (payload_of types ok) (payload_of types error) (is_payload_used ss ok) (is_payload_used ss error) (payload_holds ss ok) (payload_holds ss error) (payload_known ok) (payload_known error)
  value_def_told (own_of i) = handle_told own value_sketch.Own (slice_get types i) (λ r. refl) ∙ ap (handle_sketch value_sketch.Own) (sym (slice_get-map sketch_of types i))
  value_def_told (borrow_of i) = handle_told borrow value_sketch.Borrow (slice_get types i) (λ r. refl) ∙ ap (handle_sketch value_sketch.Borrow) (sym (slice_get-map sketch_of types i))

  -- ---- definitions of the types of functions

  pub is_not_known : (v b : Bool) → None ≡ known v b → v ≡ false
  is_not_known false b e = refl
  is_not_known true b e = absurd cc

  pub is_known : (x v b : Bool) → Some x ≡ known v b → v ≡ true
  is_known x true b e = refl
  is_known x false b e = absurd cc

  pub known_as : (x v b : Bool) → Some x ≡ known v b → x ≡ b
  known_as x true b e = ap (λ o. option_map_or (λ y. y) o x) e
  known_as x false b e = absurd cc

  first_told : (l : List ℕ) (t : Option Ty) (u : Option ValueSketch) (q : Option Fields) (ps : Fields) → u ≡ option_map sketch_value t → both (field l) t q ≡ Some ps
      → self_borrow ps ≡ (if bytes_eq l (codes "self") then option_and_then borrowed u else None)
  first_told l None u q ps e h = absurd cc
  first_told l (Some t) u None ps e h = absurd cc
  first_told l (Some t) u (Some qs) ps e h =
      sym (ap (λ o. option_and_then self_borrow o) h)
      ∙ ap (λ v. if bytes_eq l (codes "self") then v else None) (borrowed_told t)
      ∙ ap (λ v. if bytes_eq l (codes "self") then option_and_then borrowed v else None) (sym e)

  self_told : (params : List LabeledValType) (ps : Fields) → fields_in types params ≡ Some ps → self_borrow ps ≡ self_param ss params
  self_told [] ps h = sym (ap (λ o. option_and_then self_borrow o) h)
  self_told (p ∷ rest) ps h = first_told p.label (value_of types p.ty) (used ss p.ty) (fields_in types rest) ps (used_told p.ty) h

  owned_there : (o : Option Ty) (a : Option Ty) (u : Option ValueSketch) → u ≡ option_map sketch_value o → option_map (λ x. Some x) o ≡ Some a → own_result a ≡ option_and_then owned u
  owned_there None a u e h = absurd cc
  owned_there (Some t) a u e h = sym (ap (λ o. option_and_then own_result o) h) ∙ owned_told t ∙ ap (option_and_then owned) (sym e)

  result_told_of : (r : Option ValType) (a : Option Ty) → payload_of types r ≡ Some a → own_result a ≡ result_owned ss r
  result_told_of None a h = sym (ap (λ o. option_and_then own_result o) h)
  result_told_of (Some t) a h = owned_there (value_of types t) a (used ss t) (used_told t) h

  abbrev func_of_both : Option Fields → Option (Option Ty) → TypeDef
  func_of_both os rs = option_map_or func_type (both (λ ps r. record { params = ps; result = r }) os rs) faulty

  func_told : (f : FuncTypeTree) (os : Option Fields) (rs : Option (Option Ty)) → fields_in types f.params ≡ os → payload_of types f.result ≡ rs
      → sketch_of (func_of_both os rs) ≡ func_def_sketch ss f
  func_told f None rs p q =
      let v : list_all (λ x. is_used ss x.ty) f.params ≡ false = is_not_known (list_all (λ x. is_used ss x.ty) f.params) (list_any (λ x. holds_used ss x.ty) f.params) (ap (option_map (fields_hold is_borrow)) (sym p) ∙ fields_known f.params) in
      sym (ap (λ b. if b && is_payload_used ss f.result then sketch.Func (func_sketched ss f) else sketch.Faulty) v)
  func_told f (Some ps) None p q =
      let v : list_all (λ x. is_used ss x.ty) f.params ≡ true = is_known (fields_hold is_borrow ps) (list_all (λ x. is_used ss x.ty) f.params) (list_any (λ x. holds_used ss x.ty) f.params) (ap (option_map (fields_hold is_borrow)) (sym p) ∙ fields_known f.params) in
      let w : is_payload_used ss f.result ≡ false = is_not_known (is_payload_used ss f.result) (payload_holds ss f.result) (ap (option_map payload_has) (sym q) ∙ payload_known f.result) in
      sym (ap (λ b. if b && is_payload_used ss f.result then sketch.Func (func_sketched ss f) else sketch.Faulty) v ∙ ap (λ b. if b then sketch.Func (func_sketched ss f) else sketch.Faulty) w)
  func_told f (Some ps) (Some r) p q =
      let v : list_all (λ x. is_used ss x.ty) f.params ≡ true = is_known (fields_hold is_borrow ps) (list_all (λ x. is_used ss x.ty) f.params) (list_any (λ x. holds_used ss x.ty) f.params) (ap (option_map (fields_hold is_borrow)) (sym p) ∙ fields_known f.params) in
      let w : is_payload_used ss f.result ≡ true = is_known (payload_has r) (is_payload_used ss f.result) (payload_holds ss f.result) (ap (option_map payload_has) (sym q) ∙ payload_known f.result) in
      ap (λ x. sketch.Func (record { self_borrow = x; own_result = own_result r })) (self_told f.params ps p)
      ∙ ap (λ x. sketch.Func (record { self_borrow = self_param ss f.params; own_result = x })) (result_told_of f.result r q)
      ∙ sym (ap (λ b. if b && is_payload_used ss f.result then sketch.Func (func_sketched ss f) else sketch.Faulty) v ∙ ap (λ b. if b then sketch.Func (func_sketched ss f) else sketch.Faulty) w)

  pub func_def_told : (f : FuncTypeTree) → sketch_of (func_def_of types f) ≡ func_def_sketch ss f
  func_def_told f = func_told f (fields_in types f.params) (payload_of types f.result) refl refl
