-- Types that name the first so many resources of a component.
use Rattle.std.proofs.Common.{◌≡◌, ℕ, ◌+◌, ◌-◌, ◌<◌, ◌≤◌, List, [], ◌∷◌, Option, Some, None, refl, ap, sym, ◌∙◌, arith, inl, inr, nat_lt}
use Rattle.std.specs.Prelude.{IfSome, slice_get}
use Rattle.std.specs.List.{AllByRecursion}
use Rattle.std.specs.Option.{option_map, option_map_or, option_and_then}
use Rattle.std.proofs.lemmas.Bool.{cases_Bool, ltb-true, ltb-false, lt-ltb, lt-leb}
use Rattle.cm_types.specs.declared.resource.ResourceId.{ResourceId}
use Rattle.cm_types.specs.declared.def_types.ValType.{ValType}
use Rattle.cm_types.specs.declared.def_types.ValType.TheVariants as val_type
use Rattle.cm_types.specs.declared.def_types.LabeledValType.{LabeledValType}
use Rattle.cm_types.specs.declared.def_types.CaseType.{CaseType}
use Rattle.cm_types.specs.declared.def_types.PrimValType.{PrimValType}
use Rattle.cm_types.specs.declared.def_types.PrimValType.TheVariants as prim
use Rattle.cm_types.specs.DefTypes.{DefValTypeTree, FuncTypeTree, primitive, record_of, variant_of, list_of, fixed_list_of, tuple_of, flags_of, enum_of, option_of, result_of, own_of, borrow_of}
use Rattle.cm_types.specs.Types.{Ty, FuncTy, Fields, Cases, bool, signed, unsigned, char, string, list, fixed_list, fields, cases, flags, own, borrow, no_fields, field, no_cases, plain, carrying, record_type, tuple_type, variant_type, option_type, result_type}
use Rattle.cm_types.specs.TypeTrees.{case_before, plain_from}
use Rattle.cm_types_arena.specs.Moves.{moved as moved_range}
use Rattle.cm_types_arena.specs.Replaced.{replaced, replaced_fields, replaced_cases, replaced_func}
use Rattle.cm_validate_model.specs.Definitions.{TypeDef, value, func_type, resource, instance_type, faulty, InstanceTy}
use Rattle.cm_validate_model.specs.Moves.{moved, moved_id, moved_type, moved_fields, moved_cases, moved_func}
use Rattle.cm_validate_model.specs.Scopes.{resource_id, value_in, resource_in, primitive_type, value_of, both, payload_of, fields_in, parts_in, cases_in, option_cases, result_cases, handle_of, value_defined, func_defined, value_def_of, func_def_of}
use Rattle.cm_validate_model.specs.Counted.{IsAmongFirst, IsCounted, AreCounted, AreCasesCounted, IsFuncCounted}
use Rattle.cm_validate_model.specs.CountedSpaces.{IsDefCounted}
use Rattle.cm_types.proofs.TypesLaws.{make_func}
use Rattle.cm_lemmas.proofs.Lists.{got_there}
use Rattle.cm_lemmas.proofs.Options.{then_map}

-- ---- lists and options

pub all_weaker : {A : Type 0} (P Q : A → Type 0) → ((x : A) → P x → Q x) → (xs : List A) → AllByRecursion P xs → AllByRecursion Q xs
all_weaker P Q f [] h = tt {0}
all_weaker P Q f (x ∷ xs) h = (f x h.0, all_weaker P Q f xs h.1)

pub both_have : {A B C : Type 0} (P : A → Type 0) (Q : B → Type 0) (R : C → Type 0) (f : A → B → C) → ((x : A) (y : B) → P x → Q y → R (f x y))
    → (a : Option A) (b : Option B) → IfSome a P → IfSome b Q → IfSome (both f a b) R
both_have P Q R f g None b h k = tt {0}
both_have P Q R f g (Some x) None h k = tt {0}
both_have P Q R f g (Some x) (Some y) h k = g x y h k

-- ---- more resources

pub number_grows : (n m : ℕ) → n ≤ m → (r : ResourceId) → IsAmongFirst n r → IsAmongFirst m r
number_grows n m le r h = (h.0, omega (arith, le, h.1))

mutual
  pub grows : (n m : ℕ) → n ≤ m → (t : Ty) → IsCounted n t → IsCounted m t
  grows n m le bool h = h
  grows n m le (signed w) h = h
  grows n m le (unsigned w) h = h
  grows n m le char h = h
  grows n m le string h = h
  grows n m le (list t) h = grows n m le t h
  grows n m le (fixed_list t k) h = grows n m le t h
  grows n m le (fields k fs) h = fields_grow n m le fs h
  grows n m le (cases k cs) h = cases_grow n m le cs h
  grows n m le (flags ls) h = h
  grows n m le (own r) h = number_grows n m le r h
  grows n m le (borrow r) h = number_grows n m le r h

  pub fields_grow : (n m : ℕ) → n ≤ m → (fs : Fields) → AreCounted n fs → AreCounted m fs
  fields_grow n m le no_fields h = h
  fields_grow n m le (field l t fs) h = (grows n m le t h.0, fields_grow n m le fs h.1)

  cases_grow : (n m : ℕ) → n ≤ m → (cs : Cases) → AreCasesCounted n cs → AreCasesCounted m cs
  cases_grow n m le no_cases h = h
  cases_grow n m le (plain l cs) h = cases_grow n m le cs h
  cases_grow n m le (carrying l t cs) h = (grows n m le t h.0, cases_grow n m le cs h.1)

answer_grows : (n m : ℕ) → n ≤ m → (o : Option Ty) → IfSome o (IsCounted n) → IfSome o (IsCounted m)
answer_grows n m le None h = h
answer_grows n m le (Some t) h = grows n m le t h

pub func_grows : (n m : ℕ) → n ≤ m → (f : FuncTy) → IsFuncCounted n f → IsFuncCounted m f
func_grows n m le f h = (fields_grow n m le f.params h.0, answer_grows n m le f.result h.1)

-- ---- definitions

primitive_counted : (n : ℕ) (p : PrimValType) → IsCounted n (primitive_type p)
primitive_counted n prim.Bool = tt {0}
primitive_counted n prim.S8 = tt {0}
primitive_counted n prim.U8 = tt {0}
primitive_counted n prim.S16 = tt {0}
primitive_counted n prim.U16 = tt {0}
primitive_counted n prim.S32 = tt {0}
primitive_counted n prim.U32 = tt {0}
primitive_counted n prim.S64 = tt {0}
primitive_counted n prim.U64 = tt {0}
primitive_counted n prim.Char = tt {0}
primitive_counted n prim.String = tt {0}

value_of_def : (n : ℕ) (o : Option TypeDef) → IfSome o (IsDefCounted n) → IfSome (option_and_then value_in o) (IsCounted n)
value_of_def n None h = tt {0}
value_of_def n (Some (value t)) h = h
value_of_def n (Some (func_type f)) h = tt {0}
value_of_def n (Some (resource k)) h = tt {0}
value_of_def n (Some (instance_type i)) h = tt {0}
value_of_def n (Some faulty) h = tt {0}

pub resource_of_def : (n : ℕ) (o : Option TypeDef) → IfSome o (IsDefCounted n) → IfSome (option_and_then resource_in o) (λ k. k < n)
resource_of_def n None h = tt {0}
resource_of_def n (Some (value t)) h = tt {0}
resource_of_def n (Some (func_type f)) h = tt {0}
resource_of_def n (Some (resource k)) h = h
resource_of_def n (Some (instance_type i)) h = tt {0}
resource_of_def n (Some faulty) h = tt {0}

module _ (n : ℕ) (types : List TypeDef) (known : AllByRecursion (IsDefCounted n) types) where
  value_counted : (t : ValType) → IfSome (value_of types t) (IsCounted n)
  value_counted (val_type.Primitive p) = primitive_counted n p
  value_counted (val_type.Index i) = value_of_def n (slice_get types i) (got_there (IsDefCounted n) types i known)

  payload_counted : (o : Option ValType) → IfSome (payload_of types o) (λ p. IfSome p (IsCounted n))
  payload_counted None = tt {0}
  payload_counted (Some t) = then_map (IsCounted n) (λ p. IfSome p (IsCounted n)) (λ x. Some x) (λ x h. h) (value_of types t) (value_counted t)

  fields_counted : (fs : List LabeledValType) → IfSome (fields_in types fs) (AreCounted n)
  fields_counted [] = tt {0}
  fields_counted (f ∷ fs) = both_have (IsCounted n) (AreCounted n) (AreCounted n) (field f.label) (λ t fs h k. (h, k)) (value_of types f.ty) (fields_in types fs) (value_counted f.ty) (fields_counted fs)

  parts_counted : (ts : List ValType) → IfSome (parts_in types ts) (AreCounted n)
  parts_counted [] = tt {0}
  parts_counted (t ∷ ts) = both_have (IsCounted n) (AreCounted n) (AreCounted n) (field []) (λ t fs h k. (h, k)) (value_of types t) (parts_in types ts) (value_counted t) (parts_counted ts)

  case_counted : (l : List ℕ) (p : Option Ty) (cs : Cases) → IfSome p (IsCounted n) → AreCasesCounted n cs → AreCasesCounted n (case_before l p cs)
  case_counted l None cs h k = k
  case_counted l (Some t) cs h k = (h, k)

  cases_counted : (cs : List CaseType) → IfSome (cases_in types cs) (AreCasesCounted n)
  cases_counted [] = tt {0}
  cases_counted (c ∷ cs) =
      both_have (λ p. IfSome p (IsCounted n)) (AreCasesCounted n) (AreCasesCounted n) (case_before c.label) (λ p ds h k. case_counted c.label p ds h k)
      (payload_of types c.payload) (cases_in types cs) (payload_counted c.payload) (cases_counted cs)

  plain_counted : (ls : List (List ℕ)) → AreCasesCounted n (plain_from ls)
  plain_counted [] = tt {0}
  plain_counted (l ∷ ls) = plain_counted ls

  handle_counted : (h : ResourceId → Ty) → ((r : ResourceId) → IsAmongFirst n r → IsCounted n (h r)) → (i : ℕ) → IfSome (handle_of h types i) (IsCounted n)
  handle_counted h f i =
      then_map (λ k. k < n) (IsCounted n) (λ k. h (resource_id k)) (λ k lt. f (resource_id k) (refl, lt)) (option_and_then resource_in (slice_get types i))
      (resource_of_def n (slice_get types i) (got_there (IsDefCounted n) types i known))

  defined_counted : (d : DefValTypeTree) → IfSome (value_defined types d) (IsCounted n)
  defined_counted (primitive p) = primitive_counted n p
  defined_counted (record_of fs) = then_map (AreCounted n) (IsCounted n) (fields record_type) (λ x h. h) (fields_in types fs) (fields_counted fs)
  defined_counted (variant_of cs) = then_map (AreCasesCounted n) (IsCounted n) (cases variant_type) (λ x h. h) (cases_in types cs) (cases_counted cs)
  defined_counted (list_of t) = then_map (IsCounted n) (IsCounted n) list (λ x h. h) (value_of types t) (value_counted t)
  defined_counted (fixed_list_of t k) = then_map (IsCounted n) (IsCounted n) (λ x. fixed_list x k) (λ x h. h) (value_of types t) (value_counted t)
  defined_counted (tuple_of ts) = then_map (AreCounted n) (IsCounted n) (fields tuple_type) (λ x h. h) (parts_in types ts) (parts_counted ts)
  defined_counted (flags_of ls) = tt {0}
  defined_counted (enum_of ls) = plain_counted ls
  defined_counted (option_of t) = then_map (IsCounted n) (IsCounted n) (λ x. cases option_type (option_cases x)) (λ x h. (h, tt {0})) (value_of types t) (value_counted t)
  defined_counted (result_of ok error) =
      both_have (λ p. IfSome p (IsCounted n)) (λ p. IfSome p (IsCounted n)) (IsCounted n) (λ x y. cases result_type (result_cases x y))
      (λ x y h k. case_counted _ x _ h (case_counted _ y no_cases k (tt {0})))
      (payload_of types ok) (payload_of types error) (payload_counted ok) (payload_counted error)
  defined_counted (own_of i) = handle_counted own (λ r h. h) i
  defined_counted (borrow_of i) = handle_counted borrow (λ r h. h) i

  func_counted : (f : FuncTypeTree) → IfSome (func_defined types f) (IsFuncCounted n)
  func_counted f =
      both_have (AreCounted n) (λ p. IfSome p (IsCounted n)) (IsFuncCounted n) (λ ps r. record { params = ps; result = r }) (λ ps r h k. (h, k))
      (fields_in types f.params) (payload_of types f.result) (fields_counted f.params) (payload_counted f.result)

  def_of_some : {A : Type 0} (P : A → Type 0) (d : A → TypeDef) → ((x : A) → P x → IsDefCounted n (d x)) → (o : Option A) → IfSome o P → IsDefCounted n (option_map_or d o faulty)
  def_of_some P d f None h = tt {0}
  def_of_some P d f (Some x) h = f x h

  pub value_def_counted : (d : DefValTypeTree) → IsDefCounted n (value_def_of types d)
  value_def_counted d = def_of_some (IsCounted n) value (λ x h. h) (value_defined types d) (defined_counted d)

  pub func_def_counted : (f : FuncTypeTree) → IsDefCounted n (func_def_of types f)
  func_def_counted f = def_of_some (IsFuncCounted n) func_type (λ x h. h) (func_defined types f) (func_counted f)

-- ---- resources that an import moves

module _ (i : InstanceTy) (next : ℕ) where
  pub number_moved : (k : ℕ) → i.first ≤ next → k < i.first + i.fresh → moved i next k < next + i.fresh
  number_moved k le lt = elim (cases_Bool (nat_lt k i.first)) [
    | inl y ↦ rw y (omega (arith, le, ltb-true k i.first y))
    | inr n ↦ rw n (omega (arith, le, lt, ltb-false k i.first n))
  ]

  module _ (le : i.first ≤ next) where
    pub id_moved : (r : ResourceId) → IsAmongFirst (i.first + i.fresh) r → IsAmongFirst (next + i.fresh) (moved_id i next r)
    id_moved r h = (refl, number_moved r.number le h.1)

    mutual
      pub type_moved : (t : Ty) → IsCounted (i.first + i.fresh) t → IsCounted (next + i.fresh) (moved_type i next t)
      type_moved bool h = h
      type_moved (signed w) h = h
      type_moved (unsigned w) h = h
      type_moved char h = h
      type_moved string h = h
      type_moved (list t) h = type_moved t h
      type_moved (fixed_list t k) h = type_moved t h
      type_moved (fields k fs) h = fields_moved fs h
      type_moved (cases k cs) h = cases_moved cs h
      type_moved (flags ls) h = h
      type_moved (own r) h = id_moved r h
      type_moved (borrow r) h = id_moved r h

      fields_moved : (fs : Fields) → AreCounted (i.first + i.fresh) fs → AreCounted (next + i.fresh) (moved_fields i next fs)
      fields_moved no_fields h = h
      fields_moved (field l t fs) h = (type_moved t h.0, fields_moved fs h.1)

      cases_moved : (cs : Cases) → AreCasesCounted (i.first + i.fresh) cs → AreCasesCounted (next + i.fresh) (moved_cases i next cs)
      cases_moved no_cases h = h
      cases_moved (plain l cs) h = cases_moved cs h
      cases_moved (carrying l t cs) h = (type_moved t h.0, cases_moved cs h.1)

    pub func_moved : (f : FuncTy) → IsFuncCounted (i.first + i.fresh) f → IsFuncCounted (next + i.fresh) (moved_func i next f)
    func_moved f h = (fields_moved f.params h.0, then_map (IsCounted (i.first + i.fresh)) (IsCounted (next + i.fresh)) (moved_type i next) type_moved f.result h.1)

  -- ---- a move of what is counted is one of a range

  abbrev make_id : ℕ → ℕ → ResourceId
  make_id c k = record { component = c; number = k }

  pub id_ranged : (r : ResourceId) → IsAmongFirst (i.first + i.fresh) r → moved_id i next r ≡ moved_range i.first i.fresh next r
  id_ranged r h = elim (cases_Bool (nat_lt r.number i.first)) [
    | inl y ↦ rw y (ap (λ c. make_id c r.number) (sym h.0))
    | inr n ↦ rw (n, lt-leb (i.first + i.fresh) r.number h.1) (ap (λ c. make_id c (r.number - i.first + next)) (sym h.0))
  ]

  mutual
    pub type_ranged : (t : Ty) → IsCounted (i.first + i.fresh) t → moved_type i next t ≡ replaced (moved_range i.first i.fresh next) t
    type_ranged bool h = refl
    type_ranged (signed w) h = refl
    type_ranged (unsigned w) h = refl
    type_ranged char h = refl
    type_ranged string h = refl
    type_ranged (list t) h = ap list (type_ranged t h)
    type_ranged (fixed_list t k) h = ap (λ u. fixed_list u k) (type_ranged t h)
    type_ranged (fields k fs) h = ap (fields k) (fields_ranged fs h)
    type_ranged (cases k cs) h = ap (cases k) (cases_ranged cs h)
    type_ranged (flags ls) h = refl
    type_ranged (own r) h = ap own (id_ranged r h)
    type_ranged (borrow r) h = ap borrow (id_ranged r h)

    fields_ranged : (fs : Fields) → AreCounted (i.first + i.fresh) fs → moved_fields i next fs ≡ replaced_fields (moved_range i.first i.fresh next) fs
    fields_ranged no_fields h = refl
    fields_ranged (field l t fs) h = ap (λ u. field l u (moved_fields i next fs)) (type_ranged t h.0) ∙ ap (field l (replaced (moved_range i.first i.fresh next) t)) (fields_ranged fs h.1)

    cases_ranged : (cs : Cases) → AreCasesCounted (i.first + i.fresh) cs → moved_cases i next cs ≡ replaced_cases (moved_range i.first i.fresh next) cs
    cases_ranged no_cases h = refl
    cases_ranged (plain l cs) h = ap (plain l) (cases_ranged cs h)
    cases_ranged (carrying l t cs) h = ap (λ u. carrying l u (moved_cases i next cs)) (type_ranged t h.0) ∙ ap (carrying l (replaced (moved_range i.first i.fresh next) t)) (cases_ranged cs h.1)

  answer_ranged : (o : Option Ty) → IfSome o (IsCounted (i.first + i.fresh)) → option_map (moved_type i next) o ≡ option_map (replaced (moved_range i.first i.fresh next)) o
  answer_ranged None h = refl
  answer_ranged (Some t) h = ap Some (type_ranged t h)

  pub func_ranged : (f : FuncTy) → IsFuncCounted (i.first + i.fresh) f → moved_func i next f ≡ replaced_func (moved_range i.first i.fresh next) f
  func_ranged f h =
      ap (λ ps. make_func ps (option_map (moved_type i next) f.result)) (fields_ranged f.params h.0)
      ∙ ap (make_func (replaced_fields (moved_range i.first i.fresh next) f.params)) (answer_ranged f.result h.1)

  -- ---- what names no resource of the instance's own

  id_stays : (r : ResourceId) → IsAmongFirst i.first r → moved_id i next r ≡ r
  id_stays r h = rw (lt-ltb r.number i.first h.1) (ap (λ c. make_id c r.number) (sym h.0))

  mutual
    pub type_stays : (t : Ty) → IsCounted i.first t → moved_type i next t ≡ t
    type_stays bool h = refl
    type_stays (signed w) h = refl
    type_stays (unsigned w) h = refl
    type_stays char h = refl
    type_stays string h = refl
    type_stays (list t) h = ap list (type_stays t h)
    type_stays (fixed_list t k) h = ap (λ u. fixed_list u k) (type_stays t h)
    type_stays (fields k fs) h = ap (fields k) (fields_stay fs h)
    type_stays (cases k cs) h = ap (cases k) (cases_stay cs h)
    type_stays (flags ls) h = refl
    type_stays (own r) h = ap own (id_stays r h)
    type_stays (borrow r) h = ap borrow (id_stays r h)

    fields_stay : (fs : Fields) → AreCounted i.first fs → moved_fields i next fs ≡ fs
    fields_stay no_fields h = refl
    fields_stay (field l t fs) h = ap (λ u. field l u (moved_fields i next fs)) (type_stays t h.0) ∙ ap (field l t) (fields_stay fs h.1)

    cases_stay : (cs : Cases) → AreCasesCounted i.first cs → moved_cases i next cs ≡ cs
    cases_stay no_cases h = refl
    cases_stay (plain l cs) h = ap (plain l) (cases_stay cs h)
    cases_stay (carrying l t cs) h = ap (λ u. carrying l u (moved_cases i next cs)) (type_stays t h.0) ∙ ap (carrying l t) (cases_stay cs h.1)
