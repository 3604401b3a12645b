-- What definitions see of entries whose resources may be moved.
use Rattle.std.proofs.Common.{inl, inr, ◌≡◌, ℕ, zero, suc, ◌+◌, ◌*◌, ◌<◌, ◌≤◌, max, Bool, true, ◌&&◌, List, [], ◌∷◌, ◌++◌, length, map, nat_le, Option, Some, None, refl, sym, ap, ◌∙◌, arith, slice_get, unwrap_or, option_to_list}
use Rattle.std.specs.Prelude.{is_none, slice_set}
use Rattle.std.specs.List.{flat_map, list_all, sum_by}
use Rattle.std.specs.Option.{option_map, option_and_then}
use Rattle.std.proofs.lemmas.Bool.{cases_lt, lt-ltb, leb-true, le-leb}
use Rattle.std.proofs.lemmas.List.Folds.{list_all-append}
use Rattle.std.proofs.lemmas.List.Sums.{sum_by-cons, sum_by-append}
use Rattle.std.proofs.lemmas.Option.{slice_get-map}
use Rattle.cm_types.specs.declared.def_types.ValType.{ValType}
use Rattle.cm_types.specs.declared.def_types.ValType.TheVariants as val_type
use Rattle.cm_types.specs.declared.def_types.LabeledValType.{LabeledValType}
use Rattle.cm_types.specs.declared.def_types.CaseType.{CaseType}
use Rattle.cm_types.specs.declared.limits.TheConstants.{MAX_NODES}
use Rattle.cm_types.specs.DefTypes.{DefValTypeTree, FuncTypeTree, primitive, record_of, variant_of, list_of, fixed_list_of, tuple_of, flags_of, enum_of, option_of, result_of, own_of, borrow_of}
use Rattle.cm_types.specs.Limits.{nodes_of, nodes_of_fields, nodes_of_cases}
use Rattle.cm_types.specs.Types.{Ty, FuncTy, Fields, Cases, bool, fields, cases, record_type, tuple_type, variant_type, option_type, result_type, list, fixed_list, own, borrow}
use Rattle.cm_types.specs.TypeTrees.{TypedLabel, CaseOf, fields_from, parts_from, cases_from, case_before, plain_from}
use Rattle.cm_types_arena.specs.TypeDefs.{type_at}
use Rattle.cm_types_arena.specs.Placed.{moved_by}
use Rattle.cm_types_arena.specs.Replaced.{Standing, replaced}
use Rattle.cm_types_arena.specs.declared.moves.Move.{Move}
use Rattle.cm_validate_model.specs.Definitions.{TypeDef, value}
use Rattle.cm_validate_model.specs.Scopes.{value_in, resource_in, resource_id, option_cases, result_cases}
use Rattle.cm_validate_types.specs.declared.entries.TypeEntry.{TypeEntry}
use Rattle.cm_validate_types.specs.declared.entries.TypeEntry.TheVariants as entry
use Rattle.cm_types_arena.specs.declared.placed.Placed.{Placed}
use Rattle.cm_validate_model.specs.declared.sorts.TypeSort.{TypeSort}
use Rattle.cm_validate_model.specs.declared.sorts.TypeSort.TheVariants as sort
use Rattle.cm_validate_types.specs.Entries.{def_of, entry_sort, unmoved_def_of}
use Rattle.cm_validate_types.specs.Expansion.{value_or_bool, resource_or_zero, labeled_or_bool, case_or_bool, type_or_bool, func_or_bool}
use Rattle.cm_validate_types.specs.Uses.{uses_of, params_of, func_uses_of, nodes_together, is_entry_unmoved, is_use_unmoved, are_uses_unmoved}
use Rattle.cm_lemmas.proofs.Bools.{both_left, both_right}

abbrev pub Unmoved : Type 0
Unmoved = (t : Ty) → replaced (moved_by None) t ≡ t

-- ---- one type where it is used

module _ (types : List Ty) (funcs : List FuncTy) where
  abbrev defs : List TypeEntry → List TypeDef
  defs es = map (def_of types funcs) es

  abbrev bare : List TypeEntry → List TypeDef
  bare es = map (unmoved_def_of types funcs) es

  -- what no move changes is told by the type at the place
  module _ {A : Type 0} (test : Ty → A) (stays : (s : Standing) (t : Ty) → test (replaced s t) ≡ test t) where
    found_same : (o : Option TypeEntry) → test (unwrap_or (option_and_then value_in (option_map (def_of types funcs) o)) bool) ≡ test (unwrap_or (option_and_then value_in (option_map (unmoved_def_of types funcs) o)) bool)
    found_same None = refl
    found_same (Some (entry.Value p)) = stays (moved_by p.by) (type_at types p.place)
    found_same (Some (entry.Func p)) = refl
    found_same (Some (entry.Resource n)) = refl
    found_same (Some (entry.Instance i)) = refl

    pub told_same : (es : List TypeEntry) (t : ValType) → test (value_or_bool (defs es) t) ≡ test (value_or_bool (bare es) t)
    told_same es (val_type.Primitive p) = refl
    told_same es (val_type.Index i) = rw (slice_get-map (def_of types funcs) es i, slice_get-map (unmoved_def_of types funcs) es i) (found_same (slice_get es i))

  module _ (unmoved : Unmoved) where
    by_none : (o : Option Move) (t : Ty) → is_none o ≡ true → replaced (moved_by o) t ≡ t
    by_none None t e = unmoved t
    by_none (Some m) t e = absurd cc

    entry_same : (o : Option TypeEntry) → is_entry_unmoved o ≡ true → option_and_then value_in (option_map (def_of types funcs) o) ≡ option_and_then value_in (option_map (unmoved_def_of types funcs) o)
    entry_same None e = refl
    entry_same (Some (entry.Value p)) e = ap Some (by_none p.by (type_at types p.place) e)
    entry_same (Some (entry.Func p)) e = refl
    entry_same (Some (entry.Resource n)) e = refl
    entry_same (Some (entry.Instance i)) e = refl

    pub value_same : (es : List TypeEntry) (t : ValType) → is_use_unmoved es t ≡ true → value_or_bool (bare es) t ≡ value_or_bool (defs es) t
    value_same es (val_type.Primitive p) e = refl
    value_same es (val_type.Index i) e =
        ap (λ o. unwrap_or o bool) (ap (option_and_then value_in) (slice_get-map (unmoved_def_of types funcs) es i) ∙ sym (entry_same (slice_get es i) e) ∙ ap (option_and_then value_in) (sym (slice_get-map (def_of types funcs) es i)))

  resource_found : (o : Option TypeEntry) → option_and_then resource_in (option_map (unmoved_def_of types funcs) o) ≡ option_and_then resource_in (option_map (def_of types funcs) o)
  resource_found None = refl
  resource_found (Some (entry.Value p)) = refl
  resource_found (Some (entry.Func p)) = refl
  resource_found (Some (entry.Resource n)) = refl
  resource_found (Some (entry.Instance i)) = refl

  resource_same : (es : List TypeEntry) (i : ℕ) → resource_or_zero (bare es) i ≡ resource_or_zero (defs es) i
  resource_same es i =
      ap (λ o. unwrap_or o 0) (ap (option_and_then resource_in) (slice_get-map (unmoved_def_of types funcs) es i) ∙ resource_found (slice_get es i) ∙ ap (option_and_then resource_in) (sym (slice_get-map (def_of types funcs) es i)))

-- ---- a definition, where no type that it uses is moved

module _ (here there : List TypeDef) (is_same : ValType → Bool) (same : (t : ValType) → is_same t ≡ true → value_or_bool here t ≡ value_or_bool there t) where
  labeled_same : (fs : List LabeledValType) → list_all is_same (map (λ f. f.ty) fs) ≡ true → map (labeled_or_bool here) fs ≡ map (labeled_or_bool there) fs
  labeled_same [] e = refl
  labeled_same (f ∷ fs) e =
      let now = same f.ty (both_left (is_same f.ty) (list_all is_same (map (λ g. g.ty) fs)) e) in
      let rest = labeled_same fs (both_right (is_same f.ty) (list_all is_same (map (λ g. g.ty) fs)) e) in
      rw (now, rest) refl

  parts_same : (ts : List ValType) → list_all is_same ts ≡ true → map (value_or_bool here) ts ≡ map (value_or_bool there) ts
  parts_same [] e = refl
  parts_same (t ∷ ts) e =
      let now = same t (both_left (is_same t) (list_all is_same ts) e) in
      let rest = parts_same ts (both_right (is_same t) (list_all is_same ts) e) in
      rw (now, rest) refl

  payload_same : (o : Option ValType) → list_all is_same (option_to_list o) ≡ true → option_map (value_or_bool here) o ≡ option_map (value_or_bool there) o
  payload_same None e = refl
  payload_same (Some t) e = ap Some (same t (both_left (is_same t) true e))

  two_of : (xs ys : List ValType) → list_all is_same (xs ++ ys) ≡ true → (list_all is_same xs && list_all is_same ys) ≡ true
  two_of xs ys e = sym (list_all-append is_same xs ys) ∙ e

  cases_same : (cs : List CaseType) → list_all is_same (flat_map (λ c. option_to_list c.payload) cs) ≡ true → map (case_or_bool here) cs ≡ map (case_or_bool there) cs
  cases_same [] e = refl
  cases_same (c ∷ cs) e =
      let two = two_of (option_to_list c.payload) (flat_map (λ d. option_to_list d.payload) cs) e in
      let now = payload_same c.payload (both_left (list_all is_same (option_to_list c.payload)) (list_all is_same (flat_map (λ d. option_to_list d.payload) cs)) two) in
      let rest = cases_same cs (both_right (list_all is_same (option_to_list c.payload)) (list_all is_same (flat_map (λ d. option_to_list d.payload) cs)) two) in
      rw (now, rest) refl

  result_same : (ok error : Option ValType) → list_all is_same (option_to_list ok ++ option_to_list error) ≡ true → type_or_bool here (result_of ok error) ≡ type_or_bool there (result_of ok error)
  result_same ok error e =
      let two = two_of (option_to_list ok) (option_to_list error) e in
      let first = payload_same ok (both_left (list_all is_same (option_to_list ok)) (list_all is_same (option_to_list error)) two) in
      let second = payload_same error (both_right (list_all is_same (option_to_list ok)) (list_all is_same (option_to_list error)) two) in
      rw (first, second) refl

  one : (t : ValType) → list_all is_same (t ∷ []) ≡ true → value_or_bool here t ≡ value_or_bool there t
  one t e = same t (both_left (is_same t) true e)

  def_same : ((i : ℕ) → resource_or_zero here i ≡ resource_or_zero there i) → (v : DefValTypeTree) → list_all is_same (uses_of v) ≡ true → type_or_bool here v ≡ type_or_bool there v
  def_same rs (primitive p) e = refl
  def_same rs (record_of fs) e = ap (λ ls. fields record_type (fields_from ls)) (labeled_same fs e)
  def_same rs (variant_of cs) e = ap (λ ls. cases variant_type (cases_from ls)) (cases_same cs e)
  def_same rs (list_of t) e = ap list (one t e)
  def_same rs (fixed_list_of t n) e = ap (λ u. fixed_list u n) (one t e)
  def_same rs (tuple_of ts) e = ap (λ ls. fields tuple_type (parts_from ls)) (parts_same ts e)
  def_same rs (flags_of ls) e = refl
  def_same rs (enum_of ls) e = refl
  def_same rs (option_of t) e = ap (λ u. cases option_type (option_cases u)) (one t e)
  def_same rs (result_of ok error) e = result_same ok error e
  def_same rs (own_of i) e = ap (λ n. own (resource_id n)) (rs i)
  def_same rs (borrow_of i) e = ap (λ n. borrow (resource_id n)) (rs i)

  func_def_same : (f : FuncTypeTree) → list_all is_same (func_uses_of f) ≡ true → func_or_bool here f ≡ func_or_bool there f
  func_def_same f e =
      let two = two_of (params_of f) (option_to_list f.result) e in
      let ps = labeled_same f.params (both_left (list_all is_same (params_of f)) (list_all is_same (option_to_list f.result)) two) in
      let r = payload_same f.result (both_right (list_all is_same (params_of f)) (list_all is_same (option_to_list f.result)) two) in
      rw (ps, r) refl

pub type_same : Unmoved → (types : List Ty) (funcs : List FuncTy) (es : List TypeEntry) (v : DefValTypeTree) → are_uses_unmoved es (uses_of v) ≡ true
    → type_or_bool (map (unmoved_def_of types funcs) es) v ≡ type_or_bool (map (def_of types funcs) es) v
type_same unmoved types funcs es v e =
    def_same (map (unmoved_def_of types funcs) es) (map (def_of types funcs) es) (is_use_unmoved es) (value_same types funcs unmoved es) (resource_same types funcs es) v e

pub func_same : Unmoved → (types : List Ty) (funcs : List FuncTy) (es : List TypeEntry) (f : FuncTypeTree) → are_uses_unmoved es (func_uses_of f) ≡ true
    → func_or_bool (map (unmoved_def_of types funcs) es) f ≡ func_or_bool (map (def_of types funcs) es) f
func_same unmoved types funcs es f e =
    func_def_same (map (unmoved_def_of types funcs) es) (map (def_of types funcs) es) (is_use_unmoved es) (value_same types funcs unmoved es) f e

-- ---- a definition has no fewer nodes than what it uses

module _ (types : List TypeDef) where
  abbrev nodes : ValType → ℕ
  nodes u = nodes_of (value_or_bool types u)

  field_nodes : (fs : List LabeledValType) → nodes_together types (map (λ f. f.ty) fs) ≡ nodes_of_fields (fields_from (map (labeled_or_bool types) fs))
  field_nodes [] = refl
  field_nodes (f ∷ fs) = sum_by-cons nodes f.ty (map (λ g. g.ty) fs) ∙ ap (λ n. nodes f.ty + n) (field_nodes fs)

  part_nodes : (ts : List ValType) → nodes_together types ts ≡ nodes_of_fields (parts_from (map (value_or_bool types) ts))
  part_nodes [] = refl
  part_nodes (t ∷ ts) = sum_by-cons nodes t ts ∙ ap (λ n. nodes t + n) (part_nodes ts)

  before_nodes : (l : List ℕ) (o : Option ValType) (cs : Cases) → nodes_of_cases (case_before l (option_map (value_or_bool types) o) cs) ≡ nodes_together types (option_to_list o) + nodes_of_cases cs
  before_nodes l None cs = omega arith
  before_nodes l (Some t) cs = omega arith

  case_nodes : (cs : List CaseType) → nodes_together types (flat_map (λ c. option_to_list c.payload) cs) ≡ nodes_of_cases (cases_from (map (case_or_bool types) cs))
  case_nodes [] = refl
  case_nodes (c ∷ cs) =
      sum_by-append nodes (option_to_list c.payload) (flat_map (λ d. option_to_list d.payload) cs)
      ∙ ap (λ n. nodes_together types (option_to_list c.payload) + n) (case_nodes cs)
      ∙ sym (before_nodes c.label c.payload (cases_from (map (case_or_bool types) cs)))

  result_nodes : (ok error : Option ValType) → nodes_together types (option_to_list ok ++ option_to_list error) ≤ nodes_of (type_or_bool types (result_of ok error))
  result_nodes None None = omega arith
  result_nodes None (Some e) = omega arith
  result_nodes (Some t) None = omega arith
  result_nodes (Some t) (Some e) = omega arith

  times_more : (n k : ℕ) → k ≤ max n 1 * k
  times_more n k = times (max n 1) k (some n)
    where
      some : (n : ℕ) → 1 ≤ max n 1
      some n = omega arith

      times : (m k : ℕ) → 1 ≤ m → k ≤ m * k
      times zero k h = absurd (omega (arith, h))
      times (suc m) k h = omega arith

  pub nodes_enough : (v : DefValTypeTree) → nodes_together types (uses_of v) ≤ nodes_of (type_or_bool types v)
  nodes_enough (primitive p) = omega arith
  nodes_enough (record_of fs) = omega (arith, field_nodes fs)
  nodes_enough (variant_of cs) = omega (arith, case_nodes cs)
  nodes_enough (list_of t) = omega arith
  nodes_enough (fixed_list_of t n) = let h = times_more n (nodes t) in omega (arith, h)
  nodes_enough (tuple_of ts) = omega (arith, part_nodes ts)
  nodes_enough (flags_of ls) = omega arith
  nodes_enough (enum_of ls) = omega arith
  nodes_enough (option_of t) = omega arith
  nodes_enough (result_of ok error) = result_nodes ok error
  nodes_enough (own_of i) = omega arith
  nodes_enough (borrow_of i) = omega arith

  pub params_enough : (f : FuncTypeTree) → nodes_together types (params_of f) ≤ nodes_of (fields tuple_type (func_or_bool types f).params)
  params_enough f = omega (arith, field_nodes f.params)

-- ---- an entry in place of another

pub set_same : {A B : Type 0} (f : A → B) (xs : List A) (i : ℕ) (x y : A) → slice_get xs i ≡ Some x → f y ≡ f x → map f (slice_set xs i y) ≡ map f xs
set_same f [] i x y e h = refl
set_same f (z ∷ zs) zero x y e h = let same : z ≡ x = cc in ap (λ v. v ∷ map f zs) (h ∙ ap f (sym same))
set_same f (z ∷ zs) (suc i) x y e h = ap (λ vs. f z ∷ vs) (set_same f zs i x y e h)

pub set_sorts : (es : List TypeEntry) (i : ℕ) (p : Placed) → option_map entry_sort (slice_get es i) ≡ Some sort.Value → map entry_sort (slice_set es i (entry.Value p)) ≡ map entry_sort es
set_sorts [] i p h = refl
set_sorts (e ∷ es) zero p h = let is : entry_sort e ≡ sort.Value = cc in ap (λ s. s ∷ map entry_sort es) (sym is)
set_sorts (e ∷ es) (suc i) p h = ap (λ ss. entry_sort e ∷ ss) (set_sorts es i p h)

pub set_within : (es : List TypeEntry) (i : ℕ) (s : TypeSort) → option_map entry_sort (slice_get es i) ≡ Some s → i < length es
set_within [] i s h = absurd cc
set_within (e ∷ es) zero s h = omega arith
set_within (e ∷ es) (suc i) s h = let below : i < length es = set_within es i s h in omega (arith, below)

pub set_passes : {A : Type 0} (test : A → Bool) (xs : List A) (i : ℕ) (y : A) → test y ≡ true → list_all test xs ≡ true → list_all test (slice_set xs i y) ≡ true
set_passes test [] i y h e = refl
set_passes test (z ∷ zs) zero y h e = rw (h, both_right (test z) (list_all test zs) e) refl
set_passes test (z ∷ zs) (suc i) y h e = rw (both_left (test z) (list_all test zs) e, set_passes test zs i y h (both_right (test z) (list_all test zs) e)) refl

pub set_found : {A : Type 0} (test : A → Bool) (xs : List A) (i : ℕ) (x : A) → slice_get xs i ≡ Some x → list_all test xs ≡ true → test x ≡ true
set_found test [] i x e h = absurd cc
set_found test (z ∷ zs) zero x e h = let same : z ≡ x = cc in ap test (sym same) ∙ both_left (test z) (list_all test zs) h
set_found test (z ∷ zs) (suc i) x e h = set_found test zs i x e (both_right (test z) (list_all test zs) h)

-- an index gets an entry that is not moved
unmoved_in_set : (es : List TypeEntry) (i : ℕ) (e : TypeEntry) → is_entry_unmoved (Some e) ≡ true → is_entry_unmoved (slice_get (slice_set es i e) i) ≡ true
unmoved_in_set [] i e h = refl
unmoved_in_set (x ∷ xs) zero e h = h
unmoved_in_set (x ∷ xs) (suc i) e h = unmoved_in_set xs i e h

unmoved_beside : (es : List TypeEntry) (i j : ℕ) (e : TypeEntry) → is_entry_unmoved (Some e) ≡ true → is_entry_unmoved (slice_get es j) ≡ true → is_entry_unmoved (slice_get (slice_set es i e) j) ≡ true
unmoved_beside [] i j e h k = k
unmoved_beside (x ∷ xs) zero zero e h k = h
unmoved_beside (x ∷ xs) zero (suc j) e h k = k
unmoved_beside (x ∷ xs) (suc i) zero e h k = k
unmoved_beside (x ∷ xs) (suc i) (suc j) e h k = unmoved_beside xs i j e h k

pub settled_here : (es : List TypeEntry) (i : ℕ) (e : TypeEntry) → is_entry_unmoved (Some e) ≡ true → is_use_unmoved (slice_set es i e) (val_type.Index i) ≡ true
settled_here es i e h = unmoved_in_set es i e h

pub settled_still : (es : List TypeEntry) (i : ℕ) (e : TypeEntry) → is_entry_unmoved (Some e) ≡ true → (u : ValType) → is_use_unmoved es u ≡ true → is_use_unmoved (slice_set es i e) u ≡ true
settled_still es i e h (val_type.Primitive p) k = refl
settled_still es i e h (val_type.Index j) k = unmoved_beside es i j e h k

-- settled uses stay so
pub all_still : (old new : List TypeEntry) → ((u : ValType) → is_use_unmoved old u ≡ true → is_use_unmoved new u ≡ true) → (us : List ValType) → are_uses_unmoved old us ≡ true → are_uses_unmoved new us ≡ true
all_still old new still [] e = refl
all_still old new still (u ∷ us) e =
    rw (still u (both_left (is_use_unmoved old u) (are_uses_unmoved old us) e), all_still old new still us (both_right (is_use_unmoved old u) (are_uses_unmoved old us) e)) refl
