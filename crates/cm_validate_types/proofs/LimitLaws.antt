-- Of what a definition of a type breaks, that which is beyond its parts comes last.
use Rattle.std.proofs.Common.{inl, inr, ◌≡◌, ℕ, ◌≤◌, Bool, true, false, not, List, [], ◌∷◌, ◌++◌, length, map, nat_le, nat_lt, Option, Some, None, refl, sym, ap, ◌∙◌, slice_get, arith}
use Rattle.std.specs.List.{flat_map, list_all}
use Rattle.std.proofs.lemmas.Bool.{cases_Bool, leb-true, le-leb, and_from}
use Rattle.std.proofs.lemmas.List.Folds.{list_all-append}
use Rattle.cm_types.specs.declared.def_types.ValType.{ValType}
use Rattle.cm_types.specs.declared.def_types.ValType.TheVariants as val_type
use Rattle.cm_types.specs.declared.limits.TheConstants.{MAX_NODES, MAX_DEPTH}
use Rattle.cm_types.specs.declared.spellable.TheConstants.{MAX_FLAGS}
use Rattle.cm_types.specs.DefTypes.{DefValTypeTree, FuncTypeTree, primitive, record_of, variant_of, list_of, fixed_list_of, tuple_of, flags_of, enum_of, option_of, result_of, own_of, borrow_of}
use Rattle.cm_types.specs.Holds.{holds, is_borrow}
use Rattle.cm_types.specs.Limits.{nodes_of, depth_of, IsWithinLimits}
use Rattle.cm_types.specs.Types.{Ty, FuncTy, fields, tuple_type}
use Rattle.cm_types_arena.specs.TypeDefs.{params_type}
use Rattle.cm_validate_model.specs.declared.fault.ValidReason.{ValidReason}
use Rattle.cm_validate_model.specs.declared.fault.ValidReason.TheVariants as reason
use Rattle.cm_validate_model.specs.ReasonWords.{reason_number}
use Rattle.cm_validate_model.specs.declared.sorts.TypeSort.{TypeSort}
use Rattle.cm_validate_model.specs.declared.sorts.TypeSort.TheVariants as sort
use Rattle.cm_validate_model.specs.Definitions.{TypeDef, sorts_of, value, func_type, faulty}
use Rattle.cm_validate_model.specs.Reasons.{unless, found, if_found, least, lesser}
use Rattle.cm_validate_model.specs.Scopes.{value_defined, func_defined, value_def_of, func_def_of}
use Rattle.std.specs.Option.{option_map_or}
use Rattle.cm_validate_types.specs.Expansion.{func_or_bool, type_or_bool}
use Rattle.cm_validate_types.proofs.ExpandLaws.{defined_there, func_there}
use Rattle.cm_validate_model.specs.TypeRules.{has_sort, value_broken, payload_broken, parts_broken, uses_broken, params_broken, emptiness_broken, labels_broken, is_within_limits, limits_broken, value_def_broken, func_def_broken, func_ty_broken, are_distinct_names, is_not_empty, no_borrow_broken}
use Rattle.cm_validate_model.proofs.SharedLaws.{LeastOfBoth}
use Rattle.cm_lemmas.proofs.Bools.{both_left, both_right}

-- ---- reasons of small numbers

abbrev at_most : ℕ → ValidReason → Bool
at_most n r = nat_le (reason_number r) n

abbrev low : ℕ → List ValidReason → Bool
low n rs = list_all (at_most n) rs

low_both : (n : ℕ) (xs ys : List ValidReason) → low n xs ≡ true → low n ys ≡ true → low n (xs ++ ys) ≡ true
low_both n xs ys p q = list_all-append (at_most n) xs ys ∙ and_from (low n xs) (low n ys) p q

low_unless : (n : ℕ) (b : Bool) (r : ValidReason) → at_most n r ≡ true → low n (unless b r) ≡ true
low_unless n true r h = refl
low_unless n false r h = rw h refl

low_found : (n : ℕ) (test : TypeSort → Bool) (o : Option TypeSort) → 2 ≤ n → low n (found (λ s. unless (test s) reason.WrongSort) o) ≡ true
low_found n test None h = and_from (nat_le 1 n) true (le-leb 1 n (omega arith)) refl
low_found n test (Some s) h = low_unless n (test s) reason.WrongSort (le-leb 2 n h)

low_each : {A : Type 0} (n : ℕ) (f : A → List ValidReason) (xs : List A) → ((x : A) → low n (f x) ≡ true) → low n (flat_map f xs) ≡ true
low_each n f [] h = refl
low_each n f (x ∷ xs) h = low_both n (f x) (flat_map f xs) (h x) (low_each n f xs h)

module _ (n : ℕ) (two : 2 ≤ n) (sorts : List TypeSort) where
  low_value : (t : ValType) → low n (value_broken sorts t) ≡ true
  low_value (val_type.Primitive p) = refl
  low_value (val_type.Index i) = low_found n (has_sort sort.Value) (slice_get sorts i) two

  low_payload : (p : Option ValType) → low n (payload_broken sorts p) ≡ true
  low_payload None = refl
  low_payload (Some t) = low_value t

  low_uses : (f : FuncTypeTree) → low n (uses_broken sorts f) ≡ true
  low_uses f =
      low_both n (flat_map (λ p. value_broken sorts p.ty) f.params) (payload_broken sorts f.result) (low_each n (λ p. value_broken sorts p.ty) f.params (λ p. low_value p.ty)) (low_payload f.result)

low_empty : {A : Type 0} (xs : List A) → low 17 (emptiness_broken xs) ≡ true
low_empty xs = low_unless 17 (is_not_empty xs) reason.EmptyType refl

low_labels : (ls : List (List ℕ)) → low 17 (labels_broken ls) ≡ true
low_labels ls = low_unless 17 (are_distinct_names ls) reason.DuplicateName refl

two_17 : 2 ≤ 17
two_17 = omega arith

low_parts : (sorts : List TypeSort) (v : DefValTypeTree) → low 17 (parts_broken sorts v) ≡ true
low_parts sorts (primitive p) = refl
low_parts sorts (record_of fs) =
    let uses = flat_map (λ f. value_broken sorts f.ty) fs in
    low_both 17 (uses ++ emptiness_broken fs) (labels_broken (map (λ f. f.label) fs))
    (low_both 17 uses (emptiness_broken fs) (low_each 17 (λ f. value_broken sorts f.ty) fs (λ f. low_value 17 two_17 sorts f.ty)) (low_empty fs)) (low_labels (map (λ f. f.label) fs))
low_parts sorts (variant_of cs) =
    let uses = flat_map (λ c. payload_broken sorts c.payload) cs in
    low_both 17 (uses ++ emptiness_broken cs) (labels_broken (map (λ c. c.label) cs))
    (low_both 17 uses (emptiness_broken cs) (low_each 17 (λ c. payload_broken sorts c.payload) cs (λ c. low_payload 17 two_17 sorts c.payload)) (low_empty cs)) (low_labels (map (λ c. c.label) cs))
low_parts sorts (list_of t) = low_value 17 two_17 sorts t
low_parts sorts (fixed_list_of t n) =
    low_both 17 (value_broken sorts t) (unless (nat_lt 0 n) reason.EmptyType) (low_value 17 two_17 sorts t) (low_unless 17 (nat_lt 0 n) reason.EmptyType refl)
low_parts sorts (tuple_of ts) =
    low_both 17 (flat_map (value_broken sorts) ts) (emptiness_broken ts) (low_each 17 (value_broken sorts) ts (low_value 17 two_17 sorts)) (low_empty ts)
low_parts sorts (flags_of ls) =
    let many = unless (nat_le (length ls) MAX_FLAGS) reason.TooManyFlags in
    low_both 17 (emptiness_broken ls ++ many) (labels_broken ls)
    (low_both 17 (emptiness_broken ls) many (low_empty ls) (low_unless 17 (nat_le (length ls) MAX_FLAGS) reason.TooManyFlags refl)) (low_labels ls)
low_parts sorts (enum_of ls) = low_both 17 (emptiness_broken ls) (labels_broken ls) (low_empty ls) (low_labels ls)
low_parts sorts (option_of t) = low_value 17 two_17 sorts t
low_parts sorts (result_of ok error) = low_both 17 (payload_broken sorts ok) (payload_broken sorts error) (low_payload 17 two_17 sorts ok) (low_payload 17 two_17 sorts error)
low_parts sorts (own_of i) = low_found 17 (has_sort sort.Resource) (slice_get sorts i) two_17
low_parts sorts (borrow_of i) = low_found 17 (has_sort sort.Resource) (slice_get sorts i) two_17

-- ---- reasons of great numbers

abbrev at_least : ℕ → ValidReason → Bool
at_least n r = nat_le n (reason_number r)

abbrev high : ℕ → List ValidReason → Bool
high n rs = list_all (at_least n) rs

high_both : (n : ℕ) (xs ys : List ValidReason) → high n xs ≡ true → high n ys ≡ true → high n (xs ++ ys) ≡ true
high_both n xs ys p q = list_all-append (at_least n) xs ys ∙ and_from (high n xs) (high n ys) p q

high_unless : (n : ℕ) (b : Bool) (r : ValidReason) → at_least n r ≡ true → high n (unless b r) ≡ true
high_unless n true r h = refl
high_unless n false r h = rw h refl

high_limits : (o : Option Ty) → high 17 (if_found limits_broken o) ≡ true
high_limits None = refl
high_limits (Some t) = high_unless 17 (is_within_limits t) reason.TooLarge refl

high_result : (o : Option Ty) → high 2 (if_found (λ t. no_borrow_broken t ++ limits_broken t) o) ≡ true
high_result None = refl
high_result (Some t) =
    high_both 2 (no_borrow_broken t) (limits_broken t) (high_unless 2 (not (holds is_borrow t)) reason.BorrowInResult refl) (high_unless 2 (is_within_limits t) reason.TooLarge refl)

high_func : (o : Option FuncTy) → high 2 (if_found func_ty_broken o) ≡ true
high_func None = refl
high_func (Some f) =
    high_both 2 (limits_broken (fields tuple_type f.params)) (if_found (λ t. no_borrow_broken t ++ limits_broken t) f.result)
    (high_unless 2 (is_within_limits (fields tuple_type f.params)) reason.TooLarge refl) (high_result f.result)

-- ---- the least of small ones and great ones

abbrev if_any : (ValidReason → Bool) → Option ValidReason → Bool
if_any test None = true
if_any test (Some r) = test r

lesser_any : (test : ValidReason → Bool) (q : ValidReason) (o : Option ValidReason) → test q ≡ true → if_any test o ≡ true → if_any test (lesser (Some q) o) ≡ true
lesser_any test q None h k = h
lesser_any test q (Some r) h k = elim (cases_Bool (nat_le (reason_number q) (reason_number r))) [
  | inl y ↦ rw y h
  | inr n ↦ rw n k
]

least_any : (test : ValidReason → Bool) (rs : List ValidReason) → list_all test rs ≡ true → if_any test (least rs) ≡ true
least_any test [] e = refl
least_any test (r ∷ rs) e = lesser_any test r (least rs) (both_left (test r) (list_all test rs) e) (least_any test rs (both_right (test r) (list_all test rs) e))

lesser_first : (n : ℕ) (r : ValidReason) (o : Option ValidReason) → at_most n r ≡ true → if_any (at_least n) o ≡ true → lesser (Some r) o ≡ Some r
lesser_first n r None h k = refl
lesser_first n r (Some q) h k =
    let le : reason_number r ≤ reason_number q = omega (arith, leb-true (reason_number r) n h, leb-true n (reason_number q) k) in
    rw (le-leb (reason_number r) (reason_number q) le) refl

first_least : LeastOfBoth → (n : ℕ) (xs ys : List ValidReason) (r : ValidReason) → low n xs ≡ true → high n ys ≡ true → least xs ≡ Some r → least (xs ++ ys) ≡ Some r
first_least both n xs ys r l h e =
    let small : at_most n r ≡ true = ap (if_any (at_most n)) (sym e) ∙ least_any (at_most n) xs l in
    both xs ys ∙ ap (λ v. lesser v (least ys)) e ∙ lesser_first n r (least ys) small (least_any (at_least n) ys h)

-- ---- definitions

pub parts_first : LeastOfBoth → (types : List TypeDef) (v : DefValTypeTree) (r : ValidReason) → least (parts_broken (sorts_of types) v) ≡ Some r → least (value_def_broken types v) ≡ Some r
parts_first both types v r e =
    first_least both 17 (parts_broken (sorts_of types) v) (if_found limits_broken (value_defined types v)) r (low_parts (sorts_of types) v) (high_limits (value_defined types v)) e

pub uses_first : LeastOfBoth → (types : List TypeDef) (f : FuncTypeTree) (r : ValidReason) → least (uses_broken (sorts_of types) f) ≡ Some r → least (func_def_broken types f) ≡ Some r
uses_first both types f r e =
    let now = first_least both 2 (uses_broken (sorts_of types) f) (params_broken f) r (low_uses 2 (omega arith) (sorts_of types) f) (high_unless 2 (are_distinct_names (map (λ p. p.label) f.params)) reason.DuplicateName refl) e in
    both (uses_broken (sorts_of types) f ++ params_broken f) (if_found func_ty_broken (func_defined types f))
    ∙ ap (λ v. lesser v (least (if_found func_ty_broken (func_defined types f)))) now
    ∙ lesser_first 2 r (least (if_found func_ty_broken (func_defined types f)))
    (ap (if_any (at_most 2)) (sym e) ∙ least_any (at_most 2) (uses_broken (sorts_of types) f) (low_uses 2 (omega arith) (sorts_of types) f))
    (least_any (at_least 2) (if_found func_ty_broken (func_defined types f)) (high_func (func_defined types f)))

-- ---- limits

pub within_told : (t : Ty) → IsWithinLimits t → is_within_limits t ≡ true
within_told t h = and_from (nat_le (nodes_of t) MAX_NODES) (nat_le (depth_of t) MAX_DEPTH) (le-leb (nodes_of t) MAX_NODES h.0) (le-leb (depth_of t) MAX_DEPTH h.1)

over_told : (t : Ty) (b : Bool) → is_within_limits t ≡ b → (IsWithinLimits t → ⊥) → b ≡ false
over_told t false e h = refl
over_told t true e h =
    absurd (h (
      leb-true (nodes_of t) MAX_NODES (both_left (nat_le (nodes_of t) MAX_NODES) (nat_le (depth_of t) MAX_DEPTH) e),
      leb-true (depth_of t) MAX_DEPTH (both_right (nat_le (nodes_of t) MAX_NODES) (nat_le (depth_of t) MAX_DEPTH) e),
    ))

pub is_over : (t : Ty) → (IsWithinLimits t → ⊥) → is_within_limits t ≡ false
is_over t h = over_told t (is_within_limits t) refl h

-- ---- definitions whose parts break nothing

-- of a value type its limits are left
pub value_left : (types : List TypeDef) (v : DefValTypeTree) → parts_broken (sorts_of types) v ≡ [] → least (value_def_broken types v) ≡ least (limits_broken (type_or_bool types v))
value_left types v e = rw (e, defined_there types v e) refl

pub value_made : (types : List TypeDef) (v : DefValTypeTree) → parts_broken (sorts_of types) v ≡ [] → value_def_of types v ≡ value (type_or_bool types v)
value_made types v e = ap (λ o. option_map_or value o faulty) (defined_there types v e)

pub func_made : (types : List TypeDef) (f : FuncTypeTree) → uses_broken (sorts_of types) f ≡ [] → func_def_of types f ≡ func_type (func_or_bool types f)
func_made types f e = ap (λ o. option_map_or func_type o faulty) (func_there types f e)

-- of a function's type labels, a borrow and limits
abbrev labels_and_borrow : Bool → Bool → Option ValidReason
labels_and_borrow distinct none = lesser (least (unless distinct reason.DuplicateName)) (least (unless none reason.BorrowInResult))

three : (distinct within none : Bool)
    → least (unless distinct reason.DuplicateName ++ (unless within reason.TooLarge ++ (unless none reason.BorrowInResult ++ [])))
    ≡ lesser (labels_and_borrow distinct none) (least (unless within reason.TooLarge))
three true true true = refl
three true true false = refl
three true false true = refl
three true false false = refl
three false true true = refl
three false true false = refl
three false false true = refl
three false false false = refl

two : (distinct within : Bool)
    → least (unless distinct reason.DuplicateName ++ (unless within reason.TooLarge ++ []))
    ≡ lesser (lesser (least (unless distinct reason.DuplicateName)) None) (least (unless within reason.TooLarge))
two true true = refl
two true false = refl
two false true = refl
two false false = refl

abbrev pub borrow_broken : Option Ty → List ValidReason
borrow_broken o = if_found no_borrow_broken o

abbrev pub AllWithin : Option Ty → Type 0
AllWithin None = Unit {0}
AllWithin (Some t) = is_within_limits t ≡ true

parted : (distinct within : Bool) (o : Option Ty) → AllWithin o
    → least (unless distinct reason.DuplicateName ++ (unless within reason.TooLarge ++ if_found (λ t. no_borrow_broken t ++ limits_broken t) o))
    ≡ lesser (lesser (least (unless distinct reason.DuplicateName)) (least (borrow_broken o))) (least (unless within reason.TooLarge))
parted distinct within None h = two distinct within
parted distinct within (Some t) h = rw h (three distinct within (not (holds is_borrow t)))

pub func_left : (types : List TypeDef) (f : FuncTypeTree) → uses_broken (sorts_of types) f ≡ [] → AllWithin (func_or_bool types f).result
    → least (func_def_broken types f)
    ≡ lesser (lesser (least (params_broken f)) (least (borrow_broken (func_or_bool types f).result))) (least (limits_broken (params_type (func_or_bool types f))))
func_left types f e h =
    rw (e, func_there types f e)
    (parted (are_distinct_names (map (λ p. p.label) f.params)) (is_within_limits (params_type (func_or_bool types f))) (func_or_bool types f).result h)

early_by : (distinct none within : Bool) (r : ValidReason) → labels_and_borrow distinct none ≡ Some r → lesser (labels_and_borrow distinct none) (least (unless within reason.TooLarge)) ≡ Some r
early_by true true within r e = absurd cc
early_by true false true r e = e
early_by true false false r e = e
early_by false true true r e = e
early_by false true false r e = e
early_by false false true r e = e
early_by false false false r e = e

early_with : (distinct within : Bool) (o : Option Ty) (r : ValidReason) → lesser (least (unless distinct reason.DuplicateName)) (least (borrow_broken o)) ≡ Some r
    → lesser (lesser (least (unless distinct reason.DuplicateName)) (least (borrow_broken o))) (least (unless within reason.TooLarge)) ≡ Some r
early_with distinct within None r e = early_by distinct true within r e
early_with distinct within (Some t) r e = early_by distinct (not (holds is_borrow t)) within r e

-- a reason of labels or of a borrow comes before one of limits
pub func_early : (types : List TypeDef) (f : FuncTypeTree) (r : ValidReason) → uses_broken (sorts_of types) f ≡ [] → AllWithin (func_or_bool types f).result
    → lesser (least (params_broken f)) (least (borrow_broken (func_or_bool types f).result)) ≡ Some r → least (func_def_broken types f) ≡ Some r
func_early types f r e h g =
    func_left types f e h ∙ early_with (are_distinct_names (map (λ p. p.label) f.params)) (is_within_limits (params_type (func_or_bool types f))) (func_or_bool types f).result r g

-- without one the limits are left
pub func_last : (types : List TypeDef) (f : FuncTypeTree) → uses_broken (sorts_of types) f ≡ [] → AllWithin (func_or_bool types f).result
    → lesser (least (params_broken f)) (least (borrow_broken (func_or_bool types f).result)) ≡ None → least (func_def_broken types f) ≡ least (limits_broken (params_type (func_or_bool types f)))
func_last types f e h g = func_left types f e h ∙ ap (λ v. lesser v (least (limits_broken (params_type (func_or_bool types f))))) g
