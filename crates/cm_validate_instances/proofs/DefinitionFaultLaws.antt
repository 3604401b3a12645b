-- What definitions break besides the limits, by sketches; and the least reason of all, by that of those.
use Rattle.std.proofs.Common.{◌≡◌, ℕ, Bool, true, false, ◌&&◌, not, List, [], ◌∷◌, ◌++◌, length, map, nat_le, nat_lt, Option, Some, None, refl, sym, ap, ◌∙◌, slice_get, arith, if◌then◌else◌}
use Rattle.std.specs.List.{flat_map, list_all, list_any}
use Rattle.std.specs.Option.{option_map}
use Rattle.std.proofs.lemmas.Bool.{ltb-true, lt-leb, le-leb, and_from}
use Rattle.std.proofs.lemmas.List.Elements.{filter-append}
use Rattle.std.proofs.lemmas.List.Folds.{list_all-append}
use Rattle.cm_types.specs.declared.def_types.ValType.{ValType}
use Rattle.cm_types.specs.declared.def_types.ValType.TheVariants as val_type
use Rattle.cm_types.specs.declared.spellable.TheConstants.{MAX_FLAGS}
use Rattle.cm_types.specs.DefTypes.{DefValTypeTree, FuncTypeTree, primitive, record_of, variant_of, list_of, fixed_list_of, tuple_of, flags_of, enum_of, option_of, result_of, own_of, borrow_of}
use Rattle.cm_types.specs.Holds.{holds, fields_hold, is_borrow}
use Rattle.cm_types.specs.Types.{Ty, Fields, FuncTy, fields, tuple_type}
use Rattle.cm_validate_model.specs.declared.fault.ValidReason.{ValidReason}
use Rattle.cm_validate_model.specs.declared.fault.ValidReason.TheVariants as reason
use Rattle.cm_validate_model.specs.ReasonWords.{reason_number}
use Rattle.cm_validate_model.specs.declared.sorts.TypeSort.{TypeSort}
use Rattle.cm_validate_model.specs.declared.sorts.TypeSort.TheVariants as sort
use Rattle.cm_validate_model.specs.Definitions.{TypeDef, sorts_of}
use Rattle.cm_validate_model.specs.Reasons.{unless, found, if_found, least, lesser}
use Rattle.cm_validate_model.specs.Scopes.{both, fields_in, payload_of, value_defined, func_defined}
use Rattle.cm_validate_model.specs.TypeRules.{has_sort, value_broken, payload_broken, parts_broken, uses_broken, params_broken, emptiness_broken, labels_broken, is_within_limits, limits_broken, value_def_broken, func_def_broken, func_ty_broken, are_distinct_names, is_not_empty, no_borrow_broken}
use Rattle.cm_validate_instances.specs.declared.sketches.Sketch.{Sketch}
use Rattle.cm_validate_instances.specs.Definitions.{are_used, is_used, holds_used, is_payload_used, payload_holds}
use Rattle.cm_validate_instances.specs.Faults.{value_def_faults, func_def_faults, is_too_large, besides_limits, is_before_limits, or_too_large}
use Rattle.cm_validate_instances.specs.Sketches.{sketch_of, sketch_sort}
use Rattle.cm_validate_instances.proofs.SketchLaws.{sorts_told, fields_known, payload_known, payload_has, is_not_known, is_known, known_as}
use Rattle.cm_lemmas.proofs.Bools.{both_left, both_right}

-- ---- reasons before `TooLarge`

abbrev pub are_before : List ValidReason → Bool
are_before rs = list_all is_before_limits rs

pub before_both : (xs ys : List ValidReason) → are_before xs ≡ true → are_before ys ≡ true → are_before (xs ++ ys) ≡ true
before_both xs ys p q = list_all-append is_before_limits xs ys ∙ and_from (are_before xs) (are_before ys) p q

pub before_unless : (b : Bool) (r : ValidReason) → is_before_limits r ≡ true → are_before (unless b r) ≡ true
before_unless true r h = refl
before_unless false r h = rw h refl

before_found : (test : TypeSort → Bool) (o : Option TypeSort) → are_before (found (λ s. unless (test s) reason.WrongSort) o) ≡ true
before_found test None = refl
before_found test (Some s) = before_unless (test s) reason.WrongSort refl

before_each : {A : Type 0} (f : A → List ValidReason) (xs : List A) → ((x : A) → are_before (f x) ≡ true) → are_before (flat_map f xs) ≡ true
before_each f [] h = refl
before_each f (x ∷ xs) h = before_both (f x) (flat_map f xs) (h x) (before_each f xs h)

module _ (sorts : List TypeSort) where
  before_value : (t : ValType) → are_before (value_broken sorts t) ≡ true
  before_value (val_type.Primitive p) = refl
  before_value (val_type.Index i) = before_found (has_sort sort.Value) (slice_get sorts i)

  before_payload : (p : Option ValType) → are_before (payload_broken sorts p) ≡ true
  before_payload None = refl
  before_payload (Some t) = before_value t

  before_uses : (f : FuncTypeTree) → are_before (uses_broken sorts f) ≡ true
  before_uses f =
      before_both (flat_map (λ p. value_broken sorts p.ty) f.params) (payload_broken sorts f.result) (before_each (λ p. value_broken sorts p.ty) f.params (λ p. before_value p.ty)) (before_payload f.result)

  before_empty : {A : Type 0} (xs : List A) → are_before (emptiness_broken xs) ≡ true
  before_empty xs = before_unless (is_not_empty xs) reason.EmptyType refl

  before_labels : (ls : List (List ℕ)) → are_before (labels_broken ls) ≡ true
  before_labels ls = before_unless (are_distinct_names ls) reason.DuplicateName refl

  before_parts : (v : DefValTypeTree) → are_before (parts_broken sorts v) ≡ true
  before_parts (primitive p) = refl
  before_parts (record_of fs) =
      let uses = flat_map (λ f. value_broken sorts f.ty) fs in
      before_both (uses ++ emptiness_broken fs) (labels_broken (map (λ f. f.label) fs))
      (before_both uses (emptiness_broken fs) (before_each (λ f. value_broken sorts f.ty) fs (λ f. before_value f.ty)) (before_empty fs)) (before_labels (map (λ f. f.label) fs))
  before_parts (variant_of cs) =
      let uses = flat_map (λ c. payload_broken sorts c.payload) cs in
      before_both (uses ++ emptiness_broken cs) (labels_broken (map (λ c. c.label) cs))
      (before_both uses (emptiness_broken cs) (before_each (λ c. payload_broken sorts c.payload) cs (λ c. before_payload c.payload)) (before_empty cs)) (before_labels (map (λ c. c.label) cs))
  before_parts (list_of t) = before_value t
  before_parts (fixed_list_of t n) = before_both (value_broken sorts t) (unless (nat_lt 0 n) reason.EmptyType) (before_value t) (before_unless (nat_lt 0 n) reason.EmptyType refl)
  before_parts (tuple_of ts) = before_both (flat_map (value_broken sorts) ts) (emptiness_broken ts) (before_each (value_broken sorts) ts before_value) (before_empty ts)
  before_parts (flags_of ls) =
      let many = unless (nat_le (length ls) MAX_FLAGS) reason.TooManyFlags in
      before_both (emptiness_broken ls ++ many) (labels_broken ls)
      (before_both (emptiness_broken ls) many (before_empty ls) (before_unless (nat_le (length ls) MAX_FLAGS) reason.TooManyFlags refl)) (before_labels ls)
  before_parts (enum_of ls) = before_both (emptiness_broken ls) (labels_broken ls) (before_empty ls) (before_labels ls)
  before_parts (option_of t) = before_value t
  before_parts (result_of ok error) = before_both (payload_broken sorts ok) (payload_broken sorts error) (before_payload ok) (before_payload error)
  before_parts (own_of i) = before_found (has_sort sort.Resource) (slice_get sorts i)
  before_parts (borrow_of i) = before_found (has_sort sort.Resource) (slice_get sorts i)

pub value_before : (ss : List Sketch) (v : DefValTypeTree) → are_before (value_def_faults ss v) ≡ true
value_before ss v = before_parts (map sketch_sort ss) v

pub func_before : (ss : List Sketch) (f : FuncTypeTree) → are_before (func_def_faults ss f) ≡ true
func_before ss f =
    before_both (uses_broken (map sketch_sort ss) f ++ params_broken f) (unless (not (are_used ss f && payload_holds ss f.result)) reason.BorrowInResult)
    (before_both (uses_broken (map sketch_sort ss) f) (params_broken f) (before_uses (map sketch_sort ss) f) (before_labels (map sketch_sort ss) (map (λ p. p.label) f.params)))
    (before_unless (not (are_used ss f && payload_holds ss f.result)) reason.BorrowInResult refl)

-- ---- reasons besides `TooLarge`

other : (r : ValidReason) → is_before_limits r ≡ true → is_too_large r ≡ false
other reason.NoSuchIndex h = refl
other reason.WrongSort h = refl
other reason.EmptyType h = refl
other reason.TooManyFlags h = refl
other reason.BorrowInResult h = refl
other reason.DuplicateName h = refl
other reason.NeedsMemory h = refl
other reason.NeedsRealloc h = refl
other reason.OptionTwice h = refl
other reason.OptionNotAllowed h = refl
other reason.NotGuestFunction h = refl
other reason.SecondMemory h = refl
other reason.NotOwnResource h = refl
other reason.BadAnnotatedName h = refl
other reason.Memory h = refl
other reason.NotImported h = refl
other reason.TooLarge h = absurd cc
other reason.StoresLatin1 h = refl

-- those before it stay
pub all_stay : (rs : List ValidReason) → are_before rs ≡ true → besides_limits rs ≡ rs
all_stay [] h = refl
all_stay (r ∷ rs) h =
    let o = other r (both_left (is_before_limits r) (are_before rs) h) in
    let e = all_stay rs (both_right (is_before_limits r) (are_before rs) h) in
    rw (o, e) refl

pub besides_both : (xs ys : List ValidReason) → besides_limits (xs ++ ys) ≡ besides_limits xs ++ besides_limits ys
besides_both xs ys = filter-append (λ r. not (is_too_large r)) xs ys

none_of_limits : (t : Ty) → besides_limits (limits_broken t) ≡ []
none_of_limits t = none_of (is_within_limits t)
  where
    none_of : (b : Bool) → besides_limits (unless b reason.TooLarge) ≡ []
    none_of true = refl
    none_of false = refl

append_nothing : (xs : List ValidReason) → xs ++ [] ≡ xs
append_nothing [] = refl
append_nothing (x ∷ xs) = ap (λ ys. x ∷ ys) (append_nothing xs)

none_if_found : (o : Option Ty) → besides_limits (if_found limits_broken o) ≡ []
none_if_found None = refl
none_if_found (Some t) = none_of_limits t

pub value_faults_told : (types : List TypeDef) (v : DefValTypeTree) → besides_limits (value_def_broken types v) ≡ value_def_faults (map sketch_of types) v
value_faults_told types v =
    besides_both (parts_broken (sorts_of types) v) (if_found limits_broken (value_defined types v))
    ∙ ap (λ xs. xs ++ besides_limits (if_found limits_broken (value_defined types v))) (all_stay (parts_broken (sorts_of types) v) (before_parts (sorts_of types) v))
    ∙ ap (λ xs. parts_broken (sorts_of types) v ++ xs) (none_if_found (value_defined types v))
    ∙ append_nothing (parts_broken (sorts_of types) v)
    ∙ ap (λ s. parts_broken s v) (sorts_told types)

borrow_stays : (b : Bool) → besides_limits (unless b reason.BorrowInResult) ≡ unless b reason.BorrowInResult
borrow_stays true = refl
borrow_stays false = refl

answer_told : (r : Option Ty) → besides_limits (if_found (λ t. no_borrow_broken t ++ limits_broken t) r) ≡ unless (not (payload_has r)) reason.BorrowInResult
answer_told None = refl
answer_told (Some t) =
    besides_both (no_borrow_broken t) (limits_broken t)
    ∙ ap (λ xs. besides_limits (no_borrow_broken t) ++ xs) (none_of_limits t)
    ∙ append_nothing (besides_limits (no_borrow_broken t))
    ∙ borrow_stays (not (holds is_borrow t))

func_ty_told : (f : FuncTy) → besides_limits (func_ty_broken f) ≡ unless (not (payload_has f.result)) reason.BorrowInResult
func_ty_told f =
    besides_both (limits_broken (fields tuple_type f.params)) (if_found (λ t. no_borrow_broken t ++ limits_broken t) f.result)
    ∙ ap (λ xs. xs ++ besides_limits (if_found (λ t. no_borrow_broken t ++ limits_broken t) f.result)) (none_of_limits (fields tuple_type f.params))
    ∙ answer_told f.result

module _ (types : List TypeDef) (f : FuncTypeTree) where
  abbrev ss : List Sketch
  ss = map sketch_of types

  abbrev all_used : Bool
  all_used = list_all (λ x. is_used ss x.ty) f.params

  abbrev borrow_left : Bool → Bool → Bool → List ValidReason
  borrow_left v w b = unless (not ((v && w) && b)) reason.BorrowInResult

  last_told : (os : Option Fields) (rs : Option (Option Ty)) → fields_in types f.params ≡ os → payload_of types f.result ≡ rs
      → besides_limits (if_found func_ty_broken (both (λ ps r. record { params = ps; result = r }) os rs)) ≡ borrow_left all_used (is_payload_used ss f.result) (payload_holds ss f.result)
  last_told None rs p q =
      let v : all_used ≡ false = is_not_known types all_used (list_any (λ x. holds_used ss x.ty) f.params) (ap (option_map (fields_hold is_borrow)) (sym p) ∙ fields_known types f.params) in
      sym (ap (λ b. borrow_left b (is_payload_used ss f.result) (payload_holds ss f.result)) v)
  last_told (Some ps) None p q =
      let v : all_used ≡ true = is_known types (fields_hold is_borrow ps) all_used (list_any (λ x. holds_used ss x.ty) f.params) (ap (option_map (fields_hold is_borrow)) (sym p) ∙ fields_known types f.params) in
      let w : is_payload_used ss f.result ≡ false = is_not_known types (is_payload_used ss f.result) (payload_holds ss f.result) (ap (option_map (payload_has)) (sym q) ∙ payload_known types f.result) in
      sym (ap (λ b. borrow_left b (is_payload_used ss f.result) (payload_holds ss f.result)) v ∙ ap (λ b. borrow_left true b (payload_holds ss f.result)) w)
  last_told (Some ps) (Some r) p q =
      let v : all_used ≡ true = is_known types (fields_hold is_borrow ps) all_used (list_any (λ x. holds_used ss x.ty) f.params) (ap (option_map (fields_hold is_borrow)) (sym p) ∙ fields_known types f.params) in
      let h = ap (option_map (payload_has)) (sym q) ∙ payload_known types f.result in
      let w : is_payload_used ss f.result ≡ true = is_known types (payload_has r) (is_payload_used ss f.result) (payload_holds ss f.result) h in
      let b : payload_has r ≡ payload_holds ss f.result = known_as types (payload_has r) (is_payload_used ss f.result) (payload_holds ss f.result) h in
      func_ty_told (record { params = ps; result = r })
      ∙ ap (λ x. unless (not x) reason.BorrowInResult) b
      ∙ sym (ap (λ x. borrow_left x (is_payload_used ss f.result) (payload_holds ss f.result)) v ∙ ap (λ x. borrow_left true x (payload_holds ss f.result)) w)

  pub func_faults_told : besides_limits (func_def_broken types f) ≡ func_def_faults ss f
  func_faults_told =
      let uses = uses_broken (sorts_of types) f in
      let rest = if_found func_ty_broken (func_defined types f) in
      let first : are_before (uses ++ params_broken f) ≡ true = before_both uses (params_broken f) (before_uses (sorts_of types) f) (before_labels (sorts_of types) (map (λ p. p.label) f.params)) in
      besides_both (uses ++ params_broken f) rest
      ∙ ap (λ xs. xs ++ besides_limits rest) (all_stay (uses ++ params_broken f) first)
      ∙ ap (λ xs. (uses ++ params_broken f) ++ xs) (last_told (fields_in types f.params) (payload_of types f.result) refl refl)
      ∙ ap (λ s. (uses_broken s f ++ params_broken f) ++ unless (not (are_used ss f && payload_holds ss f.result)) reason.BorrowInResult) (sorts_told types)

-- ---- the least of all

some_stays : (r : ValidReason) (o : Option ValidReason) (rs : List ValidReason) → or_too_large rs (lesser (Some r) o) ≡ lesser (Some r) o
some_stays r None rs = refl
some_stays r (Some q) rs = chosen (nat_le (reason_number r) (reason_number q))
  where
    chosen : (b : Bool) → or_too_large rs (if b then Some r else Some q) ≡ (if b then Some r else Some q)
    chosen true = refl
    chosen false = refl

abbrev is_before_all : Option ValidReason → Bool
is_before_all None = true
is_before_all (Some r) = is_before_limits r

before_lesser : (r : ValidReason) (o : Option ValidReason) → is_before_limits r ≡ true → is_before_all o ≡ true → is_before_all (lesser (Some r) o) ≡ true
before_lesser r None p q = p
before_lesser r (Some s) p q = chosen (nat_le (reason_number r) (reason_number s))
  where
    chosen : (b : Bool) → is_before_all (if b then Some r else Some s) ≡ true
    chosen true = p
    chosen false = q

before_least : (rs : List ValidReason) → are_before rs ≡ true → is_before_all (least rs) ≡ true
before_least [] h = refl
before_least (r ∷ rs) h = before_lesser r (least rs) (both_left (is_before_limits r) (are_before rs) h) (before_least rs (both_right (is_before_limits r) (are_before rs) h))

-- a reason before it goes before it
goes_first : (r : ValidReason) → is_before_limits r ≡ true → lesser (Some r) (Some reason.TooLarge) ≡ Some r
goes_first r h = rw (le-leb (reason_number r) 17 (omega (arith, ltb-true (reason_number r) 17 h))) refl

goes_last : (r : ValidReason) → is_before_limits r ≡ true → lesser (Some reason.TooLarge) (Some r) ≡ Some r
goes_last r h = rw (lt-leb 17 (reason_number r) (omega (arith, ltb-true (reason_number r) 17 h))) refl

behind_limits : (o : Option ValidReason) (rs : List ValidReason) → is_before_all o ≡ true → lesser (Some reason.TooLarge) (or_too_large rs o) ≡ or_too_large (reason.TooLarge ∷ rs) o
behind_limits None [] h = refl
behind_limits None (r ∷ rs) h = refl
behind_limits (Some r) rs h = goes_last r h

before_others : (r : ValidReason) (o : Option ValidReason) (rs : List ValidReason) → is_before_limits r ≡ true → lesser (Some r) (or_too_large rs o) ≡ lesser (Some r) o
before_others r None [] h = refl
before_others r None (q ∷ qs) h = goes_first r h
before_others r (Some q) rs h = refl

limits_only : (r : ValidReason) → is_too_large r ≡ true → r ≡ reason.TooLarge
limits_only reason.TooLarge e = refl
limits_only reason.NoSuchIndex e = absurd cc
limits_only reason.WrongSort e = absurd cc
limits_only reason.EmptyType e = absurd cc
limits_only reason.TooManyFlags e = absurd cc
limits_only reason.BorrowInResult e = absurd cc
limits_only reason.DuplicateName e = absurd cc
limits_only reason.NeedsMemory e = absurd cc
limits_only reason.NeedsRealloc e = absurd cc
limits_only reason.OptionTwice e = absurd cc
limits_only reason.OptionNotAllowed e = absurd cc
limits_only reason.NotGuestFunction e = absurd cc
limits_only reason.SecondMemory e = absurd cc
limits_only reason.NotOwnResource e = absurd cc
limits_only reason.BadAnnotatedName e = absurd cc
limits_only reason.Memory e = absurd cc
limits_only reason.NotImported e = absurd cc
limits_only reason.StoresLatin1 e = absurd cc

pub limits_last : (rs : List ValidReason) → are_before (besides_limits rs) ≡ true → least rs ≡ or_too_large rs (least (besides_limits rs))
limits_last [] h = refl
limits_last (r ∷ rs) h = step (is_too_large r) refl (λ below. limits_last rs below)
  where
    step : (b : Bool) → is_too_large r ≡ b → (are_before (besides_limits rs) ≡ true → least rs ≡ or_too_large rs (least (besides_limits rs)))
        → least (r ∷ rs) ≡ or_too_large (r ∷ rs) (least (besides_limits (r ∷ rs)))
    step true e rest =
        let gone : besides_limits (r ∷ rs) ≡ besides_limits rs = rw e refl in
        let below : are_before (besides_limits rs) ≡ true = ap are_before (sym gone) ∙ h in
        ap (λ q. lesser (Some q) (least rs)) (limits_only r e)
        ∙ ap (lesser (Some reason.TooLarge)) (rest below)
        ∙ behind_limits (least (besides_limits rs)) rs (before_least (besides_limits rs) below)
        ∙ ap (λ q. or_too_large (q ∷ rs) (least (besides_limits rs))) (sym (limits_only r e))
        ∙ ap (λ xs. or_too_large (r ∷ rs) (least xs)) (sym gone)
    step false e rest =
        let here : besides_limits (r ∷ rs) ≡ r ∷ besides_limits rs = rw e refl in
        let both_below : are_before (r ∷ besides_limits rs) ≡ true = ap are_before (sym here) ∙ h in
        let first = both_left (is_before_limits r) (are_before (besides_limits rs)) both_below in
        let below = both_right (is_before_limits r) (are_before (besides_limits rs)) both_below in
        ap (lesser (Some r)) (rest below)
        ∙ before_others r (least (besides_limits rs)) rs first
        ∙ sym (some_stays r (least (besides_limits rs)) (r ∷ rs))
        ∙ ap (λ xs. or_too_large (r ∷ rs) (least xs)) (sym here)
