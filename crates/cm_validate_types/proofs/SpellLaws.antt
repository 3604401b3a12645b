-- What breaks no rule on its parts can be spelled, where all that it may name can be.
use Rattle.std.proofs.Common.{◌≡◌, ℕ, true, not, List, [], ◌∷◌, ◌++◌, length, map, nat_le, nat_lt, Option, Some, None, refl, codes}
use Rattle.std.specs.List.{flat_map}
use Rattle.std.specs.Option.{option_map}
use Rattle.cm_types.specs.declared.def_types.PrimValType.{PrimValType}
use Rattle.cm_types.specs.declared.def_types.PrimValType.TheVariants as prim
use Rattle.cm_types.specs.declared.def_types.ValType.{ValType}
use Rattle.cm_types.specs.declared.def_types.LabeledValType.{LabeledValType}
use Rattle.cm_types.specs.declared.def_types.CaseType.{CaseType}
use Rattle.cm_types.specs.declared.spellable.TheConstants.{MAX_FLAGS}
use Rattle.cm_types.specs.DefTypes.{DefValTypeTree, primitive, record_of, variant_of, list_of, fixed_list_of, tuple_of, flags_of, enum_of, option_of, result_of, own_of, borrow_of}
use Rattle.cm_types.specs.Spellable.{is_spellable, are_spellable, are_spellable_payloads, has_no_cases}
use Rattle.cm_types.specs.TypeTrees.{fields_from, parts_from, cases_from, case_before, plain_from}
use Rattle.cm_types.specs.Types.{Ty, Cases, no_cases}
use Rattle.cm_validate_model.specs.declared.fault.ValidReason.TheVariants as reason
use Rattle.cm_validate_model.specs.Definitions.{TypeDef, sorts_of}
use Rattle.cm_validate_model.specs.Reasons.{unless}
use Rattle.cm_validate_model.specs.Scopes.{primitive_type}
use Rattle.cm_validate_model.specs.TypeRules.{value_broken, payload_broken, parts_broken, emptiness_broken, labels_broken, is_not_empty}
use Rattle.cm_validate_types.specs.Expansion.{value_or_bool, labeled_or_bool, case_or_bool, type_or_bool}
use Rattle.cm_validate_model.proofs.ReasonsLaws.{kept}
use Rattle.cm_lemmas.proofs.Lists.{nil_front, nil_rest}

pub primitive_spelled : (p : PrimValType) → is_spellable (primitive_type p) ≡ true
primitive_spelled prim.Bool = refl
primitive_spelled prim.S8 = refl
primitive_spelled prim.U8 = refl
primitive_spelled prim.S16 = refl
primitive_spelled prim.U16 = refl
primitive_spelled prim.S32 = refl
primitive_spelled prim.U32 = refl
primitive_spelled prim.S64 = refl
primitive_spelled prim.U64 = refl
primitive_spelled prim.Char = refl
primitive_spelled prim.String = refl

module _ (types : List TypeDef) (spelled : (t : ValType) → is_spellable (value_or_bool types t) ≡ true) where
  fields_spelled : (fs : List LabeledValType) → are_spellable (fields_from (map (labeled_or_bool types) fs)) ≡ true
  fields_spelled [] = refl
  fields_spelled (f ∷ fs) = rw (spelled f.ty, fields_spelled fs) refl

  parts_spelled : (ts : List ValType) → are_spellable (parts_from (map (value_or_bool types) ts)) ≡ true
  parts_spelled [] = refl
  parts_spelled (t ∷ ts) = rw (spelled t, parts_spelled ts) refl

  case_spelled : (l : List ℕ) (p : Option ValType) (cs : Cases) → are_spellable_payloads cs ≡ true → are_spellable_payloads (case_before l (option_map (value_or_bool types) p) cs) ≡ true
  case_spelled l None cs e = e
  case_spelled l (Some t) cs e = rw (spelled t, e) refl

  cases_spelled : (cs : List CaseType) → are_spellable_payloads (cases_from (map (case_or_bool types) cs)) ≡ true
  cases_spelled [] = refl
  cases_spelled (c ∷ cs) = case_spelled c.label c.payload (cases_from (map (case_or_bool types) cs)) (cases_spelled cs)

  plain_spelled : (ls : List (List ℕ)) → are_spellable_payloads (plain_from ls) ≡ true
  plain_spelled [] = refl
  plain_spelled (l ∷ ls) = plain_spelled ls

  some_case : (l : List ℕ) (o : Option Ty) (cs : Cases) → not (has_no_cases (case_before l o cs)) ≡ true
  some_case l None cs = refl
  some_case l (Some t) cs = refl

  record_spelled : (fs : List LabeledValType) → is_not_empty fs ≡ true → is_spellable (type_or_bool types (record_of fs)) ≡ true
  record_spelled [] e = absurd cc
  record_spelled (f ∷ fs) e = fields_spelled (f ∷ fs)

  tuple_spelled : (ts : List ValType) → is_not_empty ts ≡ true → is_spellable (type_or_bool types (tuple_of ts)) ≡ true
  tuple_spelled [] e = absurd cc
  tuple_spelled (t ∷ ts) e = parts_spelled (t ∷ ts)

  variant_spelled : (cs : List CaseType) → is_not_empty cs ≡ true → is_spellable (type_or_bool types (variant_of cs)) ≡ true
  variant_spelled [] e = absurd cc
  variant_spelled (c ∷ cs) e =
      rw (some_case c.label (option_map (value_or_bool types) c.payload) (cases_from (map (case_or_bool types) cs))) (cases_spelled (c ∷ cs))

  enum_spelled : (ls : List (List ℕ)) → is_not_empty ls ≡ true → is_spellable (type_or_bool types (enum_of ls)) ≡ true
  enum_spelled [] e = absurd cc
  enum_spelled (l ∷ ls) e = plain_spelled ls

  result_spelled : (ok error : Option ValType) → is_spellable (type_or_bool types (result_of ok error)) ≡ true
  result_spelled ok error =
      let rest = case_spelled (codes "error") error no_cases refl in
      rw (some_case (codes "ok") (option_map (value_or_bool types) ok) (case_before (codes "error") (option_map (value_or_bool types) error) no_cases))
      (case_spelled (codes "ok") ok (case_before (codes "error") (option_map (value_or_bool types) error) no_cases) rest)

  pub def_spelled : (v : DefValTypeTree) → parts_broken (sorts_of types) v ≡ [] → is_spellable (type_or_bool types v) ≡ true
  def_spelled (primitive p) e = primitive_spelled p
  def_spelled (record_of fs) e =
      let uses = flat_map (λ f. value_broken (sorts_of types) f.ty) fs in
      record_spelled fs (kept (is_not_empty fs) reason.EmptyType (nil_rest uses (emptiness_broken fs) (nil_front (uses ++ emptiness_broken fs) (labels_broken (map (λ f. f.label) fs)) e)))
  def_spelled (variant_of cs) e =
      let uses = flat_map (λ c. payload_broken (sorts_of types) c.payload) cs in
      variant_spelled cs (kept (is_not_empty cs) reason.EmptyType (nil_rest uses (emptiness_broken cs) (nil_front (uses ++ emptiness_broken cs) (labels_broken (map (λ c. c.label) cs)) e)))
  def_spelled (list_of t) e = spelled t
  def_spelled (fixed_list_of t n) e =
      rw (kept (nat_lt 0 n) reason.EmptyType (nil_rest (value_broken (sorts_of types) t) (unless (nat_lt 0 n) reason.EmptyType) e), spelled t) refl
  def_spelled (tuple_of ts) e = tuple_spelled ts (kept (is_not_empty ts) reason.EmptyType (nil_rest (flat_map (value_broken (sorts_of types)) ts) (emptiness_broken ts) e))
  def_spelled (flags_of ls) e =
      let many = unless (nat_le (length ls) MAX_FLAGS) reason.TooManyFlags in
      let two = nil_front (emptiness_broken ls ++ many) (labels_broken ls) e in
      rw (kept (is_not_empty ls) reason.EmptyType (nil_front (emptiness_broken ls) many two), kept (nat_le (length ls) MAX_FLAGS) reason.TooManyFlags (nil_rest (emptiness_broken ls) many two)) refl
  def_spelled (enum_of ls) e = enum_spelled ls (kept (is_not_empty ls) reason.EmptyType (nil_front (emptiness_broken ls) (labels_broken ls) e))
  def_spelled (option_of t) e = rw (spelled t) refl
  def_spelled (result_of ok error) e = result_spelled ok error
  def_spelled (own_of i) e = refl
  def_spelled (borrow_of i) e = refl
