-- Types that are renumbered stand for the same.
use Rattle.std.proofs.Common.{◌≡◌, ℕ, List, [], ◌∷◌, map, Option, Some, None, refl, ap}
use Rattle.std.specs.Option.{option_and_then, option_map, option_map_or}
use Rattle.cm_types.specs.Types.{Ty, fields, cases, record_type, tuple_type, variant_type, option_type, list, fixed_list, own, borrow}
use Rattle.cm_types.specs.declared.resource.ResourceId.{ResourceId}
use Rattle.cm_types.specs.declared.def_types.ValType.{ValType}
use Rattle.cm_types.specs.declared.def_types.ValType.TheVariants as val_types
use Rattle.cm_types.specs.declared.def_types.LabeledValType.{LabeledValType}
use Rattle.cm_types.specs.declared.def_types.CaseType.{CaseType}
use Rattle.cm_types.specs.DefTypes as types
use Rattle.cm_types.specs.DefTypes.{DefValTypeTree, FuncTypeTree}
use Rattle.cm_validate_model.specs.Definitions.{TypeDef, value, func_type, faulty}
use Rattle.cm_validate_model.specs.Scopes.{value_in, resource_in, resource_id, value_of, payload_of, fields_in, parts_in, cases_in, option_cases, handle_of, value_defined, func_defined, value_def_of, func_def_of}
use Rattle.cm_shims_plain.specs.Renumbered.{renumbered_val, renumbered_field, renumbered_case, renumbered_value, renumbered_func}
use Rattle.cm_shims.specs.Meanings.{AgreeAt}

module _ (f : ℕ → ℕ) (mine there : List TypeDef) (agree : AgreeAt f mine there) where
  val_stands : (t : ValType) → value_of there (renumbered_val f t) ≡ value_of mine t
  val_stands (val_types.Primitive p) = refl
  val_stands (val_types.Index i) = ap (option_and_then value_in) (agree i)

  payload_stands : (o : Option ValType) → payload_of there (option_map (renumbered_val f) o) ≡ payload_of mine o
  payload_stands None = refl
  payload_stands (Some t) = ap (option_map (λ x. Some x)) (val_stands t)

  fields_stand : (xs : List LabeledValType) → fields_in there (map (renumbered_field f) xs) ≡ fields_in mine xs
  fields_stand [] = refl
  fields_stand (x ∷ xs) = rw (val_stands x.ty, fields_stand xs) refl

  parts_stand : (ts : List ValType) → parts_in there (map (renumbered_val f) ts) ≡ parts_in mine ts
  parts_stand [] = refl
  parts_stand (t ∷ ts) = rw (val_stands t, parts_stand ts) refl

  cases_stand : (cs : List CaseType) → cases_in there (map (renumbered_case f) cs) ≡ cases_in mine cs
  cases_stand [] = refl
  cases_stand (c ∷ cs) = rw (payload_stands c.payload, cases_stand cs) refl

  handle_stands : (handle : ResourceId → Ty) (i : ℕ) → handle_of handle there (f i) ≡ handle_of handle mine i
  handle_stands handle i = ap (λ (d : Option TypeDef). option_map (λ n. handle (resource_id n)) (option_and_then resource_in d)) (agree i)

  defined : (v : DefValTypeTree) → value_defined there (renumbered_value f v) ≡ value_defined mine v
  defined (types.primitive p) = refl
  defined (types.record_of xs) = ap (option_map (fields record_type)) (fields_stand xs)
  defined (types.variant_of cs) = ap (option_map (cases variant_type)) (cases_stand cs)
  defined (types.list_of t) = ap (option_map list) (val_stands t)
  defined (types.fixed_list_of t n) = ap (option_map (λ (x : Ty). fixed_list x n)) (val_stands t)
  defined (types.tuple_of ts) = ap (option_map (fields tuple_type)) (parts_stand ts)
  defined (types.flags_of ls) = refl
  defined (types.enum_of ls) = refl
  defined (types.option_of t) = ap (option_map (λ (x : Ty). cases option_type (option_cases x))) (val_stands t)
  defined (types.result_of ok error) = rw (payload_stands ok, payload_stands error) refl
  defined (types.own_of i) = handle_stands own i
  defined (types.borrow_of i) = handle_stands borrow i

  pub value_stands : (v : DefValTypeTree) → value_def_of there (renumbered_value f v) ≡ value_def_of mine v
  value_stands v = ap (λ (o : Option Ty). option_map_or value o faulty) (defined v)

  pub func_stands : (t : FuncTypeTree) → func_def_of there (renumbered_func f t) ≡ func_def_of mine t
  func_stands t = rw (fields_stand t.params, payload_stands t.result) refl
