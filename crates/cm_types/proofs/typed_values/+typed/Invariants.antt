use Rattle.std.proofs.Common.{◌≡◌, length, drop}
use Rattle.cm_types.specs.TypeTrees.{type_of, fields_of, parts_of}
use Rattle.cm_types.specs.ValueTrees.{values_of}
use Rattle.cm_types.specs.TypedValues.{all_vals, has_type, have_types}
use Rattle.cm_types.proofs.typed_values.+typed.Given as goal

-- what is left decides
abbrev pub invariant-all_have_type-loop-value : goal.invariant-all_have_type-loop-value
invariant-all_have_type-loop-value l = all_vals (has_type (type_of l.ty)) (values_of (drop l.value-index l.values)) ≡ all_vals (has_type (type_of l.ty)) (values_of l.values)

abbrev pub invariant-fields_have_types-loop-i : goal.invariant-fields_have_types-loop-i
invariant-fields_have_types-loop-i l = (length l.fields ≡ length l.values) × (have_types (fields_of (drop l.i l.fields)) (values_of (drop l.i l.values)) ≡ have_types (fields_of l.fields) (values_of l.values))

abbrev pub invariant-parts_have_types-loop-i : goal.invariant-parts_have_types-loop-i
invariant-parts_have_types-loop-i l = (length l.parts ≡ length l.values) × (have_types (parts_of (drop l.i l.parts)) (values_of (drop l.i l.values)) ≡ have_types (parts_of l.parts) (values_of l.values))
