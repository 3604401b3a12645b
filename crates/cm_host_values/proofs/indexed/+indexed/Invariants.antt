use Rattle.std.proofs.Common.{◌≡◌, map, take}
use Rattle.cm_types.specs.TypeTrees.{case_of, field_of, type_of}
use Rattle.cm_host_values.specs.Indexed.{indexed, indexed_case, indexed_field}
use Rattle.cm_host_values.proofs.indexed.+indexed.Given as goal

-- those that are made so far are of those so far
abbrev pub invariant-indexed_fields-loop-field : goal.invariant-indexed_fields-loop-field
invariant-indexed_fields-loop-field l = map field_of l.fields.items ≡ map indexed_field (map field_of (take l.field-index l.row))

abbrev pub invariant-indexed_parts-loop-part : goal.invariant-indexed_parts-loop-part
invariant-indexed_parts-loop-part l = map type_of l.parts.items ≡ map indexed (map type_of (take l.part-index l.row))

abbrev pub invariant-indexed_cases-loop-case : goal.invariant-indexed_cases-loop-case
invariant-indexed_cases-loop-case l = map case_of l.cases.items ≡ map indexed_case (map case_of (take l.case-index l.row))
