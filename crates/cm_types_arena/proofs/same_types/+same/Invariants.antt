use Rattle.std.proofs.Common.{◌≡◌, length, drop}
use Rattle.cm_types.specs.TypeTrees.{fields_of, parts_of, cases_of}
use Rattle.cm_types_arena.specs.SameTypes.{same_fields, same_cases}
use Rattle.cm_types_arena.proofs.same_types.+same.Given as goal

-- what is left decides
abbrev pub invariant-same_fields-loop-i : goal.invariant-same_fields-loop-i
invariant-same_fields-loop-i l = (length l.a ≡ length l.b) × (same_fields l.left l.right (fields_of (drop l.i l.a)) (fields_of (drop l.i l.b)) ≡ same_fields l.left l.right (fields_of l.a) (fields_of l.b))

abbrev pub invariant-same_parts-loop-i : goal.invariant-same_parts-loop-i
invariant-same_parts-loop-i l = (length l.a ≡ length l.b) × (same_fields l.left l.right (parts_of (drop l.i l.a)) (parts_of (drop l.i l.b)) ≡ same_fields l.left l.right (parts_of l.a) (parts_of l.b))

abbrev pub invariant-same_cases-loop-i : goal.invariant-same_cases-loop-i
invariant-same_cases-loop-i l = (length l.a ≡ length l.b) × (same_cases l.left l.right (cases_of (drop l.i l.a)) (cases_of (drop l.i l.b)) ≡ same_cases l.left l.right (cases_of l.a) (cases_of l.b))
