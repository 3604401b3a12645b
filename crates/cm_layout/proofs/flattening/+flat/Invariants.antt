use Rattle.std.proofs.Common.{drop}
use Rattle.cm_types.specs.TypeTrees.{type_of, fields_of, parts_of, cases_of}
use Rattle.cm_layout.specs.Flattening.{JoinedFrom, copies, flat_of, flat_of_fields, flat_of_cases}
use Rattle.cm_layout.proofs.FlatLemmas.{LeavesBehind, LeavesOver}
use Rattle.cm_layout.proofs.flattening.+flat.Given as goal

abbrev pub invariant-join_copies-loop-copy : goal.invariant-join_copies-loop-copy
invariant-join_copies-loop-copy l = JoinedFrom l.at l.fn.kinds.items (copies l._copy (flat_of (type_of l.element))) l.kinds.items l.end

abbrev pub invariant-join_fields-loop-field : goal.invariant-join_fields-loop-field
invariant-join_fields-loop-field l = LeavesBehind l.at l.fn.kinds.items (flat_of_fields (fields_of l.row)) (flat_of_fields (fields_of (drop l.field-index l.row))) l.kinds.items l.end

abbrev pub invariant-join_parts-loop-part : goal.invariant-join_parts-loop-part
invariant-join_parts-loop-part l = LeavesBehind l.at l.fn.kinds.items (flat_of_fields (parts_of l.row)) (flat_of_fields (parts_of (drop l.part-index l.row))) l.kinds.items l.end

abbrev pub invariant-join_cases-loop-case : goal.invariant-join_cases-loop-case
invariant-join_cases-loop-case l = LeavesOver l.at l.fn.kinds.items (flat_of_cases (cases_of l.row)) (flat_of_cases (cases_of (drop l.case-index l.row))) l.kinds.items l.end
