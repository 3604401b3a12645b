use Rattle.std.proofs.Common.{◌≡◌, ◌+◌, ◌≤◌, drop}
use Rattle.cm_types.specs.TypeTrees.{fields_of, parts_of, cases_of}
use Rattle.cm_types.specs.Limits.{nodes_of_fields, nodes_of_cases, depth_of_fields, depth_of_cases}
use Rattle.cm_types.proofs.limits.+within.Given as goal

-- what is counted so far and what is left are the whole; what is left decides on the depth
abbrev pub invariant-nodes_of_fields_within-loop-field : goal.invariant-nodes_of_fields_within-loop-field
invariant-nodes_of_fields_within-loop-field l = record {
  most : l.count ≤ l.most;
  nodes : l.count + nodes_of_fields (fields_of (drop l.field-index l.fields)) ≡ nodes_of_fields (fields_of l.fields);
  above : depth_of_fields (fields_of (drop l.field-index l.fields)) ≤ l.depth → depth_of_fields (fields_of l.fields) ≤ l.depth;
  below : depth_of_fields (fields_of (drop l.field-index l.fields)) ≤ depth_of_fields (fields_of l.fields);
}

abbrev pub invariant-nodes_of_parts_within-loop-part : goal.invariant-nodes_of_parts_within-loop-part
invariant-nodes_of_parts_within-loop-part l = record {
  most : l.count ≤ l.most;
  nodes : l.count + nodes_of_fields (parts_of (drop l.part-index l.parts)) ≡ nodes_of_fields (parts_of l.parts);
  above : depth_of_fields (parts_of (drop l.part-index l.parts)) ≤ l.depth → depth_of_fields (parts_of l.parts) ≤ l.depth;
  below : depth_of_fields (parts_of (drop l.part-index l.parts)) ≤ depth_of_fields (parts_of l.parts);
}

abbrev pub invariant-nodes_of_cases_within-loop-case : goal.invariant-nodes_of_cases_within-loop-case
invariant-nodes_of_cases_within-loop-case l = record {
  most : l.count ≤ l.most;
  nodes : l.count + nodes_of_cases (cases_of (drop l.case-index l.cases)) ≡ nodes_of_cases (cases_of l.cases);
  above : depth_of_cases (cases_of (drop l.case-index l.cases)) ≤ l.depth → depth_of_cases (cases_of l.cases) ≤ l.depth;
  below : depth_of_cases (cases_of (drop l.case-index l.cases)) ≤ depth_of_cases (cases_of l.cases);
}
