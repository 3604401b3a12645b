use Rattle.std.proofs.Common.{drop}
use Rattle.cm_types.specs.TypeTrees.{fields_of, parts_of, cases_of}
use Rattle.cm_layout.specs.Heads.{LeavesCases, LeavesFields}
use Rattle.cm_layout.proofs.measures.+heads.Given as goal

abbrev pub invariant-fields_so_far-loop-field : goal.invariant-fields_so_far-loop-field
invariant-fields_so_far-loop-field l = LeavesFields (fields_of l.row) (fields_of (drop l.field-index l.row)) l.so_far

abbrev pub invariant-parts_so_far-loop-part : goal.invariant-parts_so_far-loop-part
invariant-parts_so_far-loop-part l = LeavesFields (parts_of l.row) (parts_of (drop l.part-index l.row)) l.so_far

abbrev pub invariant-cases_so_far-loop-case : goal.invariant-cases_so_far-loop-case
invariant-cases_so_far-loop-case l = LeavesCases (cases_of l.row) (cases_of (drop l.case-index l.row)) l.so_far
