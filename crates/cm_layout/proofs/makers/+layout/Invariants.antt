use Rattle.std.proofs.Common.{drop}
use Rattle.cm_types.specs.TypeTrees.{fields_of, parts_of, cases_of}
use Rattle.cm_layout.specs.Layouts.{IsLayingCases, IsLayingFields}
use Rattle.cm_layout.proofs.makers.+layout.Given as goal

abbrev pub invariant-fields_layout-loop-field : goal.invariant-fields_layout-loop-field
invariant-fields_layout-loop-field l = IsLayingFields (fields_of l.row) (fields_of (drop l.field-index l.row)) l.builder

abbrev pub invariant-parts_layout-loop-part : goal.invariant-parts_layout-loop-part
invariant-parts_layout-loop-part l = IsLayingFields (parts_of l.row) (parts_of (drop l.part-index l.row)) l.builder

abbrev pub invariant-cases_layout-loop-case : goal.invariant-cases_layout-loop-case
invariant-cases_layout-loop-case l = IsLayingCases (cases_of l.row) (cases_of (drop l.case-index l.row)) l.builder
