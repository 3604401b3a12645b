use Rattle.std.proofs.Common.{drop}
use Rattle.cm_layout.specs.Layouts.{IsLayingFields}
use Rattle.cm_host_values.specs.Rows.{row_of}
use Rattle.cm_host_values.proofs.trees.row_layout.Given as goal

-- the types that are left are to be laid out
abbrev pub invariant-loop-tree : goal.invariant-loop-tree
invariant-loop-tree l = IsLayingFields (row_of l.trees) (row_of (drop l.tree-index l.trees)) l.builder
