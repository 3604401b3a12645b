use Rattle.std.proofs.Common.{◌≡◌, ◌++◌, drop}
use Rattle.cm_layout.specs.Flattening.{flat_of_fields}
use Rattle.cm_host_values.specs.Rows.{row_of}
use Rattle.cm_host_values.proofs.trees.row_kinds.Given as goal

-- the kinds so far, and those of the types that are left, are all of them
abbrev pub invariant-loop-tree : goal.invariant-loop-tree
invariant-loop-tree l = l.kinds.items ++ flat_of_fields (row_of (drop l.tree-index l.trees)) ≡ flat_of_fields (row_of l.trees)
