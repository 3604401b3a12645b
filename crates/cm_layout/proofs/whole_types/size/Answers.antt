use Rattle.std.proofs.Common.{◌∙◌}
use Rattle.cm_types.specs.Funcs.{tree_type}
use Rattle.cm_layout.proofs.OffsetLaws.{size_multiple, whole_law}
use Rattle.cm_layout.proofs.whole_types.size.Goals as goal

pub returns-clause-multiple : goal.returns-clause-multiple
returns-clause-multiple c = let m = size_multiple (tree_type c.args.ty.now) in (m.0, c.node_head.ensures.size ∙ m.1)

pub returns-clause-whole : goal.returns-clause-whole
returns-clause-whole c = rw c.node_head.ensures.size (whole_law (tree_type c.args.ty.now))
