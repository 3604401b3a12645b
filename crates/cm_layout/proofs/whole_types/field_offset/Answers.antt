use Rattle.cm_types.specs.Funcs.{tree_type}
use Rattle.cm_layout.proofs.OffsetLaws.{field_law}
use Rattle.cm_layout.proofs.whole_types.field_offset.Goals as goal

pub returns-clause-least : goal.returns-clause-least
returns-clause-least c = rw c.node_field_offset.ensures (field_law (tree_type c.args.ty.now) c.args.n c.requires)
