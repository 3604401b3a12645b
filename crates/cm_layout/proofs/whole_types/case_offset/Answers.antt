use Rattle.cm_types.specs.Funcs.{tree_type}
use Rattle.cm_layout.proofs.OffsetLaws.{payload_law}
use Rattle.cm_layout.proofs.whole_types.case_offset.Goals as goal

pub returns-clause-least : goal.returns-clause-least
returns-clause-least c = rw c.node_case_offset.ensures (payload_law (tree_type c.args.ty.now) c.requires)
