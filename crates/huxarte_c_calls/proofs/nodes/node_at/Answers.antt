use Rattle.std.proofs.Common.{◌∙◌, ap}
use Rattle.std.specs.Prelude.{option_map}
use Rattle.huxarte_c_calls.specs.Shapes.{layout_along, node_in}
use Rattle.cm_layout.specs.Shapes.{LayoutTy}
use Rattle.huxarte_c_calls.proofs.NodeLaws.{node_followed}
use Rattle.huxarte_c_calls.proofs.nodes.node_at.Goals as goal

pub returns : goal.returns
returns c = λ t is.
    c.follow.ensures ∙ (ap (λ (l : LayoutTy). option_map node_in (layout_along c.args.path.now (0, l))) is ∙ node_followed t c.args.path.now)
