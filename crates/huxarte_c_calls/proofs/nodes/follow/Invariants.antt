use Rattle.std.proofs.Common.{◌≡◌, drop}
use Rattle.cm_layout.specs.Layouts.{layout_of}
use Rattle.huxarte_c_calls.specs.Shapes.{layout_along}
use Rattle.huxarte_c_calls.proofs.nodes.follow.Given as goal

-- the path leads to where the rest of it leads from what was found
abbrev pub invariant-loop-number : goal.invariant-loop-number
invariant-loop-number l =
    layout_along l.path (0, layout_of l.layout) ≡ layout_along (drop l.number-index l.path) (l.offset, layout_of l.found)
