use Rattle.std.proofs.Common.{◌≡◌, map, take}
use Rattle.huxarte_c_components.specs.Plans.{part_tree, row_of}
use Rattle.huxarte_c_components.proofs.planning.rows_of.Given as goal

-- the rows of the parts so far
abbrev pub invariant-loop-part : goal.invariant-loop-part
invariant-loop-part l = l.rows.items ≡ map (λ p. row_of (part_tree p)) (take l.part-index l.parts)
