use Rattle.std.specs.List.{flat_map}
use Rattle.cm_binary_model.specs.Trees.{canon_tree}
use Rattle.cm_lemmas.proofs.Lists.{Makes}
use Rattle.huxarte_c_components.specs.Plans.{canon_parts, part_tree}
use Rattle.huxarte_c_components.proofs.planned.add_canons.Given as goal

abbrev pub invariant-loop-canon : goal.invariant-loop-canon
invariant-loop-canon l =
    Makes canon_tree (λ i. flat_map canon_parts) part_tree l.canons l.canon-index l.initial.parts.items l.parts.items
