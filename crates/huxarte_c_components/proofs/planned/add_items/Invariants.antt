use Rattle.std.proofs.Common.{map}
use Rattle.cm_binary_model.specs.Trees.{core_export_tree}
use Rattle.cm_lemmas.proofs.Lists.{Makes}
use Rattle.huxarte_c_components.specs.Plans.{item_part, part_tree}
use Rattle.huxarte_c_components.proofs.planned.add_items.Given as goal

abbrev pub invariant-loop-export : goal.invariant-loop-export
invariant-loop-export l =
    Makes core_export_tree (λ i. map item_part) part_tree l.exports l.export-index l.initial.parts.items l.parts.items
