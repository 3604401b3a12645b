use Rattle.std.specs.List.{flat_map}
use Rattle.cm_binary_model.specs.Trees.{alias_tree}
use Rattle.cm_lemmas.proofs.Lists.{Makes}
use Rattle.huxarte_c_components.specs.Plans.{alias_parts, part_tree}
use Rattle.huxarte_c_components.proofs.planned.add_aliases.Given as goal

abbrev pub invariant-loop-alias : goal.invariant-loop-alias
invariant-loop-alias l =
    Makes alias_tree (λ i. flat_map alias_parts) part_tree l.aliases l.alias-index l.initial.parts.items l.parts.items
