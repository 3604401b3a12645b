use Rattle.std.proofs.Common.{[]}
use Rattle.std.specs.List.{flat_map}
use Rattle.cm_binary_model.specs.Trees.{section_tree}
use Rattle.cm_lemmas.proofs.Lists.{Makes}
use Rattle.huxarte_c_components.specs.Plans.{part_tree, section_parts}
use Rattle.huxarte_c_components.proofs.planned.plan_of.Given as goal

abbrev pub invariant-loop-section : goal.invariant-loop-section
invariant-loop-section l =
    Makes section_tree (λ i. flat_map section_parts) part_tree l.sections l.section-index [] l.parts.items
