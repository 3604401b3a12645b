use Rattle.std.proofs.Common.{map}
use Rattle.cm_binary_model.specs.Trees.{arg_tree}
use Rattle.cm_lemmas.proofs.Lists.{Makes}
use Rattle.huxarte_c_components.specs.Plans.{given_part, part_tree}
use Rattle.huxarte_c_components.proofs.planned.add_given.Given as goal

abbrev pub invariant-loop-arg : goal.invariant-loop-arg
invariant-loop-arg l =
    Makes arg_tree (λ i. map given_part) part_tree l.args l.arg-index l.initial.parts.items l.parts.items
