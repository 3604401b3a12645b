use Rattle.std.proofs.Common.{◌≡◌, map, take}
use Rattle.std.specs.List.{sum_by}
use Rattle.cm_binary_model.specs.Trees.{section_tree}
use Rattle.cm_binary_model.specs.Limits.{types_in}
use Rattle.cm_binary_model.specs.Measures.{saturate}
use Rattle.cm_binary_model.proofs.section.types_in_all.Given as goal

abbrev pub invariant-loop-section : goal.invariant-loop-section
invariant-loop-section l = l.total ≡ saturate (sum_by types_in (map section_tree (take l.section-index l.sections)))
