use Rattle.std.proofs.Common.{◌≡◌, map, take, true}
use Rattle.std.specs.List.{list_all}
use Rattle.cm_binary_model.specs.Trees.{section_tree}
use Rattle.cm_binary_model.specs.Limits.{has_preamble}
use Rattle.cm_binary_model.proofs.component.have_preambles.Given as goal

abbrev pub invariant-loop-section : goal.invariant-loop-section
invariant-loop-section l = list_all has_preamble (map section_tree (take l.section-index l.sections)) ≡ true
