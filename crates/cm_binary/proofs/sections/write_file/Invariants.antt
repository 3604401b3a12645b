use Rattle.std.proofs.Common.{◌≡◌, ◌++◌, map, take}
use Rattle.std.specs.List.{flat_map}
use Rattle.cm_binary_model.specs.Trees.{section_tree}
use Rattle.cm_binary_model.specs.Spelling.{section_spelling}
use Rattle.cm_binary_model.specs.declared.limits.TheConstants.{COMPONENT_PREAMBLE}
use Rattle.cm_binary.proofs.sections.write_file.Given as goal

abbrev pub invariant-loop-section : goal.invariant-loop-section
invariant-loop-section l = l.out.items ≡ COMPONENT_PREAMBLE ++ flat_map section_spelling (map section_tree (take l.section-index l.sections))
