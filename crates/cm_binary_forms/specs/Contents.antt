-- What was read of the contents of a section, as the section.
use Rattle.std.specs.String.{string_bytes}
use Rattle.cm_binary_model.specs.Trees as trees
use Rattle.cm_binary_model.specs.Trees.{SectionTree, section_tree}
use Rattle.cm_binary_forms.specs.declared.contents.Contents.{Contents}
use Rattle.cm_binary_forms.specs.declared.contents.Contents.TheVariants as parts

abbrev pub contents_tree : Contents → SectionTree
contents_tree (parts.Custom name bytes) = trees.custom (string_bytes name) bytes.now
contents_tree (parts.CoreModule bytes) = trees.core_module bytes.now
contents_tree (parts.Items section) = section_tree section
