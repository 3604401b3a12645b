-- Component files that may have shims, as trees, without where they lie in memory (Binary.md). A
-- type that holds no list is its own tree.
use Rattle.std.specs.Prelude.{ℕ, List, map}
use Rattle.cm_binary_model.specs.declared.instances.InlineExport.{InlineExport}
use Rattle.cm_binary_model.specs.Trees.{SectionTree, section_tree}
use Rattle.cm_shims_plain.specs.declared.parts.Argument.{Argument}
use Rattle.cm_shims_plain.specs.declared.parts.Shim.{Shim}
use Rattle.cm_shims_plain.specs.declared.parts.ShimExport.{ShimExport}
use Rattle.cm_shims_plain.specs.declared.parts.ShimImport.{ShimImport}
use Rattle.cm_shims_plain.specs.declared.parts.ShimSection.{ShimSection}
use Rattle.cm_shims_plain.specs.declared.parts.ShimSection.TheVariants as shim_section
use Rattle.cm_shims_plain.specs.declared.parts.WideImport.{WideImport}
use Rattle.cm_shims_plain.specs.declared.parts.WideInstance.{WideInstance}
use Rattle.cm_shims_plain.specs.declared.parts.WideInstance.TheVariants as wide_instance
use Rattle.cm_shims_plain.specs.declared.parts.WideSection.{WideSection}
use Rattle.cm_shims_plain.specs.declared.parts.WideSection.TheVariants as wide_section

-- A section of a shim: one as outside of shims, custom or of types; imports; exports.
pub data ShimSectionTree : Type 0 where
  shared : SectionTree → ShimSectionTree
  shim_imports : List ShimImport → ShimSectionTree
  shim_exports : List ShimExport → ShimSectionTree

-- A shim: the size of its section in bytes, and its sections (`component`).
pub record ShimTree : Type 0 where
  pub size : ℕ
  pub sections : List ShimSectionTree

-- An instance: definitions under names; a shim with what it is given (`instanceexpr`).
pub data WideInstanceTree : Type 0 where
  of_exports : List InlineExport → WideInstanceTree
  instantiate : ℕ → List Argument → WideInstanceTree

-- A section of a file that may have shims: one of a file without; a shim; instances; imports.
pub data WideSectionTree : Type 0 where
  plain_section : SectionTree → WideSectionTree
  shim : ShimTree → WideSectionTree
  wide_instances : List WideInstanceTree → WideSectionTree
  wide_imports : List WideImport → WideSectionTree

-- ---- what the code's types say, as trees

abbrev pub shim_section_tree : ShimSection → ShimSectionTree
shim_section_tree (shim_section.Shared section) = shared (section_tree section)
shim_section_tree (shim_section.Imports items) = shim_imports items.items
shim_section_tree (shim_section.Exports items) = shim_exports items.items

abbrev pub shim_tree : Shim → ShimTree
shim_tree s = record { size = s.size; sections = map shim_section_tree s.sections.items }

abbrev pub wide_instance_tree : WideInstance → WideInstanceTree
wide_instance_tree (wide_instance.Exports items) = of_exports items.items
wide_instance_tree (wide_instance.Instantiate component args) = instantiate component args.items

abbrev pub wide_section_tree : WideSection → WideSectionTree
wide_section_tree (wide_section.Plain section) = plain_section (section_tree section)
wide_section_tree (wide_section.Shim s) = shim (shim_tree s)
wide_section_tree (wide_section.Instances items) =
    wide_instances (map wide_instance_tree items.items)
wide_section_tree (wide_section.Imports items) = wide_imports items.items
