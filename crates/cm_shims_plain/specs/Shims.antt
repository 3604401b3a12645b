-- Shims: components in a component that have imports, types and exports alone (Binary.md,
-- "Component Definitions").
use Rattle.std.specs.Prelude.{ℕ, List}
use Rattle.cm_binary_grammar.specs.Grammar.{done, ◌>>=◌, ahead, fixed, raw, refuse}
use Rattle.cm_binary_grammar.specs.Whole.{build, exactly, join, of_size, to_end}
use Rattle.cm_binary_model.specs.declared.limits.TheConstants.{COMPONENT_PREAMBLE}
use Rattle.cm_binary_forms.specs.declared.fault.DecodeReason.TheVariants.{SizeMismatch, BadPreamble}
use Rattle.cm_binary_forms.specs.Texts.{Production, WholeProduction, index, vector}
use Rattle.cm_binary_forms.specs.Sections.{section, room_after}
use Rattle.cm_shims_plain.specs.declared.codes.ShimItems.{ShimItems}
use Rattle.cm_shims_plain.specs.declared.codes.ShimItems.TheVariants as shim_items
use Rattle.cm_shims_plain.specs.declared.codes.ShimKind.{ShimKind}
use Rattle.cm_shims_plain.specs.declared.codes.ShimKind.TheVariants as kinds
use Rattle.cm_shims_plain.specs.Codes.{shim_kind, no_shim_section}
use Rattle.cm_shims_plain.specs.Items.{shim_import, shim_export}
use Rattle.cm_shims_plain.specs.Trees as trees
use Rattle.cm_shims_plain.specs.Trees.{ShimSectionTree}

-- The contents of a section of a shim: its imports, its exports.
unfoldable pub shim_contents : ShimItems → WholeProduction ShimSectionTree
shim_contents shim_items.Imports =
    build trees.shim_imports (exactly SizeMismatch (vector shim_import))
shim_contents shim_items.Exports =
    build trees.shim_exports (exactly SizeMismatch (vector shim_export))

-- A section of a shim by what it holds, where so many more types may stand in the file. Behind its
-- id stand its size in bytes, and contents of that size.
unfoldable pub shim_section_of : ℕ → ShimKind → Production ShimSectionTree
shim_section_of room kinds.Shared = do
  shared ← section room
  done (trees.shared shared)
shim_section_of room (kinds.Items items) = do
  id ← raw 1
  size ← index
  of_size SizeMismatch size (shim_contents items)
shim_section_of room kinds.Other = refuse no_shim_section

-- A section of a shim, where so many more types may stand in the file.
unfoldable pub shim_section : ℕ → Production ShimSectionTree
shim_section room = ahead (λ id. shim_section_of room (shim_kind id))

-- How many more types may stand in the file behind the section of a shim.
abbrev pub shim_room_after : ℕ → ShimSectionTree → ℕ
shim_room_after room (trees.shared s) = room_after room s
shim_room_after room s = room

-- The sections of a shim, in any order.
unfoldable pub shim_sections : ℕ → WholeProduction (List ShimSectionTree)
shim_sections room = to_end shim_section shim_room_after room

-- A shim, where so many more types may stand in the file: the preamble, and sections to the end.
unfoldable pub shim : ℕ → WholeProduction (List ShimSectionTree)
shim room = join (fixed COMPONENT_PREAMBLE BadPreamble) (λ preamble. shim_sections room)
