-- The sections of files that may have shims (Binary.md, "Component Definitions").
use Rattle.std.specs.Prelude.{ℕ, List, Option, Some, None}
use Rattle.cm_binary_grammar.specs.Grammar.{done, ◌>>=◌, ahead, raw}
use Rattle.cm_binary_grammar.specs.Whole.{build, exactly, of_size, state_after, to_end}
use Rattle.cm_binary_forms.specs.declared.fault.DecodeReason.TheVariants.{SizeMismatch}
use Rattle.cm_binary_forms.specs.Texts.{Production, WholeProduction, index, vector}
use Rattle.cm_binary_forms.specs.Sections.{section, room_after}
use Rattle.cm_shims_plain.specs.declared.codes.WideKind.{WideKind}
use Rattle.cm_shims_plain.specs.declared.codes.WideKind.TheVariants as kinds
use Rattle.cm_shims_plain.specs.Codes.{wide_kind}
use Rattle.cm_shims_plain.specs.Items.{wide_instance, wide_import}
use Rattle.cm_shims_plain.specs.Shims.{shim, shim_room_after}
use Rattle.cm_shims_plain.specs.Trees as trees
use Rattle.cm_shims_plain.specs.Trees.{ShimSectionTree, WideSectionTree}

-- The shim with these sections, whose section has so many bytes.
abbrev pub shim_of_size : ℕ → List ShimSectionTree → WideSectionTree
shim_of_size size sections = trees.shim (record { size = size; sections = sections })

-- The contents of so many bytes of a section that has more forms where there may be shims; so many
-- more types may stand in the file.
unfoldable pub wide_contents : ℕ → ℕ → WideKind → WholeProduction WideSectionTree
wide_contents size room kinds.Shim = build (shim_of_size size) (shim room)
wide_contents size room kinds.Instances =
    build trees.wide_instances (exactly SizeMismatch (vector wide_instance))
wide_contents size room kinds.Imports =
    build trees.wide_imports (exactly SizeMismatch (vector wide_import))

-- A section of such a kind, or one as in a file without shims. Behind the id stand the size in
-- bytes, and contents of that size.
unfoldable pub wide_section_of : ℕ → Option WideKind → Production WideSectionTree
wide_section_of room (Some kind) = do
  id ← raw 1
  size ← index
  of_size SizeMismatch size (wide_contents size room kind)
wide_section_of room None = do
  plain ← section room
  done (trees.plain_section plain)

-- A section, where so many more types may stand in the file.
unfoldable pub wide_section : ℕ → Production WideSectionTree
wide_section room = ahead (λ id. wide_section_of room (wide_kind id))

-- How many more types may stand in the file behind the section: those of a shim count, too.
abbrev pub wide_room_after : ℕ → WideSectionTree → ℕ
wide_room_after room (trees.plain_section s) = room_after room s
wide_room_after room (trees.shim s) = state_after shim_room_after room s.sections
wide_room_after room (trees.wide_instances items) = room
wide_room_after room (trees.wide_imports items) = room

-- The sections of a file, in any order.
unfoldable pub wide_sections : ℕ → WholeProduction (List WideSectionTree)
wide_sections room = to_end wide_section wide_room_after room
