-- Sections (Binary.md, "Component Definitions").
use Rattle.std.specs.Prelude.{ℕ, ◌-◌, List}
use Rattle.cm_binary_grammar.specs.Grammar.{◌>>=◌, code}
use Rattle.cm_binary_grammar.specs.Whole.{build, remainder, exactly, join, begins_with, to_end}
use Rattle.cm_binary_grammar.specs.Whole.{of_size}
use Rattle.cm_binary_model.specs.Trees as trees
use Rattle.cm_binary_model.specs.Trees.{SectionTree}
use Rattle.cm_binary_model.specs.Limits.{types_in}
use Rattle.cm_binary_model.specs.declared.limits.TheConstants.{MODULE_PREAMBLE}
use Rattle.cm_binary_forms.specs.declared.fault.DecodeReason.TheVariants.{SizeMismatch, NotAModule}
use Rattle.cm_binary_forms.specs.declared.codes.SectionKind.{SectionKind}
use Rattle.cm_binary_forms.specs.declared.codes.SectionKind.TheVariants as kinds
use Rattle.cm_binary_forms.specs.Codes.{section_kind}
use Rattle.cm_binary_forms.specs.Texts.{Production, WholeProduction, index, vector, text}
use Rattle.cm_binary_forms.specs.Instances.{core_instance, instance_item}
use Rattle.cm_binary_forms.specs.Aliases.{alias}
use Rattle.cm_binary_forms.specs.Types.{type_defs}
use Rattle.cm_binary_forms.specs.Canons.{canon}
use Rattle.cm_binary_forms.specs.Externs.{import_item, export_item}

-- The contents of a section, where so many more types may stand in the file.
unfoldable pub contents : ℕ → SectionKind → WholeProduction SectionTree
contents room kinds.Custom = join text (λ name. build (trees.custom name) remainder)
contents room kinds.CoreModule = build trees.core_module (begins_with MODULE_PREAMBLE NotAModule)
contents room kinds.CoreInstances =
    build trees.core_instances (exactly SizeMismatch (vector core_instance))
contents room kinds.Instances =
    build trees.instances (exactly SizeMismatch (vector instance_item))
contents room kinds.Aliases = build trees.aliases (exactly SizeMismatch (vector alias))
contents room kinds.Types = build trees.types (exactly SizeMismatch (type_defs room))
contents room kinds.Canons = build trees.canons (exactly SizeMismatch (vector canon))
contents room kinds.Imports = build trees.imports (exactly SizeMismatch (vector import_item))
contents room kinds.Exports = build trees.exports (exactly SizeMismatch (vector export_item))

-- The id of the section, its size in bytes, and contents of that size.
unfoldable pub section : ℕ → Production SectionTree
section room = do
  kind ← code section_kind
  size ← index
  of_size SizeMismatch size (contents room kind)

-- How many more types may stand in the file behind the section.
abbrev pub room_after : ℕ → SectionTree → ℕ
room_after room s = room - types_in s

-- The sections of a file, in any order.
unfoldable pub sections : ℕ → WholeProduction (List SectionTree)
sections room = to_end section room_after room
