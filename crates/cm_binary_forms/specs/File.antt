-- Component files (Binary.md, "Component Definitions"): which bytes spell a component, and what is
-- the first fault of bytes that spell none.
use Rattle.std.specs.Prelude.{◌≡◌, ℕ, ◌+◌, List, length}
use Rattle.cm_binary_grammar.specs.declared.fault.End.TheVariants as end
use Rattle.cm_binary_grammar.specs.Faults.{flaw}
use Rattle.cm_binary_grammar.specs.Grammar.{fixed}
use Rattle.cm_binary_grammar.specs.Whole.{join, at_most}
use Rattle.cm_binary_model.specs.Trees.{SectionTree}
use Rattle.cm_binary_model.specs.declared.limits.TheConstants.{COMPONENT_PREAMBLE}
use Rattle.cm_binary_model.specs.declared.limits.TheConstants.{MAX_TYPES, MAX_FILE_BYTES}
use Rattle.cm_binary_forms.specs.declared.fault.DecodeReason.{DecodeReason}
use Rattle.cm_binary_forms.specs.declared.fault.DecodeReason.TheVariants.{BadPreamble, Truncated}
use Rattle.cm_binary_forms.specs.declared.fault.DecodeReason.TheVariants.{TooLong}
use Rattle.cm_binary_forms.specs.Texts.{WholeProduction}
use Rattle.cm_binary_forms.specs.Sections.{sections}

-- The preamble, and sections to the end.
unfoldable pub component : WholeProduction (List SectionTree)
component = join (fixed COMPONENT_PREAMBLE BadPreamble) (λ preamble. sections MAX_TYPES)

-- A file, of at most so many bytes.
unfoldable pub file : WholeProduction (List SectionTree)
file = at_most MAX_FILE_BYTES TooLong component

-- The bytes are a spelling of the component with these sections.
abbrev pub Spells : List SectionTree → List ℕ → Type 0
Spells c bytes = file.Spells c bytes

-- The bytes are no component file, and this is their first fault, met reading byte after byte.
abbrev pub FirstFault : List ℕ → ℕ → DecodeReason → Type 0
FirstFault bytes at reason = (left : ℕ) × (at + left ≡ length bytes)
    × file.Faulty (end.Cut Truncated) bytes (flaw left reason)
