-- Component files that may have shims (Binary.md, "Component Definitions"): which bytes spell one,
-- and what is the first fault of bytes that spell none.
use Rattle.std.specs.Prelude.{List}
use Rattle.cm_binary_grammar.specs.Grammar.{fixed}
use Rattle.cm_binary_grammar.specs.Whole.{join, at_most}
use Rattle.cm_binary_model.specs.declared.limits.TheConstants.{COMPONENT_PREAMBLE}
use Rattle.cm_binary_model.specs.declared.limits.TheConstants.{MAX_TYPES, MAX_FILE_BYTES}
use Rattle.cm_binary_forms.specs.declared.fault.DecodeReason.TheVariants.{BadPreamble, TooLong}
use Rattle.cm_binary_forms.specs.Texts.{WholeProduction}
use Rattle.cm_shims_plain.specs.Sections.{wide_sections}
use Rattle.cm_shims_plain.specs.Trees.{WideSectionTree}

-- The preamble, and sections to the end.
unfoldable pub wide_component : WholeProduction (List WideSectionTree)
wide_component = join (fixed COMPONENT_PREAMBLE BadPreamble) (λ preamble. wide_sections MAX_TYPES)

-- A file, of at most so many bytes.
unfoldable pub wide_file : WholeProduction (List WideSectionTree)
wide_file = at_most MAX_FILE_BYTES TooLong wide_component
