-- Kinds of canonical options (CanonicalABI.md, "Canonical Definitions").
use Rattle.std.specs.Prelude.{Bool}
use Rattle.cm_binary_model.specs.declared.canons.CanonOption.{CanonOption}
use Rattle.cm_validate_model.specs.Options.{is_encoding, is_memory, is_realloc, is_post_return}
use Rattle.cm_validate_core.specs.declared.options.OptionKind.{OptionKind}
use Rattle.cm_validate_core.specs.declared.options.OptionKind.TheVariants as kind

-- whether an option is of a kind
abbrev pub is_of_kind : OptionKind → CanonOption → Bool
is_of_kind kind.Encoding = is_encoding
is_of_kind kind.Memory = is_memory
is_of_kind kind.Realloc = is_realloc
is_of_kind kind.PostReturn = is_post_return
