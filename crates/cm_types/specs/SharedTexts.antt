-- Text that is shared.
use Rattle.std.specs.Prelude.{ℕ, List}
use Rattle.std.specs.String.{string_bytes}
use Rattle.cm_types.specs.declared.shared_text.SharedText.{SharedText}
use Rattle.cm_types.specs.declared.shared_text.SharedText.TheVariants as shared

-- the bytes of the text
abbrev pub text_bytes : SharedText → List ℕ
text_bytes (shared.Short text) = text.value.bytes
text_bytes (shared.Long text) = string_bytes text.value
