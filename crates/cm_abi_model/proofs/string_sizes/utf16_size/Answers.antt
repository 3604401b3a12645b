use Rattle.std.proofs.Common.{◌∙◌, ap, length}
use Rattle.std.specs.Str.{chars}
use Rattle.cm_abi_model.specs.Requests.{text_bytes}
use Rattle.cm_abi_model.specs.Texts.{utf16}
use Rattle.cm_abi_model.proofs.StringSizes.{no_fault, size_16}
use Rattle.cm_abi_model.proofs.string_sizes.utf16_size.Goals as goal

pub unreachable-requires : goal.unreachable-requires
unreachable-requires c = no_fault c.as_bytes.result.now c.in-Err.field-0 c.as_bytes.ensures.utf8 c.in-Err.ensures.ill_formed

pub returns : goal.returns
returns c = size_16 c.as_bytes.result.now c.in-Ok.size c.in-Ok.ensures.ok ∙ ap (λ bs. length (text_bytes utf16 (chars bs))) c.as_bytes.ensures.value
