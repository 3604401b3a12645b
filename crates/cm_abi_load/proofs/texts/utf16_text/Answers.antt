use Rattle.std.proofs.Common.{◌∙◌}
use Rattle.std.specs.Str.{chars}
use Rattle.std.specs.String.{string_bytes}
use Rattle.std.specs.Char.{IsScalar}
use Rattle.cm_text.specs.Utf16.{spell_utf16}
use Rattle.cm_abi_model.specs.Texts.{utf16}
use Rattle.cm_abi_load.specs.Decoded.{decoded}
use Rattle.cm_abi_load.proofs.LeafReadingSeen.{seen_text}
use Rattle.cm_abi_load.specs.Decoding.{text_decoded}
use Rattle.cm_abi_load.proofs.TextLemmas.{none_16, reads_text, stops_at}
use Rattle.cm_abi_load.proofs.texts.utf16_text.Goals as goal

pub returns-in-Ok : goal.returns-in-Ok
returns-in-Ok c = λ s.
    reads_text (decoded utf16 c.args.bytes.now) (chars (string_bytes c.in-Ok.text)) s (text_decoded utf16 (chars (string_bytes c.in-Ok.text)) c.args.bytes.now c.in-Ok.ensures.ok)
    ∙ seen_text c.in-Ok.text s

pub returns-in-Err : goal.returns-in-Err
returns-in-Err c = λ s. stops_at IsScalar spell_utf16 c.args.bytes.now (decoded utf16 c.args.bytes.now) c.in-Err.stop s (none_16 c.args.bytes.now) c.in-Err.ensures.err
