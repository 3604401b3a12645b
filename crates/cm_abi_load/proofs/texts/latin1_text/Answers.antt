use Rattle.std.proofs.Common.{◌∙◌}
use Rattle.std.specs.Str.{chars}
use Rattle.std.specs.String.{string_bytes}
use Rattle.cm_text.specs.Latin1.{HasLatin1, spell_latin1}
use Rattle.cm_abi_model.specs.Texts.{latin1}
use Rattle.cm_abi_load.specs.Decoded.{decoded}
use Rattle.cm_abi_load.proofs.LeafReadingSeen.{seen_text}
use Rattle.cm_abi_load.specs.Decoding.{text_decoded}
use Rattle.cm_abi_load.proofs.TextLemmas.{none_1, reads_text, stops_at}
use Rattle.cm_abi_load.proofs.texts.latin1_text.Goals as goal

pub returns-in-Ok : goal.returns-in-Ok
returns-in-Ok c = λ s.
    reads_text (decoded latin1 c.args.bytes.now) (chars (string_bytes c.in-Ok.text)) s (text_decoded latin1 (chars (string_bytes c.in-Ok.text)) c.args.bytes.now c.in-Ok.ensures.ok)
    ∙ seen_text c.in-Ok.text s

pub returns-in-Err : goal.returns-in-Err
returns-in-Err c = λ s. stops_at HasLatin1 spell_latin1 c.args.bytes.now (decoded latin1 c.args.bytes.now) c.in-Err.stop s (none_1 c.args.bytes.now) c.in-Err.ensures.err
