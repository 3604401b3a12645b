use Rattle.cm_abi_model.specs.Texts.{Has, spell, utf8, utf16}
use Rattle.cm_text.specs.Text.{IsTextOfSize}
use Rattle.cm_abi_store.proofs.texts.write_utf16.Goals as goal

pub write_transcoded-requires-clause-text : goal.write_transcoded-requires-clause-text
write_transcoded-requires-clause-text c =
    let text : IsTextOfSize (Has utf16) (spell utf16) (spell utf8) c.args.bytes.now c.args.size = rw c.in-Utf8.is at c.requires.text in
    text

pub returns-in-Utf8-clause-stored : goal.returns-in-Utf8-clause-stored
returns-in-Utf8-clause-stored c = rw c.in-Utf8.is c.write_transcoded.ensures.stored
