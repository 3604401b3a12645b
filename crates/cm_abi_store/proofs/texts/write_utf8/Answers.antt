use Rattle.std.proofs.Common.{inl, inr}
use Rattle.cm_abi_model.specs.Texts.{Has, spell, utf8, utf16}
use Rattle.cm_text.specs.Text.{IsTextOfSize}
use Rattle.cm_abi_store.proofs.texts.write_utf8.Goals as goal

pub write_transcoded-requires : goal.write_transcoded-requires
write_transcoded-requires c =
    let text : IsTextOfSize (Has utf8) (spell utf8) (spell utf16) c.args.bytes.now c.args.size = elim c.in-Utf16.is [
      | inl is ↦ rw is at c.requires.text
      | inr is ↦ rw is at c.requires.text
    ] in
    record { text = text; inside = c.requires.inside }

pub returns-in-Utf16 : goal.returns-in-Utf16
returns-in-Utf16 c = elim c.in-Utf16.is [
  | inl is ↦ record { stored = rw is c.write_transcoded.ensures.stored; stays = c.write_transcoded.ensures.stays }
  | inr is ↦ record { stored = rw is c.write_transcoded.ensures.stored; stays = c.write_transcoded.ensures.stays }
]
