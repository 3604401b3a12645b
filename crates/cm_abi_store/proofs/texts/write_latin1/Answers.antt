use Rattle.std.proofs.Common.{inl, inr}
use Rattle.cm_abi_store.proofs.texts.write_latin1.Goals as goal

pub returns-in-Utf8-clause-stored : goal.returns-in-Utf8-clause-stored
returns-in-Utf8-clause-stored c = rw c.in-Utf8.is c.write_transcoded.ensures.stored

pub returns-in-Utf16 : goal.returns-in-Utf16
returns-in-Utf16 c = elim c.in-Utf16.is [
  | inl is ↦ record { stored = rw is c.write_transcoded-in-Utf16.ensures.stored; stays = c.write_transcoded-in-Utf16.ensures.stays }
  | inr is ↦ record { stored = rw is c.write_transcoded-in-Utf16.ensures.stored; stays = c.write_transcoded-in-Utf16.ensures.stays }
]
