use Rattle.cm_abi_store.proofs.texts.stored_size.Goals as goal
use Rattle.cm_text.proofs.Utf8Laws.{size_8}

pub returns-in-Utf8 : goal.returns-in-Utf8
returns-in-Utf8 c = rw c.in-Utf8.is (size_8 c.args.text.now c.utf8.text)
