use Rattle.cm_wit_signature.proofs.FileTexts.{texts_write}
use Rattle.cm_wit_signature.proofs.spellable_laws.what_texts_write.Goals as goal

pub returns : goal.returns
returns c = texts_write
