use Rattle.std.proofs.lemmas.Str.{is_utf8-from_IsUtf8}
use Rattle.cm_binary_model.proofs.measuring.text_length.Goals as goal

pub returns-clause-utf8 : goal.returns-clause-utf8
returns-clause-utf8 c = rw (c.as_bytes.ensures.value) at (is_utf8-from_IsUtf8 c.as_bytes.result.now c.as_bytes.ensures.utf8)
