use Rattle.std.proofs.lemmas.Str.{is_utf8-from_IsUtf8}
use Rattle.cm_types.proofs.extern_names.ExternName.as_bytes.Goals as goal

pub returns-clause-utf8 : goal.returns-clause-utf8
returns-clause-utf8 c = is_utf8-from_IsUtf8 _ c.as_bytes.ensures.utf8
