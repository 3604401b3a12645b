use Rattle.std.proofs.lemmas.Str.{is_utf8-from_IsUtf8}
use Rattle.cm_bundle.proofs.set_supplies.exported.Goals as goal

pub returns-clause-texts : goal.returns-clause-texts
returns-clause-texts c =
    let text = is_utf8-from_IsUtf8 _ c.as_str-name.utf8 in
    (text, text)
