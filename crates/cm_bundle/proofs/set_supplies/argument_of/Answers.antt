use Rattle.std.proofs.lemmas.Str.{is_utf8-from_IsUtf8}
use Rattle.cm_bundle.proofs.set_supplies.argument_of.Goals as goal

pub returns-clause-texts : goal.returns-clause-texts
returns-clause-texts c = (is_utf8-from_IsUtf8 _ c.as_str.utf8, c.in_ok-name.ensures.text)
