use Rattle.cm_values.specs.Spelling.{spelling}
use Rattle.cm_values.proofs.SpellValues.{text_back}
use Rattle.cm_values.proofs.laws.printed_is_read.Goals as goal

pub returns-clause-spelled : goal.returns-clause-spelled
returns-clause-spelled c = λ t v h held r. text_back t v h held r

pub returns-clause-read : goal.returns-clause-read
returns-clause-read c = λ t v h held r. (c.spellings_are_read.ensures t (spelling t v) v).1 (text_back t v h held r)
