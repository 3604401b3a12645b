use Rattle.cm_values.proofs.WholeLaws.{read_as_spelled}
use Rattle.cm_values.proofs.reading_laws.spellings_are_read.Goals as goal

pub returns : goal.returns
returns c = λ t text v. read_as_spelled t text v
