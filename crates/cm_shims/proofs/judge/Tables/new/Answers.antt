use Rattle.cm_types_numbers.specs.Numbering.{numbering}
use Rattle.cm_shims.proofs.judge.Tables.new.Goals as goal

pub returns : goal.returns
returns c = λ arena. c.new-2.ensures (numbering c.new.result) (λ r. r) arena
