use Rattle.cm_layout.proofs.LaidLaws.{laid}
use Rattle.cm_layout.proofs.MarkLaws.{marked}
use Rattle.cm_layout.proofs.laws.layouts.Goals as goal

pub returns-clause-laid : goal.returns-clause-laid
returns-clause-laid c = laid

pub returns-clause-marked : goal.returns-clause-marked
returns-clause-marked c = marked
