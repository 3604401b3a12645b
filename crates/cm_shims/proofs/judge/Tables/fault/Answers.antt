use Rattle.cm_shims.specs.Fitting.{Holds}
use Rattle.cm_shims.specs.Reasons.{reason_of}
use Rattle.cm_shims.proofs.FitLaws.{told}
use Rattle.cm_shims.proofs.judge.Tables.fault.Goals as goal

pub returns-clause-fault : goal.returns-clause-fault
returns-clause-fault c = λ s at.
    told c.in_ok-holds.holds (Holds s c.args.want) (reason_of c.args.want) c.reason_of.result c.unless.result c.reason_of.ensures c.unless.ensures (c.in_ok-holds.ensures.holds s at)
