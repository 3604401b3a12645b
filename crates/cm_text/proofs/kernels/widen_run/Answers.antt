use Rattle.cm_text.proofs.StretchLemmas.{widen_joined}
use Rattle.cm_text.proofs.kernels.widen_run.Goals as goal

pub returns-clause-written : goal.returns-clause-written
returns-clause-written c =
    widen_joined c.args.at c.args.to c.widen_few-few.result c.widen_long_run.result c.args.bytes.now c.args.out.now c.widen_few-few.new.out c.widen_long_run.new.out
    c.widen_few-few.ensures.written c.widen_long_run.ensures.written
