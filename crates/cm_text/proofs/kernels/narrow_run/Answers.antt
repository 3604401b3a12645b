use Rattle.std.proofs.Common.{◌+◌, ◌*◌, arith, drop, length-drop}
use Rattle.cm_text.proofs.PairLemmas.{unit_run_of}
use Rattle.cm_text.proofs.StretchLemmas.{narrow_joined}
use Rattle.cm_text.proofs.kernels.narrow_run.Goals as goal

pub returns-clause-written : goal.returns-clause-written
returns-clause-written c =
    let from = c.args.at + 2 * c.narrow_few-few.result in
    let run = unit_run_of (drop from c.args.bytes.now) c.narrow_long_run.result c.narrow_long_run.ensures.run in
    narrow_joined c.args.at c.args.to c.narrow_few-few.result c.narrow_long_run.result c.args.bytes.now c.args.out.now c.narrow_few-few.new.out c.narrow_long_run.new.out
    (omega (arith, run.within, length-drop from c.args.bytes.now, c.narrow_few-few.ensures.within)) c.narrow_few-few.ensures.written c.narrow_long_run.ensures.written
