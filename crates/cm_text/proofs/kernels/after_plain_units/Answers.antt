use Rattle.std.proofs.Common.{◌+◌, ◌*◌, arith, w8}
use Rattle.std.proofs.lemmas.Simd.{chunk-fits}
use Rattle.cm_text.proofs.PlainLemmas.{plain_on, front_of}
use Rattle.cm_text.proofs.kernels.after_plain_units.Goals as goal

pub returns-then-run-lt-LANES : goal.returns-then-run-lt-LANES
returns-then-run-lt-LANES c =
    let at = c.loop-at.at in
    let run = c.plain_in-run.result in
    let bytes = c.args.bytes.now in
    front_of bytes (at + 2 * run) (plain_on bytes at run c.loop-at.invariant (chunk-fits w8 at 32 bytes c.type_inv.bytes) (omega arith) (omega arith) (omega arith))

pub loop-at-preserved : goal.loop-at-preserved
loop-at-preserved c =
    let at = c.loop-at.at in
    let bytes = c.args.bytes.now in
    plain_on bytes at 16 c.loop-at.invariant (chunk-fits w8 at 32 bytes c.type_inv.bytes) (omega arith) (omega arith) (omega arith)
