use Rattle.std.proofs.Common.{arith}
use Rattle.std.proofs.lemmas.List.{take_rest, length-drop}
use Rattle.cm_binary.proofs.StreamLaws.{written_more}
use Rattle.cm_binary.proofs.streams.write_all.Goals as goal

pub loop-written-preserved : goal.loop-written-preserved
loop-written-preserved g c =
    let bytes = c.args.bytes.now in
    let written = c.loop-written.written in
    let taken = c.write_some-taken.result in
    let some = rw take_rest at c.write_some-taken.ensures.bytes in
    let bound = rw take_rest at c.write_some-taken.ensures.bound in
    (written_more _ _ _ bytes written taken c.loop-written.invariant.0 some, omega (arith, bound, length-drop written bytes, c.loop-written.invariant.1))
