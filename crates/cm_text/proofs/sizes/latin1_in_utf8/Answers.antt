use Rattle.std.proofs.Common.{◌∙◌, ap, arith, sum_by, take_all}
use Rattle.cm_text.specs.Sizes.{latin1_taken}
use Rattle.cm_text.proofs.CountLemmas.{latin1_le, latin1_is, sum_by-block, sum_by-block_le, sum_by-one_le}
use Rattle.cm_text.proofs.sizes.latin1_in_utf8.Goals as goal

pub overflow_add-size : goal.overflow_add-size
overflow_add-size c =
    let bytes = c.args.bytes.now in
    omega (arith, c.loop-at.invariant.1, c.latin1_taken_in-size.ensures, sum_by-block_le latin1_taken c.loop-at.at 16 bytes, latin1_le bytes)

pub loop-at-preserved : goal.loop-at-preserved
loop-at-preserved c =
    (omega arith, omega (arith, c.loop-at.invariant.1, c.latin1_taken_in-size.ensures, sum_by-block latin1_taken c.loop-at.at 16 c.args.bytes.now))

pub overflow_add-size-in-loop-at-2 : goal.overflow_add-size-in-loop-at-2
overflow_add-size-in-loop-at-2 c =
    let bytes = c.args.bytes.now in
    omega (arith, c.loop-at-2.invariant.1, c.latin1_taken-size.ensures, sum_by-one_le latin1_taken c.loop-at-2.at bytes c.loop-at-2-test.true, latin1_le bytes)

pub returns : goal.returns
returns c =
    let bytes = c.args.bytes.now in
    λ cs text. c.loop-at-2.invariant.1 ∙ ap (sum_by latin1_taken) (take_all c.loop-at-2.at bytes c.loop-at-2-test.false) ∙ latin1_is cs bytes text
