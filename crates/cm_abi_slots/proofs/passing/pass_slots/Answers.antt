use Rattle.std.proofs.Common.{◌<◌, ◌≤◌, arith, length}
use Rattle.std.proofs.lemmas.Result.{err_from_is_err_and}
use Rattle.cm_abi_slots.proofs.CallLaws.{all_passed, call_stops, denotes_nothing, passed_next}
use Rattle.cm_abi_slots.proofs.passing.pass_slots.Goals as goal

pub returns-in_err-pass_slot-clause-stops : goal.returns-in_err-pass_slot-clause-stops
returns-in_err-pass_slot-clause-stops c w way types are kinds =
    let p = err_from_is_err_and c.from_residual.result c.from_residual.ensures.1 in
    let lt : c.loop-i.i < length c.args.steps.now = omega (arith, c.loop-i-test.true, c.loop-i.invariant.same_length, c.requires) in
    rw (p.1, p.2, c.in_err-pass_slot.ensures.fault.0)
    (call_stops w way types c.args.steps.now c.args.slots.now are kinds c.requires c.loop-i.slots c.loop-i.i lt c.loop-i.invariant c.in_err-pass_slot.ensures.fits c.in_err-pass_slot.ensures.fault.1)

pub returns-in_err-pass_slot-clause-only : goal.returns-in_err-pass_slot-clause-only
returns-in_err-pass_slot-clause-only c w way types v are kinds denoted =
    let lt : c.loop-i.i < length c.args.steps.now = omega (arith, c.loop-i-test.true, c.loop-i.invariant.same_length, c.requires) in
    absurd (denotes_nothing w way types c.args.steps.now c.args.slots.now are kinds c.requires c.loop-i.slots c.loop-i.i lt c.loop-i.invariant c.in_err-pass_slot.ensures.fits c.in_err-pass_slot.ensures.fault.1 v denoted)

pub loop-i-preserved : goal.loop-i-preserved
loop-i-preserved c =
    let lt : c.loop-i.i < length c.loop-i.slots = omega (arith, c.loop-i-test.true, c.loop-i.invariant.same_length) in
    passed_next c.args.steps.now c.args.slots.now c.loop-i.slots c.loop-i.i c.pass_slot.new.slot lt c.loop-i.invariant c.in_ok-pass_slot.ensures.fits c.in_ok-pass_slot.ensures.fine c.in_ok-pass_slot.ensures.passed

pub returns-clause-passed : goal.returns-clause-passed
returns-clause-passed c w way types are kinds =
    let past : length c.args.steps.now ≤ c.loop-i.i = omega (arith, c.loop-i-test.false, c.loop-i.invariant.same_length, c.requires) in
    all_passed w way types c.args.steps.now c.args.slots.now are kinds c.requires c.loop-i.slots c.loop-i.i past c.loop-i.invariant
