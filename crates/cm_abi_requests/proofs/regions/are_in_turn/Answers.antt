use Rattle.std.proofs.Common.{arith}
use Rattle.cm_abi_model.specs.declared.region.Region.{Region}
use Rattle.cm_abi_requests.proofs.RegionLaws.{meets, past_empty, past_one}
use Rattle.cm_abi_requests.proofs.regions.are_in_turn.Goals as goal
use Rattle.cm_abi_requests.proofs.regions.are_in_turn.Goals.{then-region-gt0+else-from-end, else-region-gt0}

abbrev none : Region
none = record { at = 0; size = 0 }

pub returns-then-from-end-clause-ascending : goal.returns-then-from-end-clause-ascending
returns-then-from-end-clause-ascending c = λ up h.
    absurd (meets c.args.regions.now c.loop-region.end c.loop-region.region-index none up c.loop-region.invariant.1 c.loop-region-test.true c.if-region-gt0.true
    (omega (arith, c.from.ensures, c.if-from-end.true)) h)

pub loop-region-preserved : goal.loop-region-preserved
loop-region-preserved c =
    elim c.if-region-gt0.branch [
      | then-region-gt0+else-from-end w ↦
          past_one c.args.regions.now c.loop-region.end c.if-region-gt0.end c.loop-region.region-index none c.loop-region-test.true (omega (arith, w.from.ensures, w.if-from-end.false))
          (omega (arith, w.end-is, w.from-then-region-gt0.ensures, w.from-then-region-gt0-2.ensures)) c.loop-region.invariant
      | else-region-gt0 w ↦
          past_empty c.args.regions.now c.loop-region.end c.if-region-gt0.end c.loop-region.region-index none c.loop-region-test.true w.if-region-gt0.false w.end-is c.loop-region.invariant
    ]
