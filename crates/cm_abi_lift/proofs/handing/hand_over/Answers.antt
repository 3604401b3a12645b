use Rattle.std.proofs.Common.{inl, inr, ◌≡◌, ◌+◌, ◌^◌, arith, subst, Err}
use Rattle.cm_abi_model.specs.Lifts.{LendsBelow}
use Rattle.cm_abi_lift.specs.HandingOver.{hands_of, untouched}
use Rattle.cm_abi_lift.proofs.HandLaws.{all_fail, below_next, first_more}
use Rattle.cm_abi_lift.proofs.handing.hand_over.Goals as goal

pub returns-in-Err-clause-err : goal.returns-in-Err-clause-err
returns-in-Err-clause-err c = elim c.in-Err.ensures.err [
  | inl e ↦ inl e
  | inr e ↦ inr (all_fail (untouched c.args.table.now.handles) c.args.met.now (c.loop-i.i + 1) c.in-Err.fault (first_more (untouched c.args.table.now.handles) (hands_of c.loop-i.table.handles c.loop-i.handed) c.args.met.now c.loop-i.i _ (Err c.in-Err.fault) c.loop-i-test.true c.loop-i.invariant.0 e))
]

pub loop-i-preserved : goal.loop-i-preserved
loop-i-preserved c =
    let shape : 2 ^ 100 + c.loop-i.i + 1 ≡ 2 ^ 100 + (c.loop-i.i + 1) = omega arith in (
      first_more (untouched c.args.table.now.handles) (hands_of c.loop-i.table.handles c.loop-i.handed) c.args.met.now c.loop-i.i _ _ c.loop-i-test.true c.loop-i.invariant.0 c.in_default.ensures.ok,
      subst (λ n. LendsBelow n c.add.new.table.handles) shape (below_next (2 ^ 100 + c.loop-i.i) (hands_of c.loop-i.table.handles c.loop-i.handed) (hands_of c.add.new.table.handles c.add.new.self) _ _ c.in_default.ensures.ok c.loop-i.invariant.1),
      omega (arith, c.loop-i.invariant.2, c.in_default.ensures.room),
    )
