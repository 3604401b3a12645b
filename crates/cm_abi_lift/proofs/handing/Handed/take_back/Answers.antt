use Rattle.std.proofs.Common.{ap, sym, ◌∙◌, ◌≡◌, ◌+◌, ◌-◌, arith, Ok}
use Rattle.cm_abi_lift.specs.HandingOver.{hands_of, untouched}
use Rattle.cm_abi_lift.proofs.HandLaws.{first_less}
use Rattle.cm_abi_lift.proofs.handing.Handed.take_back.Goals as goal

pub undo-requires : goal.undo-requires
undo-requires c =
    let step : c.loop-left.left ≡ c.loop-left.left - 1 + 1 = omega (arith, c.loop-left-test.true) in
    let less = first_less (untouched c.requires.all.0) (hands_of c.loop-left.table.handles c.loop-left.self) c.args.met.now c.loop-left.left (c.loop-left.left - 1) _ step c.loop-left.invariant.0 (c.loop-left.invariant.1 c.requires.all.0 c.requires.all.1) in
    record { last = (less.0, less.2) }

pub loop-left-preserved : goal.loop-left-preserved
loop-left-preserved c =
    let step : c.loop-left.left ≡ c.loop-left.left - 1 + 1 = omega (arith, c.loop-left-test.true) in (
      omega (arith, c.loop-left.invariant.0),
      (λ before e.
          let less = first_less (untouched before) (hands_of c.loop-left.table.handles c.loop-left.self) c.args.met.now c.loop-left.left (c.loop-left.left - 1) _ step c.loop-left.invariant.0 (c.loop-left.invariant.1 before e) in
          less.1 ∙ ap Ok (sym (c.undo.ensures.undone less.0 less.2))),
      omega (arith, c.loop-left.invariant.2, c.undo.ensures.room),
    )
