use Rattle.std.proofs.Common.{arith}
use Rattle.cm_binary.specs.Views.{progress}
use Rattle.cm_binary.proofs.PieceLaws.{follows, open_follows, settled, held_waits}
use Rattle.cm_binary.proofs.decoder.Decoder.feed.Goals as goal

pub returns-in-Ok-clause-ok : goal.returns-in-Ok-clause-ok
returns-in-Ok-clause-ok c =
    let w = held_waits c.self.inside.fault (progress c.self.inside.front) c.self.inside.kept.items c.in_default.is c.self.invariant in
    rw (← c.self.view_is) (follows _ _ c.args.piece.now c.in_default.is c.in_default.is w c.in-Ok.ensures.ok)

pub returns-in-Ok-clause-unsettled : goal.returns-in-Ok-clause-unsettled
returns-in-Ok-clause-unsettled c =
    let w = held_waits c.self.inside.fault (progress c.self.inside.front) c.self.inside.kept.items c.in_default.is c.self.invariant in
    rw (← c.self.view_is) (open_follows _ _ c.args.piece.now c.in_default.is c.in_default.is w c.in-Ok.ensures.ok (λ i. omega (arith, c.type_inv.piece i)))

pub returns-in-Err-clause-settled : goal.returns-in-Err-clause-settled
returns-in-Err-clause-settled c =
    let w = held_waits c.self.inside.fault (progress c.self.inside.front) c.self.inside.kept.items c.in_default.is c.self.invariant in
    rw (← c.self.view_is) (settled _ c.args.piece.now c.in-Err.fault c.in_default.is w c.in-Err.ensures.err)
