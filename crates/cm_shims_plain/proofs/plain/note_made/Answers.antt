use Rattle.std.proofs.Common.{◌≡◌, ℕ, ◌-◌, ◌++◌, length, replicate, subst, arith}
use Rattle.cm_shims_plain.proofs.MadeLaws.{more_made}
use Rattle.cm_shims_plain.proofs.plain.note_made.Goals as goal

pub loop-made-preserved : goal.loop-made-preserved
loop-made-preserved c =
    let i = c.loop-made.invariant in (
      omega (arith, i.0),
      omega (arith, i.0, c.loop-made-test.true),
      more_made c.args.from.now.items c.loop-made.from.items c.push.new.self.items (length c.args.from.now.items) c.loop-made._made c.args.instance i.0 i.2 c.in_ok-push.ensures.items,
    )

pub returns : goal.returns
returns c =
    let i = c.loop-made.invariant in
    let old = c.args.from.now.items in
    let all : c.loop-made._made - length old ≡ c.args.count - length old = omega (arith, i.0, i.1, c.loop-made-test.false) in
    subst (λ (k : ℕ). c.loop-made.from.items ≡ old ++ replicate k c.args.instance) all i.2
