use Rattle.std.proofs.Common.{rules, ◌≡◌, ◌++◌, ◌∷◌, []}
use Rattle.cm_validate.proofs.ExternLaws.{all_shown, next_shown}
use Rattle.cm_validate.proofs.MadeLaws.{numbered_at}
use Rattle.cm_validate.proofs.externs.exported_externs.Goals as goal

pub loop-at-preserved : goal.loop-at-preserved
loop-at-preserved c = λ types funcs s shared exports.
    let xs = c.args.exports.now in
    let at = c.loop-at.at in
    let x = c.index-exports-at.result in
    let e = c.in_ok-exported_extern.field-0 in
    let pushed : c.push.new.self.items ≡ c.loop-at.externs.items ++ e ∷ [] = search rules in
    let so_far = c.loop-at.invariant types funcs s shared exports in
    let numbered = numbered_at types funcs s c.args.shared.now xs at x c.exported_instance-number.result c.loop-at-test.true c.index-exports-at.is c.exported_instance-number.ensures shared exports in (
      c.in_ok-exported_extern.ensures.made types funcs s so_far.0 numbered,
      next_shown types funcs xs c.loop-at.externs.items c.push.new.self.items at x e c.loop-at-test.true c.index-exports-at.is pushed (c.in_ok-exported_extern.ensures.is types funcs s so_far.0 numbered) so_far.1,
    )

pub returns : goal.returns
returns c = λ types funcs s shared exports.
    all_shown types funcs c.args.exports.now c.loop-at.externs.items c.loop-at.at c.loop-at-test.false (c.loop-at.invariant types funcs s shared exports).1
