use Rattle.std.proofs.Common.{◌≡◌, true, false, inr, rules}
use Rattle.cm_wit_conforms.specs.Conformance.{Fits}
use Rattle.cm_wit_conforms.specs.Views.{comparison_of, entry_of}
use Rattle.cm_wit_conforms.proofs.FaultLaws.{all_fit, first_here, fit_more, told_false, told_true}
use Rattle.cm_wit_conforms.proofs.fit.judge.Goals as goal

pub loop-each-init : goal.loop-each-init
loop-each-init c = (λ all sides. tt, c.new-tables.ensures c.args.have.now c.args.world.now)

pub returns-then-not-branch-clause-err : goal.returns-then-not-branch-clause-err
returns-then-not-branch-clause-err c =
    let h = c.args.have.now.types.now in
    let w = c.args.world.now.types.now in
    let isnt : c.in_ok-fits.field-0 ≡ false = search rules in
    inr (λ all sides. first_here (entry_of h w) c.args.judged.now all c.loop-each.each-index c.each-item.result c.reason.result c.loop-each-test.true c.each-item.is (c.loop-each.invariant.0 all sides)
    (told_false c.in_ok-fits.field-0 (Fits all (comparison_of h w c.each-item.result.what)) (c.in_ok-fits.ensures.fits all sides) isnt) (c.reason.ensures h w))

pub loop-each-preserved : goal.loop-each-preserved
loop-each-preserved c =
    let h = c.args.have.now.types.now in
    let w = c.args.world.now.types.now in
    let is : c.in_ok-fits.field-0 ≡ true = search rules in (
      λ all sides. fit_more (entry_of h w) c.args.judged.now all c.loop-each.each-index c.each-item.result c.loop-each-test.true c.each-item.is (c.loop-each.invariant.0 all sides)
          (told_true c.in_ok-fits.field-0 (Fits all (comparison_of h w c.each-item.result.what)) (c.in_ok-fits.ensures.fits all sides) is),
      c.in_ok-fits.ensures.known,
    )

pub returns-clause-ok : goal.returns-clause-ok
returns-clause-ok c = λ all sides. all_fit (entry_of c.args.have.now.types.now c.args.world.now.types.now) c.args.judged.now all c.loop-each.each-index c.loop-each-test.false (c.loop-each.invariant.0 all sides)
