use Rattle.std.proofs.Common.{◌≡◌, arith, subst}
use Rattle.cm_match_model.specs.Sights.{seen_before}
use Rattle.cm_match_serving.specs.ExportTables.{HasExports}
use Rattle.cm_match_serving.specs.Sets.{spaces_of_all}
use Rattle.cm_match_serving.proofs.import_candidates.add_seen.Goals as goal

pub loop-at-preserved : goal.loop-at-preserved
loop-at-preserved c = (omega (arith, c.loop-at-test.true), λ has. c.in_ok-add_if_seen.ensures (c.loop-at.invariant.1 has))

pub returns : goal.returns
returns c = λ has.
    let ends : c.loop-at.at ≡ c.args.to = omega (arith, c.loop-at.invariant.0, c.loop-at-test.false) in
    subst (λ n. HasExports c.loop-at.exports (seen_before (spaces_of_all c.args.components.now) c.args.choices.now.places.items n)) ends (c.loop-at.invariant.1 has)
