use Rattle.std.proofs.Common.{◌<◌, Some, arith, sym, ◌∙◌, ap}
use Rattle.cm_match_serving.specs.Linkings.{set_in}
use Rattle.cm_match_serving.proofs.Links.{one_earlier}
use Rattle.cm_match_serving.proofs.linking.Linking.link.Goals as goal

pub overflow_cast-result : goal.overflow_cast-result
overflow_cast-result c =
    let lt : c.in-One.component < c.args.component = one_earlier (set_in c.args.self.now) c.args.component c.args.import c.in-One.component c.in-One.export (c.links_lead_earlier.ensures (set_in c.args.self.now)) (sym c.candidate.ensures ∙ c.in_ok-component.was ∙ ap Some c.in-One.is) in
    omega (arith, lt, c.ranges.component.fits)
