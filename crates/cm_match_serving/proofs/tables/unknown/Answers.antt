use Rattle.std.proofs.Common.{◌∙◌, ◌+◌, ◌∷◌, [], length, ap, sym, subst, length-append}
use Rattle.cm_match_serving.specs.Knowing.{AreUnknown}
use Rattle.cm_match_serving.proofs.Known.{unknown_next}
use Rattle.cm_match_serving.proofs.tables.unknown.Goals as goal

pub loop-component-preserved : goal.loop-component-preserved
loop-component-preserved c =
    let items = c.in_ok-push.ensures.items in (
      ap length items ∙ length-append c.loop-component.known.items (c.new.result ∷ []) ∙ ap (λ n. n + 1) c.loop-component.invariant.0,
      subst AreUnknown (sym items) (unknown_next c.loop-component.known.items c.new.result c.loop-component.invariant.1 c.new.ensures),
    )
