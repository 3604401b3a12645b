use Rattle.std.proofs.Common.{◌++◌, sym, ap, ◌∙◌}
use Rattle.cm_validate_items.specs.Items.{fresh_at}
use Rattle.cm_validate_items.proofs.ItemLaws.{fresh_more}
use Rattle.cm_validate_items.proofs.items.fresh_items.Goals as goal

pub loop-number-preserved : goal.loop-number-preserved
loop-number-preserved c =
    fresh_more c.args.items.now c.loop-number.number c.index-items-number.result c.loop-number.fresh.items c.push_fresh.new.fresh.items c.loop-number-test.true c.index-items-number.is
    (c.in_ok-push_fresh.ensures ∙ ap (λ v. c.loop-number.fresh.items ++ fresh_at c.loop-number.number v.desc) (sym c.index-items-number.is)) c.loop-number.invariant
