use Rattle.std.proofs.Common.{refl, ◌∙◌, map}
use Rattle.std.specs.BTreeSet.{contains_text}
use Rattle.cm_validate_core.proofs.DistinctLaws.{rest_is_distinct-empty, goes_on, distinct_folded, folded}
use Rattle.cm_validate_core.proofs.labels.are_distinct.Goals as goal

pub loop-label-init : goal.loop-label-init
loop-label-init c = rest_is_distinct-empty (contains_text c.new-seen.result) (map folded c.args.labels.now) (λ q. rw c.new-seen.ensures.empty refl) ∙ distinct_folded c.args.labels.now

pub loop-label-preserved : goal.loop-label-preserved
loop-label-preserved c =
    goes_on folded c.args.labels.now c.loop-label.label-index c.label-item.result (contains_text c.loop-label.seen) (contains_text c.add_label.new.seen) (folded c.label-item.result) c.in_ok-add_label.field-0 _ c.loop-label-test.true c.label-item.is refl c.in_ok-add_label.ensures.answer c.if-not-branch.false c.in_ok-add_label.ensures.adds c.loop-label.invariant
