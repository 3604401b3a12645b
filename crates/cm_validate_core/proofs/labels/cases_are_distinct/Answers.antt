use Rattle.std.proofs.Common.{refl, ◌∙◌, map}
use Rattle.std.specs.BTreeSet.{contains_text}
use Rattle.cm_validate_core.proofs.DistinctLaws.{rest_is_distinct-empty, goes_on, distinct_labels, folded}
use Rattle.cm_validate_core.proofs.labels.cases_are_distinct.Goals as goal

pub loop-case-init : goal.loop-case-init
loop-case-init c = rest_is_distinct-empty (contains_text c.new-seen.result) (map (λ x. folded x.label) c.args.cases.now) (λ q. rw c.new-seen.ensures.empty refl) ∙ distinct_labels (λ x. x.label) c.args.cases.now

pub loop-case-preserved : goal.loop-case-preserved
loop-case-preserved c =
    goes_on (λ x. folded x.label) c.args.cases.now c.loop-case.case-index c.case-item.result (contains_text c.loop-case.seen) (contains_text c.add_label.new.seen) (folded c.case-item.result.label) c.in_ok-add_label.field-0 _ c.loop-case-test.true c.case-item.is refl c.in_ok-add_label.ensures.answer c.if-not-branch.false c.in_ok-add_label.ensures.adds c.loop-case.invariant
