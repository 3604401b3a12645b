use Rattle.std.proofs.Common.{refl, ◌∙◌, map}
use Rattle.std.specs.BTreeSet.{contains_text}
use Rattle.cm_validate_core.proofs.DistinctLaws.{rest_is_distinct-empty, goes_on, distinct_labels, folded}
use Rattle.cm_validate_core.proofs.labels.fields_are_distinct.Goals as goal

pub loop-field-init : goal.loop-field-init
loop-field-init c = rest_is_distinct-empty (contains_text c.new-seen.result) (map (λ x. folded x.label) c.args.fields.now) (λ q. rw c.new-seen.ensures.empty refl) ∙ distinct_labels (λ x. x.label) c.args.fields.now

pub loop-field-preserved : goal.loop-field-preserved
loop-field-preserved c =
    goes_on (λ x. folded x.label) c.args.fields.now c.loop-field.field-index c.field-item.result (contains_text c.loop-field.seen) (contains_text c.add_label.new.seen) (folded c.field-item.result.label) c.in_ok-add_label.field-0 _ c.loop-field-test.true c.field-item.is refl c.in_ok-add_label.ensures.answer c.if-not-branch.false c.in_ok-add_label.ensures.adds c.loop-field.invariant
