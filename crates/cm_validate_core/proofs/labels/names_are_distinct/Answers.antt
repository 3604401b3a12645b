use Rattle.std.proofs.Common.{[], get_or, refl, ◌∙◌, map}
use Rattle.std.specs.BTreeSet.{contains_text}
use Rattle.cm_validate_core.proofs.DistinctLaws.{distinct_labels, folded, goes_on, met_again, rest_is_distinct-empty}
use Rattle.cm_validate_core.proofs.labels.names_are_distinct.Goals as goal
use Rattle.cm_lemmas.proofs.Lists.{element_again}

pub loop-name-init : goal.loop-name-init
loop-name-init c = rest_is_distinct-empty (contains_text c.new-seen.result) (map (λ x. folded x.now) c.args.names.now) (λ q. rw c.new-seen.ensures.empty refl) ∙ distinct_labels (λ x. x.now) c.args.names.now

pub loop-name-preserved : goal.loop-name-preserved
loop-name-preserved c =
    let name = get_or c.args.names.now c.loop-name.name-index (record { ref_ptr = (0, 0); now = [] }) in
    goes_on (λ x. folded x.now) c.args.names.now c.loop-name.name-index name (contains_text c.loop-name.seen) (contains_text c.add_name.new.seen) (folded name.now) c.in_ok-add_name.field-0 _
    c.loop-name-test.true (element_again c.args.names.now c.loop-name.name-index (record { ref_ptr = (0, 0); now = [] }) name c.loop-name-test.true) refl c.in_ok-add_name.ensures.answer c.if-not-branch.false
    c.in_ok-add_name.ensures.adds c.loop-name.invariant

pub returns-then-not-branch : goal.returns-then-not-branch
returns-then-not-branch c =
    let name = get_or c.args.names.now c.loop-name.name-index (record { ref_ptr = (0, 0); now = [] }) in
    met_again (λ x. folded x.now) c.args.names.now c.loop-name.name-index name (contains_text c.loop-name.seen) c.in_ok-add_name.field-0 _
    c.loop-name-test.true (element_again c.args.names.now c.loop-name.name-index (record { ref_ptr = (0, 0); now = [] }) name c.loop-name-test.true) c.in_ok-add_name.ensures.answer c.if-not-branch.true c.loop-name.invariant
