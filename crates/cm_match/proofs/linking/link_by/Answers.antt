use Rattle.std.proofs.Common.{rules, ◌<◌, ◌≤◌, arith, length, subst, List}
use Rattle.cm_match_model.specs.Sights.{sees_in}
use Rattle.cm_match_model.specs.declared.plan.TheConstants.{MAX_COMPONENTS}
use Rattle.cm_match_serving.specs.cm_validate_spaces.declared.checked.Checked.{Checked}
use Rattle.cm_match_serving.specs.Candidates.{AreCandidates}
use Rattle.cm_match_serving.specs.Sets.{set_by}
use Rattle.cm_match.proofs.Walking.{fault_set, linked_set, memory_set, plan_set}
use Rattle.cm_match.proofs.linking.link_by.Goals as goal

pub invariant_of-result : goal.invariant_of-result
invariant_of-result c =
    let cs = c.args.components.items in
    let sees = sees_in c.args.choices in
    let some : 0 < length cs = search rules in
    let few : length cs ≤ MAX_COMPONENTS = omega arith in
    record {
      can_be_linked = ∣ linked_set cs c.deref-2.result.now sees c.in-Ok-plan_of.plan.items c.deref-2.ensures.value some few c.in-Ok-plan_of.ensures.served ∣₁;
      found = subst (λ (xs : List Checked). AreCandidates (set_by xs c.args.choices) c.in-Ok.candidates.items) c.deref.ensures.value c.in-Ok.ensures;
      planned = plan_set cs c.deref-2.result.now sees c.in-Ok-plan_of.plan.items c.deref-2.ensures.value c.in-Ok-plan_of.ensures.served;
      few = few;
    }

pub returns-clause-complete : goal.returns-clause-complete
returns-clause-complete c =
    let cs = c.args.components.items in
    let some : 0 < length cs = search rules in
    let few : length cs ≤ MAX_COMPONENTS = omega arith in
    memory_set cs c.deref-2.result.now (sees_in c.args.choices) c.in-Err.fault (c.sets_have_one_answer.ensures.never_both (set_by cs c.args.choices) c.in-Err.fault.component c.in-Err.fault.import c.in-Err.fault.reason) c.deref-2.ensures.value some few c.in-Err.ensures.fault

pub returns-clause-refused : goal.returns-clause-refused
returns-clause-refused c =
    let cs = c.args.components.items in
    let some : 0 < length cs = search rules in
    let few : length cs ≤ MAX_COMPONENTS = omega arith in
    fault_set cs c.deref-2.result.now (sees_in c.args.choices) c.in-Err.fault c.deref-2.ensures.value some few c.in-Err.ensures.fault
