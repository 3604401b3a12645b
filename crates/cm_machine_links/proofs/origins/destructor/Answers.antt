use Rattle.std.proofs.Common.{◌≡◌, ◌∙◌, Some, List, ap, sym, slice_get, option_and_then}
use Rattle.cm_validate_items.specs.Ranges.{resource_def}
use Rattle.cm_validate_items.specs.declared.ranges.Resource.{Resource}
use Rattle.cm_validate_spaces.specs.declared.checked.Checked.{Checked}
use Rattle.cm_match.specs.Linked.{components_in, set_in}
use Rattle.cm_machine_links.specs.Planning.{destructor_in}
use Rattle.cm_machine_links.proofs.MadeFacts.{destructor_by}
use Rattle.cm_machine_links.proofs.origins.destructor.Goals as goal
use Rattle.cm_lemmas.proofs.Lists.{got}

pub returns-in_err-destructor : goal.returns-in_err-destructor
returns-in_err-destructor c =
    let cs : List Checked = components_in c.args.linked.now in
    let k = c.args.resource.component in
    let d = c.in_ok-definer.definer in
    let here : slice_get cs k ≡ Some d.now = sym (got c.components.result.now k (Some d) c.in_ok-definer.ensures.lookup ∙ ap (λ (l : List Checked). slice_get l k) c.components.ensures.components) in
    c.from_residual-in_err-destructor.ensures ∙ sym (destructor_by cs (set_in c.args.linked.now).sees c.args.resource d.now here ∙ ap (option_and_then destructor_in) (sym c.in_err-destructor.ensures))

pub returns-in-Defined : goal.returns-in-Defined
returns-in-Defined c =
    let cs : List Checked = components_in c.args.linked.now in
    let k = c.args.resource.component in
    let d = c.in_ok-definer.definer in
    let here : slice_get cs k ≡ Some d.now = sym (got c.components.result.now k (Some d) c.in_ok-definer.ensures.lookup ∙ ap (λ (l : List Checked). slice_get l k) c.components.ensures.components) in
    sym (destructor_by cs (set_in c.args.linked.now).sees c.args.resource d.now here ∙ ap (option_and_then destructor_in) (sym c.in_ok-destructor.ensures ∙ ap (λ (x : Resource). Some (resource_def x)) c.in-Defined.is))

pub returns-in-Brought : goal.returns-in-Brought
returns-in-Brought c =
    let cs : List Checked = components_in c.args.linked.now in
    let k = c.args.resource.component in
    let d = c.in_ok-definer.definer in
    let here : slice_get cs k ≡ Some d.now = sym (got c.components.result.now k (Some d) c.in_ok-definer.ensures.lookup ∙ ap (λ (l : List Checked). slice_get l k) c.components.ensures.components) in
    sym (destructor_by cs (set_in c.args.linked.now).sees c.args.resource d.now here ∙ ap (option_and_then destructor_in) (sym c.in_ok-destructor.ensures ∙ ap (λ (x : Resource). Some (resource_def x)) c.in-Brought.is))
