use Rattle.std.proofs.Common.{◌≡◌, ◌∙◌, ◌+◌, ◌≤◌, List, Some, map, take, length, sym, ap, subst, arith, slice_get, Global}
use Rattle.std.specs.declared.sync.Arc.{Arc}
use Rattle.std.proofs.lemmas.List.{take_all}
use Rattle.cm_types.specs.Types.{FuncTy}
use Rattle.cm_validate_spaces.specs.Checked.{funcs_in}
use Rattle.cm_validate_spaces.specs.declared.checked.Checked.{Checked}
use Rattle.cm_match.specs.Linked.{components_in, set_in}
use Rattle.cm_match_model.specs.Serving.{standing}
use Rattle.cm_machine_links.specs.Standing.{AreCallTypes, AreTypesOf}
use Rattle.cm_machine_parts.specs.declared.link.CallTypes.{CallTypes}
use Rattle.cm_machine_links.proofs.MadeFacts.{component_at, mapped_more, one_more_types}
use Rattle.cm_machine_links.proofs.making.types_of.Goals as goal

pub loop-component-preserved : goal.loop-component-preserved
loop-component-preserved c =
    let set = set_in c.args.linked.now in
    let cs : List Checked = components_in c.args.linked.now in
    let i = c.loop-component.component in
    let x : Checked = c.index-components-component.result in
    let row = c.in_ok-call_types.field-0 in
    let at : slice_get cs i ≡ Some x = component_at c.components-components.result.now cs i x c.components-components.ensures.components c.loop-component-test.true c.index-components-component.is in
    let types : AreCallTypes (standing set i) (funcs_in x) row.items =
    subst (λ (fs : List FuncTy). AreCallTypes (standing set i) fs row.items) c.types.ensures.funcs c.in_ok-call_types.ensures in
    subst (λ (l : List (List (Arc CallTypes Global))). AreTypesOf set 0 (take (i + 1) cs) l)
    (sym (ap (map (λ v. v.items)) c.in_ok-push.ensures.items ∙ mapped_more c.loop-component.types.items row))
    (one_more_types set cs (map (λ v. v.items) c.loop-component.types.items) i x row.items at types c.loop-component.invariant)

pub returns : goal.returns
returns c =
    let set = set_in c.args.linked.now in
    let cs : List Checked = components_in c.args.linked.now in
    let le : length cs ≤ c.loop-component.component = omega (arith, c.loop-component-test.false, ap length c.components-components.ensures.components) in
    subst (λ (l : List Checked). AreTypesOf set 0 l (map (λ v. v.items) c.loop-component.types.items)) (take_all c.loop-component.component cs le) c.loop-component.invariant
