use Rattle.std.proofs.Common.{◌≡◌, ◌∙◌, ◌+◌, ◌≤◌, List, Some, map, take, length, sym, ap, subst, arith, slice_get}
use Rattle.std.specs.Option.{option_map}
use Rattle.std.proofs.lemmas.List.{take_all}
use Rattle.cm_validate_model.specs.Spaces.{Spaces}
use Rattle.cm_validate_spaces.specs.Checked.{spaces_in}
use Rattle.cm_validate_spaces.specs.declared.checked.Checked.{Checked}
use Rattle.cm_match.specs.Linked.{components_in, set_in}
use Rattle.cm_match_model.specs.Imports.{LinkSet}
use Rattle.cm_machine_links.specs.Standing.{RowsStand}
use Rattle.cm_machine_links.specs.declared.core_funcs.CoreFunc.{CoreFunc}
use Rattle.cm_machine_links.proofs.MadeFacts.{component_at, one_more_row, rows_more}
use Rattle.cm_machine_links.proofs.PlanFacts.{row_stands}
use Rattle.cm_machine_links.proofs.making.rows_of.Goals as goal
use Rattle.cm_match_serving.proofs.Judging.{set_length}
use Rattle.cm_match_serving.proofs.Rows.{set_at}

pub core_funcs-requires-clause-stand : goal.core_funcs-requires-clause-stand
core_funcs-requires-clause-stand c =
    let set = set_in c.args.linked.now in
    let cs : List Checked = components_in c.args.linked.now in
    let i = c.loop-component.component in
    let x : Checked = c.index-components-component.result in
    let at : slice_get cs i ≡ Some x = component_at c.components-components.result.now cs i x c.components-components.ensures.components c.loop-component-test.true c.index-components-component.is in
    row_stands set 0 set.spaces i i (spaces_in x) (omega arith) c.core_functions_stand.ensures.each (set_at cs i ∙ ap (option_map spaces_in) at)

pub loop-component-preserved : goal.loop-component-preserved
loop-component-preserved c =
    let set : LinkSet = set_in c.args.linked.now in
    let cs : List Checked = components_in c.args.linked.now in
    let i = c.loop-component.component in
    let x : Checked = c.index-components-component.result in
    let row = c.in_ok-core_funcs.field-0 in
    let at : slice_get cs i ≡ Some x = component_at c.components-components.result.now cs i x c.components-components.ensures.components c.loop-component-test.true c.index-components-component.is in
    subst (λ (l : List (List CoreFunc)). RowsStand set 0 (take (i + 1) set.spaces) l)
    (sym (ap (map (λ v. v.items)) c.in_ok-push.ensures.items ∙ rows_more c.loop-component.rows.items row))
    (one_more_row set set.spaces (map (λ v. v.items) c.loop-component.rows.items) i (spaces_in x) row.items (set_at cs i ∙ ap (option_map spaces_in) at) c.in_ok-core_funcs.ensures c.loop-component.invariant)

pub returns : goal.returns
returns c =
    let set : LinkSet = set_in c.args.linked.now in
    let le : length set.spaces ≤ c.loop-component.component = omega (arith, c.loop-component-test.false, ap length c.components-components.ensures.components, set_length (components_in c.args.linked.now)) in
    subst (λ (l : List Spaces). RowsStand set 0 l (map (λ v. v.items) c.loop-component.rows.items)) (take_all c.loop-component.component set.spaces le) c.loop-component.invariant
