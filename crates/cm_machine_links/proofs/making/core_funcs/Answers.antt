use Rattle.std.proofs.Common.{◌≡◌, ◌<◌, ◌≤◌, ◌+◌, List, true, is_some, length, take, sym, subst, arith}
use Rattle.std.proofs.lemmas.List.{take_all}
use Rattle.cm_validate_model.specs.Definitions.{CoreFuncDef}
use Rattle.cm_validate_spaces.specs.Checked.{spaces_in}
use Rattle.cm_match.specs.Linked.{set_in}
use Rattle.cm_machine_links.specs.Planning.{core_func_of}
use Rattle.cm_machine_links.specs.Standing.{AllStand}
use Rattle.cm_machine_links.specs.declared.core_funcs.CoreFunc.{CoreFunc}
use Rattle.cm_machine_links.proofs.MadeFacts.{one_more_stands}
use Rattle.cm_machine_links.proofs.making.core_funcs.Goals as goal
use Rattle.cm_lemmas.proofs.Lists.{item_there, got_at}

pub core_func-requires-clause-stands : goal.core_func-requires-clause-stands
core_func-requires-clause-stands c =
    let ds : List CoreFuncDef = (spaces_in c.args.checked.now).core_funcs in
    let lt : c.loop-index.index < length ds = omega (arith, c.loop-index-test.true, c.core_func_count-count.ensures) in
    let at = item_there ds c.loop-index.index lt in
    (at.0, at.1, got_at (λ d. is_some (core_func_of (set_in c.args.linked.now) c.args.component d) ≡ true) ds c.loop-index.index at.0 c.requires.stand at.1)

pub loop-index-preserved : goal.loop-index-preserved
loop-index-preserved c =
    let ds : List CoreFuncDef = (spaces_in c.args.checked.now).core_funcs in
    let set = set_in c.args.linked.now in
    let i = c.loop-index.index in
    let lt : i < length ds = omega (arith, c.loop-index-test.true, c.core_func_count-count.ensures) in
    let at = item_there ds i lt in
    subst (λ (l : List CoreFunc). AllStand set c.args.component (take (i + 1) ds) l) (sym c.in_ok-push.ensures.items)
    (one_more_stands set c.args.component ds c.loop-index.functions.items i at.0 c.in_ok-core_func.field-0 at.1 (c.in_ok-core_func.ensures at.0 at.1) c.loop-index.invariant)

pub returns : goal.returns
returns c =
    let ds : List CoreFuncDef = (spaces_in c.args.checked.now).core_funcs in
    let le : length ds ≤ c.loop-index.index = omega (arith, c.loop-index-test.false, c.core_func_count-count.ensures) in
    subst (λ (l : List CoreFuncDef). AllStand (set_in c.args.linked.now) c.args.component l c.loop-index.functions.items) (take_all c.loop-index.index ds le) c.loop-index.invariant
