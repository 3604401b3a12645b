use Rattle.std.proofs.Common.{◌≡◌, ◌∙◌, is_some, true, sym, subst, ap}
use Rattle.std.specs.Option.{option_map}
use Rattle.std.proofs.lemmas.Result.{IfOk-weaker}
use Rattle.cm_types.specs.Types.{FuncTy}
use Rattle.cm_types_arena.specs.Placed.{placed_func}
use Rattle.cm_validate_model.specs.Definitions.{CoreFuncDef, lowered}
use Rattle.cm_validate_spaces.specs.Checked.{funcs_in}
use Rattle.cm_validate_spaces.specs.Made.{made_def}
use Rattle.cm_machine_model.specs.Plan as plan
use Rattle.cm_match_model.specs.Imports.{links_of}
use Rattle.cm_match_model.specs.Targets.{Target, targets_of}
use Rattle.cm_match.specs.Linked.{set_in}
use Rattle.cm_machine_links.specs.Planning.{core_func_of, link_to}
use Rattle.cm_machine_links.specs.Standing.{Stands}
use Rattle.cm_machine_links.proofs.core_funcs.made_func.Goals as goal
use Rattle.cm_lemmas.proofs.Options.{some_mapped}

pub lowered_func-requires-clause-there : goal.lowered_func-requires-clause-there
lowered_func-requires-clause-there c =
    let set = set_in c.args.linked.now in
    let funcs = funcs_in c.args.checked.now in
    let os = c.in-Lowered.options.now in
    let ty : FuncTy = placed_func funcs c.in-Lowered.ty in
    let to = targets_of set.spaces (links_of set) c.args.component c.in-Lowered.import c.in-Lowered.item in
    let stands : is_some (core_func_of set c.args.component (lowered c.in-Lowered.import c.in-Lowered.item ty os)) ≡ true =
    subst (λ (d : CoreFuncDef). is_some (core_func_of set c.args.component d) ≡ true) (ap (made_def funcs) c.in-Lowered.is) c.requires.stands in
    sym (some_mapped (λ (t : Target). plan.lowered (link_to set os t)) to) ∙ stands

pub returns-in-Lowered : goal.returns-in-Lowered
returns-in-Lowered c =
    let set = set_in c.args.linked.now in
    let funcs = funcs_in c.args.checked.now in
    let ty : FuncTy = placed_func funcs c.in-Lowered.ty in
    let is : lowered c.in-Lowered.import c.in-Lowered.item ty c.in-Lowered.options.now ≡ made_def funcs c.args.made.now = sym (ap (made_def funcs) c.in-Lowered.is) in
    IfOk-weaker c.lowered_func.result (λ f. (ty : FuncTy) → Stands set c.args.component (lowered c.in-Lowered.import c.in-Lowered.item ty c.in-Lowered.options.now) f) (λ f. Stands set c.args.component (made_def funcs c.args.made.now) f)
    (λ f h. subst (λ (d : CoreFuncDef). Stands set c.args.component d f) is (h ty)) c.lowered_func.ensures
