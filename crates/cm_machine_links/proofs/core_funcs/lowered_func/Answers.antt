use Rattle.std.proofs.Common.{◌≡◌, ◌∙◌, Some, refl, ap, sym, subst}
use Rattle.std.specs.Option.{option_map}
use Rattle.cm_types.specs.Types.{FuncTy}
use Rattle.cm_types_arena.specs.TypeDefs.{func_at}
use Rattle.cm_types_arena.specs.Placed.{moved_by}
use Rattle.cm_types_arena.specs.Replaced.{replaced_func}
use Rattle.cm_match.specs.Linked.{components_in, set_in}
use Rattle.cm_match.specs.Targets.{target_def}
use Rattle.cm_match_model.specs.Imports.{links_of}
use Rattle.cm_match_model.specs.Serving.{standing}
use Rattle.cm_match_model.specs.Targets.{Target, targets_of}
use Rattle.cm_match_serving.specs.Sets.{funcs_at}
use Rattle.cm_machine_links.specs.Standing.{IsCallTypes, IsSpelled}
use Rattle.cm_machine_links.proofs.MadeFacts.{stands_lowered}
use Rattle.cm_machine_links.proofs.TypesAt.{link_is}
use Rattle.cm_machine_links.proofs.core_funcs.lowered_func.Goals as goal

pub returns : goal.returns
returns c = λ ty.
    let set = set_in c.args.linked.now in
    let t : Target = target_def (components_in c.args.linked.now) c.in-Some.target in
    let found : targets_of set.spaces (links_of set) c.args.component c.args.import c.args.item ≡ Some t = sym c.target.ensures.target ∙ ap (option_map (target_def (components_in c.args.linked.now))) c.in-Some.is in
    let f : FuncTy = func_at (funcs_at (components_in c.args.linked.now) c.in-Some.target.component) c.in-Some.target.ty.place in
    let stays : f ≡ t.ty = sym (ap (λ b. replaced_func (moved_by b) f) c.in-Some.ensures.unmoved ∙ c.unmoved.ensures.funcs f) in
    let types : IsCallTypes (standing set t.component) t.ty c.in_ok-types.types.value = subst (λ (x : FuncTy). IsCallTypes (standing set t.component) x c.in_ok-types.types.value) stays c.in_ok-types.ensures.passes in
    let spelled : IsSpelled t.ty = subst IsSpelled stays c.in_ok-types.ensures.spelled in
    stands_lowered set c.args.component c.args.import c.args.item ty c.args.options.now t _ found
    (link_is set c.args.options.now t _ c.what_stays.ensures.spellable refl refl c.post_return.ensures c.lift_lower_options.ensures c.lift_lower_options-2.ensures types spelled)
