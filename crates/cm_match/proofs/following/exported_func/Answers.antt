use Rattle.std.proofs.Common.{◌≡◌, ◌∙◌, Some, sym, ap, subst, IfSome, length, true}
use Rattle.std.specs.Option.{option_map}
use Rattle.cm_match_serving.specs.cm_validate_entries.Entries.{func_def, is_func_there}
use Rattle.cm_match_serving.specs.Linkings.{components_in}
use Rattle.cm_match.proofs.Follow.{exported_by, funcs_of_it, provider_at}
use Rattle.cm_match.proofs.following.exported_func.Goals as goal
use Rattle.cm_lemmas.proofs.Lists.{got}

pub returns-clause-is : goal.returns-clause-is
returns-clause-is c =
    let cs = components_in c.args.linking.now in
    let n = c.args.link.component in
    let p = c.in_ok-provider.provider in
    let e = provider_at cs c.components.result.now n p c.components.ensures.components (got c.components.result.now n (Some p) c.in_ok-provider.ensures.lookup) in
    ap (λ fs. option_map (func_def fs) c.func.result) (funcs_of_it cs n p.now e) ∙ c.func.ensures.is ∙ exported_by cs n c.args.link.export (option_map (λ x. x.now) c.args.name) p.now e

pub returns-clause-there : goal.returns-clause-there
returns-clause-there c =
    let cs = components_in c.args.linking.now in
    let n = c.args.link.component in
    let p = c.in_ok-provider.provider in
    let e = provider_at cs c.components.result.now n p c.components.ensures.components (got c.components.result.now n (Some p) c.in_ok-provider.ensures.lookup) in
    subst (λ fs. IfSome c.func.result (λ f. is_func_there (length fs) f ≡ true)) (sym (funcs_of_it cs n p.now e)) c.func.ensures.there
