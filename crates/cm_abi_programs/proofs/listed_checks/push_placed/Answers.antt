use Rattle.std.proofs.Common.{rules, ◌≡◌, ◌∙◌, ap, arith, ◌<◌, length}
use Rattle.cm_abi_programs.specs.Checks.{part_check}
use Rattle.cm_abi_programs.specs.Coded.{checks_in}
use Rattle.cm_abi_programs.specs.declared.checks.Check.TheViews as view
use Rattle.cm_abi_programs.specs.declared.limits.TheConstants.{FEW}
use Rattle.cm_abi_programs.proofs.CheckForms.{seen_Part}
use Rattle.cm_abi_programs.proofs.MakingLemmas.{many_placed}
use Rattle.cm_abi_programs.proofs.listed_checks.push_placed.Goals as goal

pub returns-in_ok-push : goal.returns-in_ok-push
returns-in_ok-push c =
    let copy : c.in_ok-checks.checks.value ≡ c.args.checks.now.value = search rules in
    let count : c.len.result ≡ length c.args.checks.now.value.items = c.len.ensures ∙ (ap (λ v. v.len) c.deref.ensures ∙ c.args.checks.now.value.ok.0) in
    let many : FEW < length c.args.checks.now.value.items = omega (arith, c.if-len-gt-FEW.true, count) in
    ap checks_in c.in_ok-push.ensures.items
    ∙ many_placed c.args.at c.args.checks.now.value.items c.args.all.now.items (view.Part c.args.at c.in_ok-checks.checks) many
    (seen_Part c.args.at c.in_ok-checks.checks ∙ ap (λ v. part_check c.args.at (checks_in v.items)) copy)
