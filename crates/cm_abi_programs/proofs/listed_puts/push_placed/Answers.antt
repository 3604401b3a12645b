use Rattle.std.proofs.Common.{rules, ◌≡◌, ◌∙◌, ap, sym, arith, ◌<◌, length}
use Rattle.std.proofs.lemmas.Result.{on_ok_weaker}
use Rattle.cm_abi_programs.specs.Puts.{part_put, with_put}
use Rattle.cm_abi_programs.specs.CodedPuts.{puts_in}
use Rattle.cm_abi_programs.specs.declared.limits.TheConstants.{FEW}
use Rattle.cm_abi_programs.proofs.PutForms.{seen_Part}
use Rattle.cm_abi_programs.proofs.PutMakingLemmas.{placed_many}
use Rattle.cm_abi_programs.proofs.listed_puts.push_placed.Goals as goal

pub returns-in_ok-puts : goal.returns-in_ok-puts
returns-in_ok-puts c =
    let copy : c.in_ok-puts.puts.value ≡ c.args.puts.now.value = search rules in
    let count : c.len.result ≡ length c.args.puts.now.value.items = c.len.ensures ∙ (ap (λ v. v.len) c.deref.ensures ∙ c.args.puts.now.value.ok.0) in
    let many : FEW < length c.args.puts.now.value.items = omega (arith, c.if-len-gt-FEW.true, count) in
    on_ok_weaker c.push_put.result
    (λ e. e
    ∙ (ap (λ d. with_put (puts_in c.args.all.now.items) d) (seen_Part c.args.at c.in_ok-puts.puts ∙ ap (λ v. part_put c.args.at (puts_in v.items)) copy)
    ∙ sym (placed_many c.args.at (puts_in c.args.all.now.items) c.args.puts.now.value.items many)))
    c.push_put.ensures
