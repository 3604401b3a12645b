use Rattle.std.proofs.Common.{rules, ◌≡◌, ◌∙◌, ap, arith, ◌<◌, length}
use Rattle.cm_abi_programs.specs.SlotPuts.{part_slot}
use Rattle.cm_abi_programs.specs.CodedSlots.{slots_in}
use Rattle.cm_abi_programs.specs.declared.slots.SlotPut.TheViews as view
use Rattle.cm_abi_programs.specs.declared.limits.TheConstants.{FEW}
use Rattle.cm_abi_programs.proofs.SlotForms.{seen_Part}
use Rattle.cm_abi_programs.proofs.SlotMakingLemmas.{many_placed}
use Rattle.cm_abi_programs.proofs.listed_slots.push_placed.Goals as goal

pub returns-in_ok-push : goal.returns-in_ok-push
returns-in_ok-push c =
    let copy : c.in_ok-puts.puts.value ≡ c.args.puts.now.value = search rules in
    let count : c.len.result ≡ length c.args.puts.now.value.items = c.len.ensures ∙ (ap (λ v. v.len) c.deref.ensures ∙ c.args.puts.now.value.ok.0) in
    let many : FEW < length c.args.puts.now.value.items = omega (arith, c.if-len-gt-FEW.true, count) in
    ap slots_in c.in_ok-push.ensures.items
    ∙ many_placed c.args.at c.args.puts.now.value.items c.args.all.now.items (view.Part c.args.at c.in_ok-puts.puts) many
    (seen_Part c.args.at c.in_ok-puts.puts ∙ ap (λ v. part_slot c.args.at (slots_in v.items)) copy)
