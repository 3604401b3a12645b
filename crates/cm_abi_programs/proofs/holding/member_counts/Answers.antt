use Rattle.std.proofs.Common.{rules, ◌≡◌, ◌+◌, ◌∙◌, ap, length}
use Rattle.cm_abi_programs.specs.PlacedFields.{member_count}
use Rattle.cm_abi_programs.proofs.HoldingLemmas.{members_end, members_next}
use Rattle.cm_abi_programs.proofs.holding.member_counts.Goals as goal

pub loop-list-preserved : goal.loop-list-preserved
loop-list-preserved g c =
    let added : c.in_ok-count.count ≡ c.loop-list.count + c.member_count.result = search rules in
    let long : c.len.result ≡ length c.list-item.result.value.items = c.len.ensures ∙ (ap (λ v. v.len) c.deref.ensures ∙ c.list-item.result.value.ok.0) in
    members_next c.args.lists.now c.loop-list.list-index c.loop-list.count c.in_ok-count.count c.list-item.result c.loop-list-test.true c.list-item.is
    (added ∙ ap (λ n. c.loop-list.count + n) (c.member_count.ensures ∙ ap member_count long))
    ∙ c.loop-list.invariant

pub returns : goal.returns
returns g c = members_end c.args.lists.now c.loop-list.list-index c.loop-list.count c.loop-list-test.false ∙ c.loop-list.invariant
