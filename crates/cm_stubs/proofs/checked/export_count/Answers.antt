use Rattle.std.proofs.Common.{◌∙◌, Some, None, sym, ap, length}
use Rattle.cm_match.specs.Linked.{components_in}
use Rattle.cm_match.proofs.Follow.{none_at, provider_at}
use Rattle.cm_stubs.proofs.CheckedLaws.{count_none, count_some}
use Rattle.cm_stubs.proofs.checked.export_count.Goals as goal
use Rattle.cm_lemmas.proofs.Lists.{got, map_length}

pub returns-in-Some : goal.returns-in-Some
returns-in-Some c =
    let cs = components_in c.args.linked.now in
    let n = c.args.component in
    let p = c.in-Some.checked in
    let at = provider_at cs c.components.result.now n p c.components.ensures.components (got c.components.result.now n (Some p) c.in-Some.ensures.lookup) in
    sym (ap length c.exports.ensures.are ∙ map_length _ c.exports.result.now) ∙ sym (count_some cs n p.now at)

pub returns-in-None : goal.returns-in-None
returns-in-None c =
    let cs = components_in c.args.linked.now in
    let n = c.args.component in
    sym (count_none cs n (none_at cs c.components.result.now n c.components.ensures.components (got c.components.result.now n None c.in-None.ensures.lookup)))
