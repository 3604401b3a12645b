use Rattle.std.proofs.Common.{◌∙◌, Some, None, sym, ap, length}
use Rattle.cm_match_serving.specs.Linkings.{components_in}
use Rattle.cm_match.proofs.Follow.{none_at, provider_at}
use Rattle.cm_match.proofs.Walking.{count_none, count_of}
use Rattle.cm_match.proofs.walk.import_count.Goals as goal
use Rattle.cm_lemmas.proofs.Lists.{got, map_length}

pub returns-in-Some : goal.returns-in-Some
returns-in-Some c = λ s e.
    let cs = components_in c.args.linking.now in
    let n = c.args.component in
    let p = c.in-Some.component in
    let at = provider_at cs c.components.result.now n p c.components.ensures.components (got c.components.result.now n (Some p) c.in-Some.ensures.lookup) in
    count_of cs n p.now s (length c.imports.result.now) at (sym (ap length c.imports.ensures.are ∙ map_length _ c.imports.result.now)) e

pub returns-in-None : goal.returns-in-None
returns-in-None c = λ s e.
    let cs = components_in c.args.linking.now in
    let n = c.args.component in
    count_none cs n s 0 (none_at cs c.components.result.now n c.components.ensures.components (got c.components.result.now n None c.in-None.ensures.lookup)) e
