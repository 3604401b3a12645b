use Rattle.std.proofs.lemmas.List.{drop_all}
use Rattle.cm_host_values.proofs.RequestingLaws.{all_done}
use Rattle.cm_host_values.proofs.requesting.answers.Goals as goal

pub returns-clause-ok : goal.returns-clause-ok
returns-clause-ok c =
    let i = c.loop-request.request-index in
    let none = drop_all i c.args.requests.now c.loop-request-test.false in
    all_done c.args.regions.now c.loop-request.regions c.args.requests.now i c.loop-request.answers.items none c.loop-request.invariant.0
