use Rattle.cm_abi_requests.proofs.AskingLemmas.{tag_behind}
use Rattle.cm_abi_requests.proofs.asking.next_tag.Goals as goal

pub returns-then-asked-tags-clause-behind : goal.returns-then-asked-tags-clause-behind
returns-then-asked-tags-clause-behind c = λ cs. tag_behind c.args.tags.now c.args.asked.now.next cs c.if-asked-tags.true
