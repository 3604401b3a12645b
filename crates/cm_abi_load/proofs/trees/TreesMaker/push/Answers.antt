use Rattle.cm_abi_load.proofs.TreeLemmas.{row_push}
use Rattle.cm_abi_load.proofs.trees.TreesMaker.push.Goals as goal

pub returns-clause-ok : goal.returns-clause-ok
returns-clause-ok c = λ vs v is there. row_push c.args.row.now.items c.push.new.self.items c.args.made vs v c.in_ok-push.ensures.items is there
