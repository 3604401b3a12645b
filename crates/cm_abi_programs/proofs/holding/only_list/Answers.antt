use Rattle.cm_abi_programs.proofs.HoldingLemmas.{only_shared, where_ok}
use Rattle.cm_abi_programs.proofs.holding.only_list.Goals as goal

pub returns : goal.returns
returns g c = where_ok c.clone.result _ _ _ c.clone.ensures.cases (λ x same. only_shared c.args.lists.now c.index-lists-0.result x c.requires c.index-lists-0.is same)
