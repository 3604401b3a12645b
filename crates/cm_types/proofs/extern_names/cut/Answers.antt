use Rattle.cm_types.proofs.Cuts.{split_is_cut}
use Rattle.cm_types.proofs.extern_names.cut.Goals as goal

pub returns : goal.returns
returns c = split_is_cut c.args.separator c.args.text.now c.split_once.result c.requires c.split_once.ensures.cases
