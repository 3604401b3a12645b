use Rattle.cm_types.proofs.Cuts.{strip_is_without}
use Rattle.cm_types.proofs.extern_names.without_front.Goals as goal

pub returns : goal.returns
returns c = strip_is_without c.args.front.now c.args.text.now c.strip_prefix.result c.strip_prefix.ensures.cases
