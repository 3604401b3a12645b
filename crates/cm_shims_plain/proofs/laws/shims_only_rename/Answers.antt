use Rattle.cm_shims_plain.proofs.RenameLaws.{shims_rename}
use Rattle.cm_shims_plain.proofs.laws.shims_only_rename.Goals as goal

pub returns : goal.returns
returns c = shims_rename
