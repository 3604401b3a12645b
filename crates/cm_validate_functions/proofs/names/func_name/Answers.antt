use Rattle.std.proofs.Common.{◌≡◌, arith}
use Rattle.std.proofs.lemmas.Str.Pattern.{split_once_first}
use Rattle.cm_validate_functions.proofs.NameLaws.{parts_whole}
use Rattle.cm_validate_functions.proofs.names.func_name.Goals as goal

pub returns-in-None : goal.returns-in-None
returns-in-None c =
    let h = split_once_first 35 c.args.text.now c.split_once.result c.split_once.ensures.cases (omega arith) in
    parts_whole c.args.text.now (rw c.in-None.is at h)
