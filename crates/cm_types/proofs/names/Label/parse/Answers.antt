use Rattle.std.proofs.Common.{sym}
use Rattle.cm_types.proofs.Labels.{label_is, label_passes, label_fine, fine_label}
use Rattle.cm_types.proofs.names.Label.parse.Goals as goal

pub returns-in-Some-clause-complete : goal.returns-in-Some-clause-complete
returns-in-Some-clause-complete c l = let e = label_fine c.args.text.now (label_passes c.args.text.now l) in cc

pub returns-in-Ok-clause-accepted : goal.returns-in-Ok-clause-accepted
returns-in-Ok-clause-accepted c = label_is c.args.text.now (fine_label c.args.text.now (sym c.in-None.ensures))
