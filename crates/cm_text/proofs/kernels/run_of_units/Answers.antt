use Rattle.std.proofs.Common.{◌∙◌, ap}
use Rattle.std.specs.Char.{is_ascii}
use Rattle.std.specs.List.{prefix_len}
use Rattle.cm_text.proofs.LaneLemmas.{run-marked}
use Rattle.cm_text.proofs.kernels.run_of_units.Goals as goal

pub returns : goal.returns
returns c = c.run_of.ensures ∙ ap (prefix_len is_ascii) c.marks_of.ensures ∙ run-marked c.args.low c.args.high
