use Rattle.std.proofs.Common.{◌+◌, ◌*◌}
use Rattle.cm_hux_show.proofs.writer.Writer.+prepare.Given as goal

abbrev pub decreases-prepare : goal.decreases-prepare
decreases-prepare l = 2 * l.used.place + 1

abbrev pub decreases-prepare_parts : goal.decreases-prepare_parts
decreases-prepare_parts l = 2 * l.used.place
