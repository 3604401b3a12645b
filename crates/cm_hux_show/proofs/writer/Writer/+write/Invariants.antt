use Rattle.std.proofs.Common.{◌+◌, ◌*◌}
use Rattle.cm_hux_show.proofs.writer.Writer.+write.Given as goal

abbrev pub decreases-write_used : goal.decreases-write_used
decreases-write_used l = 3 * l.used.place + 2

abbrev pub decreases-write_spelled : goal.decreases-write_spelled
decreases-write_spelled l = 3 * l.used.place + 1

abbrev pub decreases-write_parts : goal.decreases-write_parts
decreases-write_parts l = 3 * l.used.place
