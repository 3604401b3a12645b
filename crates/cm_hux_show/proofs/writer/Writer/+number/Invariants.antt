use Rattle.cm_hux_show.proofs.writer.Writer.+number.Given as goal

abbrev pub decreases-number : goal.decreases-number
decreases-number l = l.used.place
