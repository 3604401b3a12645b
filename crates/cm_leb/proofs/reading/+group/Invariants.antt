use Rattle.cm_leb.proofs.reading.+group.Given as goal

abbrev pub decreases-group : goal.decreases-group
decreases-group l = l.room
