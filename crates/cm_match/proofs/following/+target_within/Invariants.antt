use Rattle.cm_match.proofs.following.+target_within.Given as goal

abbrev pub decreases-target_within : goal.decreases-target_within
decreases-target_within l = l.count
