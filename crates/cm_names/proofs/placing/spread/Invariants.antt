use Rattle.std.proofs.Common.{◌≡◌, length, map}
use Rattle.std.specs.String.{string_bytes}
use Rattle.cm_names.proofs.FindingLaws.{AreFoundBelow}
use Rattle.cm_names.proofs.placing.spread.Given as goal

-- what the places so far are marked with is found, and there are as many places as are asked for
abbrev pub invariant-loop-at : goal.invariant-loop-at
invariant-loop-at l = AreFoundBelow l.marks (map string_bytes l.texts) l.new.items l.at × (length l.new.items ≡ l.size)
