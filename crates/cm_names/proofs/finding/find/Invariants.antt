use Rattle.std.proofs.Common.{◌≡◌, ◌+◌, ◌-◌, ◌≤◌, map}
use Rattle.std.specs.String.{string_bytes}
use Rattle.cm_names.specs.Finding.{found, found_from, window}
use Rattle.cm_names.proofs.finding.find.Given as goal

-- what the places that are left tell is what all tell
abbrev pub invariant-loop-at : goal.invariant-loop-at
invariant-loop-at l = (l.home ≤ l.at) × (l.at ≤ l.home + 16) × (found_from l.marks (map string_bytes l.texts) l.text l.at (l.home + window - l.at) ≡ found l.marks (map string_bytes l.texts) l.text)
