use Rattle.std.proofs.Common.{◌≡◌, drop}
use Rattle.cm_values.specs.Words.{place_in}
use Rattle.cm_values.proofs.NameLaws.{shift}
use Rattle.cm_values.proofs.names.place_of_label.Given as goal

abbrev pub invariant-loop-place : goal.invariant-loop-place
invariant-loop-place l = shift l.place (place_in (drop l.place l.labels) l.name) ≡ place_in l.labels l.name
