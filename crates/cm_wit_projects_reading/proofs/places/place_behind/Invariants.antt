use Rattle.std.proofs.Common.{◌≡◌, ◌+◌, ◌≤◌, drop}
use Rattle.cm_wit_projects_reading.specs.Places.{first_place, place_behind}
use Rattle.cm_wit_projects_reading.proofs.places.place_behind.Given as goal

abbrev pub invariant-loop-byte : goal.invariant-loop-byte
invariant-loop-byte l = (place_behind first_place l.text ≡ place_behind l.place (drop l.byte-index l.text)) × (l.place.line ≤ l.byte-index + 1) × (l.place.column ≤ l.byte-index + 1)
