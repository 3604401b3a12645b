-- What one more byte does to a place.
use Rattle.std.proofs.Common.{◌≡◌, ℕ, ◌+◌, ◌<◌, ◌≤◌, List, length, drop, get_or, refl, ap}
use Rattle.std.proofs.lemmas.List.{drop_more, drop_all}
use Rattle.cm_wit_projects_reading.specs.declared.places.LinePlace.{LinePlace}
use Rattle.cm_wit_projects_reading.specs.Places.{after_byte, place_behind}

pub place_goes : (p : LinePlace) (bs : List ℕ) (i : ℕ) → i < length bs → place_behind p (drop i bs) ≡ place_behind (after_byte p (get_or bs i 0)) (drop (i + 1) bs)
unfolding place_behind
place_goes p bs i lt = ap (place_behind p) (drop_more bs i 0 lt)

pub place_ends : (p : LinePlace) (bs : List ℕ) (i : ℕ) → length bs ≤ i → place_behind p (drop i bs) ≡ p
unfolding place_behind
place_ends p bs i le = rw (drop_all i bs le) refl

pub ruleset line_laws = (place_goes, place_ends)
