use Rattle.std.proofs.Common.{◌≡◌, map, take}
use Rattle.huxarte_c_components.specs.Choosing.{place_of}
use Rattle.huxarte_c_components.proofs.choosing.places_of.Given as goal

-- the places so far
abbrev pub invariant-loop-place : goal.invariant-loop-place
invariant-loop-place l = l.found.items ≡ map place_of (take l.place-index l.places)
