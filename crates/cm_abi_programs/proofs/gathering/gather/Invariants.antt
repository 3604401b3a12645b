use Rattle.std.proofs.Common.{◌≡◌, ◌++◌, drop, map}
use Rattle.cm_abi_programs.specs.Held.{items_at, items_of}
use Rattle.cm_abi_programs.proofs.gathering.gather.Given as goal

-- with those at the places to come, these are all
abbrev pub invariant-loop-place : goal.invariant-loop-place
invariant-loop-place g l =
    items_of l.held.items ++ map (items_at (items_of l.lists)) (drop l.place-index l.places) ≡ map (items_at (items_of l.lists)) l.places
