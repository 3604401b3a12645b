use Rattle.std.proofs.Common.{◌≡◌, map, take}
use Rattle.cm_layout_placed.specs.Kinds.{joined, kinds_at}
use Rattle.cm_layout_placed.proofs.kinds.joined_kinds.Given as goal

abbrev pub invariant-loop-place : goal.invariant-loop-place
invariant-loop-place l =
    l.all.items ≡ joined (map (kinds_at (map (λ v. v.items) l.kinds)) (take l.place-index l.places))
