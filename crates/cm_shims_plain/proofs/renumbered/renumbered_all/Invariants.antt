use Rattle.std.proofs.Common.{◌≡◌, map, take}
use Rattle.cm_shims_plain.specs.Spaces.{place, types_of}
use Rattle.cm_shims_plain.proofs.renumbered.renumbered_all.Given as goal

abbrev pub invariant-loop-item : goal.invariant-loop-item
invariant-loop-item g l = map g.T.Renumbered.tree l.copies.items ≡ map (g.T.Renumbered.by (place (types_of l.types))) (map g.T.Renumbered.tree (take l.item-index l.items))
