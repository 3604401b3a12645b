use Rattle.std.proofs.Common.{◌≡◌, map}
use Rattle.cm_binary_model.specs.Trees.{canon_tree}
use Rattle.cm_shims_plain.specs.Renumbered.{renumbered_canon}
use Rattle.cm_shims_plain.specs.Spaces.{place, types_of}
use Rattle.cm_shims_plain.proofs.renumbered.renumbered_canons.Given as goal

abbrev pub invariant-loop-canon : goal.invariant-loop-canon
invariant-loop-canon l = map canon_tree l.copies.items ≡ map (renumbered_canon (place (types_of l.types))) (map canon_tree l.yielded)
