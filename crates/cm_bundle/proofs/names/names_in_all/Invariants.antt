use Rattle.std.proofs.Common.{◌≡◌, ◌++◌, map, drop}
use Rattle.std.specs.List.{flat_map}
use Rattle.cm_bundle.specs.Names.{names_in}
use Rattle.cm_bundle.specs.Trees.{name_tree}
use Rattle.cm_bundle.proofs.names.names_in_all.Given as goal

abbrev pub invariant-loop-contents : goal.invariant-loop-contents
invariant-loop-contents l =
    map name_tree l.names.items ++ flat_map names_in (map (λ c. c.now) (drop l.contents-index l.customs)) ≡ flat_map names_in (map (λ c. c.now) l.customs)
