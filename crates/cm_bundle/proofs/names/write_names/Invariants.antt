use Rattle.std.proofs.Common.{◌≡◌, ◌++◌, map, drop}
use Rattle.std.specs.List.{AllByRecursion, flat_map}
use Rattle.cm_binary_grammar.specs.Spelling.{vec_spelling}
use Rattle.cm_bundle.specs.Names.{name_spelled, IsName}
use Rattle.cm_bundle.specs.Trees.{name_tree}
use Rattle.cm_bundle.proofs.names.write_names.Given as goal

abbrev pub invariant-loop-name : goal.invariant-loop-name
invariant-loop-name l =
    (l.out.items ++ flat_map name_spelled (map name_tree (drop l.name-index l.names)) ≡ l.fn.out.items ++ vec_spelling name_spelled (map name_tree l.names))
    × (AllByRecursion IsName (map name_tree (drop l.name-index l.names)) → AllByRecursion IsName (map name_tree l.names))
