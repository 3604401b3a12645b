use Rattle.std.proofs.Common.{◌≡◌, ◌++◌, map, drop}
use Rattle.std.specs.List.{flat_map}
use Rattle.cm_binary_grammar.specs.Spelling.{vec_spelling}
use Rattle.cm_bundle.specs.Spelled.{alias_spelled, exports_of}
use Rattle.cm_bundle.specs.Trees.{supply_tree}
use Rattle.cm_bundle.proofs.sections.write_all_aliases.Given as goal

abbrev pub invariant-loop-supply : goal.invariant-loop-supply
invariant-loop-supply l =
    l.out.items ++ flat_map (alias_spelled l.places) (exports_of (map supply_tree (drop l.supply-index l.supplies))) ≡ l.fn.out.items ++ vec_spelling (alias_spelled l.places) (exports_of (map supply_tree l.supplies))
