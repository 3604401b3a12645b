use Rattle.std.proofs.Common.{◌≡◌, map, take}
use Rattle.std.specs.List.{AllByRecursion, filter_map}
use Rattle.cm_match.specs.Linked.{set_in}
use Rattle.cm_bundle.specs.Trees.{supply_tree}
use Rattle.cm_bundle.specs.Bundled.{argument_of}
use Rattle.cm_bundle.specs.Texts.{HasTexts}
use Rattle.cm_bundle.proofs.set_supplies.arguments_of.Given as goal

abbrev pub invariant-loop-line : goal.invariant-loop-line
invariant-loop-line l =
    (map supply_tree l.arguments.items ≡ filter_map (argument_of (set_in l.linked).spaces) (take l.line-index l.lines))
    × AllByRecursion HasTexts (map supply_tree l.arguments.items)
