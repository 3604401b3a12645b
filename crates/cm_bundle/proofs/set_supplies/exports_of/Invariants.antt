use Rattle.std.proofs.Common.{map}
use Rattle.std.specs.List.{AllByRecursion}
use Rattle.cm_lemmas.proofs.Lists.{Shows}
use Rattle.cm_match.specs.Linked.{components_in}
use Rattle.cm_bundle.specs.Trees.{supply_tree}
use Rattle.cm_bundle.specs.Texts.{HasTexts}
use Rattle.cm_bundle.proofs.SetRead.{shown}
use Rattle.cm_bundle.proofs.set_supplies.exports_of.Given as goal

abbrev pub invariant-loop-export : goal.invariant-loop-export
invariant-loop-export l =
    Shows (shown (components_in l.linked) l.component) supply_tree l.export-items l.export-index l.exports.items
    × AllByRecursion HasTexts (map supply_tree l.exports.items)
