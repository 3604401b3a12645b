use Rattle.std.proofs.Common.{◌≡◌, ◌-◌, length, map, drop}
use Rattle.cm_binary_grammar.proofs.ReadingLaws.{with_front}
use Rattle.cm_bundle.specs.Grammar.{supplies}
use Rattle.cm_bundle.specs.Room.{HasRoom}
use Rattle.cm_bundle.specs.Trees.{export_tree, supply_tree}
use Rattle.cm_bundle.proofs.supplies.read_supplies.Given as goal

abbrev pub invariant-loop-export : goal.invariant-loop-export
invariant-loop-export l =
    (with_front (map supply_tree l.supplies.items) ((supplies l.lead l.tail l.counts (map export_tree (drop l.export-index l.exports))).reads l.bytes.end l.bytes.rest.now)
    ≡ (supplies l.lead l.tail l.fn.counts (map export_tree l.exports)).reads l.initial.bytes.end l.initial.bytes.rest.now)
    × (l.bytes.end ≡ l.initial.bytes.end)
    × HasRoom l.counts (length l.exports - l.export-index)
    × (length l.supplies.items ≡ l.export-index)
