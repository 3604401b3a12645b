use Rattle.std.proofs.Common.{◌≡◌, ◌-◌, map}
use Rattle.cm_binary_grammar.specs.Grammar.{times}
use Rattle.cm_binary_grammar.proofs.ReadingLaws.{with_front}
use Rattle.cm_bundle.specs.Names.{part_name}
use Rattle.cm_bundle.specs.Trees.{name_tree}
use Rattle.cm_bundle.proofs.names.read_times.Given as goal

abbrev pub invariant-loop : goal.invariant-loop
invariant-loop l =
    (with_front (map name_tree l.names.items) ((times part_name (l.count - l.counter)).reads l.bytes.end l.bytes.rest.now)
    ≡ (times part_name l.count).reads l.initial.bytes.end l.initial.bytes.rest.now)
    × (l.bytes.end ≡ l.initial.bytes.end)
