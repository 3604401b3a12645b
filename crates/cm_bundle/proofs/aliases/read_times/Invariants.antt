use Rattle.std.proofs.Common.{◌≡◌, ◌-◌, length, map}
use Rattle.cm_binary_grammar.specs.Grammar.{times}
use Rattle.cm_binary_grammar.proofs.ReadingLaws.{with_front}
use Rattle.cm_bundle.specs.Grammar.{alias}
use Rattle.cm_bundle.specs.Trees.{export_tree}
use Rattle.cm_bundle.proofs.aliases.read_times.Given as goal

abbrev pub invariant-loop : goal.invariant-loop
invariant-loop l =
    (with_front (map export_tree l.exports.items) ((times (alias l.places) (l.count - l.counter)).reads l.bytes.end l.bytes.rest.now)
    ≡ (times (alias l.places) l.count).reads l.initial.bytes.end l.initial.bytes.rest.now)
    × (l.bytes.end ≡ l.initial.bytes.end)
    × (length l.exports.items ≡ l.counter)
