use Rattle.std.proofs.Common.{◌≡◌, ◌-◌, length, map}
use Rattle.cm_binary_grammar.specs.Grammar.{times}
use Rattle.cm_binary_grammar.proofs.ReadingLaws.{with_front}
use Rattle.cm_bundle.specs.Fronts.{import_}
use Rattle.cm_bundle.specs.Trees.{import_tree}
use Rattle.cm_bundle.proofs.front_items.read_imports.Given as goal

abbrev pub invariant-loop : goal.invariant-loop
invariant-loop l =
    (with_front (map import_tree l.imports.items) ((times (import_) (l.count - l.counter)).reads l.bytes.end l.bytes.rest.now)
    ≡ (times (import_) l.count).reads l.initial.bytes.end l.initial.bytes.rest.now)
    × (l.bytes.end ≡ l.initial.bytes.end)
    × (length l.imports.items ≡ l.counter)
