use Rattle.std.proofs.Common.{◌≡◌, ◌-◌, map}
use Rattle.cm_binary_grammar.specs.Grammar.{times}
use Rattle.cm_binary_grammar.proofs.ReadingLaws.{with_front}
use Rattle.cm_bundle.specs.Fronts.{type_alias}
use Rattle.cm_bundle.specs.Trees.{type_alias_tree}
use Rattle.cm_bundle.proofs.front_items.read_type_aliases.Given as goal

abbrev pub invariant-loop : goal.invariant-loop
invariant-loop l =
    (with_front (map type_alias_tree l.aliases.items) ((times type_alias (l.count - l.counter)).reads l.bytes.end l.bytes.rest.now)
    ≡ (times type_alias l.count).reads l.initial.bytes.end l.initial.bytes.rest.now)
    × (l.bytes.end ≡ l.initial.bytes.end)
