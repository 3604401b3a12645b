use Rattle.std.proofs.Common.{◌≡◌, ◌+◌, ◌-◌, length, map}
use Rattle.cm_binary_grammar.proofs.ReadingLaws.{with_front}
use Rattle.cm_bundle.specs.declared.form.TheConstants.{MAX_PARTS}
use Rattle.cm_bundle.specs.Fronts.{groups}
use Rattle.cm_bundle.specs.Trees.{group_tree}
use Rattle.cm_bundle.proofs.fronts.read_groups.Given as goal

abbrev pub invariant-loop : goal.invariant-loop
invariant-loop l =
    (with_front (map group_tree l.groups.items) ((groups (MAX_PARTS + 1 - l.counter)).reads l.bytes.end l.bytes.rest.now)
    ≡ (groups (MAX_PARTS + 1)).reads l.initial.bytes.end l.initial.bytes.rest.now)
    × (l.bytes.end ≡ l.initial.bytes.end)
    × (length l.groups.items ≡ l.counter)
