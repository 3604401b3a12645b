use Rattle.std.proofs.Common.{◌≡◌, ◌+◌, ◌-◌, ◌*◌, ◌^◌, ◌≤◌, map}
use Rattle.cm_bundle.specs.declared.form.TheConstants.{MAX_PARTS}
use Rattle.cm_bundle.specs.Grammar.{body}
use Rattle.cm_bundle.specs.Room.{spaces_of}
use Rattle.cm_bundle.specs.Trees.{part_tree}
use Rattle.cm_bundle.proofs.ReadingLoops.{with_parts}
use Rattle.cm_bundle.proofs.parts.read_body.Given as goal

abbrev pub invariant-loop : goal.invariant-loop
invariant-loop l =
    (with_parts (map part_tree l.parts.items) ((body (MAX_PARTS + 1 - l.counter) (record { counts = l.counts; places = l.places.items })).reads l.bytes.end l.bytes.rest.now)
    ≡ (body (MAX_PARTS + 1) (spaces_of l.fn.spaces)).reads l.initial.bytes.end l.initial.bytes.rest.now)
    × (l.bytes.end ≡ l.initial.bytes.end)
    × (l.counts.functions ≤ l.fn.spaces.counts.functions + l.counter * 2 ^ 32)
    × (l.counts.instances ≤ l.fn.spaces.counts.instances + l.counter * 2 ^ 32)
