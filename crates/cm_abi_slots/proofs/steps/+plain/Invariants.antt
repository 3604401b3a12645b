use Rattle.std.proofs.Common.{◌≡◌, drop, map}
use Rattle.cm_layout.specs.Layouts.{part_of}
use Rattle.cm_layout.specs.Shapes.{parts_from}
use Rattle.cm_abi_slots.specs.Steps.{are_plain}
use Rattle.cm_abi_slots.proofs.steps.+plain.Given as goal

-- whether all fields are numbers alone is whether those to come are
abbrev pub invariant-are_plain-loop-part : goal.invariant-are_plain-loop-part
invariant-are_plain-loop-part l = are_plain (parts_from (map part_of l.parts)) ≡ are_plain (parts_from (map part_of (drop l.part-index l.parts)))
