use Rattle.std.proofs.Common.{◌≡◌, ◌++◌, drop, map}
use Rattle.cm_layout.specs.Layouts.{part_of}
use Rattle.cm_layout.specs.Shapes.{parts_from}
use Rattle.cm_abi_programs.specs.Held.{slot_offsets}
use Rattle.cm_abi_programs.proofs.holding.slot_offsets.Given as goal

-- with those of the fields to come, these are all
abbrev pub invariant-loop-part : goal.invariant-loop-part
invariant-loop-part l =
    l.offsets.items ++ slot_offsets (parts_from (map part_of (drop l.part-index l.parts))) l.at ≡ slot_offsets (parts_from (map part_of l.parts)) 0
