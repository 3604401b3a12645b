use Rattle.std.proofs.Common.{◌≡◌, ◌++◌, ◌+◌, ◌*◌, ◌^◌, ◌≤◌, length, map, drop}
use Rattle.std.specs.Prelude.{◌↔◌}
use Rattle.cm_bundle.specs.Room.{spaces_of}
use Rattle.cm_bundle.specs.Spelled.{body_spelled, AreSupplied}
use Rattle.cm_bundle.specs.Trees.{part_tree, supply_tree}
use Rattle.cm_bundle.proofs.writing.write_body.Given as goal

abbrev pub invariant-loop-part : goal.invariant-loop-part
invariant-loop-part l =
    (l.out.items ++ body_spelled (record { counts = l.counts; places = l.places.items }) (map part_tree (drop l.part-index l.bundle.parts.items)) (map supply_tree l.bundle.exports.items) ≡ l.fn.out.items ++ body_spelled (spaces_of l.fn.spaces) (map part_tree l.bundle.parts.items) (map supply_tree l.bundle.exports.items))
    × (AreSupplied (length l.places.items) (map part_tree (drop l.part-index l.bundle.parts.items)) (map supply_tree l.bundle.exports.items) ↔ AreSupplied (length l.fn.spaces.places.items) (map part_tree l.bundle.parts.items) (map supply_tree l.bundle.exports.items))
    × (l.counts.functions ≤ l.fn.spaces.counts.functions + l.part-index * 2 ^ 32)
    × (l.counts.instances ≤ l.fn.spaces.counts.instances + l.part-index * 2 ^ 32)
