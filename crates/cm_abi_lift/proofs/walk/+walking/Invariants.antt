use Rattle.std.proofs.Common.{◌-◌, map, drop}
use Rattle.cm_layout.specs.Layouts.{layout_of, part_of}
use Rattle.cm_layout.specs.Shapes.{parts_from}
use Rattle.cm_abi_load.specs.Outcomes.{state_of}
use Rattle.cm_abi_load.specs.Reading.{source_of}
use Rattle.cm_abi_lift.specs.FlatReading.{ArePartsFlatReadable, read_flat, read_flat_each, read_flat_parts}
use Rattle.cm_abi_lift.specs.FlatRecords.{flat_records, flat_records_each, flat_records_of_fields}
use Rattle.cm_abi_load.specs.MakingLaws.{Going}
use Rattle.cm_abi_lift.proofs.walk.+walking.Given as goal

-- what was made so far, and what is still to be read, are all of it
abbrev pub invariant-make_each-loop : goal.invariant-make_each-loop
invariant-make_each-loop g l =
    Going g.M.Maker.stand g.M.Maker.keeps l.row l.initial.kept l.kept (state_of l.initial.progress) (state_of l.progress)
    (read_flat_each (read_flat (source_of l.reader.giver) (layout_of l.element).shape) (layout_of l.element).head.width l.count l.slots (state_of l.initial.progress))
    (read_flat_each (read_flat (source_of l.reader.giver) (layout_of l.element).shape) (layout_of l.element).head.width (l.count - l.counter) l.rest (state_of l.progress))
    (flat_records_each (flat_records (source_of l.reader.giver) (g.M.Maker.target l.reader.maker) (layout_of l.element).shape) (layout_of l.element).head.width l.slots)
    (flat_records_each (flat_records (source_of l.reader.giver) (g.M.Maker.target l.reader.maker) (layout_of l.element).shape) (layout_of l.element).head.width l.rest)

abbrev pub invariant-make_fields-loop-part : goal.invariant-make_fields-loop-part
invariant-make_fields-loop-part g l =
    ArePartsFlatReadable (parts_from (map part_of (drop l.part-index l.parts)))
    × Going g.M.Maker.stand g.M.Maker.keeps l.row l.initial.kept l.kept (state_of l.initial.progress) (state_of l.progress)
    (read_flat_parts (source_of l.reader.giver) (parts_from (map part_of l.parts)) l.slots (state_of l.initial.progress))
    (read_flat_parts (source_of l.reader.giver) (parts_from (map part_of (drop l.part-index l.parts))) l.rest (state_of l.progress))
    (flat_records_of_fields (source_of l.reader.giver) (g.M.Maker.target l.reader.maker) (parts_from (map part_of l.parts)) l.slots)
    (flat_records_of_fields (source_of l.reader.giver) (g.M.Maker.target l.reader.maker) (parts_from (map part_of (drop l.part-index l.parts))) l.rest)
