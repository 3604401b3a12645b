use Rattle.std.proofs.Common.{◌≡◌, ◌+◌, ◌*◌, ◌-◌, length, map, drop}
use Rattle.cm_layout.specs.Layouts.{layout_of, part_of}
use Rattle.cm_layout.specs.Shapes.{parts_from}
use Rattle.cm_abi_load.specs.Outcomes.{state_of}
use Rattle.cm_abi_load.specs.Reading.{read_at, read_each, read_parts, source_of}
use Rattle.cm_abi_load.specs.Records.{records_at, records_each, records_of_fields}
use Rattle.cm_abi_load.specs.Sized.{ArePartsReadable}
use Rattle.cm_abi_load.specs.MakingLaws.{Going}
use Rattle.cm_abi_load.proofs.loading.+making.Given as goal

-- what was made so far, and what is still to be read, are all of it
abbrev pub invariant-make_each-loop : goal.invariant-make_each-loop
invariant-make_each-loop g l =
    (l.next ≡ l.at + l.counter * (layout_of l.element).head.size)
    × Going g.M.Maker.stand g.M.Maker.keeps l.row l.initial.kept l.kept (state_of l.initial.progress) (state_of l.progress)
    (read_each (read_at (source_of l.reader.giver) (layout_of l.element).shape) (layout_of l.element).head.size l.count l.at (state_of l.initial.progress))
    (read_each (read_at (source_of l.reader.giver) (layout_of l.element).shape) (layout_of l.element).head.size (l.count - l.counter) l.next (state_of l.progress))
    (records_each (records_at (source_of l.reader.giver) (g.M.Maker.target l.reader.maker) (layout_of l.element).shape) (layout_of l.element).head.size l.at)
    (records_each (records_at (source_of l.reader.giver) (g.M.Maker.target l.reader.maker) (layout_of l.element).shape) (layout_of l.element).head.size l.next)

abbrev pub invariant-make_fields-loop-part : goal.invariant-make_fields-loop-part
invariant-make_fields-loop-part g l =
    ArePartsReadable (length l.reader.giver.memory.now) l.at (parts_from (map part_of (drop l.part-index l.parts)))
    × Going g.M.Maker.stand g.M.Maker.keeps l.row l.initial.kept l.kept (state_of l.initial.progress) (state_of l.progress)
    (read_parts (source_of l.reader.giver) (parts_from (map part_of l.parts)) l.at (state_of l.initial.progress))
    (read_parts (source_of l.reader.giver) (parts_from (map part_of (drop l.part-index l.parts))) l.at (state_of l.progress))
    (records_of_fields (source_of l.reader.giver) (g.M.Maker.target l.reader.maker) (parts_from (map part_of l.parts)) l.at)
    (records_of_fields (source_of l.reader.giver) (g.M.Maker.target l.reader.maker) (parts_from (map part_of (drop l.part-index l.parts))) l.at)
