use Rattle.std.proofs.Common.{take}
use Rattle.std.specs.Io.KnownBytes.{Appends}
use Rattle.cm_live.specs.Lines.{region_lines}
use Rattle.cm_live.proofs.written.write_regions.Given as goal

abbrev pub invariant-loop-region : goal.invariant-loop-region
invariant-loop-region g l =
    Appends (g.O.Write.contents l.fn.out) (g.O.Write.contents l.out)
    (region_lines l.instance (take l.region-index l.regions) l.memory)
