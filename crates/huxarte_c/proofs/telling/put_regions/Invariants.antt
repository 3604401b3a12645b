use Rattle.std.proofs.Common.{◌≡◌, length, map, take}
use Rattle.huxarte_c.specs.Written.{region_in}
use Rattle.huxarte_c.proofs.telling.put_regions.Given as goal

-- the regions so far stand in the buffer
abbrev pub invariant-loop-i : goal.invariant-loop-i
invariant-loop-i l =
    (length l.room ≡ length l.regions) × (take l.i l.room ≡ map region_in (take l.i l.regions))
