use Rattle.std.proofs.Common.{◌≡◌, map, take}
use Rattle.huxarte_c.specs.Cores.{AreKinds, value_of}
use Rattle.huxarte_c.proofs.cores.values_of.Given as goal

-- the values so far, of which each has a kind
abbrev pub invariant-loop-place : goal.invariant-loop-place
invariant-loop-place l = record {
  values : l.values.items ≡ map value_of (take l.place l.cores);
  kinds : AreKinds (take l.place l.cores);
}
