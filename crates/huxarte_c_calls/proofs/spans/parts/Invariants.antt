use Rattle.std.proofs.Common.{◌≡◌, map, take}
use Rattle.huxarte_c_calls.specs.Spans.{AreWithin, parts_of}
use Rattle.huxarte_c_calls.proofs.spans.parts.Given as goal

-- the parts so far, which are within
abbrev pub invariant-loop-span : goal.invariant-loop-span
invariant-loop-span l = record {
  parts : map (λ p. p.now) l.found.items ≡ parts_of l.bytes (take l.span-index l.spans);
  within : AreWithin l.bytes (take l.span-index l.spans);
}
