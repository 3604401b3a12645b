use Rattle.std.proofs.Common.{◌≡◌, take}
use Rattle.std.specs.List.{flat_map}
use Rattle.huxarte_c_components.proofs.planning.texts_of.Given as goal

-- the bytes of the parts so far
abbrev pub invariant-loop-part : goal.invariant-loop-part
invariant-loop-part l = l.texts.items ≡ flat_map (λ p. p.bytes.now) (take l.part-index l.parts)
