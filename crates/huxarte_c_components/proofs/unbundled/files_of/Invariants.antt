use Rattle.std.proofs.Common.{◌≡◌, map, take}
use Rattle.huxarte_c_components.specs.Unbundling.{bytes_of, spans_from}
use Rattle.huxarte_c_components.proofs.unbundled.files_of.Given as goal

-- the files of the parts so far, and where they stand
abbrev pub invariant-loop-part : goal.invariant-loop-part
invariant-loop-part l = (l.bytes.items ≡ bytes_of (map (λ p. p.file.now) (take l.part-index l.parts)))
    × (l.spans.items ≡ spans_from 0 (map (λ p. p.file.now) (take l.part-index l.parts)))
