use Rattle.std.proofs.Common.{◌≡◌, map, take}
use Rattle.huxarte_c_components.proofs.unbundling.files_of.Given as goal

-- the files of the parts so far
abbrev pub invariant-loop-part : goal.invariant-loop-part
invariant-loop-part l = map (λ f. f.now) l.files.items ≡ map (λ p. p.file.now) (take l.part-index l.parts)
