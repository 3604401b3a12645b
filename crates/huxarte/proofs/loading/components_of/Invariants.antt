use Rattle.std.proofs.Common.{map}
use Rattle.std.specs.Prelude.{take}
use Rattle.huxarte.specs.Loading.{AreSpelled}
use Rattle.huxarte.proofs.loading.components_of.Given as goal

abbrev pub invariant-loop-file : goal.invariant-loop-file
invariant-loop-file l = AreSpelled (take l.file (map (λ f. f.now) l.fn.files)) l.components.items
