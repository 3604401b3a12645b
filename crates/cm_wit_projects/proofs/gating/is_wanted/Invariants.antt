use Rattle.std.specs.Str.{bytes_eq}
use Rattle.cm_wit_projects.proofs.SeekLaws.{Seeks}
use Rattle.cm_wit_projects.proofs.gating.is_wanted.Given as goal

abbrev pub invariant-loop-feature : goal.invariant-loop-feature
invariant-loop-feature l = Seeks (λ f. f.now) (bytes_eq l.name) l.features l.feature-index
