use Rattle.std.proofs.Common.{◌≡◌, map, take}
use Rattle.huxarte_c_components.specs.Unbundling.{choices_from}
use Rattle.huxarte_c_components.proofs.unbundled.choices_of.Given as goal

-- the choices of the rows so far
abbrev pub invariant-loop-importer : goal.invariant-loop-importer
invariant-loop-importer l = l.choices.items ≡ choices_from 0 (map (λ r. r.items) (take l.importer l.rows))
