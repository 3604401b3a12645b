use Rattle.std.proofs.Common.{◌≡◌, drop}
use Rattle.cm_shims_plain.specs.Instantiated.{import_step}
use Rattle.cm_shims_plain.specs.Steps.{each}
use Rattle.cm_shims_plain.specs.Views.{given_of, instantiated_of}
use Rattle.cm_shims_plain.proofs.instantiated.Instantiated.import_all.Given as goal

abbrev pub invariant-loop-import : goal.invariant-loop-import
invariant-loop-import l =
    each (import_step (given_of l.given)) (instantiated_of l.self) (drop l.import-index l.imports) ≡ each (import_step (given_of l.given)) (instantiated_of l.fn.self) l.imports
