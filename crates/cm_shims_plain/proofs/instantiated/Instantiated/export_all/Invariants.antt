use Rattle.std.proofs.Common.{◌≡◌, drop}
use Rattle.cm_shims_plain.specs.Instantiated.{export_step}
use Rattle.cm_shims_plain.specs.Steps.{each}
use Rattle.cm_shims_plain.specs.Views.{instantiated_of}
use Rattle.cm_shims_plain.proofs.instantiated.Instantiated.export_all.Given as goal

abbrev pub invariant-loop-export : goal.invariant-loop-export
invariant-loop-export l =
    each export_step (instantiated_of l.self) ((drop l.export-index l.exports)) ≡ each export_step (instantiated_of l.fn.self) (l.exports)
