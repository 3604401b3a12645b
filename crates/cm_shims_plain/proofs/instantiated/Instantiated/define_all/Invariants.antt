use Rattle.std.proofs.Common.{◌≡◌, drop, map}
use Rattle.cm_types.specs.DefTypes.{def_type_tree}
use Rattle.cm_shims_plain.specs.Instantiated.{type_step}
use Rattle.cm_shims_plain.specs.Steps.{each}
use Rattle.cm_shims_plain.specs.Views.{instantiated_of}
use Rattle.cm_shims_plain.proofs.instantiated.Instantiated.define_all.Given as goal

abbrev pub invariant-loop-def : goal.invariant-loop-def
invariant-loop-def l =
    each type_step (instantiated_of l.self) (map def_type_tree (drop l.def-index l.defs)) ≡ each type_step (instantiated_of l.fn.self) (map def_type_tree l.defs)
