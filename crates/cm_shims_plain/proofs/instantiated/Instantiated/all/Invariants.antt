use Rattle.std.proofs.Common.{◌≡◌, drop, map}
use Rattle.cm_shims_plain.specs.Trees.{shim_section_tree}
use Rattle.cm_shims_plain.specs.Instantiated.{shim_step}
use Rattle.cm_shims_plain.specs.Steps.{each}
use Rattle.cm_shims_plain.specs.Views.{given_of, instantiated_of}
use Rattle.cm_shims_plain.proofs.instantiated.Instantiated.all.Given as goal

abbrev pub invariant-loop-section : goal.invariant-loop-section
invariant-loop-section l =
    each (shim_step (given_of l.given)) (instantiated_of l.self) (map shim_section_tree (drop l.section-index l.shim)) ≡ each (shim_step (given_of l.given)) (instantiated_of l.fn.self) (map shim_section_tree l.shim)
