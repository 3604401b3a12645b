use Rattle.std.proofs.Common.{◌≡◌, ◌++◌, drop, map}
use Rattle.cm_names.specs.Keys.{key_view}
use Rattle.cm_shims_plain.specs.Trees.{shim_section_tree}
use Rattle.cm_shims_plain.specs.Names.{import_keys}
use Rattle.cm_shims_plain.proofs.names.import_keys.Given as goal

abbrev pub invariant-loop-section : goal.invariant-loop-section
invariant-loop-section l =
    map key_view l.keys.items ++ import_keys (map shim_section_tree (drop l.section-index l.shim)) ≡ import_keys (map shim_section_tree l.shim)
