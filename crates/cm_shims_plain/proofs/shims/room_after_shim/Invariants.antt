use Rattle.std.proofs.Common.{◌≡◌, drop, map}
use Rattle.cm_binary_grammar.specs.Whole.{state_after}
use Rattle.cm_shims_plain.specs.Shims.{shim_room_after}
use Rattle.cm_shims_plain.specs.Trees.{shim_section_tree}
use Rattle.cm_shims_plain.proofs.shims.room_after_shim.Given as goal

abbrev pub invariant-loop-section : goal.invariant-loop-section
invariant-loop-section l =
    state_after shim_room_after l.room (map shim_section_tree (drop l.section-index l.sections)) ≡ state_after shim_room_after l.fn.room (map shim_section_tree l.sections)
