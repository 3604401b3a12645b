use Rattle.std.proofs.Common.{◌≡◌, ◌+◌, length, map}
use Rattle.std.specs.Vec.Iter.{into_iter_items, into_iter_len}
use Rattle.cm_shims_plain.specs.Trees.{wide_section_tree}
use Rattle.cm_shims_plain.specs.Plain.{file_fault, section_step, plain}
use Rattle.cm_shims_plain.specs.PlainViews.{plain_of}
use Rattle.cm_shims_plain.specs.Steps.{each_numbered}
use Rattle.cm_shims_plain.proofs.plain.plain_of_file.Given as goal

abbrev pub invariant-loop-section : goal.invariant-loop-section
invariant-loop-section l =
    (each_numbered file_fault section_step l.number (plain_of l.done) (map wide_section_tree (into_iter_items l.section-iterator)) ≡ plain (map wide_section_tree l.fn.sections.items))
    × (into_iter_len l.section-iterator ≡ length (into_iter_items l.section-iterator))
    × (l.number + length (into_iter_items l.section-iterator) ≡ length l.fn.sections.items)
