use Rattle.std.proofs.Common.{◌≡◌, length, map}
use Rattle.cm_binary_grammar.specs.Whole.{to_end}
use Rattle.cm_binary_grammar.proofs.ReadingLaws.{with_each}
use Rattle.cm_shims_plain.specs.Trees.{wide_section_tree}
use Rattle.cm_binary_model.specs.declared.limits.TheConstants.{MAX_TYPES}
use Rattle.cm_shims_plain.specs.Sections.{wide_section, wide_room_after}
use Rattle.cm_shims_plain.proofs.sections.read_wide_sections.Given as goal
use Rattle.cm_lemmas.proofs.Lists.{IsBytes}

abbrev pub invariant-loop-cursor : goal.invariant-loop-cursor
invariant-loop-cursor l =
    (with_each (map wide_section_tree l.sections.items) ((to_end wide_section wide_room_after l.room).reads l.cursor.end l.cursor.rest.now) ≡ (to_end wide_section wide_room_after MAX_TYPES).reads l.fn.end l.fn.bytes)
    × IsBytes l.cursor.rest.now

abbrev pub decreases-loop-cursor : goal.decreases-loop-cursor
decreases-loop-cursor l = length l.cursor.rest.now
