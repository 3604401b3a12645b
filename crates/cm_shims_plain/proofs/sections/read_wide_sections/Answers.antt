use Rattle.std.proofs.Common.{◌<◌, length, sym, arith}
use Rattle.std.proofs.lemmas.Bool.{eqb-true}
use Rattle.std.proofs.lemmas.Grind.{common_steps}
use Rattle.std.proofs.lemmas.Result.{err_from_is_err_and}
use Rattle.cm_binary_grammar.proofs.ReadingLaws.{to_end_done}
use Rattle.cm_shims_plain.specs.Trees.{wide_section_tree}
use Rattle.cm_shims_plain.specs.Sections.{wide_section, wide_sections, wide_room_after}
use Rattle.cm_shims_plain.proofs.SectionLoop.{wide_section_shorter, wide_section_behind, wide_sections_more, wide_sections_fail}
use Rattle.cm_shims_plain.proofs.sections.read_wide_sections.Goals as goal

pub returns-in_err-section : goal.returns-in_err-section
unfolding wide_sections
returns-in_err-section c =
    let p = err_from_is_err_and c.from_residual.result c.from_residual.ensures.1 in
    let some : 0 < length c.loop-cursor.cursor.rest.now = grind (arith, common_steps) in
    rw (p.1, p.2) (wide_sections_fail c.loop-cursor.sections.items c.loop-cursor.room c.loop-cursor.cursor.end c.loop-cursor.cursor.rest.now c.in_err-section.field-0.0 _ some c.in_err-section.ensures.read c.loop-cursor.invariant.0)

pub loop-cursor-smaller : goal.loop-cursor-smaller
loop-cursor-smaller c = wide_section_shorter c.loop-cursor.room c.loop-cursor.cursor.end c.loop-cursor.cursor.rest.now (wide_section_tree c.in_ok-section.section) c.read_wide_section.new.bytes.rest.now c.loop-cursor.invariant.1 c.in_ok-section.ensures.read

pub loop-cursor-preserved : goal.loop-cursor-preserved
loop-cursor-preserved c =
    let some : 0 < length c.loop-cursor.cursor.rest.now = grind (arith, common_steps) in (
      wide_sections_more c.loop-cursor.sections.items c.push.new.self.items c.in_ok-section.section c.loop-cursor.room c.wide_room_after-room.result c.loop-cursor.cursor.end c.read_wide_section.new.bytes.end c.loop-cursor.cursor.rest.now c.read_wide_section.new.bytes.rest.now _ c.in_ok-push.ensures.items c.in_ok-section.ensures.end c.wide_room_after-room.ensures c.loop-cursor.invariant.1 some c.in_ok-section.ensures.read c.loop-cursor.invariant.0,
      wide_section_behind c.loop-cursor.room c.loop-cursor.cursor.end c.loop-cursor.cursor.rest.now (wide_section_tree c.in_ok-section.section) c.read_wide_section.new.bytes.rest.now c.loop-cursor.invariant.1 c.in_ok-section.ensures.read,
    )

pub returns : goal.returns
unfolding wide_sections
returns c = to_end_done wide_section wide_room_after _ c.loop-cursor.room c.loop-cursor.cursor.end c.loop-cursor.cursor.rest.now _ (eqb-true _ _ (sym c.loop-cursor-test.ensures)) c.loop-cursor.invariant.0
