use Rattle.std.proofs.Common.{◌<◌, length, sym, arith}
use Rattle.std.proofs.lemmas.Bool.{eqb-true}
use Rattle.std.proofs.lemmas.Grind.{common_steps}
use Rattle.std.proofs.lemmas.Result.{err_from_is_err_and}
use Rattle.cm_binary_grammar.proofs.ReadingLaws.{to_end_done}
use Rattle.cm_shims_plain.specs.Trees.{shim_section_tree}
use Rattle.cm_shims_plain.specs.Shims.{shim_section, shim_sections, shim_room_after}
use Rattle.cm_shims_plain.proofs.ShimLoop.{shim_section_shorter, shim_section_behind, shim_sections_more, shim_sections_fail}
use Rattle.cm_shims_plain.proofs.shims.read_shim_sections.Goals as goal

pub returns-in_err-section : goal.returns-in_err-section
unfolding shim_sections
returns-in_err-section c =
    let p = err_from_is_err_and c.from_residual.result c.from_residual.ensures.1 in
    let some : 0 < length c.loop-cursor.cursor.rest.now = grind (arith, common_steps) in
    rw (p.1, p.2) (shim_sections_fail c.loop-cursor.sections.items c.loop-cursor.left c.loop-cursor.cursor.end c.loop-cursor.cursor.rest.now c.in_err-section.field-0.0 _ some c.in_err-section.ensures.read c.loop-cursor.invariant.0)

pub loop-cursor-smaller : goal.loop-cursor-smaller
loop-cursor-smaller c = shim_section_shorter c.loop-cursor.left c.loop-cursor.cursor.end c.loop-cursor.cursor.rest.now (shim_section_tree c.in_ok-section.section) c.read_shim_section.new.bytes.rest.now c.loop-cursor.invariant.1 c.in_ok-section.ensures.read

pub loop-cursor-preserved : goal.loop-cursor-preserved
loop-cursor-preserved c =
    let some : 0 < length c.loop-cursor.cursor.rest.now = grind (arith, common_steps) in (
      shim_sections_more c.loop-cursor.sections.items c.push.new.self.items c.in_ok-section.section c.loop-cursor.left c.shim_room_after-left.result c.loop-cursor.cursor.end c.read_shim_section.new.bytes.end c.loop-cursor.cursor.rest.now c.read_shim_section.new.bytes.rest.now _ c.in_ok-push.ensures.items c.in_ok-section.ensures.end c.shim_room_after-left.ensures c.loop-cursor.invariant.1 some c.in_ok-section.ensures.read c.loop-cursor.invariant.0,
      shim_section_behind c.loop-cursor.left c.loop-cursor.cursor.end c.loop-cursor.cursor.rest.now (shim_section_tree c.in_ok-section.section) c.read_shim_section.new.bytes.rest.now c.loop-cursor.invariant.1 c.in_ok-section.ensures.read,
    )

pub returns : goal.returns
unfolding shim_sections
returns c = to_end_done shim_section shim_room_after _ c.loop-cursor.left c.loop-cursor.cursor.end c.loop-cursor.cursor.rest.now _ (eqb-true _ _ (sym c.loop-cursor-test.ensures)) c.loop-cursor.invariant.0
