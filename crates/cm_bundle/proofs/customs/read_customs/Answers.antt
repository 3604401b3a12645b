use Rattle.std.proofs.Common.{◌<◌, length, sym, arith}
use Rattle.std.proofs.lemmas.Bool.{eqb-true}
use Rattle.std.proofs.lemmas.Grind.{common_steps}
use Rattle.std.proofs.lemmas.Result.{err_from_is_err_and}
use Rattle.cm_binary_grammar.proofs.ReadingLaws.{to_end_done}
use Rattle.cm_bundle.specs.Grammar.{customs}
use Rattle.cm_bundle.proofs.CustomLoop.{one, same, custom_shorter, custom_behind, customs_more, customs_fail}
use Rattle.cm_bundle.proofs.customs.read_customs.Goals as goal

pub returns-in_err-contents : goal.returns-in_err-contents
unfolding customs
returns-in_err-contents c =
    let p = err_from_is_err_and c.from_residual.result c.from_residual.ensures.1 in
    let some : 0 < length c.loop-cursor.cursor.rest.now = grind (arith, common_steps) in
    rw (p.1, p.2) (customs_fail c.loop-cursor.customs.items c.loop-cursor.cursor.end c.loop-cursor.cursor.rest.now c.in_err-contents.field-0.0 _ some c.in_err-contents.ensures.read c.loop-cursor.invariant.0)

pub loop-cursor-smaller : goal.loop-cursor-smaller
loop-cursor-smaller c = custom_shorter c.loop-cursor.cursor.end c.loop-cursor.cursor.rest.now c.in_ok-contents.contents.now c.read_custom.new.bytes.rest.now c.loop-cursor.invariant.1 c.in_ok-contents.ensures.read

pub loop-cursor-preserved : goal.loop-cursor-preserved
loop-cursor-preserved c =
    let some : 0 < length c.loop-cursor.cursor.rest.now = grind (arith, common_steps) in (
      customs_more c.loop-cursor.customs.items c.push.new.self.items c.in_ok-contents.contents c.loop-cursor.cursor.end c.read_custom.new.bytes.end c.loop-cursor.cursor.rest.now c.read_custom.new.bytes.rest.now _ c.in_ok-push.ensures.items c.in_ok-contents.ensures.end c.loop-cursor.invariant.1 some c.in_ok-contents.ensures.read c.loop-cursor.invariant.0,
      custom_behind c.loop-cursor.cursor.end c.loop-cursor.cursor.rest.now c.in_ok-contents.contents.now c.read_custom.new.bytes.rest.now c.loop-cursor.invariant.1 c.in_ok-contents.ensures.read,
    )

pub returns : goal.returns
unfolding customs
returns c = to_end_done one same _ tt c.loop-cursor.cursor.end c.loop-cursor.cursor.rest.now _ (eqb-true _ _ (sym c.loop-cursor-test.ensures)) c.loop-cursor.invariant.0
