use Rattle.std.proofs.Common.{sym, subst, refl, arith, length, drop}
use Rattle.std.specs.Char.{IsScalar, is_ascii}
use Rattle.std.specs.List.{prefix_len}
use Rattle.cm_text.specs.Text.{IsTextOfSize}
use Rattle.cm_text.specs.Utf16.{spell_utf16}
use Rattle.cm_text.specs.Utf8.{spell_utf8}
use Rattle.cm_text.proofs.AsciiLemmas.{utf8_laws}
use Rattle.cm_text.proofs.MidwayLemmas.{begins, room_for_one, one_further, finish}
use Rattle.cm_text.proofs.PairLemmas.{widen_room, widen_further}
use Rattle.cm_text.proofs.TightLemmas.{widened_text}
use Rattle.cm_text.proofs.writes.utf8_to_utf16.Goals as goal

pub widen_run-run-requires-clause-room : goal.widen_run-run-requires-clause-room
widen_run-run-requires-clause-room c =
    let whole = subst (IsTextOfSize IsScalar spell_utf8 spell_utf16 c.args.bytes.now) (sym c.loop-at.auto.out) c.requires in
    widen_room c.args.bytes.now c.loop-at.out c.loop-at.at c.loop-at.to (prefix_len is_ascii (drop c.loop-at.at c.args.bytes.now)) refl c.loop-at.invariant whole

pub overflow_add-to : goal.overflow_add-to
overflow_add-to c =
    let whole = subst (IsTextOfSize IsScalar spell_utf8 spell_utf16 c.args.bytes.now) (sym c.loop-at.auto.out) c.requires in
    omega (arith, widen_room c.args.bytes.now c.loop-at.out c.loop-at.at c.loop-at.to c.widen_run-run.result c.widen_run-run.ensures.run c.loop-at.invariant whole)

pub loop-at-preserved-then-bytes-at-lt128 : goal.loop-at-preserved-then-bytes-at-lt128
loop-at-preserved-then-bytes-at-lt128 c =
    let whole = subst (IsTextOfSize IsScalar spell_utf8 spell_utf16 c.args.bytes.now) (sym c.loop-at.auto.out) c.requires in
    let room = widen_room c.args.bytes.now c.loop-at.out c.loop-at.at c.loop-at.to c.widen_run-run.result c.widen_run-run.ensures.run c.loop-at.invariant whole in
    widen_further c.args.bytes.now c.loop-at.out c.loop-at.at c.loop-at.to c.widen_run-run.result c.widen_run-run.ensures.run c.loop-at.invariant c.widen_run-run.new.out
    (omega (arith, room)) c.widen_run-run.ensures.written

pub utf8_scalar_at-code-requires : goal.utf8_scalar_at-code-requires
utf8_scalar_at-code-requires c =
    begins IsScalar spell_utf8 spell_utf16 utf8_laws c.args.bytes.now c.loop-at.out c.loop-at.at c.loop-at.to (length c.args.out.now) c.requires c.loop-at.invariant c.loop-at-test.true

pub put_utf16-to-requires-clause-room : goal.put_utf16-to-requires-clause-room
put_utf16-to-requires-clause-room c =
    let whole = subst (IsTextOfSize IsScalar spell_utf8 spell_utf16 c.args.bytes.now) (sym c.loop-at.auto.out) c.requires in
    room_for_one IsScalar spell_utf8 spell_utf16 utf8_laws c.args.bytes.now c.loop-at.out c.loop-at.at c.loop-at.to c.utf8_scalar_at-code.result.0 c.utf8_scalar_at-code.result.1 whole c.loop-at.invariant c.utf8_scalar_at-code.ensures

pub loop-at-preserved : goal.loop-at-preserved
loop-at-preserved c =
    let whole = subst (IsTextOfSize IsScalar spell_utf8 spell_utf16 c.args.bytes.now) (sym c.loop-at.auto.out) c.requires in
    let room = room_for_one IsScalar spell_utf8 spell_utf16 utf8_laws c.args.bytes.now c.loop-at.out c.loop-at.at c.loop-at.to c.utf8_scalar_at-code.result.0 c.utf8_scalar_at-code.result.1 whole c.loop-at.invariant c.utf8_scalar_at-code.ensures in
    one_further IsScalar spell_utf8 spell_utf16 utf8_laws c.args.bytes.now c.loop-at.out c.put_utf16-to.new.out c.loop-at.at c.loop-at.to c.utf8_scalar_at-code.result.0 c.utf8_scalar_at-code.result.1 c.put_utf16-to.result
    c.loop-at.invariant c.utf8_scalar_at-code.ensures (omega (arith, room, c.put_utf16-to.ensures.size)) c.put_utf16-to.ensures.written

pub returns : goal.returns
returns c =
    let whole = subst (IsTextOfSize IsScalar spell_utf8 spell_utf16 c.args.bytes.now) (sym c.loop-at.auto.out) c.requires in
    finish IsScalar spell_utf8 spell_utf16 utf8_laws c.args.bytes.now c.loop-at.out c.loop-at.at c.loop-at.to whole c.loop-at.invariant c.loop-at-test.false

pub returns-then-out-bytes : goal.returns-then-out-bytes
returns-then-out-bytes c =
    λ cs text. widened_text cs c.args.bytes.now c.args.out.now text c.requires c.if-out-bytes.true c.widen.new.out c.widen.ensures
