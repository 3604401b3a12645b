use Rattle.std.proofs.Common.{◌≤◌, ◌<◌, ◌+◌, sym, subst, refl, arith, length, length-drop, drop, get_or}
use Rattle.std.specs.Char.{IsScalar, is_ascii}
use Rattle.std.specs.List.{prefix_len}
use Rattle.cm_text.specs.Text.{IsTextOfSize}
use Rattle.cm_text.specs.Utf16.{unit, units, spell_utf16}
use Rattle.cm_text.specs.Utf8.{spell_utf8}
use Rattle.cm_text.proofs.AsciiLemmas.{utf16_laws}
use Rattle.cm_text.proofs.MidwayLemmas.{begins, room_for_one, one_further, finish}
use Rattle.cm_text.proofs.PairLemmas.{narrow_room, narrow_further, narrow_count, two_left, unit_run_some}
use Rattle.cm_text.proofs.PairLemmas.{run_of_ascii}
use Rattle.cm_text.proofs.UnitLemmas.{length-units_half}
use Rattle.cm_text.proofs.TightLemmas.{narrow_text, narrow_units, narrowed_text}
use Rattle.cm_text.proofs.writes.utf16_to_utf8.Goals as goal

pub bounds-bytes-at-in-loop-at : goal.bounds-bytes-at-in-loop-at
bounds-bytes-at-in-loop-at c =
    let b = begins IsScalar spell_utf16 spell_utf8 utf16_laws c.args.bytes.now c.loop-at.out c.loop-at.at c.loop-at.to (length c.args.out.now) c.requires c.loop-at.invariant c.loop-at-test.true in
    omega (arith, two_left c.args.bytes.now c.loop-at.at c.loop-at-test.true b)

pub narrow_run-run-requires-clause-room : goal.narrow_run-run-requires-clause-room
narrow_run-run-requires-clause-room c =
    let whole = subst (IsTextOfSize IsScalar spell_utf16 spell_utf8 c.args.bytes.now) (sym c.loop-at.auto.out) c.requires in
    narrow_room c.args.bytes.now c.loop-at.out c.loop-at.at c.loop-at.to (prefix_len is_ascii (units (drop c.loop-at.at c.args.bytes.now))) refl c.loop-at.invariant whole

pub overflow_mul-at : goal.overflow_mul-at
overflow_mul-at c =
    let run = narrow_count c.args.bytes.now c.loop-at.out c.loop-at.at c.loop-at.to c.narrow_run-run.result c.narrow_run-run.ensures.run c.loop-at.invariant in
    omega (arith, run.within, length-drop c.loop-at.at c.args.bytes.now)

pub overflow_add-at-then-unit-lt128 : goal.overflow_add-at-then-unit-lt128
overflow_add-at-then-unit-lt128 c =
    let run = narrow_count c.args.bytes.now c.loop-at.out c.loop-at.at c.loop-at.to c.narrow_run-run.result c.narrow_run-run.ensures.run c.loop-at.invariant in
    omega (arith, run.within, length-drop c.loop-at.at c.args.bytes.now)

pub overflow_add-to : goal.overflow_add-to
overflow_add-to c =
    let whole = subst (IsTextOfSize IsScalar spell_utf16 spell_utf8 c.args.bytes.now) (sym c.loop-at.auto.out) c.requires in
    omega (arith, narrow_room c.args.bytes.now c.loop-at.out c.loop-at.at c.loop-at.to c.narrow_run-run.result c.narrow_run-run.ensures.run c.loop-at.invariant whole)

pub loop-at-smaller-then-unit-lt128 : goal.loop-at-smaller-then-unit-lt128
loop-at-smaller-then-unit-lt128 c =
    let b = begins IsScalar spell_utf16 spell_utf8 utf16_laws c.args.bytes.now c.loop-at.out c.loop-at.at c.loop-at.to (length c.args.out.now) c.requires c.loop-at.invariant c.loop-at-test.true in
    let two : c.loop-at.at + 2 ≤ length c.args.bytes.now = two_left c.args.bytes.now c.loop-at.at c.loop-at-test.true b in
    let at = c.loop-at.at in
    let bytes = c.args.bytes.now in
    let small : unit (get_or bytes at 0) (get_or bytes (at + 1) 0) < 128 = omega (arith, c.unit.ensures, c.if-unit-lt128.true) in
    omega (arith, c.narrow_run-run.ensures.run, unit_run_some bytes at two (omega arith) (omega arith))

pub loop-at-preserved-then-unit-lt128 : goal.loop-at-preserved-then-unit-lt128
loop-at-preserved-then-unit-lt128 c =
    let whole = subst (IsTextOfSize IsScalar spell_utf16 spell_utf8 c.args.bytes.now) (sym c.loop-at.auto.out) c.requires in
    let room = narrow_room c.args.bytes.now c.loop-at.out c.loop-at.at c.loop-at.to c.narrow_run-run.result c.narrow_run-run.ensures.run c.loop-at.invariant whole in
    narrow_further c.args.bytes.now c.loop-at.out c.loop-at.at c.loop-at.to c.narrow_run-run.result c.narrow_run-run.ensures.run c.loop-at.invariant c.narrow_run-run.new.out
    (omega (arith, room)) c.narrow_run-run.ensures.written

pub utf16_scalar_at-code-requires : goal.utf16_scalar_at-code-requires
utf16_scalar_at-code-requires c =
    begins IsScalar spell_utf16 spell_utf8 utf16_laws c.args.bytes.now c.loop-at.out c.loop-at.at c.loop-at.to (length c.args.out.now) c.requires c.loop-at.invariant c.loop-at-test.true

pub put_utf8-to-requires-clause-room : goal.put_utf8-to-requires-clause-room
put_utf8-to-requires-clause-room c =
    let whole = subst (IsTextOfSize IsScalar spell_utf16 spell_utf8 c.args.bytes.now) (sym c.loop-at.auto.out) c.requires in
    room_for_one IsScalar spell_utf16 spell_utf8 utf16_laws c.args.bytes.now c.loop-at.out c.loop-at.at c.loop-at.to c.utf16_scalar_at-code.result.0 c.utf16_scalar_at-code.result.1 whole c.loop-at.invariant c.utf16_scalar_at-code.ensures

pub loop-at-preserved : goal.loop-at-preserved
loop-at-preserved c =
    let whole = subst (IsTextOfSize IsScalar spell_utf16 spell_utf8 c.args.bytes.now) (sym c.loop-at.auto.out) c.requires in
    let room = room_for_one IsScalar spell_utf16 spell_utf8 utf16_laws c.args.bytes.now c.loop-at.out c.loop-at.at c.loop-at.to c.utf16_scalar_at-code.result.0 c.utf16_scalar_at-code.result.1 whole c.loop-at.invariant c.utf16_scalar_at-code.ensures in
    one_further IsScalar spell_utf16 spell_utf8 utf16_laws c.args.bytes.now c.loop-at.out c.put_utf8-to.new.out c.loop-at.at c.loop-at.to c.utf16_scalar_at-code.result.0 c.utf16_scalar_at-code.result.1 c.put_utf8-to.result
    c.loop-at.invariant c.utf16_scalar_at-code.ensures (omega (arith, room, c.put_utf8-to.ensures.size)) c.put_utf8-to.ensures.written

pub returns : goal.returns
returns c =
    let whole = subst (IsTextOfSize IsScalar spell_utf16 spell_utf8 c.args.bytes.now) (sym c.loop-at.auto.out) c.requires in
    finish IsScalar spell_utf16 spell_utf8 utf16_laws c.args.bytes.now c.loop-at.out c.loop-at.at c.loop-at.to whole c.loop-at.invariant c.loop-at-test.false

pub narrow-requires-clause-ascii : goal.narrow-requires-clause-ascii
narrow-requires-clause-ascii c =
    let bytes = c.args.bytes.now in
    let cs = c.requires.scalars in
    let ascii = narrow_text bytes (length c.args.out.now) c.requires c.if-out-bytes.true cs c.requires.text in
    omega (arith, run_of_ascii (units bytes) (narrow_units cs bytes c.requires.text ascii), length-units_half bytes, c.if-out-bytes.true)

pub returns-then-out-bytes : goal.returns-then-out-bytes
returns-then-out-bytes c =
    let bytes = c.args.bytes.now in
    λ cs text. narrowed_text cs bytes c.narrow.new.out text (narrow_text bytes (length c.args.out.now) c.requires c.if-out-bytes.true cs text) c.narrow.ensures.first
