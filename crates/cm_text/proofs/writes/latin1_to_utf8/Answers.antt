use Rattle.std.proofs.Common.{sym, subst, refl, arith, drop, get_or}
use Rattle.std.specs.Char.{is_ascii}
use Rattle.std.specs.List.{prefix_len}
use Rattle.cm_text.specs.Latin1.{HasLatin1, spell_latin1}
use Rattle.cm_text.specs.Text.{IsTextOfSize}
use Rattle.cm_text.specs.Utf8.{spell_utf8}
use Rattle.cm_text.proofs.AsciiLemmas.{latin1_laws}
use Rattle.cm_text.proofs.MidwayLemmas.{room_for_one, one_further, finish}
use Rattle.cm_text.proofs.PairLemmas.{copy_room, copy_further, latin1_begins}
use Rattle.cm_text.proofs.writes.latin1_to_utf8.Goals as goal

pub copy_run-run-requires-clause-room : goal.copy_run-run-requires-clause-room
copy_run-run-requires-clause-room c =
    let whole = subst (IsTextOfSize HasLatin1 spell_latin1 spell_utf8 c.args.bytes.now) (sym c.loop-at.auto.out) c.requires in
    copy_room c.args.bytes.now c.loop-at.out c.loop-at.at c.loop-at.to (prefix_len is_ascii (drop c.loop-at.at c.args.bytes.now)) refl c.loop-at.invariant whole

pub loop-at-preserved-then-bytes-at-lt128 : goal.loop-at-preserved-then-bytes-at-lt128
loop-at-preserved-then-bytes-at-lt128 c =
    let whole = subst (IsTextOfSize HasLatin1 spell_latin1 spell_utf8 c.args.bytes.now) (sym c.loop-at.auto.out) c.requires in
    let room = copy_room c.args.bytes.now c.loop-at.out c.loop-at.at c.loop-at.to c.copy_run-run.result c.copy_run-run.ensures.run c.loop-at.invariant whole in
    copy_further c.args.bytes.now c.loop-at.out c.loop-at.at c.loop-at.to c.copy_run-run.result c.copy_run-run.ensures.run c.loop-at.invariant c.copy_run-run.new.out
    (omega (arith, room)) c.copy_run-run.ensures.written

pub put_utf8-to-requires-clause-room : goal.put_utf8-to-requires-clause-room
put_utf8-to-requires-clause-room c =
    let bytes = c.args.bytes.now in
    let whole = subst (IsTextOfSize HasLatin1 spell_latin1 spell_utf8 bytes) (sym c.loop-at.auto.out) c.requires in
    let b = latin1_begins bytes c.loop-at.at c.loop-at-test.true ((c.type_inv.bytes c.loop-at.at).fits) in
    room_for_one HasLatin1 spell_latin1 spell_utf8 latin1_laws bytes c.loop-at.out c.loop-at.at c.loop-at.to (get_or bytes c.loop-at.at 0) 1 whole c.loop-at.invariant b

pub loop-at-preserved : goal.loop-at-preserved
loop-at-preserved c =
    let bytes = c.args.bytes.now in
    let whole = subst (IsTextOfSize HasLatin1 spell_latin1 spell_utf8 bytes) (sym c.loop-at.auto.out) c.requires in
    let b = latin1_begins bytes c.loop-at.at c.loop-at-test.true ((c.type_inv.bytes c.loop-at.at).fits) in
    let room = room_for_one HasLatin1 spell_latin1 spell_utf8 latin1_laws bytes c.loop-at.out c.loop-at.at c.loop-at.to (get_or bytes c.loop-at.at 0) 1 whole c.loop-at.invariant b in
    one_further HasLatin1 spell_latin1 spell_utf8 latin1_laws bytes c.loop-at.out c.put_utf8-to.new.out c.loop-at.at c.loop-at.to (get_or bytes c.loop-at.at 0) 1 c.put_utf8-to.result
    c.loop-at.invariant b (omega (arith, room, c.put_utf8-to.ensures.size)) c.put_utf8-to.ensures.written

pub returns : goal.returns
returns c =
    let whole = subst (IsTextOfSize HasLatin1 spell_latin1 spell_utf8 c.args.bytes.now) (sym c.loop-at.auto.out) c.requires in
    finish HasLatin1 spell_latin1 spell_utf8 latin1_laws c.args.bytes.now c.loop-at.out c.loop-at.at c.loop-at.to whole c.loop-at.invariant c.loop-at-test.false
