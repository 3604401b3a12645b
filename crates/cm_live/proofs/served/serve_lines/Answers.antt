use Rattle.std.proofs.Common.{◌≡◌, ◌∙◌, Bool, true, false, [], refl, subst, arith, rules}
use Rattle.std.proofs.lemmas.Result.{err_from_is_err_and}
use Rattle.cm_live.specs.Recordings.{recording_of}
use Rattle.cm_live.specs.Tallies.{ReadsNext}
use Rattle.cm_live.specs.Transcripts.{IsUsedUp, streams}
use Rattle.cm_live.specs.Sessions.{linked_of, set_of}
use Rattle.cm_live.proofs.TranscriptLaws.{ends_so, is_one, none_left, one_cut, one_line}
use Rattle.cm_live.proofs.TranscriptLaws.{nothing_so_far, read_to_end, read_whole}
use Rattle.cm_live.proofs.served.serve_lines.Goals as goal

pub loop-init : goal.loop-init
loop-init g c =
    let known =
    streams (g.R.Read.remaining c.args.reader.now) (g.W.Write.contents c.args.writer.now) in
    record {
      linked = refl;
      served = (
        [],
        nothing_so_far (linked_of c.args.session.now) (recording_of c.args.record.now)
            (set_of c.args.session.now) c.args.limit known (record { moves = 0; trapped = false })
            refl refl,
      );
    }

pub returns-then-not-branch-clause-served : goal.returns-then-not-branch-clause-served
returns-then-not-branch-clause-served g c =
    let ls = c.loop.invariant.served.0 in
    let f = c.loop.invariant.served.1 in
    let known = g.R.Read.remaining c.args.reader.now in
    let left = g.R.Read.remaining c.loop.reader in
    let end = g.R.Read.remaining c.read_line.new.reader in
    let none : c.in_ok-read_line.field-0 ≡ false = search rules in
    let used : IsUsedUp left end =
    subst (λ (b : Bool). ReadsNext b left c.read_line.new.line.items end) none
    c.in_ok-read_line.ensures.read in
    let all = read_to_end known left end ls f.read used in (
      ls,
      f.leads,
      read_whole known end ls all,
      (
        all,
        ends_so c.ended.result _ _ _ _ _ ls _ _ _ _ _ end f c.ended.ensures
            (λ _ _. none_left known left end ls f.read used),
        f.written,
      ),
    )

pub returns-in_err-serve_line-clause-served : goal.returns-in_err-serve_line-clause-served
returns-in_err-serve_line-clause-served g c =
    let ls = c.loop.invariant.served.0 in
    let f = c.loop.invariant.served.1 in
    let there : c.in_ok-read_line.field-0 ≡ true = search rules in
    let d = c.serve_line.ensures.served in
    let o =
    is_one (linked_of c.args.session.now) (linked_of c.loop.session) (recording_of c.loop.record)
    (set_of c.loop.session) (g.R.Read.remaining c.loop.reader) c.read_line.new.line.items
    c.deref.result.now c.in_ok-read_line.field-0 d.0 (g.R.Read.remaining c.read_line.new.reader)
    (set_of c.serve_line.new.session) c.loop.invariant.linked c.deref.ensures.value there
    c.in_ok-read_line.ensures.read d.1 in
    let w =
    one_cut (linked_of c.args.session.now) (recording_of c.args.record.now)
    (set_of c.args.session.now) c.args.limit
    (streams (g.R.Read.remaining c.args.reader.now) (g.W.Write.contents c.args.writer.now)) ls
    (set_of c.loop.session) (recording_of c.loop.record)
    (streams (g.R.Read.remaining c.loop.reader) (g.W.Write.contents c.loop.writer)) c.loop.tally
    c.loop.counter c.deref.result.now d.0
    (g.R.Read.remaining c.read_line.new.reader) (set_of c.serve_line.new.session) f (omega arith) o
    in
    let r = c.from_residual-in_err-serve_line in
    let p = err_from_is_err_and r.result r.ensures.1 in
    rw p.1 (w.0, w.1.leads, read_whole _ _ _ w.1.read, tt)

pub returns-in_err-flush-clause-served : goal.returns-in_err-flush-clause-served
returns-in_err-flush-clause-served g c =
    let ls = c.loop.invariant.served.0 in
    let f = c.loop.invariant.served.1 in
    let there : c.in_ok-read_line.field-0 ≡ true = search rules in
    let d = c.serve_line.ensures.served in
    let o =
    is_one (linked_of c.args.session.now) (linked_of c.loop.session) (recording_of c.loop.record)
    (set_of c.loop.session) (g.R.Read.remaining c.loop.reader) c.read_line.new.line.items
    c.deref.result.now c.in_ok-read_line.field-0 d.0 (g.R.Read.remaining c.read_line.new.reader)
    (set_of c.serve_line.new.session) c.loop.invariant.linked c.deref.ensures.value there
    c.in_ok-read_line.ensures.read d.1 in
    let w =
    one_cut (linked_of c.args.session.now) (recording_of c.args.record.now)
    (set_of c.args.session.now) c.args.limit
    (streams (g.R.Read.remaining c.args.reader.now) (g.W.Write.contents c.args.writer.now)) ls
    (set_of c.loop.session) (recording_of c.loop.record)
    (streams (g.R.Read.remaining c.loop.reader) (g.W.Write.contents c.loop.writer)) c.loop.tally
    c.loop.counter c.deref.result.now d.0
    (g.R.Read.remaining c.read_line.new.reader) (set_of c.serve_line.new.session) f (omega arith) o
    in
    let r = c.from_residual-in_err-flush in
    let p = err_from_is_err_and r.result r.ensures.1 in
    rw p.1 (w.0, w.1.leads, read_whole _ _ _ w.1.read, tt)

pub loop-preserved : goal.loop-preserved
loop-preserved g c =
    let ls = c.loop.invariant.served.0 in
    let f = c.loop.invariant.served.1 in
    let there : c.in_ok-read_line.field-0 ≡ true = search rules in
    let d = c.in_ok-serve_line.ensures.served in
    let o =
    is_one (linked_of c.args.session.now) (linked_of c.loop.session) (recording_of c.loop.record)
    (set_of c.loop.session) (g.R.Read.remaining c.loop.reader) c.read_line.new.line.items
    c.deref.result.now c.in_ok-read_line.field-0 d.0 (g.R.Read.remaining c.read_line.new.reader)
    (set_of c.serve_line.new.session) c.loop.invariant.linked c.deref.ensures.value there
    c.in_ok-read_line.ensures.read d.1 in
    let w =
    one_line (linked_of c.args.session.now) (recording_of c.args.record.now)
    (set_of c.args.session.now) c.args.limit
    (streams (g.R.Read.remaining c.args.reader.now) (g.W.Write.contents c.args.writer.now)) ls
    (set_of c.loop.session) (recording_of c.loop.record)
    (streams (g.R.Read.remaining c.loop.reader) (g.W.Write.contents c.loop.writer)) c.loop.tally
    c.loop.counter c.deref.result.now d.0
    (streams (g.R.Read.remaining c.read_line.new.reader) (g.W.Write.contents c.flush.new.self))
    (set_of c.serve_line.new.session) c.serve_line.new.tally
    (recording_of c.serve_line.new.record) (g.W.Write.contents c.serve_line.new.writer) f
    (omega arith) o d.2 d.3 c.flush.ensures.bytes in
    record { linked = c.serve_line.ensures.linked ∙ c.loop.invariant.linked; served = w }
