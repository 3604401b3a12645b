use Rattle.std.proofs.Common.{[]}
use Rattle.std.proofs.lemmas.Result.{err_from_is_err_and}
use Rattle.cm_live.specs.Recordings.{recording_of}
use Rattle.cm_live.specs.Sessions.{linked_of, set_of}
use Rattle.cm_live.proofs.TranscriptLaws.{nothing_served}
use Rattle.cm_live.proofs.served.serve.Goals as goal

pub returns-in_err-write_all-clause-served : goal.returns-in_err-write_all-clause-served
returns-in_err-write_all-clause-served g c =
    let n =
    nothing_served (linked_of c.args.session.now) (recording_of c.args.record.now)
    (set_of c.args.session.now) c.args.limit (g.R.Read.remaining c.args.reader.now) in
    let r = c.from_residual in
    let p = err_from_is_err_and r.result r.ensures.1 in
    rw p.1 ([], n.0, n.1, tt)

pub returns-in_err-flush-clause-served : goal.returns-in_err-flush-clause-served
returns-in_err-flush-clause-served g c =
    let n =
    nothing_served (linked_of c.args.session.now) (recording_of c.args.record.now)
    (set_of c.args.session.now) c.args.limit (g.R.Read.remaining c.args.reader.now) in
    let r = c.from_residual-in_err-flush in
    let p = err_from_is_err_and r.result r.ensures.1 in
    rw p.1 ([], n.0, n.1, tt)
