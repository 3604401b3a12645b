use Rattle.std.proofs.Common.{arith}
use Rattle.cm_live.proofs.TranscriptLaws.{reads_next}
use Rattle.cm_live.proofs.served.read_line.Goals as goal

pub returns-clause-read : goal.returns-clause-read
returns-clause-read g c =
    let e = c.in_ok-read_until.ensures in
    reads_next c.in_ok-read_until.field-0 c.clear.new.self.items c.read_until.new.buf.items
    (g.R.Read.remaining c.args.reader.now) (g.R.Read.remaining c.read_until.new.self)
    c.clear.ensures.items
    (omega (arith, c.read_until.new.buf.ok.0, c.clear.new.self.ok.0, e.ok)) e.bytes e.rest e.end
    e.none_lost
