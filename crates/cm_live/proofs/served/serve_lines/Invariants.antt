use Rattle.std.proofs.Common.{◌≡◌, List}
use Rattle.cm_live.specs.Transcripts.{ServedLine, streams}
use Rattle.cm_live.specs.Recordings.{recording_of}
use Rattle.cm_live.specs.Sessions.{linked_of, set_of}
use Rattle.cm_live.proofs.TranscriptLaws.{SoFar}
use Rattle.cm_live.proofs.served.serve_lines.Given as goal

abbrev pub invariant-loop : goal.invariant-loop
invariant-loop g l = record {
  linked : linked_of l.session ≡ linked_of l.fn.session;
  served : (ls : List ServedLine) × SoFar (linked_of l.fn.session) (recording_of l.fn.record)
      (set_of l.fn.session) l.limit
      (streams (g.R.Read.remaining l.fn.reader) (g.W.Write.contents l.fn.writer)) ls
      (set_of l.session) (recording_of l.record)
      (streams (g.R.Read.remaining l.reader) (g.W.Write.contents l.writer)) l.tally l.counter;
}
