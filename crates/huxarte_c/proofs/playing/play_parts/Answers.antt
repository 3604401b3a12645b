use Rattle.std.proofs.Common.{refl}
use Rattle.huxarte_c.proofs.PlayLaws.{not_there, played}
use Rattle.huxarte_c.proofs.playing.play_parts.Goals as goal

pub returns-in-Some : goal.returns-in-Some
returns-in-Some c =
    let spans = c.play_spans.ensures in
    played c.args.bytes.now c.args.spans.now c.args.script.now c.play_spans.result (c.in-Some.ensures.within.0 refl) spans.within spans.linked spans.refused

pub returns-in-None : goal.returns-in-None
returns-in-None c = λ all. not_there (c.in-None.ensures.within.1 all.0)
