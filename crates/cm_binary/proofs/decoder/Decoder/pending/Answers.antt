use Rattle.cm_binary.specs.Views.{progress}
use Rattle.cm_binary.proofs.PieceLaws.{few_kept}
use Rattle.cm_binary.proofs.decoder.Decoder.pending.Goals as goal

pub returns-clause-few : goal.returns-clause-few
returns-clause-few c = rw (c.len.ensures, c.self.inside.kept.ok.0, ← c.self.view_is) (few_kept c.self.inside.fault (progress c.self.inside.front) c.self.inside.kept.items c.self.invariant)
