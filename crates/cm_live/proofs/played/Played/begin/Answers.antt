use Rattle.std.proofs.Math.Logic.{∥∥₁_map}
use Rattle.cm_live.proofs.MirrorLaws.{Laws, begin_either}
use Rattle.cm_live.proofs.played.Played.begin.Goals as goal

pub invariant_of-self : goal.invariant_of-self
invariant_of-self c =
    let e = c.headline.ensures in
    let laws : Laws =
    record {
      acting = e.acting;
      answers = e.answers;
      asks = e.asks;
      begins_nothing = e.begins;
      begins_by_call = e.begins_by_call;
      ends = e.ends;
      entries = e.entries;
      memory = e.memory;
      refusals = e.refusals;
      resumptions = e.resumptions;
      one = c.denotations_are_unique.ensures.denoted;
    } in
    let b = c.begin.ensures in
    let old = c.args.self.now in
    record {
      played = ∥∥₁_map old.played
          (begin_either old.set old.going c.args.root c.begin.result c.begin.new.self laws b.history
          b.err b.planned);
    }
