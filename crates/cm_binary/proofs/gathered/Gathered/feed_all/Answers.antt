use Rattle.cm_binary.proofs.ComeLaws.{fed_ok, fed_unharmed, fed_err}
use Rattle.cm_binary.proofs.gathered.Gathered.feed_all.Goals as goal

pub returns-clause-ok : goal.returns-clause-ok
returns-clause-ok c = rw c.clear.ensures.items (fed_ok c.args.self.now.decoder c.feed-outcome.new.self c.args.self.now.unfed.items c.feed-outcome.result c.feed-outcome.ensures.again (rw c.deref.ensures.value at c.feed-outcome.ensures.ok) (rw c.deref.ensures.value at c.feed-outcome.ensures.unsettled))

pub returns-clause-unharmed : goal.returns-clause-unharmed
returns-clause-unharmed c = fed_unharmed c.args.self.now.decoder c.feed-outcome.new.self c.deref.result.now c.feed-outcome.result c.feed-outcome.ensures.ok

pub returns-clause-err : goal.returns-clause-err
returns-clause-err c = rw c.clear.ensures.items (fed_err c.args.self.now.decoder c.feed-outcome.new.self c.args.self.now.unfed.items c.feed-outcome.result (rw c.deref.ensures.value at c.feed-outcome.ensures.settled) c.feed-outcome.ensures.stays)
