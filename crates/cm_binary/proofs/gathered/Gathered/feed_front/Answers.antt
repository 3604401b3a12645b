use Rattle.std.proofs.Common.{take, drop, sym, take-append-drop}
use Rattle.cm_binary.proofs.ComeLaws.{front_ok, front_err}
use Rattle.cm_binary.proofs.gathered.Gathered.feed_front.Goals as goal

pub returns-clause-ok : goal.returns-clause-ok
returns-clause-ok c =
    let unfed = c.args.self.now.unfed.items in
    rw c.drop_front.ensures (front_ok c.args.self.now.decoder c.feed-outcome.new.self (take c.args.count unfed) (drop c.args.count unfed) unfed c.feed-outcome.result (sym (take-append-drop c.args.count unfed)) c.feed-outcome.ensures.again (rw c.deref.ensures.value at c.feed-outcome.ensures.ok))

pub returns-clause-err : goal.returns-clause-err
returns-clause-err c =
    let unfed = c.args.self.now.unfed.items in
    rw c.drop_front.ensures (front_err c.args.self.now.decoder c.feed-outcome.new.self (take c.args.count unfed) (drop c.args.count unfed) unfed c.feed-outcome.result (sym (take-append-drop c.args.count unfed)) (rw c.deref.ensures.value at c.feed-outcome.ensures.settled) c.feed-outcome.ensures.stays)
