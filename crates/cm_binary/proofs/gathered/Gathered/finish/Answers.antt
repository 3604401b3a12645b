use Rattle.std.proofs.Common.{inr}
use Rattle.std.proofs.lemmas.Result.{err_from_is_err_and}
use Rattle.cm_binary.proofs.ComeLaws.{come_end, fault_decodes}
use Rattle.cm_binary.proofs.gathered.Gathered.finish.Goals as goal

pub returns-in_err-feed_all : goal.returns-in_err-feed_all
returns-in_err-feed_all c = λ before come.
    let p = err_from_is_err_and c.from_residual.result c.from_residual.ensures.1 in
    fault_decodes c.args.self.decoder c.feed_all.new.self.decoder c.args.self.unfed.items before c.from_residual.result c.in_err-feed_all.field-0.0 p.0 p.1 p.2 (rw c.in_err-feed_all.ensures.fed at c.in_err-feed_all.ensures.err) come

pub returns : goal.returns
returns c = λ before come.
    let fed = rw c.in_ok-feed_all.ensures.fed at (c.in_ok-feed_all.ensures.ok before come) in
    inr (come_end c.feed_all.new.self.decoder before c.finish.result c.finish.ensures fed.0)
