use Rattle.std.proofs.Common.{refl}
use Rattle.cm_binary.proofs.ComeLaws.{fails_fault, fails_read}
use Rattle.cm_binary.proofs.streams.read_fault.Goals as goal

pub returns-in-Err : goal.returns-in-Err
returns-in-Err c = λ bytes come. fails_fault c.args.gathered.decoder c.feed_all.new.self.decoder c.args.gathered.unfed.items c.feed_all.new.self.unfed.items bytes c.in-Err.fault c.in-Err.ensures.err come

pub returns : goal.returns
returns c = λ bytes come. fails_read c.args.gathered.decoder c.feed_all.new.self.decoder c.args.gathered.unfed.items c.feed_all.new.self.unfed.items bytes _ c.in-Ok.ensures.fed c.in-Ok.ensures.unharmed c.position.ensures refl c.in-Ok.ensures.ok come
