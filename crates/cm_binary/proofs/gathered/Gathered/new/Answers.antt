use Rattle.cm_binary.proofs.ComeLaws.{come_nothing}
use Rattle.cm_binary.proofs.gathered.Gathered.new.Goals as goal

pub returns : goal.returns
returns c = rw (c.new.ensures.empty, c.new-2.ensures.items) come_nothing
