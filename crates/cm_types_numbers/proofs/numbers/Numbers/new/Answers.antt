use Rattle.cm_types_numbers.proofs.Blank.{no_node}
use Rattle.cm_types_numbers.proofs.numbers.Numbers.new.Goals as goal

pub returns : goal.returns
returns c = record { labels = c.new.ensures; nodes = no_node c.new-2.result.numbers c.new-2.ensures }
