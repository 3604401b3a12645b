use Rattle.cm_wit_tables.specs.Listings.{declared}
use Rattle.cm_wit_tables.proofs.FillLaws.{Fills}
use Rattle.cm_wit_tables.proofs.filling.fill.Given as goal

abbrev pub invariant-loop-node : goal.invariant-loop-node
invariant-loop-node l = Fills (declared l.listing) l.order l.fn.types l.node-index l.types l.table.items
