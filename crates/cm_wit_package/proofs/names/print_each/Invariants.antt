use Rattle.std.specs.String.{string_bytes}
use Rattle.cm_wit_package.proofs.PrintLaws.{Prints}
use Rattle.cm_wit_package.proofs.names.print_each.Given as goal

abbrev pub invariant-loop-item : goal.invariant-loop-item
invariant-loop-item g l = Prints g.T.Printed.text l.items l.item-index (string_bytes l.fn.out) (string_bytes l.out)
