use Rattle.std.specs.String.{string_bytes}
use Rattle.cm_wit_package.proofs.PrintLaws.{Numbers}
use Rattle.cm_wit_package.proofs.types.+types.Given as goal

abbrev pub invariant-print_types-loop-index : goal.invariant-print_types-loop-index
invariant-print_types-loop-index l = Numbers l.types l.index (string_bytes l.initial.out) (string_bytes l.out)
