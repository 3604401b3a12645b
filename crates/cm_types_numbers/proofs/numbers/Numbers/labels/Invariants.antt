use Rattle.std.proofs.Common.{◌≡◌, Some, drop}
use Rattle.cm_types_numbers.specs.Numbering.{numbering, number_labels, Extends}
use Rattle.cm_types_numbers.proofs.numbers.Numbers.labels.Given as goal

abbrev pub invariant-loop-i : goal.invariant-loop-i
invariant-loop-i l = record {
  kept : Extends (numbering l.fn.self) (numbering l.self);
  number : number_labels (numbering l.self) (drop l.i l.labels) ≡ Some l.others;
}
