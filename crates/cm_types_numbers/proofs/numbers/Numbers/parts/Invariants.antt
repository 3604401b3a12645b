use Rattle.std.proofs.Common.{◌≡◌, Some, List, drop}
use Rattle.cm_types.specs.TypeTrees.{parts_from}
use Rattle.cm_types.specs.Types.{Ty}
use Rattle.cm_types_arena.specs.Replaced.{Standing, replaced_fields}
use Rattle.cm_types_numbers.specs.Numbering.{numbering, number_fields, Extends, AreNumbers}
use Rattle.cm_types_numbers.proofs.numbers.Numbers.parts.Given as goal

abbrev pub invariant-loop-i : goal.invariant-loop-i
invariant-loop-i l = record {
  kept : Extends (numbering l.fn.self) (numbering l.self);
  number : (s : Standing) (ts : List Ty) → AreNumbers (numbering l.fn.self) s ts (drop l.i l.parts)
      → number_fields (numbering l.self) (replaced_fields s (parts_from ts)) ≡ Some l.others;
}
