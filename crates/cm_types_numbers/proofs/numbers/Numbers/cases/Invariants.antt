use Rattle.std.proofs.Common.{◌≡◌, ◌+◌, Some, drop, length}
use Rattle.cm_types.specs.TypeTrees.{cases_of}
use Rattle.cm_types_arena.specs.Arena.{payload_types}
use Rattle.cm_types_arena.specs.Replaced.{Standing, replaced_cases}
use Rattle.cm_types_numbers.specs.Numbering.{numbering, number_cases, Extends, AreNumbers}
use Rattle.cm_types_numbers.proofs.numbers.Numbers.cases.Given as goal

abbrev pub invariant-loop-i : goal.invariant-loop-i
invariant-loop-i l = record {
  kept : Extends (numbering l.fn.self) (numbering l.self);
  left : l.left + length (payload_types (cases_of (drop l.i l.cases))) ≡ length l.payloads;
  number : (s : Standing) → AreNumbers (numbering l.fn.self) s (payload_types (cases_of (drop l.i l.cases))) (drop l.left l.payloads)
      → number_cases (numbering l.self) (replaced_cases s (cases_of (drop l.i l.cases))) ≡ Some l.others;
}
