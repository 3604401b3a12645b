use Rattle.std.proofs.Common.{◌≡◌, Some, drop}
use Rattle.cm_types.specs.TypeTrees.{fields_of}
use Rattle.cm_types_arena.specs.Arena.{field_types}
use Rattle.cm_types_arena.specs.Replaced.{Standing, replaced_fields}
use Rattle.cm_types_numbers.specs.Numbering.{numbering, number_fields, Extends, AreNumbers}
use Rattle.cm_types_numbers.proofs.numbers.Numbers.fields.Given as goal

abbrev pub invariant-loop-i : goal.invariant-loop-i
invariant-loop-i l = record {
  kept : Extends (numbering l.fn.self) (numbering l.self);
  number : (s : Standing) → AreNumbers (numbering l.fn.self) s (field_types (fields_of (drop l.i l.fields))) (drop l.i l.parts)
      → number_fields (numbering l.self) (replaced_fields s (fields_of (drop l.i l.fields))) ≡ Some l.others;
}
