use Rattle.std.proofs.Common.{take}
use Rattle.cm_types_arena.specs.Places.{types_of}
use Rattle.cm_types_numbers.specs.Numbering.{numbering, Extends, AreNumbers}
use Rattle.cm_types_numbers.proofs.numbers.Numbers.number_types.Given as goal

abbrev pub invariant-loop-place : goal.invariant-loop-place
invariant-loop-place g l = record {
  kept : Extends (numbering l.fn.self) (numbering l.self);
  numbers : AreNumbers (numbering l.self) (g.R.Replacement.replacement l.replacement) (take l.place (types_of l.types)) l.numbers.items;
}
