use Rattle.std.proofs.Common.{take}
use Rattle.cm_types_arena.specs.Places.{types_of, funcs_of}
use Rattle.cm_types_arena.specs.Replaced.{Standing}
use Rattle.cm_types_numbers.specs.Numbering.{numbering, Extends, AreNumbers, AreFuncNumbers}
use Rattle.cm_types_numbers.proofs.numbers.Numbers.number_funcs.Given as goal

abbrev pub invariant-loop-place : goal.invariant-loop-place
invariant-loop-place l = record {
  kept : Extends (numbering l.fn.self) (numbering l.self);
  numbers : (s : Standing) → AreNumbers (numbering l.fn.self) s (types_of l.types) l.numbers
      → AreFuncNumbers (numbering l.self) s (take l.place (funcs_of l.types)) l.funcs.items;
}
