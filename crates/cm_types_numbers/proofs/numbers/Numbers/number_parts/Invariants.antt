use Rattle.std.proofs.Common.{map, take}
use Rattle.cm_types_arena.specs.Places.{types_of}
use Rattle.cm_types_arena.specs.TypeDefs.{type_at}
use Rattle.cm_types_numbers.specs.Knowing.{Knows}
use Rattle.cm_types_numbers.specs.Numbering.{numbering, Extends, AreNumbers}
use Rattle.cm_types_numbers.proofs.numbers.Numbers.number_parts.Given as goal

abbrev pub invariant-loop-part : goal.invariant-loop-part
invariant-loop-part g l = record {
  kept : Extends (numbering l.fn.self) (numbering l.self);
  known : Knows (numbering l.self) (g.R.Replacement.replacement l.replacement) (types_of l.types) l.known;
  numbers : AreNumbers (numbering l.self) (g.R.Replacement.replacement l.replacement) (map (type_at (types_of l.types)) (take l.part-index l.places)) l.parts.items;
}
