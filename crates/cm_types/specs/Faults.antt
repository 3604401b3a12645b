-- The numbers of faults of types (this project's own choice).
use Rattle.std.specs.Prelude.{ℕ}
use Rattle.cm_types.specs.declared.type_trees.TypeFault.{TypeFault}
use Rattle.cm_types.specs.declared.type_trees.TypeFault.TheVariants as type_fault

-- the number by which a fault of a type is known
abbrev pub type_fault_number : TypeFault → ℕ
type_fault_number type_fault.TooLarge = 1
type_fault_number type_fault.NotSpellable = 2
