use Rattle.cm_validate_items.specs.Shared.{import_type_in}
use Rattle.cm_validate.specs.Numbers.{AreNumbers}
use Rattle.cm_validate.proofs.numbers.import_numbers.Given as goal

-- the numbers so far stand at their places
abbrev pub invariant-loop-place : goal.invariant-loop-place
invariant-loop-place l = AreNumbers (import_type_in l.shared) l.place l.numbers.items
