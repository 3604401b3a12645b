use Rattle.cm_validate_items.specs.Shared.{exported_instance_in}
use Rattle.cm_validate.specs.Numbers.{AreNumbers}
use Rattle.cm_validate.proofs.numbers.export_numbers.Given as goal

-- the numbers so far stand at their places
abbrev pub invariant-loop-place : goal.invariant-loop-place
invariant-loop-place l = AreNumbers (exported_instance_in l.shared) l.place l.numbers.items
