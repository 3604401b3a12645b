use Rattle.std.proofs.Common.{◌≡◌}
use Rattle.std.specs.Prelude.{take}
use Rattle.std.specs.List.{AllByRecursion}
use Rattle.cm_validate_model.specs.Valid.{IsValid}
use Rattle.cm_stubs.specs.Sets.{sections_of}
use Rattle.cm_stubs.proofs.checked.checked_of.Given as goal

abbrev pub invariant-loop-at : goal.invariant-loop-at
invariant-loop-at l =
    (sections_of l.checked.items ≡ take l.at l.fn.components) × AllByRecursion IsValid (take l.at l.fn.components)
