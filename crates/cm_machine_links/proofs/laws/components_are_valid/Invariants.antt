use Rattle.std.proofs.Common.{map, take}
use Rattle.std.specs.List.{AllByRecursion}
use Rattle.cm_validate_model.specs.Valid.{IsValid}
use Rattle.cm_validate_spaces.specs.Checked.{sections_in}
use Rattle.cm_machine_links.proofs.laws.components_are_valid.Given as goal

abbrev pub invariant-loop-checked : goal.invariant-loop-checked
invariant-loop-checked l = AllByRecursion IsValid (map sections_in (take l.checked-index l.checked-items))
