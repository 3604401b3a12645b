use Rattle.std.proofs.Common.{◌≡◌}
use Rattle.std.specs.Prelude.{take}
use Rattle.std.specs.List.{AllByRecursion}
use Rattle.cm_validate_model.specs.Valid.{IsValid}
use Rattle.cm_match_serving.specs.Sets.{sections_of}
use Rattle.huxarte.proofs.loading.checked_of.Given as goal

abbrev pub invariant-loop-file : goal.invariant-loop-file
invariant-loop-file l =
    (sections_of l.checked.items ≡ take l.file l.fn.components) × AllByRecursion IsValid (take l.file l.fn.components)
