use Rattle.std.proofs.Common.{◌≡◌, map, drop}
use Rattle.std.specs.BTreeSet.{contains_text}
use Rattle.cm_validate_model.specs.TypeRules.{are_distinct_names}
use Rattle.cm_validate_core.proofs.DistinctLaws.{rest_is_distinct, folded}
use Rattle.cm_validate_core.proofs.labels.are_distinct.Given as goal

-- those to come differ from those that were seen, and from one another, where all differ
abbrev pub invariant-loop-label : goal.invariant-loop-label
invariant-loop-label l =
    rest_is_distinct (contains_text l.seen) (map folded (drop l.label-index l.labels))
    ≡ are_distinct_names l.labels
