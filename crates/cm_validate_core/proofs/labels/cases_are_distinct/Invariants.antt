use Rattle.std.proofs.Common.{◌≡◌, map, drop}
use Rattle.std.specs.BTreeSet.{contains_text}
use Rattle.cm_validate_model.specs.TypeRules.{are_distinct_names}
use Rattle.cm_validate_core.proofs.DistinctLaws.{rest_is_distinct, folded}
use Rattle.cm_validate_core.proofs.labels.cases_are_distinct.Given as goal

-- those to come differ from those that were seen, and from one another, where all differ
abbrev pub invariant-loop-case : goal.invariant-loop-case
invariant-loop-case l =
    rest_is_distinct (contains_text l.seen) (map (λ x. folded x.label) (drop l.case-index l.cases))
    ≡ are_distinct_names (map (λ x. x.label) l.cases)
