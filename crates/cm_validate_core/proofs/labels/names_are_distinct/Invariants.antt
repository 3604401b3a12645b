use Rattle.std.proofs.Common.{◌≡◌, map, drop}
use Rattle.std.specs.BTreeSet.{contains_text}
use Rattle.cm_validate_model.specs.TypeRules.{are_distinct_names}
use Rattle.cm_validate_core.proofs.DistinctLaws.{rest_is_distinct, folded}
use Rattle.cm_validate_core.proofs.labels.names_are_distinct.Given as goal

-- those to come differ from those that were seen, and from one another, where all differ
abbrev pub invariant-loop-name : goal.invariant-loop-name
invariant-loop-name l =
    rest_is_distinct (contains_text l.seen) (map (λ x. folded x.now) (drop l.name-index l.names))
    ≡ are_distinct_names (map (λ x. x.now) l.names)
