use Rattle.std.proofs.Common.{◌≡◌, map, drop}
use Rattle.std.specs.BTreeSet.{contains_text}
use Rattle.cm_validate_model.specs.TypeRules.{are_distinct_names}
use Rattle.cm_validate_core.proofs.DistinctLaws.{rest_is_distinct, folded}
use Rattle.cm_validate_core.proofs.labels.fields_are_distinct.Given as goal

-- those to come differ from those that were seen, and from one another, where all differ
abbrev pub invariant-loop-field : goal.invariant-loop-field
invariant-loop-field l =
    rest_is_distinct (contains_text l.seen) (map (λ x. folded x.label) (drop l.field-index l.fields))
    ≡ are_distinct_names (map (λ x. x.label) l.fields)
