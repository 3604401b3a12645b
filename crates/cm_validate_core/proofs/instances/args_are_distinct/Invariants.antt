use Rattle.std.proofs.Common.{◌≡◌, map, drop}
use Rattle.std.specs.String.{string_bytes}
use Rattle.cm_binary_model.specs.Trees.{arg_tree}
use Rattle.cm_validate_model.specs.Rules.{are_distinct_texts}
use Rattle.cm_validate_core.specs.NameMaps.{entries_of}
use Rattle.cm_validate_core.proofs.PlaceLaws.{has_name}
use Rattle.cm_validate_core.proofs.instances.args_are_distinct.Given as goal
use Rattle.cm_validate_model.proofs.SharedLaws.{rest_is_distinct}

-- those to come differ from those that were seen, and from one another, where all differ
abbrev pub invariant-loop-arg : goal.invariant-loop-arg
invariant-loop-arg l =
    rest_is_distinct (has_name (entries_of l.seen)) (map (λ a. string_bytes a.name) (drop l.arg-index l.args))
    ≡ are_distinct_texts (map (λ a. a.name) (map arg_tree l.args))
