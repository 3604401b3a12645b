use Rattle.std.proofs.Common.{◌≡◌, map, take}
use Rattle.cm_types.specs.Funcs.{tree_type}
use Rattle.cm_types.specs.TypeTrees.{TypedLabel, field_of}
use Rattle.cm_host_values.specs.Indexed.{indexed}
use Rattle.cm_host_values.proofs.trees.host_trees.Given as goal

-- those that are made so far are of the fields so far
abbrev pub invariant-loop-field : goal.invariant-loop-field
invariant-loop-field l = map tree_type l.trees.items ≡ map (λ (f : TypedLabel). indexed f.1) (map field_of (take l.field-index l.row))
