use Rattle.std.proofs.Common.{ap, ◌∙◌}
use Rattle.std.specs.Prelude.{[]}
use Rattle.cm_types.specs.Funcs.{tree_type}
use Rattle.cm_types.specs.Holds.{fields_hold, is_handle}
use Rattle.cm_types.specs.Types.{field, no_fields}
use Rattle.cm_host_values.proofs.IndexedLaws.{row_free}
use Rattle.cm_host_values.proofs.host_types.HostTypes.of_result.Goals as goal

pub of_trees-requires-clause-free : goal.of_trees-requires-clause-free
of_trees-requires-clause-free c = ap (fields_hold is_handle) c.in_ok-one_tree-in-Some.ensures ∙ row_free (field [] (tree_type c.in-Some.tree) no_fields)
